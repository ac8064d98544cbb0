use Rattle.batcher_validator.proofs.Words.{◌≡◌, ◌∙◌, [], ap, arith, rules, Contains, Sha256Digest, Vote, Signature, begun, Contents, fields_of, numbered}
use Rattle.batcher_validator.proofs.Words.{CopyView, None, Remembers}
use Rattle.batcher_validator.proofs.starting.Validator+Signed+T+true+Sha256Digest+CopiedLog.begin.Goals as goal

none_there : {vote : Vote Signature Sha256Digest} → Contains [] vote → ⊥
none_there (i, below, is) = omega (arith, below)

-- Nothing was done by whom no vote is there of.
nothing_done : (contents : Contents Signature Sha256Digest) → contents.votes ≡ []
    → Remembers [] contents
nothing_done contents none = record {
  are_there = λ s voted. absurd voted;
  no_others = λ vote there. absurd (none_there (rw none at there));
}

pub returns-in-Ok-of_log-clause-journal : goal.returns-in-Ok-of_log-clause-journal
returns-in-Ok-of_log-clause-journal g c =
    let floor_is : c.new-floor.result ≡ numbered c.args.epoch 0 = search rules in
    c.bytes_are_of_one_journal.ensures _ _ _ c.in-Ok-of_log.ensures.text c.in-Ok.ensures.begun.1
    ∙ ap (λ floor. begun (fields_of c.args.owner.now) floor []) floor_is

pub returns-in-Ok-of_log-clause-running : goal.returns-in-Ok-of_log-clause-running
returns-in-Ok-of_log-clause-running g c =
    let journal = c.bytes_are_of_one_journal.ensures _ _ _ c.in-Ok-of_log.ensures.text
    c.in-Ok.ensures.begun.1 in
    c.in-Ok-of_log.ensures.running [] tt
    (nothing_done c.in-Ok-of_log.it.voter.journal.contents (ap (λ x. x.votes) journal))

pub returns-in-Ok-of_log-clause-epoch : goal.returns-in-Ok-of_log-clause-epoch
returns-in-Ok-of_log-clause-epoch g c =
    c.in-Ok-of_log.ensures.epoch ∙ ap (λ x. x.floor.epoch) (returns-in-Ok-of_log-clause-journal g c)

pub returns-in-Ok-of_log-clause-on_disk : goal.returns-in-Ok-of_log-clause-on_disk
returns-in-Ok-of_log-clause-on_disk g c =
    let nothing : CopyView = record { lasting = []; under_way = None } in
    let same : c.in-Ok-of_log.it.voter.journal.log.copy ≡ nothing =
    c.in-Ok-of_log.ensures.on_disk ∙ c.in-Ok.ensures.copied nothing c.new-log.ensures.copy in
    (ap (λ k. k.lasting) same, ap (λ k. k.under_way) same)
