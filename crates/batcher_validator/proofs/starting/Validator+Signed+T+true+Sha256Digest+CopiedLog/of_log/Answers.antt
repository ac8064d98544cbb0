use Rattle.batcher_validator.proofs.Words.{◌≡◌, subst}
use Rattle.batcher_journal.specs.Text.{fields_of}
use Rattle.batcher_validator.specs.Unstarted.{HasNoVoter}
use Rattle.batcher_validator.proofs.Opening.{no_voter}
use Rattle.batcher_voter.specs.declared.answers.StartFault.{StartFault}
use Rattle.batcher_validator.proofs.starting.Validator+Signed+T+true+Sha256Digest+CopiedLog.of_log.Goals as goal

pub returns-in-Ok-start-clause-running : goal.returns-in-Ok-start-clause-running
returns-in-Ok-start-clause-running g c = λ earlier policy remembers.
    c.in-Ok-start.ensures.running earlier policy (rw c.in-Ok-start.ensures.made.journal_is at remembers)

pub returns-clause-why : goal.returns-clause-why
returns-clause-why g c = λ fault same.
    let opened = c.in-Ok.ensures.opened in
    let is : c.in-Err-start.field-0.fault ≡ fault = cc in
    subst (λ (f : StartFault). HasNoVoter (fields_of c.args.owner.now) c.args.log.bytes f) is
    (no_voter c.in-Ok.journal (fields_of c.args.owner.now) c.args.log.bytes c.in-Err-start.field-0.fault
    opened.2 opened.3 opened.4 c.in-Err-start.ensures.why)
