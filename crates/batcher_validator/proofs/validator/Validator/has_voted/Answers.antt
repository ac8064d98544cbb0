use Rattle.batcher_validator.proofs.Words.{◌∙◌, ap, refl, list_any, round_in, same_round, subject_of, Vote, Round, node_config, numbered}
use Rattle.batcher_validator.proofs.Leading.{cast_by}
use Rattle.batcher_validator.proofs.validator.Validator.has_voted.Goals as goal

pub returns : goal.returns
returns g c =
    let config = node_config g.S.Scheme.meaning g.S.PublicKey.Ord.cmp g.S.Signature.PartialEq.eq g.D.PartialEq.eq in
    let old = c.args.self.now in
    cast_by config old c.requires.above c.begins.ensures.view refl c.requires.open c.has_vote_of.result
    (c.has_vote_of.ensures
    ∙ ap (λ (r : Round). list_any (λ (vote : Vote g.row.S-Signature.Denot g.row.D.Denot). same_round (round_in (subject_of vote)) r)
    old.voter.journal.contents.votes)
    (c.round_of.ensures ∙ ap (λ n. numbered old.voter.node.epoch n) c.current.ensures))
