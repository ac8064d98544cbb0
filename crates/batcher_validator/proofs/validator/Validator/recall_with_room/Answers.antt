use Rattle.batcher_validator.proofs.Words.{ap, refl, node_config}
use Rattle.batcher_validator.proofs.Going.{takes_in}
use Rattle.batcher_validator.proofs.validator.Validator.recall_with_room.Goals as goal

pub returns-in-Ok-clause-took : goal.returns-in-Ok-clause-took
returns-in-Ok-clause-took g c =
    let old = c.args.self.now in
    let call = c.learn_again in
    takes_in (node_config g.S.Scheme.meaning g.S.PublicKey.Ord.cmp g.S.Signature.PartialEq.eq
    g.D.PartialEq.eq old.voter.node) old call.new.self c.shelve.new.self c.args.certificate
    c.requires.certifies refl c.in-Ok.ensures.learned call.ensures.node
    (ap (λ j. j.contents) call.ensures.journal) (ap (λ j. j.is_open) call.ensures.journal)
    call.ensures.given call.ensures.shelf c.shelve.ensures.voter
    c.shelve.ensures.given c.shelve.ensures.handed c.shelve.ensures.shelves
