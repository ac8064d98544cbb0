use Rattle.batcher_validator.proofs.Words.{ap, refl, node_config}
use Rattle.batcher_validator.proofs.Going.{run_stays, takes_in}
use Rattle.batcher_validator.proofs.validator.Validator.take_in_with_room.Goals as goal

pub returns-in-Ok-clause-took : goal.returns-in-Ok-clause-took
returns-in-Ok-clause-took g c =
    let old = c.args.self.now in
    let call = c.learn_verified in
    takes_in (node_config g.S.Scheme.meaning g.S.PublicKey.Ord.cmp g.S.Signature.PartialEq.eq
    g.D.PartialEq.eq old.voter.node) old call.new.self c.shelve.new.self c.args.certificate
    c.requires.certifies refl c.in-Ok.ensures.learned call.ensures.node call.ensures.contents
    call.ensures.open call.ensures.given call.ensures.shelf c.shelve.ensures.voter
    c.shelve.ensures.given c.shelve.ensures.handed c.shelve.ensures.shelves

pub returns-in-Err-clause-stays : goal.returns-in-Err-clause-stays
returns-in-Err-clause-stays g c =
    let old = c.args.self.now in
    let call = c.learn_verified in
    run_stays (node_config g.S.Scheme.meaning g.S.PublicKey.Ord.cmp g.S.Signature.PartialEq.eq
    g.D.PartialEq.eq old.voter.node) old call.new.self call.ensures.contents call.ensures.open
    old.given.calm old.given.presence call.ensures.given (ap (λ s. s.certificates) call.ensures.shelf)
    (ap (λ s. s.handed) call.ensures.shelf) refl refl c.in-Err.ensures.stays
