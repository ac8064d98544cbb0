use Rattle.batcher_validator.proofs.Words.{◌≡◌, subst, sym, true, certifies_itself, node_config}
use Rattle.batcher_validator.proofs.Going.{stays_roomy, takes_roomy, with_room}
use Rattle.batcher_validator.proofs.validator.Validator.take_in.Goals as goal

pub take_in_with_room-requires-clause-certifies : goal.take_in_with_room-requires-clause-certifies
take_in_with_room-requires-clause-certifies g c =
    subst (λ v. certifies_itself (g.S.Scheme.meaning v.node.scheme) c.args.certificate ≡ true)
    (sym c.make_room.ensures.voter) c.requires

pub returns-in-Ok-take_in_with_room-clause-took : goal.returns-in-Ok-take_in_with_room-clause-took
returns-in-Ok-take_in_with_room-clause-took g c =
    takes_roomy (node_config g.S.Scheme.meaning g.S.PublicKey.Ord.cmp g.S.Signature.PartialEq.eq g.D.PartialEq.eq)
    c.args.self.now c.make_room.new.self c.take_in_with_room.new.self c.args.certificate
    c.make_room.ensures.voter c.make_room.ensures.given c.make_room.ensures.certificates
    c.make_room.ensures.handed c.in-Ok-take_in_with_room.ensures.took

pub returns-in-Err-take_in_with_room-clause-stays :
    goal.returns-in-Err-take_in_with_room-clause-stays
returns-in-Err-take_in_with_room-clause-stays g c =
    stays_roomy (node_config g.S.Scheme.meaning g.S.PublicKey.Ord.cmp g.S.Signature.PartialEq.eq g.D.PartialEq.eq)
    c.args.self.now c.make_room.new.self c.take_in_with_room.new.self
    c.make_room.ensures.voter c.make_room.ensures.given c.make_room.ensures.certificates
    c.make_room.ensures.handed c.in-Err-take_in_with_room.ensures.stays

pub returns-in-Err-clause-stays : goal.returns-in-Err-clause-stays
returns-in-Err-clause-stays g c =
    with_room (node_config g.S.Scheme.meaning g.S.PublicKey.Ord.cmp g.S.Signature.PartialEq.eq g.D.PartialEq.eq
    c.args.self.now.voter.node) c.args.self.now c.make_room.new.self
    c.make_room.ensures.voter c.make_room.ensures.given c.make_room.ensures.certificates c.make_room.ensures.handed
