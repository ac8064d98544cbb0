use Rattle.batcher_validator.proofs.Words.{rules, certificate_came, called, node_config, did}
use Rattle.batcher_validator.proofs.Going.{runs_roomy, stays_roomy, with_room}
use Rattle.batcher_validator.proofs.validator.Validator.receive_certificate.Goals as goal

pub returns-in-Ok-receive_with_room-clause-meets : goal.returns-in-Ok-receive_with_room-clause-meets
returns-in-Ok-receive_with_room-clause-meets g c =
    runs_roomy (node_config g.S.Scheme.meaning g.S.PublicKey.Ord.cmp g.S.Signature.PartialEq.eq g.D.PartialEq.eq)
    c.args.self.now c.make_room.new.self c.receive_with_room.new.self
    c.make_room.ensures.voter c.make_room.ensures.given c.make_room.ensures.certificates
    c.make_room.ensures.handed
    (did (called (certificate_came c.args.peer c.args.certificate c.in-Ok-receive_with_room.receipt)))
    c.in-Ok-receive_with_room.ensures.meets

pub returns-in-Err-receive_with_room-clause-refused :
    goal.returns-in-Err-receive_with_room-clause-refused
returns-in-Err-receive_with_room-clause-refused g c = record {
  node = search rules;
  stays =
      stays_roomy (node_config g.S.Scheme.meaning g.S.PublicKey.Ord.cmp g.S.Signature.PartialEq.eq g.D.PartialEq.eq)
      c.args.self.now c.make_room.new.self c.receive_with_room.new.self
      c.make_room.ensures.voter c.make_room.ensures.given c.make_room.ensures.certificates
      c.make_room.ensures.handed
      c.in-Err-receive_with_room.ensures.refused.stays;
}

pub returns-in-Err-clause-refused : goal.returns-in-Err-clause-refused
returns-in-Err-clause-refused g c = record {
  node = search rules;
  stays =
      with_room (node_config g.S.Scheme.meaning g.S.PublicKey.Ord.cmp g.S.Signature.PartialEq.eq g.D.PartialEq.eq
      c.args.self.now.voter.node) c.args.self.now c.make_room.new.self
      c.make_room.ensures.voter c.make_room.ensures.given c.make_room.ensures.certificates c.make_room.ensures.handed;
}
