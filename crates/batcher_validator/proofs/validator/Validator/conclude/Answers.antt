use Rattle.batcher_validator.proofs.Words.{rules, node_config, answered}
use Rattle.batcher_validator.proofs.Going.{constructs_roomy, runs_roomy, stays_roomy, with_room}
use Rattle.batcher_validator.proofs.validator.Validator.conclude.Goals as goal

pub returns-in-Ok-conclude_with_room-clause-made :
    goal.returns-in-Ok-conclude_with_room-clause-made
returns-in-Ok-conclude_with_room-clause-made g c = λ yes.
    constructs_roomy (node_config g.S.Scheme.meaning g.S.PublicKey.Ord.cmp g.S.Signature.PartialEq.eq g.D.PartialEq.eq)
    c.args.self.now c.make_room.new.self c.conclude_with_room.new.self
    c.make_room.ensures.voter c.make_room.ensures.given c.make_room.ensures.certificates
    c.make_room.ensures.handed
    (c.in-Ok-conclude_with_room.ensures.made yes)

pub returns-in-Ok-conclude_with_room-clause-answered :
    goal.returns-in-Ok-conclude_with_room-clause-answered
returns-in-Ok-conclude_with_room-clause-answered g c = λ no.
    runs_roomy (node_config g.S.Scheme.meaning g.S.PublicKey.Ord.cmp g.S.Signature.PartialEq.eq g.D.PartialEq.eq)
    c.args.self.now c.make_room.new.self c.conclude_with_room.new.self
    c.make_room.ensures.voter c.make_room.ensures.given c.make_room.ensures.certificates
    c.make_room.ensures.handed
    answered (c.in-Ok-conclude_with_room.ensures.answered no)

pub returns-in-Err-conclude_with_room-clause-refused :
    goal.returns-in-Err-conclude_with_room-clause-refused
returns-in-Err-conclude_with_room-clause-refused g c = record {
  node = search rules;
  stays =
      stays_roomy (node_config g.S.Scheme.meaning g.S.PublicKey.Ord.cmp g.S.Signature.PartialEq.eq g.D.PartialEq.eq)
      c.args.self.now c.make_room.new.self c.conclude_with_room.new.self
      c.make_room.ensures.voter c.make_room.ensures.given c.make_room.ensures.certificates
      c.make_room.ensures.handed
      c.in-Err-conclude_with_room.ensures.refused.stays;
}

pub returns-in-Err-clause-refused : goal.returns-in-Err-clause-refused
returns-in-Err-clause-refused g c = record {
  node = search rules;
  stays =
      with_room (node_config g.S.Scheme.meaning g.S.PublicKey.Ord.cmp g.S.Signature.PartialEq.eq g.D.PartialEq.eq
      c.args.self.now.voter.node) c.args.self.now c.make_room.new.self
      c.make_room.ensures.voter c.make_room.ensures.given c.make_room.ensures.certificates c.make_room.ensures.handed;
}
