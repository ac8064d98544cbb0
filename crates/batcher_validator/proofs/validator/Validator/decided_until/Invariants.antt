use Rattle.batcher_validator.proofs.Words.{node_config, AreDecided, ForEachRun, conduct_in}
use Rattle.batcher_validator.proofs.validator.Validator.decided_until.Given as goal

abbrev pub invariant-loop-view : goal.invariant-loop-view
invariant-loop-view g l =
    ForEachRun (node_config g.S.Scheme.meaning g.S.PublicKey.Ord.cmp g.S.Signature.PartialEq.eq g.D.PartialEq.eq
    l.fn.self.voter.node) l.fn.self (λ past earlier. AreDecided (conduct_in earlier past)
    l.fn.self.voter.node.epoch (record { first = l.fn.first; end = l.view }))
