use Rattle.batcher_votes.proofs.Words.{verifier_holding}
use Rattle.batcher_votes.proofs.VerifierLemmas.KindChanges.{completes}
use Rattle.batcher_votes.proofs.VerifierLemmas.Soundness.{sound_completes}
use Rattle.batcher_votes.proofs.verifier.Verifier.complete_kind.Goals as goal

pub invariant_of-self : goal.invariant_of-self
invariant_of-self g c =
    let v = c.self.inside in
    sound_completes (g.S.Scheme.meaning v.scheme.value) g.D.PartialEq.eq v.round v.quorum
    (verifier_holding v.leader v.proposal v.kinds) _ c.args.kind c.self.invariant
    (completes v.leader v.proposal v.kinds c.args.kind c.finish.new.self g.D.PartialEq.eq c.finish.ensures.complete c.finish.ensures.pending
    c.finish.ensures.verified)
