use Rattle.batcher_votes.proofs.Words.{pending_of, verified_of, verifier_holding}
use Rattle.batcher_votes.proofs.VerifierLemmas.KindChanges.{of_mapped}
use Rattle.batcher_votes.proofs.VerifierLemmas.Soundness.{buffered_by}
use Rattle.batcher_votes.proofs.verifier.Verifier.buffered.Goals as goal

pub returns : goal.returns
returns g c =
    let v = c.self.inside in
    let known = buffered_by (g.S.Scheme.meaning v.scheme.value) g.D.PartialEq.eq v.round
    (verifier_holding v.leader v.proposal v.kinds) c.args.kind c.args.signer.0
    (c.self.invariant.kinds c.args.kind) in
    rw (← c.self.view_is, c.contains.ensures, c.get.ensures, ← of_mapped verified_of v.kinds c.args.kind, ← of_mapped pending_of v.kinds c.args.kind) known
