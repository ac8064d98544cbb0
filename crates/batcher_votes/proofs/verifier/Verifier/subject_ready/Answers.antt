use Rattle.batcher_votes.proofs.Words.{◌≡◌, ◌∙◌, sym, is_ready, is_complete, pending_of, verified_of, verifier_holding}
use Rattle.batcher_votes.proofs.VerifierLemmas.KindChanges.{of_mapped}
use Rattle.batcher_votes.proofs.VerifierLemmas.Construction.{ready_some, some_left}
use Rattle.batcher_votes.proofs.verifier.Verifier.subject_ready.Goals as goal

pub returns-clause-ready : goal.returns-clause-ready
returns-clause-ready g c =
    let v = c.self.inside in
    let m = g.S.Scheme.meaning v.scheme.value in
    let same = g.D.PartialEq.eq in
    let held = verifier_holding v.leader v.proposal v.kinds in
    let kind = c.args.kind in
    let ready : c.is_ready.result ≡ is_ready same m.batchable v.quorum held kind
    = rw (of_mapped is_complete v.kinds kind, of_mapped verified_of v.kinds kind, of_mapped pending_of v.kinds kind)
    (rw (c.get.ensures, rw (← c.self.view_is) at c.eligible_for_any-any_proposal.ensures, ← (c.is_batchable.ensures v.scheme.value)) at c.is_ready.ensures) in
    rw (← c.self.view_is)
    (some_left _ _ _ (ready_some same v.round m v.quorum held kind c.self.invariant) (sym ready ∙ c.if-not-is_ready.false)
    (rw (← c.self.view_is) at c.subject_tried.ensures))
