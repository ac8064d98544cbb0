use Rattle.batcher_votes.proofs.Words.{◌≡◌, Some, of_kind, pending_of, verified_of, verifier_holding, subject_ready}
use Rattle.batcher_votes.proofs.VerifierLemmas.KindChanges.{of_mapped}
use Rattle.batcher_votes.proofs.VerifierLemmas.Construction.{once_attestations, verified_about, attested_about}
use Rattle.batcher_votes.proofs.VerifierLemmas.Results.{if_ok}
use Rattle.batcher_votes.proofs.VerifierLemmas.Verdicts.{fine_judged}
use Rattle.batcher_votes.proofs.verifier.Verifier.attempt_by_verdicts_at.Goals as goal

pub attempt_by_verdicts-requires-clause-once : goal.attempt_by_verdicts-requires-clause-once
attempt_by_verdicts-requires-clause-once g c =
    let v = c.self.inside in
    let kind = c.args.kind in
    let held = verifier_holding v.leader v.proposal v.kinds in
    rw (c.verified.ensures, c.pending.ensures, c.get-certification.ensures, ← of_mapped verified_of v.kinds kind, ← of_mapped pending_of v.kinds kind)
    (once_attestations (of_kind held.verified kind) (of_kind held.pending kind) (c.self.invariant.kinds kind).once)

pub attempt_by_verdicts-requires-clause-attested : goal.attempt_by_verdicts-requires-clause-attested
attempt_by_verdicts-requires-clause-attested g c =
    let v = c.self.inside in
    let m = g.S.Scheme.meaning v.scheme.value in
    let same = g.D.PartialEq.eq in
    let kind = c.args.kind in
    let held = verifier_holding v.leader v.proposal v.kinds in
    let ready : subject_ready same m.batchable v.quorum held v.round kind ≡ Some c.args.subject = rw (← c.self.view_is) at c.requires.ready in
    let about = verified_about same g.met.D.Digest.identical v.round c.args.subject m.batchable v.quorum held kind ready (c.self.invariant.kinds kind).verified
    in
    rw (c.deref-scheme.ensures, c.verified.ensures, c.get-certification.ensures, ← of_mapped verified_of v.kinds kind)
    (attested_about m same v.round c.args.subject (of_kind held.verified kind) about (c.self.invariant.kinds kind).attested)

pub returns-clause-fine : goal.returns-clause-fine
returns-clause-fine g c =
    let v = c.self.inside in
    let m = g.S.Scheme.meaning v.scheme.value in
    let same = g.D.PartialEq.eq in
    let kind = c.args.kind in
    let held = verifier_holding v.leader v.proposal v.kinds in
    let ready : subject_ready same m.batchable v.quorum held v.round kind ≡ Some c.args.subject = rw (← c.self.view_is) at c.requires.ready in
    let about = verified_about same g.met.D.Digest.identical v.round c.args.subject m.batchable v.quorum held kind ready (c.self.invariant.kinds kind).verified
    in
    let attempted = rw (
      c.deref-scheme.ensures,
      c.verified.ensures,
      c.pending.ensures,
      c.get-certification.ensures,
      ← of_mapped verified_of v.kinds kind,
      ← of_mapped pending_of v.kinds kind,
    ) at c.attempt_by_verdicts.ensures.attempt in
    rw (← c.self.view_is)
    (if_ok _ _ _ (λ a attempted. fine_judged m (g.met.S.Scheme.lawful v.scheme.value) same v.round v.quorum held kind c.args.subject c.self.invariant about
    _ attempted)
    attempted)
