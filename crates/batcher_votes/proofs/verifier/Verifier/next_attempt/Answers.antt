use Rattle.batcher_votes.proofs.Words.{of_kind, pending_of, verified_of, verifier_holding}
use Rattle.batcher_votes.proofs.VerifierLemmas.KindChanges.{of_mapped}
use Rattle.batcher_votes.proofs.VerifierLemmas.Construction.{once_attestations, once_checked}
use Rattle.batcher_votes.proofs.verifier.Verifier.next_attempt.Goals as goal

pub returns-clause-once : goal.returns-clause-once
returns-clause-once g c =
    let v = c.self.inside in
    let kind = c.args.kind in
    let held = verifier_holding v.leader v.proposal v.kinds in
    rw (
      c.looked_at-pending.ensures,
      c.verified-verified.ensures,
      c.pending.ensures,
      c.get-certification.ensures,
      ← of_mapped verified_of v.kinds kind,
      ← of_mapped pending_of v.kinds kind,
    )
    (once_checked v.quorum _ _
    (once_attestations (of_kind held.verified kind) (of_kind held.pending kind) (c.self.invariant.kinds kind).once))
