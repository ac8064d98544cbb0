use Rattle.batcher_votes.proofs.Words.{◌≤◌, ◌+◌, ap, arith, filter, length, checked}
use Rattle.batcher_votes.proofs.VerifierLemmas.CheckedQuorum.{IsQuorum-checked, IsQuorum-valid, AllPass-valid}
use Rattle.batcher_votes.proofs.verifier.attempt.attempt.Goals as goal

pub optimistic_assemble-requires-clause-quorum : goal.optimistic_assemble-requires-clause-quorum
optimistic_assemble-requires-clause-quorum g c =
    let enough : c.args.quorum ≤ length c.args.verified.now + length (checked c.args.quorum c.args.verified.now c.args.pending.now)
    = omega (arith, ap length c.looked_at-pending.ensures) in
    rw (c.looked_at-pending.ensures)
    (IsQuorum-checked _ c.args.quorum c.requires.enough c.args.verified.now c.args.pending.now c.requires.once enough)

pub assemble-requires-clause-quorum : goal.assemble-requires-clause-quorum
assemble-requires-clause-quorum g c =
    let found = rw (c.in-Err.is, c.looked_at-pending.ensures) at c.in_ok-certificate.ensures.sorts in
    let t = (g.S.Scheme.meaning c.args.scheme.now).attests c.args.subject in
    let enough : c.args.quorum ≤ length c.args.verified.now + length (filter t (checked c.args.quorum c.args.verified.now c.args.pending.now))
    = omega (arith, ap length found.valid, c.len.ensures, c.in-Err.found.verified.ok.0) in
    rw (c.as_slice.ensures.value, found.valid)
    (IsQuorum-valid _ c.args.quorum c.requires.enough c.args.verified.now c.args.pending.now c.requires.once t enough)

pub assemble-requires-clause-attested : goal.assemble-requires-clause-attested
assemble-requires-clause-attested g c =
    let found = rw (c.in-Err.is, c.looked_at-pending.ensures) at c.in_ok-certificate.ensures.sorts in
    let t = (g.S.Scheme.meaning c.args.scheme.now).attests c.args.subject in
    rw (c.as_slice.ensures.value, found.valid)
    (AllPass-valid t c.args.verified.now (checked c.args.quorum c.args.verified.now c.args.pending.now) c.requires.attested)
