use Rattle.batcher_votes.proofs.Words.{◌≡◌, ◌≤◌, ◌<◌, ◌&&◌, not, ℕ, min, ◌+◌, true, false, nat_le, ap, arith, filter, length, nat_tests, Sorts, signers}
use Rattle.batcher_votes.proofs.Words.{failing, checked, is_empty}
use Rattle.batcher_votes.proofs.VerifierLemmas.CheckedQuorum.{IsQuorum-valid, AllPass-valid}
use Rattle.batcher_votes.proofs.VerifierLemmas.Verdicts.{judged_given, judged_none, fell}
use Rattle.batcher_votes.proofs.verifier.attempt.attempt_by_verdicts.Goals as goal

pub assemble-requires-clause-quorum : goal.assemble-requires-clause-quorum
assemble-requires-clause-quorum g c =
    let t = (g.S.Scheme.meaning c.args.scheme.now).attests c.args.subject in
    let p = checked c.args.quorum c.args.verified.now c.args.pending.now in
    let found : Sorts t p c.in_ok-sorted.sorted = rw c.looked_at-pending.ensures at (c.in_ok-sorted.ensures t (rw c.looked_at-pending.ensures
    c.requires.verdicts)) in
    let enough : c.args.quorum ≤ length c.args.verified.now + length (filter t p)
    = omega (arith, ap length found.valid, c.len.ensures, c.in_ok-sorted.sorted.verified.ok.0) in
    rw (c.as_slice-then-saturating_add-quorum.ensures.value, found.valid)
    (IsQuorum-valid _ c.args.quorum c.requires.enough c.args.verified.now c.args.pending.now c.requires.once t enough)

pub assemble-requires-clause-attested : goal.assemble-requires-clause-attested
assemble-requires-clause-attested g c =
    let t = (g.S.Scheme.meaning c.args.scheme.now).attests c.args.subject in
    let p = checked c.args.quorum c.args.verified.now c.args.pending.now in
    let found : Sorts t p c.in_ok-sorted.sorted = rw c.looked_at-pending.ensures at (c.in_ok-sorted.ensures t (rw c.looked_at-pending.ensures
    c.requires.verdicts)) in
    rw (c.as_slice-then-saturating_add-quorum.ensures.value, found.valid)
    (AllPass-valid t c.args.verified.now p c.requires.attested)

-- where a sum stays below what it may be, the quorum is reached by both
most_is : (q n limit most : ℕ) → most ≡ min n limit → q ≤ limit → nat_le q most ≡ nat_le q n
most_is q n limit most e fits = grind (arith, nat_tests)

pub returns-in_ok-certificate : goal.returns-in_ok-certificate
returns-in_ok-certificate g c =
    let m = g.S.Scheme.meaning c.args.scheme.now in
    let t = m.attests c.args.subject in
    let q = c.args.quorum in
    let v = c.args.verified.now in
    let p = checked q v c.args.pending.now in
    let found : Sorts t p c.in_ok-sorted.sorted = rw c.looked_at-pending.ensures at (c.in_ok-sorted.ensures t (rw c.looked_at-pending.ensures
    c.requires.verdicts)) in
    let enough : q ≤ length v + length (filter t p)
    = omega (arith, ap length found.valid, c.len.ensures, c.in_ok-sorted.sorted.verified.ok.0) in
    let reached : nat_le q (length v + length (filter t p)) ≡ true = grind (arith, nat_tests) in
    let most : nat_le q c.saturating_add-most.result ≡ nat_le q (length v + length p) =
    most_is q (length v + length p) 18446744073709551615 c.saturating_add-most.result
    (rw c.looked_at-pending.ensures at c.saturating_add-most.ensures) (omega (arith, c.ranges.quorum.fits)) in
    let fell_is : c.fell_back-fallback.result ≡ fell m c.args.subject q v p =
    rw (c.fell_back-fallback.ensures, c.as_slice.ensures.value, found.failed)
    (ap (λ b. b && not (is_empty (signers (failing t p)))) most) in
    record {
      attempt = λ stream.
          rw (
            c.new.ensures.batch,
            c.looked_at-pending.ensures,
            found.failed,
            fell_is,
            c.in_ok-certificate.ensures.function,
            c.as_slice-then-saturating_add-quorum.ensures.value,
            found.valid,
          )
          (judged_given m c.args.subject q v p stream reached);
    }

pub returns-else-saturating_add-quorum : goal.returns-else-saturating_add-quorum
returns-else-saturating_add-quorum g c =
    let m = g.S.Scheme.meaning c.args.scheme.now in
    let t = m.attests c.args.subject in
    let q = c.args.quorum in
    let v = c.args.verified.now in
    let p = checked q v c.args.pending.now in
    let found : Sorts t p c.in_ok-sorted.sorted = rw c.looked_at-pending.ensures at (c.in_ok-sorted.ensures t (rw c.looked_at-pending.ensures
    c.requires.verdicts)) in
    let few : length v + length (filter t p) < q
    = omega (arith, ap length found.valid, c.len.ensures, c.in_ok-sorted.sorted.verified.ok.0, c.ranges.quorum.fits) in
    let unreached : nat_le q (length v + length (filter t p)) ≡ false = grind (arith, nat_tests) in
    let most : nat_le q c.saturating_add-most.result ≡ nat_le q (length v + length p) =
    most_is q (length v + length p) 18446744073709551615 c.saturating_add-most.result
    (rw c.looked_at-pending.ensures at c.saturating_add-most.ensures) (omega (arith, c.ranges.quorum.fits)) in
    let fell_is : c.fell_back-fallback.result ≡ fell m c.args.subject q v p =
    rw (c.fell_back-fallback.ensures, c.as_slice.ensures.value, found.failed)
    (ap (λ b. b && not (is_empty (signers (failing t p)))) most) in
    record {
      attempt = λ stream.
          rw (
            c.new-else-saturating_add-quorum.ensures.batch,
            c.new-else-saturating_add-quorum.ensures.joining,
            c.looked_at-pending.ensures,
            found.failed,
            found.valid,
            fell_is,
          )
          (judged_none m c.args.subject q v p stream unreached);
    }
