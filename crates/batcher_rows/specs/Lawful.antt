-- The laws of the benchmark's scheme.
use Rattle.std.specs.Prelude.{◌≡◌, ◌≤◌, ◌<◌, ◌++◌, ◌+◌, ℕ, Bool, true, false, cond, nat_le, List}
use Rattle.std.specs.Prelude.{length, Some, None, is_some}
use Rattle.std.proofs.Common.{arith, length-append}
use Rattle.std.specs.List.{AllPass, list_all}
use Rattle.std.proofs.lemmas.List.Sums.{list_all-from_AllPass}
use Rattle.std.proofs.lemmas.Bool.Decides.{nat_tests}
use Rattle.rand_core.specs.Stream.{Stream}
use Rattle.batcher.specs.Quorum.{quorum_of}
use Rattle.batcher.specs.Attestations.{IsQuorum}
use Rattle.batcher.specs.messages.Attestation.{Attestation}
use Rattle.batcher.specs.messages.Subject.{Subject}
use Rattle.batcher.specs.messages.Sha256Digest.{Sha256Digest}
use Rattle.batcher_rows.specs.declared.plain.Tally.{Tally}
use Rattle.batcher_rows.specs.declared.plain.Padded.{Padded}
use Rattle.batcher_rows.specs.Plain.{is_plainly_signed, counts_a_quorum, tally_of, tallied_at_once}

tally_given : (n : ℕ) (tally c : Tally) (b : Bool) → counts_a_quorum n tally ≡ true
    → cond b (Some tally) None ≡ Some c → counts_a_quorum n c ≡ true
tally_given n tally c true h e = let same : tally ≡ c = cc in rw same at h
tally_given n tally c false h e = absurd (cc)

module _ {P : Type 0} (n : ℕ) (subject : Subject Sha256Digest) where
  -- who signs is below n
  pub in_range : (a : Attestation (Padded P)) → is_plainly_signed n subject a ≡ true
      → a.signer.0 < n
  in_range a h = grind (arith, nat_tests)

  -- a tally of a quorum is enough
  pub tallied : (prior fresh : List (Attestation (Padded P))) → 1 ≤ n → IsQuorum n (prior ++ fresh)
      → counts_a_quorum n (tally_of prior fresh) ≡ true
  tallied prior fresh some quorum =
      let there : nat_le 1 n ≡ true = grind (arith, nat_tests) in
      let enough : quorum_of n ≤ length prior + length fresh = simp length-append at quorum.enough
      in
      let yes : nat_le (quorum_of n) (length prior + length fresh)
      ≡ true = grind (arith, nat_tests) in
      rw (there, yes)

  pub tally_certifies : (pending verified : List (Attestation (Padded P))) (stream : Stream)
      (c : Tally) → 1 ≤ n → IsQuorum n (verified ++ pending)
      → (tallied_at_once n subject pending verified stream).0 ≡ Some c → counts_a_quorum n c ≡ true
  tally_certifies pending verified stream c some quorum e =
      tally_given n (tally_of verified pending) c (list_all (is_plainly_signed n subject) pending)
      (tallied verified pending some quorum) e

  pub tally_gives : (pending verified : List (Attestation (Padded P))) (stream : Stream)
      → AllPass (is_plainly_signed n subject) pending
      → is_some (tallied_at_once n subject pending verified stream).0 ≡ true
  tally_gives pending verified stream pass =
      rw (list_all-from_AllPass (is_plainly_signed n subject) pending pass)
