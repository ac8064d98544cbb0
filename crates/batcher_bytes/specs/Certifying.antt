-- The laws of the scheme.
use Rattle.std.specs.Prelude.{◌≡◌, ◌<◌, ◌++◌, ◌==◌, ℕ, Bool, true, false, cond, List, [], ◌∷◌, Some}
use Rattle.std.specs.Prelude.{None, is_some}
use Rattle.std.proofs.Common.{arith, refl, subst}
use Rattle.std.specs.List.{AllPass, list_all}
use Rattle.std.specs.Cmp.Lexicographic.{pointwise}
use Rattle.std.proofs.lemmas.List.Sums.{list_all-from_AllPass}
use Rattle.std.proofs.lemmas.Bool.Decides.{nat_tests}
use Rattle.rand_core.specs.Stream.{Stream}
use Rattle.batcher_types.proofs.VoteLemmas.{same_subject-refl}
use Rattle.batcher_types.specs.declared.messages.Attestation.{Attestation}
use Rattle.batcher_types.specs.declared.messages.Sha256Digest.{Sha256Digest}
use Rattle.batcher_types.specs.declared.messages.Subject.{Subject}
use Rattle.batcher_bytes.specs.Listings.{attests}
use Rattle.batcher_bytes.specs.Keys.{same_keys, same_digest}
use Rattle.batcher_bytes.specs.Meanings.{certifies, made_of, made_at_once}
use Rattle.batcher_bytes.specs.declared.certificates.Content.{Content}
use Rattle.batcher_bytes.specs.declared.signature.Keys.{Keys}
use Rattle.batcher_bytes.specs.declared.signature.Signature.{Signature}
use Rattle.batcher_bytes.specs.declared.truth.Truth.{Ghosts}

pub same_as_itself : (bytes : List ℕ) → pointwise (λ x y. x == y) bytes bytes ≡ true
same_as_itself [] = refl
same_as_itself (b ∷ bytes) =
    let yes : (b == b) ≡ true = grind (arith, nat_tests) in rw (yes, same_as_itself bytes) refl

module _ {T : Type 0} (truth : Ghosts T) (keys : Keys) (n : ℕ)
    (subject : Subject Sha256Digest) where
  pub in_range : (a : Attestation Signature) → attests truth keys n subject a ≡ true
      → a.signer.0 < n
  in_range a h = Prim.grind (arith, nat_tests, h)

  pub made : (all : List (Attestation Signature))
      → certifies {T = T} keys n subject (made_of keys n subject all) ≡ true
  made all =
      let keys_same : same_keys keys keys ≡ true = same_as_itself keys.0 in
      let subject_same = same_subject-refl same_digest (λ d. same_as_itself d.0) subject in
      let count_same : (n == n) ≡ true = grind (arith, nat_tests) in
      rw (count_same, keys_same, subject_same) refl

  pub at_once_certifies : (pending verified : List (Attestation Signature)) (stream : Stream)
      (c : Content T) → (made_at_once keys n truth subject pending verified stream).0 ≡ Some c
      → certifies keys n subject c ≡ true
  at_once_certifies pending verified stream c e =
      given (list_all (attests truth keys n subject) pending) (verified ++ pending) c e
    where
      given : (b : Bool) (all : List (Attestation Signature)) (c : Content T)
          → cond b (Some (made_of keys n subject all)) None ≡ Some c
          → certifies keys n subject c ≡ true
      given true all c e =
          let same : made_of keys n subject all ≡ c = cc in
          subst (λ content. certifies keys n subject content ≡ true) same (made all)
      given false all c e = absurd (cc)

  pub at_once_gives : (pending verified : List (Attestation Signature)) (stream : Stream)
      → AllPass (attests truth keys n subject) pending
      → is_some (made_at_once keys n truth subject pending verified stream).0 ≡ true
  at_once_gives pending verified stream pass =
      gives (list_all (attests truth keys n subject) pending)
      (made_of keys n subject (verified ++ pending))
      (list_all-from_AllPass (attests truth keys n subject) pending pass)
    where
      gives : (all : Bool) (c : Content T) → all ≡ true
          → is_some (cond all (Some c) None) ≡ true
      gives true c e = refl
      gives false c e = absurd (cc)
