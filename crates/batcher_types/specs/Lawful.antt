-- The laws of the test schemes.
use Rattle.std.specs.Prelude.{◌≡◌, ◌≤◌, ◌++◌, ◌+◌, ◌&&◌, ℕ, Bool, true, false, cond, nat_le, nat_eq}
use Rattle.std.specs.Prelude.{List, [], ◌∷◌, length, filter, Some, None, is_some}
use Rattle.std.proofs.Common.{refl, subst, arith, length-append}
use Rattle.std.specs.List.{AllPass, list_all}
use Rattle.std.proofs.lemmas.List.Elements.{All-append, All-head, All-tail}
use Rattle.std.proofs.lemmas.List.Sums.{AllPass-from_list_all, list_all-from_AllPass}
use Rattle.std.proofs.lemmas.Bool.Decides.{nat_tests}
use Rattle.rand_core.specs.Stream.{Stream}
use Rattle.batcher_types.specs.Quorum.{quorum_of}
use Rattle.batcher_types.specs.Attestations.{IsQuorum, index_of_signer}
use Rattle.batcher_types.specs.Hashed.{is_signed, seal_of, same_bytes}
use Rattle.batcher_types.specs.Ascending.{ordered_by}
use Rattle.batcher_types.specs.Keyed.{is_listed, listed_at_once}
use Rattle.batcher_types.specs.Sealed.{is_sealed, sealed_at_once}
use Rattle.batcher_types.specs.Ordered.{ordered-ascending, is_ascending-true, length_ordered}
use Rattle.batcher_types.specs.Ordered.{All-ordered}
use Rattle.batcher_types.specs.declared.messages.Attestation.{Attestation}
use Rattle.batcher_types.specs.declared.messages.Subject.{Subject}
use Rattle.batcher_types.specs.declared.messages.Sha256Digest.{Sha256Digest}

all_true : (a b c d : Bool) → a ≡ true → b ≡ true → c ≡ true → d ≡ true → (a && (b && (c && d)))
    ≡ true
all_true a b c d e f g h = rw (e, f, g, h)

filter_cons : {X : Type 0} (t : X → Bool) (x : X) (xs : List X) → t x ≡ true → filter t xs ≡ xs
    → filter t (x ∷ xs) ≡ x ∷ xs
filter_cons t x xs e rest = rw (e, rest)

-- where all pass, none goes
pub filter_all : {X : Type 0} (t : X → Bool) (xs : List X) → AllPass t xs → filter t xs ≡ xs
filter_all t [] h = refl
filter_all t (x ∷ xs) h =
    filter_cons t x xs (All-head (λ y. t y ≡ true) x xs h)
    (filter_all t xs (All-tail (λ y. t y ≡ true) x xs h))

module _ (n : ℕ) (root : List ℕ) (subject : Subject Sha256Digest) where
  pub listed : (all : List (Attestation (List ℕ))) → 1 ≤ n → IsQuorum n all
      → AllPass (is_signed n root subject) all
      → is_listed n root subject (ordered_by index_of_signer all) ≡ true
  listed all some quorum pass =
      let ordered = ordered_by index_of_signer all in
      let there : nat_le 1 n ≡ true = grind (arith, nat_tests) in
      let enough : nat_le (quorum_of n) (length ordered)
      ≡ true = rw (length_ordered index_of_signer all) (grind (arith, nat_tests, quorum.enough))
      in
      all_true _ _ _ _ there enough (is_ascending-true index_of_signer ordered
      (ordered-ascending index_of_signer all quorum.once))
      (list_all-from_AllPass (is_signed n root subject) ordered
      (All-ordered index_of_signer (λ a. is_signed n root subject a ≡ true) all pass))

  list_given : (all c : List (Attestation (List ℕ))) (b : Bool)
      → (b ≡ true → is_listed n root subject (ordered_by index_of_signer all) ≡ true)
      → cond b (Some (ordered_by index_of_signer all)) None ≡ Some c → is_listed n root subject c
      ≡ true
  list_given all c true h e =
      let same : ordered_by index_of_signer all ≡ c = cc in rw same at (h refl)
  list_given all c false h e = absurd (cc)

  pub list_certifies : (pending verified : List (Attestation (List ℕ))) (stream : Stream)
      (c : List (Attestation (List ℕ))) → 1 ≤ n → IsQuorum n (verified ++ pending)
      → AllPass (is_signed n root subject) verified
      → (listed_at_once n root subject pending verified stream).0 ≡ Some c
      → is_listed n root subject c ≡ true
  list_certifies pending verified stream c some quorum pass e =
      list_given (verified ++ pending) c (list_all (is_signed n root subject) pending)
      (λ all. listed (verified ++ pending) some quorum
      (All-append (λ a. is_signed n root subject a ≡ true) verified pending pass
      (AllPass-from_list_all (is_signed n root subject) pending all)))
      e

  pub list_gives : (pending verified : List (Attestation (List ℕ))) (stream : Stream)
      → AllPass (is_signed n root subject) pending
      → is_some (listed_at_once n root subject pending verified stream).0 ≡ true
  list_gives pending verified stream pass =
      rw (list_all-from_AllPass (is_signed n root subject) pending pass)

same_as_itself : (bytes : List ℕ) → same_bytes bytes bytes ≡ true
same_as_itself [] = refl
same_as_itself (b ∷ bytes) =
    let yes : nat_eq b b ≡ true = grind (arith, nat_tests) in rw (yes, same_as_itself bytes)

module _ (n : ℕ) (root : List ℕ) (subject : Subject Sha256Digest) where
  pub sealed : 1 ≤ n → is_sealed n root subject (seal_of root subject) ≡ true
  sealed some =
      let there : nat_le 1 n ≡ true = grind (arith, nat_tests) in rw
      (there, same_as_itself (seal_of root subject))

  seal_given : (c : List ℕ) (b : Bool) → 1 ≤ n → cond b (Some (seal_of root subject)) None ≡ Some c
      → is_sealed n root subject c ≡ true
  seal_given c true some e =
      let same : seal_of root subject ≡ c = cc in subst (λ x. is_sealed n root subject x ≡ true)
      same (sealed some)
  seal_given c false some e = absurd (cc)

  pub seal_certifies : (pending verified : List (Attestation (List ℕ))) (stream : Stream)
      (c : List ℕ) → 1 ≤ n → (sealed_at_once n root subject pending verified stream).0 ≡ Some c
      → is_sealed n root subject c ≡ true
  seal_certifies pending verified stream c some e =
      seal_given c (nat_le (quorum_of n)
      (length verified + length (filter (is_signed n root subject) pending))) some e

  pub seal_gives : (pending verified : List (Attestation (List ℕ))) (stream : Stream)
      → IsQuorum n (verified ++ pending) → AllPass (is_signed n root subject) pending
      → is_some (sealed_at_once n root subject pending verified stream).0 ≡ true
  seal_gives pending verified stream quorum pass =
      let enough : quorum_of n ≤ length verified + length pending = simp length-append at
      quorum.enough in
      let yes : nat_le (quorum_of n) (length verified + length pending)
      ≡ true = grind (arith, nat_tests) in
      rw (filter_all (is_signed n root subject) pending pass, yes)
