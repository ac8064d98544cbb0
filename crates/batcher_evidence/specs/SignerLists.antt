-- What a list that certifies shows.
use Rattle.std.specs.Prelude.{◌≡◌, ◌≤◌, ◌<◌, ◌+◌, ◌==◌, ℕ, true, cond, nat_le, nat_lt, List, []}
use Rattle.std.specs.Prelude.{◌∷◌, length}
use Rattle.std.proofs.Common.{refl, ap, sym, ◌∙◌, arith, ⊎_elim}
use Rattle.std.specs.List.{AllByRecursion, AllPass, list_all}
use Rattle.std.proofs.lemmas.Bool.{cases_Bool, and_parts, leb-true, ltb-true, eqb-true}
use Rattle.std.proofs.lemmas.List.Sums.{AllPass-from_list_all}
use Rattle.batcher.specs.Quorum.{quorum_of}
use Rattle.batcher.specs.Lists.{count, EachOnce}
use Rattle.batcher.specs.Ascending.{IsAscending, is_ascending}
use Rattle.batcher.specs.Attestations.{IsQuorum, index_of_signer}
use Rattle.batcher.specs.Hashed.{is_signed}
use Rattle.batcher.specs.Keyed.{is_listed}
use Rattle.batcher.specs.messages.Attestation.{Attestation}
use Rattle.batcher.specs.messages.Subject.{Subject}
use Rattle.batcher.specs.messages.Sha256Digest.{Sha256Digest}

module _ {X : Type 0} (number : X → ℕ) where
  above :
      (m : ℕ) (xs : List X) → list_all (λ y. nat_lt m (number y)) xs ≡ true
      → AllByRecursion (λ y. m < number y) xs
  above m [] h = tt
  above m (x ∷ xs) h =
      let parts = and_parts (nat_lt m (number x)) (list_all (λ y. nat_lt m (number y)) xs) h in
      (ltb-true m (number x) parts.0, above m xs parts.1)

  -- a list that passes the test ascends
  ascending_by_test : (xs : List X) → is_ascending number xs ≡ true → IsAscending number xs
  unfolding IsAscending
  ascending_by_test [] h = tt
  ascending_by_test (x ∷ xs) h =
      let lower = list_all (λ y. nat_lt (number x) (number y)) xs in
      let parts = and_parts lower (is_ascending number xs) h in
      (above (number x) xs parts.0, ascending_by_test xs parts.1)

  -- how many have a number
  abbrev at : ℕ → List X → ℕ
  at i xs = count (λ y. number y == i) xs

  none_at : (m : ℕ) (xs : List X) → AllByRecursion (λ y. m < number y) xs → at m xs ≡ 0
  none_at m [] h = refl
  none_at m (x ∷ xs) h =
      ⊎_elim
      (λ same. absurd (omega (arith, eqb-true (number x) m same, h.0)))
      (λ other. ap (λ b. cond b 1 0 + at m xs) other ∙ omega (arith, none_at m xs h.1))
      (cases_Bool (number x == m))

  -- no number comes twice in an ascending list
  ascending_once : (xs : List X) → IsAscending number xs → EachOnce number xs
  unfolding IsAscending
  ascending_once [] h i = omega arith
  ascending_once (x ∷ xs) h i =
      ⊎_elim
      (λ same.
      let is : number x ≡ i = eqb-true (number x) i same in
      let none : at i xs ≡ 0 = ap (λ j. at j xs) (sym is) ∙ none_at (number x) xs h.0 in
      omega (arith, ap (λ b. cond b 1 0 + at i xs) same, none))
      (λ other. omega (arith, ap (λ b. cond b 1 0 + at i xs) other, ascending_once xs h.1 i))
      (cases_Bool (number x == i))

-- what a list of attestations shows that certifies
pub record Listed (n : ℕ) (root : List ℕ)
    (subject : Subject Sha256Digest) (c : List (Attestation (List ℕ))) : Type 0 where
  pub some : 1 ≤ n
  pub quorum : IsQuorum n c
  pub ascending : IsAscending index_of_signer c
  pub attested : AllPass (is_signed n root subject) c

pub listed_shows :
    (n : ℕ) (root : List ℕ) (subject : Subject Sha256Digest) (c : List (Attestation (List ℕ)))
    → is_listed n root subject c ≡ true → Listed n root subject c
listed_shows n root subject c h =
    let ascends = is_ascending index_of_signer c in
    let signed = list_all (is_signed n root subject) c in
    let some = and_parts (nat_le 1 n) _ h in
    let enough = and_parts (nat_le (quorum_of n) (length c)) _ some.1 in
    let rest = and_parts ascends signed enough.1 in
    let ascending = ascending_by_test index_of_signer c rest.0 in
    let long = leb-true (quorum_of n) (length c) enough.0 in
    record {
      some = leb-true 1 n some.0;
      quorum = record { enough = long; once = ascending_once index_of_signer c ascending };
      ascending = ascending;
      attested = AllPass-from_list_all (is_signed n root subject) c rest.1;
    }
