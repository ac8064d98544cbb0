-- An honest one of two quorums, and the quorum that a certificate shows.
use Rattle.batcher_agreement.proofs.Words.{◌≡◌, ◌≤◌, ◌<◌, ◌+◌, ◌-◌, ◌/◌, ◌==◌, ◌&&◌, ◌||◌, ℕ, zero, suc, Bool, true, false, cond, nat_lt, List, [], ◌∷◌, length}
use Rattle.batcher_agreement.proofs.Words.{refl, ap, ◌∙◌, arith, list_all, and_parts, and_from, lt-ltb, list_all-from_AllPass, and-true, quorums_overlap}
use Rattle.batcher_agreement.proofs.Words.{quorum_of, index_of_signer, Meaning, IsLawful, Attestation, Subject, ShowsQuorum, has_signed, count_below}
use Rattle.batcher_agreement.proofs.Words.{below_both, below_more, distinct_below, has_number}

-- A number below n that passes a test, and not another one.
record IsApart (n : ℕ) (p q : ℕ → Bool) : Type 0 where
  pub number : ℕ
  pub below : number < n
  pub passes : p number ≡ true
  pub fails : q number ≡ false

further : (p q : ℕ → Bool) (n : ℕ) → IsApart n p q → IsApart (suc n) p q
further p q n it =
    record {
      number = it.number;
      below = omega (arith, it.below);
      passes = it.passes;
      fails = it.fails;
    }

last_or_before :
    (p q : ℕ → Bool) (n : ℕ) (b c : Bool) → p n ≡ b → q n ≡ c
    → (count_below n q < count_below n p → IsApart n p q)
    → cond c 1 0 + count_below n q < cond b 1 0 + count_below n p → IsApart (suc n) p q
last_or_before p q n true false is other before more =
    record { number = n; below = omega arith; passes = is; fails = other }
last_or_before p q n true true is other before more = further p q n (before (omega (arith, more)))
last_or_before p q n false c is other before more =
    further p q n (before (omega (arith, more)))

-- Where more pass one test than another, there is one.
apart : (p q : ℕ → Bool) (n : ℕ) → count_below n q < count_below n p → IsApart n p q
apart p q zero h = absurd (omega (arith, h))
apart p q (suc n) h = last_or_before p q n (p n) (q n) refl refl (apart p q n) h

-- A participant of two quorums that isn't faulty.
pub record IsInBoth (n : ℕ) (is_faulty p q : ℕ → Bool) : Type 0 where
  pub number : ℕ
  pub below : number < n
  pub honest : is_faulty number ≡ false
  pub first : p number ≡ true
  pub second : q number ≡ true

pub honest_in_both :
    (n : ℕ) (is_faulty p q : ℕ → Bool) → 1 ≤ n → count_below n is_faulty ≤ (n - 1) / 3
    → quorum_of n ≤ count_below n p → quorum_of n ≤ count_below n q → IsInBoth n is_faulty p q
honest_in_both n is_faulty p q some few enough other_enough =
    let more : count_below n is_faulty < count_below n (λ i. p i && q i) =
    omega (arith, few, enough, other_enough, below_both p q n, quorums_overlap n some) in
    let it = apart (λ i. p i && q i) is_faulty n more in
    let parts = and_parts (p it.number) (q it.number) it.passes in
    record {
      number = it.number;
      below = it.below;
      honest = it.fails;
      first = parts.0;
      second = parts.1;
    }

module _ {D K G C : Type 0} (m : Meaning D K G C) (lawful : IsLawful m) (subject : Subject D) where
  in_range :
      (xs : List (Attestation G)) → list_all (m.attests subject) xs ≡ true
      → list_all (λ a. nat_lt (index_of_signer a) (length m.participants)) xs ≡ true
  in_range [] h = refl
  in_range (a ∷ xs) h =
      let parts = and_parts (m.attests subject a) (list_all (m.attests subject) xs) h in
      and_from _ _
      (lt-ltb (index_of_signer a) (length m.participants)
      (lawful.signers_in_range subject a parts.0))
      (in_range xs parts.1)

  -- whose number is among those of attestations that attest has signed
  signed_by :
      (xs : List (Attestation G)) (i : ℕ) → list_all (m.attests subject) xs ≡ true
      → has_signed m subject xs i ≡ has_number index_of_signer xs i
  signed_by [] i h = refl
  signed_by (a ∷ xs) i h =
      let parts = and_parts (m.attests subject a) (list_all (m.attests subject) xs) h in
      ap (λ b. ((index_of_signer a == i) && b) || has_signed m subject xs i) parts.0
      ∙ (ap (λ b. b || has_signed m subject xs i) (and-true (index_of_signer a == i))
      ∙ ap (λ b. (index_of_signer a == i) || b) (signed_by xs i parts.1))

  pub quorum_signed :
      (xs : List (Attestation G)) → ShowsQuorum m subject xs
      → quorum_of (length m.participants) ≤ count_below (length m.participants)
      (has_signed m subject xs)
  quorum_signed xs shows =
      let n = length m.participants in
      let attest = list_all-from_AllPass (m.attests subject) xs shows.attested in
      omega (
        arith,
        shows.quorum.enough,
        distinct_below index_of_signer n xs shows.quorum.once (in_range xs attest),
        below_more (has_number index_of_signer xs) (has_signed m subject xs)
            (λ i h. signed_by xs i attest ∙ h) n,
      )
