-- What is asked about, and what is recorded after what was.
use Rattle.batcher_verdicts.proofs.Words.{◌≡◌, inl, inr, ◌++◌, ◌-◌, ◌+◌, ◌∙◌, ℕ, Bool, List, [], length, take, drop, map, Option, None, Some, IfSome, sym, ap}
use Rattle.batcher_verdicts.proofs.Words.{subst, take-length, append-nil, append_cancel_left, length-drop, length-append, take-map, append_assoc}
use Rattle.batcher_verdicts.proofs.Words.{Attestation, Subject, Notarization, Nullification, Finalization, PerKind, AllTrue, Recorded, Begins, Asks, IsKnown}
use Rattle.batcher_verdicts.proofs.Words.{AreTrue, AddsVerdicts, VerdictsNeed, ◌≤◌, ◌<◌, arith}

-- what is left of a list, as a slice of it
pub rest_is : {X : Type 0} (xs : List X) (n : ℕ) → take (length xs - n) (drop n xs) ≡ drop n xs
rest_is xs n = ap (λ k. take k (drop n xs)) (sym (length-drop n xs)) ∙ take-length (drop n xs)

module _ {G D : Type 0} (r : Recorded G D) (subject : Subject D) (waiting : List (Attestation G)) where
  -- what begins is followed by one list alone
  one_rest : (others more : List (Attestation G)) → Begins r subject waiting others
      → Begins r subject waiting more → others ≡ more
  one_rest others more b c =
      append_cancel_left r.list others more (sym b.listed ∙ c.listed)

  pub asks_rest : (n : ℕ) → IsKnown r subject waiting n → Asks r subject waiting (drop n waiting)
  asks_rest n (inl h) =
      record {
        after = λ others b. one_rest _ others h.1 b;
        all = λ no. absurd (no _ h.1);
      }
  asks_rest n (inr h) =
      record {
        after = λ others b. absurd (h.1 others b);
        all = λ no. ap (λ k. drop k waiting) h.0;
      }

  module _ (n : ℕ) (known : IsKnown r subject waiting n)
      (even : length r.verdicts ≡ length r.list)
      (list rest : List (Attestation G)) (next : drop n waiting ≡ list ++ rest)
      (verdicts : List Bool) where
    -- what is left of what was recorded is all of it, or nothing
    parted : (n : ℕ) → IsKnown r subject waiting n → take n r.list ++ drop n waiting ≡ waiting
    parted n (inl h) =
        ap (λ l. l ++ drop n waiting) (ap (λ k. take k r.list) h.0 ∙ take-length r.list)
        ∙ sym h.1.listed
    parted n (inr h) = ap (λ k. take k r.list ++ drop k waiting) h.0

    abbrev IsAfter : ℕ → List (Attestation G) → List Bool → Type 0
    IsAfter n all of_all =
        (all ≡ take n r.list ++ list) × (of_all ≡ take n r.verdicts ++ verdicts)

    kept_after : (n : ℕ) (all : List (Attestation G)) (of_all : List Bool)
        → IsKnown r subject waiting n → IsAfter n all of_all → (others : List (Attestation G))
        → Begins r subject waiting others
        → (all ≡ r.list ++ list) × (of_all ≡ r.verdicts ++ verdicts)
    kept_after n all of_all (inl h) are others b = (
      are.0 ∙ ap (λ l. l ++ list) (ap (λ k. take k r.list) h.0 ∙ take-length r.list),
      are.1 ∙ ap (λ l. l ++ verdicts)
          (ap (λ k. take k r.verdicts) (h.0 ∙ sym even) ∙ take-length r.verdicts),
    )
    kept_after n all of_all (inr h) are others b = absurd (h.1 others b)

    alone : (n : ℕ) (all : List (Attestation G)) (of_all : List Bool)
        → IsKnown r subject waiting n → IsAfter n all of_all
        → ((others : List (Attestation G)) → Begins r subject waiting others → ⊥)
        → (all ≡ list) × (of_all ≡ verdicts)
    alone n all of_all (inl h) are none = absurd (none _ h.1)
    alone n all of_all (inr h) are none = (
      are.0 ∙ ap (λ k. take k r.list ++ list) h.0,
      are.1 ∙ ap (λ k. take k r.verdicts ++ verdicts) h.0,
    )

    pub added : (new : Recorded G D) → new.subject ≡ Some subject
        → new.list ≡ take n r.list ++ list → new.verdicts ≡ take n r.verdicts ++ verdicts
        → AddsVerdicts r new subject waiting list verdicts
    added new about list_is verdicts_are =
        record {
          about = about;
          listed = (
            rest,
            sym (parted n known) ∙ ap (λ l. take n r.list ++ l) next
                ∙ sym (append_assoc (take n r.list) list rest) ∙ ap (λ l. l ++ rest) (sym list_is),
          );
          after = kept_after n new.list new.verdicts known (list_is, verdicts_are);
          anew = alone n new.list new.verdicts known (list_is, verdicts_are);
        }

module _ {G D : Type 0} (r : Recorded G D) (subject : Subject D) (waiting : List (Attestation G)) where
  -- where nothing is asked about, what is recorded is on all that waits
  pub whole_list : (n : ℕ) → IsKnown r subject waiting n → Asks r subject waiting []
      → waiting ≡ take n r.list
  whole_list n (inl h) asks =
      let none : [] ≡ drop n waiting = asks.after _ h.1 in
      h.1.listed ∙ ap (λ l. r.list ++ l) (sym none) ∙ append-nil r.list
      ∙ sym (ap (λ k. take k r.list) h.0 ∙ take-length r.list)
  whole_list n (inr h) asks = sym (asks.all h.1) ∙ ap (λ k. take k r.list) (sym h.0)

  pub none_asked : (n : ℕ) → IsKnown r subject waiting n → waiting ≡ take n r.list
      → Asks r subject waiting []
  none_asked n (inl h) all =
      let whole : take n r.list ≡ r.list = ap (λ k. take k r.list) h.0 ∙ take-length r.list in
      record {
        after = λ others b. append_cancel_left r.list [] others
            (append-nil r.list ∙ sym whole ∙ sym all ∙ b.listed);
        all = λ none. absurd (none _ h.1);
      }
  none_asked n (inr h) all =
      record {
        after = λ others b. absurd (h.1 others b);
        all = λ none. ap (λ k. take k r.list) (sym h.0) ∙ sym all;
      }

  -- the verdicts on the first ones are the scheme's
  pub true_first : (attests : Subject D → Attestation G → Bool) (n : ℕ)
      → IsKnown r subject waiting n → AreTrue attests r
      → take n r.verdicts ≡ map (attests subject) (take n r.list)
  true_first attests n (inl h) before =
      let all : r.verdicts ≡ map (attests subject) r.list =
      subst (λ o. IfSome o (λ s. r.verdicts ≡ map (attests s) r.list)) h.1.about before in
      ap (take n) all ∙ take-map (attests subject) n r.list
  true_first attests n (inr h) before =
      ap (λ k. take k r.verdicts) h.0 ∙ sym (ap (λ k. map (attests subject) (take k r.list)) h.0)

-- where none is recorded, none is wrong
pub none_true : {G D : Type 0} (attests : Subject D → Attestation G → Bool)
    (about : Option (Subject D)) (all : List (Attestation G)) (of_all : List Bool) → all ≡ []
    → of_all ≡ []
    → IfSome about (λ s. of_all ≡ map (attests s) all)
none_true attests (Some s) all of_all list verdicts = verdicts ∙ sym (ap (map (attests s)) list)
none_true attests None all of_all list verdicts = tt

pub each_true : {G D : Type 0} (attests : Subject D → Attestation G → Bool)
    (all : PerKind (Recorded G D)) → AreTrue attests all.notarize → AreTrue attests all.nullify
    → AreTrue attests all.finalize → AllTrue attests all
each_true attests all notarize nullify finalize Notarization = notarize
each_true attests all notarize nullify finalize Nullification = nullify
each_true attests all notarize nullify finalize Finalization = finalize

-- Where there is no room for verdicts on a list behind those that were recorded, the list isn't
-- empty, and there is none for all that waits.
pub verdicts_need : {G D : Type 0} (r : Recorded G D) (subject : Subject D)
    (waiting list rest : List (Attestation G)) (n : ℕ) → IsKnown r subject waiting n
    → drop n waiting ≡ list ++ rest → n ≤ length waiting → n ≤ length r.list
    → length r.list ≤ r.room → r.room < n + length list → VerdictsNeed r subject waiting list
verdicts_need r subject waiting list rest n known next within recorded kept lacks =
    let long : length waiting - n ≡ length list + length rest =
    sym (length-drop n waiting) ∙ ap length next ∙ length-append list rest in
    record {
      some = omega (arith, recorded, kept, lacks);
      asked = (
        rest,
        subst (Asks r subject waiting) next (asks_rest r subject waiting n known),
      );
      no_room = omega (arith, long, within, lacks);
    }
