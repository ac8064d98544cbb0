-- What three constructions certify where no bad vote was accepted, and that the order of the calls
-- before them is free.
use Rattle.batcher_histories.proofs.Words.{◌≡◌, ◌≤◌, ◌+◌, true, nat_le, ◌||◌, List, [], ◌∷◌, length, Option, refl, ap, sym, ◌∙◌, subst, arith, ⊎_elim, AllPass}
use Rattle.batcher_histories.proofs.Words.{or_left, or_right, or_cases, leb-true, le-leb, Vote, Kind, Certificate, Batch, ConstructAnswer, Config, quorum_in}
use Rattle.batcher_histories.proofs.Words.{is_kind, kind_certified, is_kind-true, History, certificate_given, first_votes, is_certified, is_valid, valid_votes}
use Rattle.batcher_histories.proofs.Words.{proven_votes, fresh_votes, IsPossible, gives_kind, HasNoBadVote, has_valid_quorum, Batches, after_constructions}
use Rattle.batcher_histories.proofs.Words.{is_settled, CertifiesExactly, CertifyAlike, Converges, OrderIsFree}
use Rattle.batcher_histories.proofs.History.Laws.{HasLaws}
use Rattle.batcher_histories.proofs.History.Distinct.{where_holds}
use Rattle.batcher_histories.proofs.Quorums.Completed.{completes}
use Rattle.batcher_histories.proofs.Simulation.Settled.{constructed}
use Rattle.batcher_histories.proofs.Certificates.Backing.{gave, usable_enough}
use Rattle.batcher_histories.proofs.Order.Reordered.{same_tests, selection_same, certified_same, quorum_same, clean_too, settled_same}
use Rattle.batcher_histories.proofs.Quorums.ValidVotes.{settled_stays, valid_stay, enough_valid}

-- THREE CONSTRUCTIONS
module _ {D K G C : Type 0} (x : Config D K G C) (laws : HasLaws x) where
  -- A settled kind that a construction certifies had a valid quorum.
  certified_now : (past : History D K G C) (given : Option (Batch (Certificate C D)))
      → IsPossible x (constructed x past given ∷ past) → HasNoBadVote x past
      → (kind : Kind) → is_settled x past kind ≡ true
      → gives_kind {G = G} kind (ConstructAnswer given) ≡ true → has_valid_quorum x past kind ≡ true
  certified_now past given possible clean kind settled now =
      let c = where_holds (λ c. is_kind (kind_certified c) kind) (certificate_given {G = G} (ConstructAnswer given)) now in
      let g = gave x past (constructed x past given) laws possible c.0 c.1 in
      le-leb _ _
      (enough_valid x laws past possible.1.1.1 kind settled clean
      (subst (λ k. quorum_in x ≤ length (proven_votes x past k) + length (fresh_votes x past k)) (is_kind-true _ _ c.2)
      (usable_enough x laws past possible.1.1.1 g.batch c.0 g.gives g.after)))

  module _ (past : History D K G C) (kind : Kind) (settled : is_settled x past kind ≡ true) where
    -- what constructions leave as it was
    record Left (later : History D K G C) : Type 0 where
      still_settled : is_settled x later kind ≡ true
      same_valid : valid_votes x later kind ≡ valid_votes x past kind
      same_first : first_votes x later ≡ first_votes x past

    left_after : (batches : Batches C D) → IsPossible x (after_constructions batches past)
        → Left (after_constructions batches past)
    left_after [] possible = record { still_settled = settled; same_valid = refl; same_first = refl }
    left_after (batch ∷ earlier) possible =
        let later = after_constructions earlier past in
        let left = left_after earlier possible.1.1.1 in
        record {
          still_settled = settled_stays x laws later batch possible kind left.still_settled;
          same_valid = valid_stay x laws later batch possible kind left.still_settled ∙ left.same_valid;
          same_first = left.same_first;
        }

    -- What is certified after them was so before, or had a valid quorum;
    certified_had : (batches : Batches C D) → IsPossible x (after_constructions batches past)
        → HasNoBadVote x past → is_certified (after_constructions batches past) kind ≡ true
        → (is_certified past kind || has_valid_quorum x past kind) ≡ true
    certified_had [] possible clean certified = or_left _ _ certified
    certified_had (batch ∷ earlier) possible clean certified =
        ⊎_elim
        (λ now.
        let left = left_after earlier possible.1.1.1 in
        or_right (is_certified past kind) _
        (subst (λ (votes : List (Vote G D)). nat_le (quorum_in x) (length votes) ≡ true) left.same_valid
        (certified_now (after_constructions earlier past) batch possible
        (subst (λ (votes : List (Vote G D)). AllPass (is_valid x) votes) (sym left.same_first) clean)
        kind left.still_settled now)))
        (λ then. certified_had earlier possible.1.1.1 clean then)
        (or_cases _ _ certified)

    -- what was certified is so still;
    certified_still : (batches : Batches C D) → is_certified past kind ≡ true
        → is_certified (after_constructions batches past) kind ≡ true
    certified_still [] certified = certified
    certified_still (batch ∷ earlier) certified = or_right _ _ (certified_still earlier certified)

    -- and what had a valid quorum is certified after three.
    certified_soon : (batches : Batches C D) → 3 ≤ length batches
        → IsPossible x (after_constructions batches past) → has_valid_quorum x past kind ≡ true
        → is_certified (after_constructions batches past) kind ≡ true
    certified_soon [] three possible enough = absurd (omega (arith, three))
    certified_soon (a ∷ []) three possible enough = absurd (omega (arith, three))
    certified_soon (a ∷ b ∷ []) three possible enough = absurd (omega (arith, three))
    certified_soon (third ∷ second ∷ first ∷ earlier) three possible enough =
        completes x laws (after_constructions (second ∷ first ∷ earlier) past)
        (constructed x (after_constructions (second ∷ first ∷ earlier) past) third) possible refl kind
        (subst (λ (votes : List (Vote G D)). quorum_in x ≤ length votes)
        (sym (left_after (third ∷ second ∷ first ∷ earlier) possible).same_valid) (leb-true _ _ enough))

  certifies_exactly : (past : History D K G C) → CertifiesExactly x past
  certifies_exactly past clean kind settled batches follow =
      same_tests _ _
      (certified_had past kind settled batches follow.possible clean)
      (λ either.
      ⊎_elim
      (certified_still past kind settled batches)
      (certified_soon past kind settled batches follow.three follow.possible)
      (or_cases _ _ either))

-- ANOTHER ORDER
module _ {D K G C : Type 0} (x : Config D K G C) (laws : HasLaws x) where
  converges : (a b : History D K G C) → Converges x a b
  converges a b possible_a possible_b same orderless =
      (selection_same x laws a b possible_a possible_b same orderless, certify_alike)
    where
      certify_alike : HasNoBadVote x a → (kind : Kind) → is_settled x a kind ≡ true
          → CertifyAlike x a b kind
      certify_alike clean kind settled after_a after_b follow_a follow_b =
          certifies_exactly x laws a clean kind settled after_a follow_a
          ∙ (ap (λ c. c || has_valid_quorum x a kind) (certified_same x laws a b possible_a possible_b same orderless kind)
          ∙ (ap (λ q. is_certified b kind || q) (quorum_same x laws a b possible_a possible_b same orderless kind)
          ∙ sym (certifies_exactly x laws b (clean_too x laws a b possible_a possible_b same orderless clean) kind
          (sym (settled_same x laws a b possible_a possible_b same orderless kind) ∙ settled) after_b follow_b)))

  -- The order of calls is free in every round.
  pub order_is_free : OrderIsFree x
  order_is_free some = (certifies_exactly x laws, converges)
