-- Valid votes: a construction changes nothing of those of a settled kind, and where no bad vote was
-- accepted they are a quorum
-- where its usable votes are.
use Rattle.batcher_histories.proofs.Words.{inl, inr, ◌≡◌, ◌≤◌, ◌+◌, Bool, true, false, not, cond, ◌&&◌, ◌||◌, [], ◌∷◌, length, Option, Some, None, refl, ap}
use Rattle.batcher_histories.proofs.Words.{sym, ◌∙◌, subst, arith, ⊎_elim, filter, is_some, option_and_then, option_or, or_left, or_right, or_cases, or_parts}
use Rattle.batcher_histories.proofs.Words.{cond_both, false_from_ne_true, false≢true, list_all-from_AllPass, filter_agree, Proposal, Vote, Kind, Certificate}
use Rattle.batcher_histories.proofs.Words.{Batch, Config, quorum_in, count, is_some_and, kind_of, kind_certified, has_proposals, is_of_kind, is_for}
use Rattle.batcher_histories.proofs.Words.{is_eligible, count-append, count-true, count-filter_le, filter_all, none_fails, filter_twice, is_kind-true}
use Rattle.batcher_histories.proofs.Words.{proposal_of, is_skipped, History, certificate_given, first_votes, selected_proposal, is_certified, fixing_evidence}
use Rattle.batcher_histories.proofs.Words.{is_valid, is_counted, counted_votes, valid_votes, eligible_votes, proven_votes, fresh_votes, IsPossible}
use Rattle.batcher_histories.proofs.Words.{proposal_certified, HasNoBadVote, is_settled}
use Rattle.batcher_histories.proofs.History.Laws.{HasLaws}
use Rattle.batcher_histories.proofs.History.Distinct.{option_cases, some_of}
use Rattle.batcher_histories.proofs.History.Past.{closed_is_empty, open_eligible}
use Rattle.batcher_histories.proofs.History.Attempts.{quorum_positive}
use Rattle.batcher_histories.proofs.Headline.Attesting.{usable_within}
use Rattle.batcher_histories.proofs.Simulation.Evidence.{IsEvidence}
use Rattle.batcher_histories.proofs.Quorums.Left.{given_evidence}
use Rattle.batcher_histories.proofs.Simulation.Settled.{constructed, selection_then, evidence_selects}
use Rattle.batcher_histories.proofs.Certificates.Backing.{gave}

-- by whether a vote is of a kind, and then carries no proposal
by_kind : (k n c : Bool) → (k ≡ true → n ≡ true) → (k && (n || c)) ≡ k
by_kind true true c h = refl
by_kind true false c h = absurd (false≢true (h refl))
by_kind false n c h = refl

module _ {D K G C : Type 0} (x : Config D K G C) (kind : Kind) where
  -- Votes that carry no proposal all count and wait.
  all_count : not (has_proposals kind) ≡ true → (selected : Option (Proposal D)) (v : Vote G D)
      → (is_of_kind kind v && is_counted x selected v) ≡ is_of_kind kind v
  all_count none selected v =
      by_kind (is_of_kind kind v) (not (has_proposals (kind_of v))) (is_some_and selected (λ p. is_for x.same_digest p v))
      (λ is. ap (λ k. not (has_proposals k)) (is_kind-true (kind_of v) kind is) ∙ none)

  waiting_count : (selected : Option (Proposal D))
      → (not (has_proposals kind) || is_some selected) ≡ true → (v : Vote G D)
      → (is_of_kind kind v && is_eligible x.same_digest selected v)
      ≡ (is_of_kind kind v && is_counted x selected v)
  waiting_count (Some p) settled v = refl
  waiting_count None settled v =
      by_kind (is_of_kind kind v) true true (λ is. refl) ∙ sym (all_count (carry_none settled) None v)
    where
      carry_none : {b : Bool} → (b || false) ≡ true → b ≡ true
      carry_none h = ⊎_elim (λ yes. yes) (λ no. absurd (false≢true no)) (or_cases _ false h)

-- WHAT A CONSTRUCTION LEAVES AS IT IS
module _ {D K G C : Type 0} (x : Config D K G C) (laws : HasLaws x) (past : History D K G C)
    (given : Option (Batch (Certificate C D))) (possible : IsPossible x (constructed x past given ∷ past)) where
  gives_evidence : IsEvidence x past (fixing_evidence (constructed x past given))
  gives_evidence =
      ⊎_elim
      (λ none. inl (ap (λ o. option_or None (option_and_then proposal_certified (option_or None o))) none))
      (λ (some : (c : Certificate C D) × (certificate_given (constructed x past given).1 ≡ Some c)).
      let g = gave x past (constructed x past given) laws possible some.0 some.1 in
      subst (λ e. IsEvidence x past e) (sym (ap (λ o. option_or None (option_and_then proposal_certified o)) g.certificate))
      (given_evidence x laws past (kind_certified some.0) g.batch some.0 g.after g.gives))
      (option_cases (certificate_given (constructed x past given).1))

  -- the selected proposal, if one is
  selected_stays : (p : Proposal D) → selected_proposal x past ≡ Some p
      → selected_proposal x (constructed x past given ∷ past) ≡ Some p
  selected_stays p selected = by_evidence gives_evidence
    where
      by_evidence : IsEvidence x past (fixing_evidence (constructed x past given))
          → selected_proposal x (constructed x past given ∷ past) ≡ Some p
      by_evidence (inl none) = ap proposal_of (selection_then x past given None none) ∙ selected
      by_evidence (inr (q, (is, inl unselected))) = absurd (cc)
      by_evidence (inr (q, (is, inr same))) =
          evidence_selects x past given (fixing_evidence (constructed x past given)) q refl is (inr same)
          ∙ (sym same ∙ selected)

  pub settled_stays : (kind : Kind) → is_settled x past kind ≡ true
      → is_settled x (constructed x past given ∷ past) kind ≡ true
  settled_stays kind settled =
      ⊎_elim
      (λ none. or_left _ _ none)
      (λ some. let p = some_of (selected_proposal x past) some in or_right _ _ (ap is_some (selected_stays p.0 p.1)))
      (or_cases _ _ settled)

  pub valid_stay : (kind : Kind) → is_settled x past kind ≡ true
      → valid_votes x (constructed x past given ∷ past) kind ≡ valid_votes x past kind
  valid_stay kind settled =
      ⊎_elim
      (λ none.
      ap (λ votes. filter (is_valid x) (cond (is_skipped x.mode) [] votes))
      (filter_agree (counts (selected_proposal x (constructed x past given ∷ past))) (counts (selected_proposal x past))
      (λ v. all_count x kind none (selected_proposal x (constructed x past given ∷ past)) v ∙ sym (all_count x kind none (selected_proposal x past) v))
      (first_votes x past)))
      (λ some.
      let p = some_of (selected_proposal x past) some in
      ap (λ o. filter (is_valid x) (cond (is_skipped x.mode) [] (filter (counts o) (first_votes x past))))
      (selected_stays p.0 p.1 ∙ sym p.1))
      (or_cases _ _ settled)
    where
      counts : Option (Proposal D) → Vote G D → Bool
      counts o v = is_of_kind kind v && is_counted x o v

-- WHERE NO BAD VOTE WAS ACCEPTED
module _ {D K G C : Type 0} (x : Config D K G C) (laws : HasLaws x) (past : History D K G C)
    (possible : IsPossible x past) (kind : Kind) (settled : is_settled x past kind ≡ true) where
  -- the eligible votes of an open kind that is settled are the counted ones
  eligible_count : (is_certified past kind || is_skipped x.mode) ≡ false
      → eligible_votes x past kind ≡ counted_votes x past kind
  eligible_count still =
      open_eligible x past kind (filter (is_of_kind kind) (first_votes x past)) still
      ∙ (filter_twice (is_eligible x.same_digest (selected_proposal x past)) (is_of_kind kind) (first_votes x past)
      ∙ (filter_agree _ counts (waiting_count x kind (selected_proposal x past) settled) (first_votes x past)
      ∙ sym (ap (λ b. cond b [] (filter counts (first_votes x past))) (or_parts (is_certified past kind) (is_skipped x.mode) still).1)))
    where
      counts : Vote G D → Bool
      counts v = is_of_kind kind v && is_counted x (selected_proposal x past) v

  all_valid : HasNoBadVote x past → valid_votes x past kind ≡ counted_votes x past kind
  all_valid clean =
      filter_all (is_valid x) (counted_votes x past kind)
      (cond_both (is_skipped x.mode) [] (filter counts (first_votes x past)) (λ votes. count fails votes ≡ 0)
      (λ skips. refl)
      (λ runs.
      omega (
        arith,
        count-filter_le fails counts (first_votes x past),
        none_fails (is_valid x) (first_votes x past) (list_all-from_AllPass (is_valid x) (first_votes x past) clean),
      )))
    where
      fails : Vote G D → Bool
      fails v = not (is_valid x v)

      counts : Vote G D → Bool
      counts v = is_of_kind kind v && is_counted x (selected_proposal x past) v

  -- A quorum that is usable is valid.
  pub enough_valid : HasNoBadVote x past
      → quorum_in x ≤ length (proven_votes x past kind) + length (fresh_votes x past kind)
      → quorum_in x ≤ length (valid_votes x past kind)
  enough_valid clean reaches =
      omega (
        arith,
        reaches,
        ap length (all_valid clean),
        ap length (eligible_count still),
        usable_within x past kind (λ _. true),
        count-append (λ _. true) (fresh_votes x past kind) (proven_votes x past kind),
        count-true (eligible_votes x past kind),
        count-true (proven_votes x past kind),
        count-true (fresh_votes x past kind),
      )
    where
      still : (is_certified past kind || is_skipped x.mode) ≡ false
      still =
          false_from_ne_true _ (λ closed.
          let none = closed_is_empty x past kind closed in
          absurd (omega (arith, reaches, quorum_positive x laws, ap length none.0, ap length none.1)))
