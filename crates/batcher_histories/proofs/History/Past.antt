-- What holds of the first votes, of the trials and of the eligible votes of a history.
use Rattle.batcher_histories.proofs.Words.{◌≡◌, ℕ, Bool, true, false, not, ◌&&◌, ◌||◌, List, [], ◌∷◌, map, Option, Some, None, refl, ap, sym, ◌∙◌, ⊎_elim, eqb}
use Rattle.batcher_histories.proofs.Words.{ltb, subst, filter, is_some, list_any, cases_Bool, and_parts, or_cases, false_from_ne_true, list_any-append}
use Rattle.batcher_histories.proofs.Words.{first_vote, first_votes, is_free, own_first_votes, Event, History, batch_given, own_votes, count, is_some_and}
use Rattle.batcher_histories.proofs.Words.{is_restored, is_certified, restored_votes, selected_proposal, votes_restored_by, Config, fresh_votes, holds_vote}
use Rattle.batcher_histories.proofs.Words.{is_among, is_trusted, proven_votes, ready_kind, eligible_votes, was_eligible, trials, was_invalid, with_batch}
use Rattle.batcher_histories.proofs.Words.{eligible_among, tries_kind, is_skipped, is_kind, is_of_kind, is_vote_of, kind_of, signer_of, is_eligible}
use Rattle.batcher_histories.proofs.Words.{Certificate, Kind, Vote, count-map, count_same, count-filter, is_kind-true, CertificateCall, ConstructCall}
use Rattle.batcher_histories.proofs.Words.{ForwardCall, LeaderCall, MissingCall, NetworkCall, OwnCall, Batch}
use Rattle.batcher_histories.proofs.History.Distinct.{free_apart, new_votes, new_cases, firsts_apart, filled_stays, IsAt, any_count, any_filtered, any_is_found}
use Rattle.batcher_histories.proofs.History.Distinct.{count_at, positive, some_where}

module _ {D K G C : Type 0} (x : Config D K G C) where
  -- the eligible votes of a kind, by signer
  pub kind_and_signer : (k w s : Bool) → (k && (w && s)) ≡ (w && (k && s))
  kind_and_signer true true s = refl
  kind_and_signer true false s = refl
  kind_and_signer false true s = refl
  kind_and_signer false false s = refl

  pub among_eligible : (past : History D K G C) (kind : Kind) (i : ℕ) →
      is_among i (map signer_of (eligible_votes x past kind))
      ≡ (not (is_certified past kind || is_skipped x.mode)
      && is_some_and (first_vote x past kind i)
      (is_eligible x.same_digest (selected_proposal x past)))
  among_eligible past kind i =
      ⊎_elim
      (λ closed. rw closed refl)
      (λ still. rw still still_open)
      (cases_Bool (is_certified past kind || is_skipped x.mode))
    where
      passed : List (Vote G D)
      passed = filter (is_eligible x.same_digest (selected_proposal x past)) (filter (is_of_kind kind) (first_votes x past))

      still_open : is_among i (map signer_of passed)
          ≡ is_some_and (first_vote x past kind i)
          (is_eligible x.same_digest (selected_proposal x past))
      still_open =
          any_count (λ j. eqb j i) (map signer_of passed)
          ∙ (ap (λ n. ltb 0 n)
          (count-map (λ j. eqb j i) signer_of passed
          ∙ (count-filter (λ v. eqb (signer_of v) i) (is_eligible x.same_digest (selected_proposal x past)) (filter (is_of_kind kind) (first_votes x past))
          ∙ (count-filter (λ v. is_eligible x.same_digest (selected_proposal x past) v && eqb (signer_of v) i) (is_of_kind kind) (first_votes x past)
          ∙ (count_same _ (λ v. is_eligible x.same_digest (selected_proposal x past) v && is_vote_of kind i v) (first_votes x past)
          (λ v. kind_and_signer (is_of_kind kind v) (is_eligible x.same_digest (selected_proposal x past) v) (eqb (signer_of v) i))
          ∙ count_at (is_eligible x.same_digest (selected_proposal x past)) (first_votes x past) kind i (firsts_apart x past)))))
          ∙ positive (is_some_and (first_vote x past kind i) (is_eligible x.same_digest (selected_proposal x past))))

  -- what a batch has tried and found, after one more event
  of_kind_alike : (k l : Kind) (f : Kind → Bool) → (is_kind k l && f k) ≡ (is_kind k l && f l)
  of_kind_alike k l f =
      ⊎_elim (λ e. let same : k ≡ l = is_kind-true k l e in ap (λ m. is_kind k l && f m) same) (λ e. rw e refl) (cases_Bool (is_kind k l))

  attempt_with : (past : History D K G C) (batch : Option (Batch (Certificate C D)))
      (ready : Option Kind) (v : Vote G D) → ready_kind x past ≡ ready →
      was_eligible (with_batch x past (trials x past) batch) v
      ≡ (((is_some batch && is_some_and ready (λ k. is_kind k (kind_of v)))
      && is_among (signer_of v) (map signer_of (eligible_votes x past (kind_of v))))
      || was_eligible (trials x past) v)
  attempt_with past None ready v e = refl
  attempt_with past (Some batch) None v e = rw e refl
  attempt_with past (Some batch) (Some k) v e =
      rw e (ap (λ b. b || was_eligible (trials x past) v) (of_kind_alike k (kind_of v) (λ l. is_among (signer_of v) (map signer_of (eligible_votes x past l)))))

  pub tried_after : (past : History D K G C) (event : Event D K G C) (v : Vote G D) →
      was_eligible (trials x (event ∷ past)) v
      ≡ ((tries_kind x past event.1 (kind_of v)
      && is_among (signer_of v) (map signer_of (eligible_votes x past (kind_of v))))
      || was_eligible (trials x past) v)
  tried_after past event v = attempt_with past (batch_given event.1) (ready_kind x past) v refl

  abbrev pub invalid_in : Option (Batch (Certificate C D)) → List ℕ
  invalid_in None = []
  invalid_in (Some batch) = map (λ i. i.0) batch.invalid

  invalid_with : (past : History D K G C) (batch : Option (Batch (Certificate C D)))
      (ready : Option Kind) (v : Vote G D) → ready_kind x past ≡ ready →
      was_invalid (with_batch x past (trials x past) batch) v
      ≡ (((is_some batch && is_some_and ready (λ k. is_kind k (kind_of v)))
      && is_among (signer_of v) (invalid_in batch)) || was_invalid (trials x past) v)
  invalid_with past None ready v e = refl
  invalid_with past (Some batch) None v e = rw e refl
  invalid_with past (Some batch) (Some k) v e = rw e refl

  pub invalid_after : (past : History D K G C) (event : Event D K G C) (v : Vote G D) →
      was_invalid (trials x (event ∷ past)) v
      ≡ ((tries_kind x past event.1 (kind_of v)
      && is_among (signer_of v) (invalid_in (batch_given event.1)))
      || was_invalid (trials x past) v)
  invalid_after past event v = invalid_with past (batch_given event.1) (ready_kind x past) v refl

  -- what was tried has a first vote
  pub tried_filled : (past : History D K G C) (v : Vote G D) → was_eligible (trials x past) v ≡ true
      → is_some (first_vote x past (kind_of v) (signer_of v)) ≡ true
  tried_filled [] v h = cc
  tried_filled (event ∷ past) v h =
      filled_stays x past event (kind_of v) (signer_of v)
      (⊎_elim
      (λ now. some_where (is_eligible x.same_digest (selected_proposal x past)) _
      (and_parts _ _ (sym (among_eligible past (kind_of v) (signer_of v)) ∙ (and_parts _ _ now).1)).1)
      (λ before. tried_filled past v before)
      (or_cases _ _ (sym (tried_after past event v) ∙ h)))

  -- own first votes and restored ones are first votes
  own_is_new : (past : History D K G C) (event : Event D K G C) (test : Vote G D → Bool) →
      list_any test (filter (is_free (first_votes x past)) (own_votes event.0)) ≡ true
      → list_any test (new_votes x past event) ≡ true
  own_is_new past (NetworkCall sender vote, answer) test h = cc
  own_is_new past (OwnCall vote, answer) test h = h
  own_is_new past (CertificateCall certificate, answer) test h = h
  own_is_new past (LeaderCall named, answer) test h = h
  own_is_new past (ConstructCall, answer) test h = h
  own_is_new past (ForwardCall me, answer) test h = h
  own_is_new past (MissingCall p, answer) test h = h

  pub own_filled : (past : History D K G C) (v : Vote G D) → holds_vote (own_first_votes x past) v
      ≡ true → is_some (first_vote x past (kind_of v) (signer_of v)) ≡ true
  own_filled [] v h = cc
  own_filled (event ∷ past) v h =
      ⊎_elim
      (λ now. sym (any_is_found (first_votes x (event ∷ past)) (kind_of v) (signer_of v))
      ∙ (list_any-append (is_vote_of (kind_of v) (signer_of v)) (new_votes x past event) (first_votes x past)
      ∙ ap (λ b. b || list_any (is_vote_of (kind_of v) (signer_of v)) (first_votes x past))
      (own_is_new past event (is_vote_of (kind_of v) (signer_of v)) now)))
      (λ before. filled_stays x past event (kind_of v) (signer_of v) (own_filled past v before))
      (or_cases _ _ (sym (list_any-append (is_vote_of (kind_of v) (signer_of v)) (filter (is_free (first_votes x past)) (own_votes event.0))
      (own_first_votes x past)) ∙ h))

  pub restored_filled : (past : History D K G C) (v : Vote G D)
      → holds_vote (restored_votes x past) v ≡ true
      → is_some (first_vote x past (kind_of v) (signer_of v)) ≡ true
  restored_filled [] v h = cc
  restored_filled (event ∷ past) v h =
      filled_stays x past event (kind_of v) (signer_of v)
      (⊎_elim
      (λ now. some_where (is_restored x past event) _ (sym
      (any_filtered (is_restored x past event) (first_votes x past) (kind_of v) (signer_of v) (firsts_apart x past)) ∙ now))
      (λ before. restored_filled past v before)
      (or_cases _ _ (sym (list_any-append (is_vote_of (kind_of v) (signer_of v)) (votes_restored_by x past event) (restored_votes x past)) ∙ h)))

  -- whether a first vote is trusted, after one more event
  no_new_own : (past : History D K G C) (event : Event D K G C) (v : Vote G D)
      → IsAt (first_votes x past) v →
      list_any (is_vote_of (kind_of v) (signer_of v))
      (filter (is_free (first_votes x past)) (own_votes event.0)) ≡ false
  no_new_own past event v found =
      false_from_ne_true _ (λ there.
      let some : list_any (is_vote_of (kind_of v) (signer_of v)) (new_votes x past event)
      ≡ true = own_is_new past event (is_vote_of (kind_of v) (signer_of v)) there in
      ⊎_elim
      (λ none. let no : false ≡ true = subst (λ (vs : List (Vote G D)). list_any (is_vote_of (kind_of v) (signer_of v)) vs ≡ true) none some in cc)
      (λ (one : (w : Vote G D) × (new_votes x past event ≡ w ∷ []) × (is_free (first_votes x past) w ≡ true)).
      let k : list_any (is_vote_of (kind_of v) (signer_of v)) (one.0 ∷ [])
      ≡ true = subst (λ (vs : List (Vote G D)). list_any (is_vote_of (kind_of v) (signer_of v)) vs ≡ true) one.1 some in
      let e : is_vote_of (kind_of v) (signer_of v) one.0 ≡ false = free_apart (first_votes x past) one.0 v (kind_of v) (signer_of v) one.2 found in
      let no : (false || false) ≡ true = rw e at k in cc)
      (new_cases x past event))

  pub own_stays : (past : History D K G C) (event : Event D K G C) (v : Vote G D)
      → IsAt (first_votes x past) v →
      holds_vote (own_first_votes x (event ∷ past)) v ≡ holds_vote (own_first_votes x past) v
  own_stays past event v found =
      list_any-append (is_vote_of (kind_of v) (signer_of v)) (filter (is_free (first_votes x past)) (own_votes event.0)) (own_first_votes x past)
      ∙ ap (λ b. b || holds_vote (own_first_votes x past) v) (no_new_own past event v found)

  pub restored_after : (past : History D K G C) (event : Event D K G C) (v : Vote G D)
      → IsAt (first_votes x past) v →
      holds_vote (restored_votes x (event ∷ past)) v
      ≡ (is_restored x past event v || holds_vote (restored_votes x past) v)
  restored_after past event v found =
      list_any-append (is_vote_of (kind_of v) (signer_of v)) (votes_restored_by x past event) (restored_votes x past)
      ∙ ap (λ b. b || holds_vote (restored_votes x past) v)
      (any_filtered (is_restored x past event) (first_votes x past) (kind_of v) (signer_of v) (firsts_apart x past)
      ∙ ap (λ o. is_some_and o (is_restored x past event)) found)

  -- of a kind that is closed nothing waits
  pub nothing_eligible : (past : History D K G C) (kind : Kind) (votes : List (Vote G D))
      → (is_certified past kind || is_skipped x.mode) ≡ true → eligible_among x past kind votes ≡ []
  nothing_eligible past kind votes closed = rw closed refl

  pub open_eligible : (past : History D K G C) (kind : Kind) (votes : List (Vote G D))
      → (is_certified past kind || is_skipped x.mode) ≡ false →
      eligible_among x past kind votes ≡ filter
      (is_eligible x.same_digest (selected_proposal x past))
      votes
  open_eligible past kind votes still = rw still refl

  -- the fresh and the proven votes by counts over the first votes
  pub closed_is_empty : (past : History D K G C) (kind : Kind)
      → (is_certified past kind || is_skipped x.mode) ≡ true →
      (fresh_votes x past kind ≡ []) × (proven_votes x past kind ≡ [])
  closed_is_empty past kind h = (rw h refl, rw h refl)

  pub count_passed : (past : History D K G C) (kind : Kind) (test : Vote G D → Bool)
      → (is_certified past kind || is_skipped x.mode) ≡ false →
      count test (eligible_votes x past kind)
      ≡ count (λ v. is_of_kind kind v &&
      (is_eligible x.same_digest (selected_proposal x past) v && test v)) (first_votes x past)
  count_passed past kind test still =
      ap (count test) (open_eligible past kind (filter (is_of_kind kind) (first_votes x past)) still)
      ∙ (count-filter test (is_eligible x.same_digest (selected_proposal x past)) (filter (is_of_kind kind) (first_votes x past))
      ∙ count-filter (λ v. is_eligible x.same_digest (selected_proposal x past) v && test v) (is_of_kind kind) (first_votes x past))

  pub count_fresh : (past : History D K G C) (kind : Kind) (test : Vote G D → Bool)
      → (is_certified past kind || is_skipped x.mode) ≡ false →
      count test (fresh_votes x past kind)
      ≡ count (λ v. is_of_kind kind v &&
      (is_eligible x.same_digest (selected_proposal x past) v
      && (not (is_trusted x past v || was_eligible (trials x past) v) && test v)))
      (first_votes x past)
  count_fresh past kind test still =
      count-filter test (λ v. not (is_trusted x past v || was_eligible (trials x past) v)) (eligible_votes x past kind)
      ∙ count_passed past kind (λ v. not (is_trusted x past v || was_eligible (trials x past) v) && test v) still

  pub count_proven : (past : History D K G C) (kind : Kind) (test : Vote G D → Bool)
      → (is_certified past kind || is_skipped x.mode) ≡ false →
      count test (proven_votes x past kind)
      ≡ count (λ v. is_of_kind kind v &&
      (is_eligible x.same_digest (selected_proposal x past) v
      && (((is_trusted x past v || was_eligible (trials x past) v)
      && not (was_invalid (trials x past) v)) && test v))) (first_votes x past)
  count_proven past kind test still =
      count-filter test (λ v. (is_trusted x past v || was_eligible (trials x past) v) && not (was_invalid (trials x past) v)) (eligible_votes x past kind)
      ∙ count_passed past kind (λ v. ((is_trusted x past v || was_eligible (trials x past) v) && not (was_invalid (trials x past) v)) && test v) still
