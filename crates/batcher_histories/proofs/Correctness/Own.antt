-- What comes of own votes, and what certificates from outside keep right.
use Rattle.batcher_histories.proofs.Words.{find, MatchBool, ◌≡◌, ◌∙◌, ◌≤◌, ◌==◌, ◌&&◌, ◌||◌, ◌++◌, [], ℕ, Bool, true, false, cond, nat_lt, List, filter, Option}
use Rattle.batcher_histories.proofs.Words.{Some, None, is_some, Result, Ok, refl, sym, ap, subst, arith, Proposal, Vote, Activity, Kind, Notarization}
use Rattle.batcher_histories.proofs.Words.{Nullification, Finalization, OwnFault, Mode, Retaining, Releasing, Skipped, Outcome}
use Rattle.batcher_histories.proofs.Words.{Added, Duplicate, Conflicting, count, Meaning, Config, is_kind, kind_of, signer_of, is_vote_of, is_eligible}
use Rattle.batcher_histories.proofs.Words.{proposal_of, fixes, is_fixed, PerKind, of_kind, TrackerState, VerifierState, TrackerView, RoundState}
use Rattle.batcher_histories.proofs.Words.{Observed, unseen, in_full, as_facts, shown, observed, observed_opposite, is_seen, kept_vote, outcome_by, outcome_of}
use Rattle.batcher_histories.proofs.Words.{is_released_in, conflicts_with, RecordsKind, ReleasesKind, SameTrackerState, AddsVote, MayFix, CompletesKind}
use Rattle.batcher_histories.proofs.Words.{restored_by_fix, IsRight, AfterOwn, fixed_by, unopposed_result, duplicate_result, own_result, own_result_by}
use Rattle.batcher_histories.proofs.Words.{report_by, is_added, is_kept, BuffersOnlyKept, fixes_fixed, fixes_any}

pub ok_is : {A B : Type 0} (a b : A) → ◌≡◌ {A = Result A B} (Ok a) (Ok b) → a ≡ b
ok_is a b h = cc

pub kept_outcome : (outcome : Outcome) → is_kept outcome ≡ true → outcome ≡ Added true
kept_outcome (Added true) h = refl
kept_outcome (Added false) h = absurd (cc)
kept_outcome (Duplicate retained) h = absurd (cc)
kept_outcome Conflicting h = absurd (cc)

module _ {G D : Type 0} where
  pub unopposed : (o : Observed G D) (kind : Kind) (outcome : Outcome) → is_some (shown o) ≡ false
      → own_result_by o kind outcome ≡ unopposed_result kind outcome
  unopposed unseen kind outcome h = refl
  unopposed (in_full vote) kind outcome h = absurd (cc)
  unopposed (as_facts facts) kind outcome h = absurd (cc)

  pub own_result_of : (same : D → D → Bool) (held : TrackerState G D) (vote : Vote G D)
      (selected : Option (Proposal D)) (k : Kind) (o : Outcome) (r : Result Outcome OwnFault)
      → is_some (shown (observed_opposite held vote)) ≡ false → k ≡ kind_of vote →
      o ≡ outcome_by same selected (of_kind held.compacted (kind_of vote))
      (observed held (kind_of vote) (signer_of vote)) vote → r ≡ unopposed_result k o →
      r ≡ own_result_by (observed_opposite held vote) (kind_of vote)
      (outcome_by same selected (of_kind held.compacted (kind_of vote))
      (observed held (kind_of vote) (signer_of vote)) vote)
  own_result_of same held vote selected k o r none kind_is outcome_is is =
      is ∙ ap (λ k. unopposed_result k o) kind_is ∙ ap (λ o. unopposed_result (kind_of vote) o) outcome_is
      ∙ sym (unopposed (observed_opposite held vote) (kind_of vote) _ none)

  pub in_range : (same : D → D → Bool) (participants : ℕ) (held : TrackerState G D)
      (selected : Option (Proposal D)) (vote : Vote G D) → nat_lt (signer_of vote) participants
      ≡ true
      → outcome_of same participants held selected vote
      ≡ outcome_by same selected (of_kind held.compacted (kind_of vote))
      (observed held (kind_of vote) (signer_of vote)) vote
  in_range same participants held selected vote below = rw below refl

duplicate_is : (kind : Kind) (r : Outcome) → duplicate_result kind ≡ Ok r → r ≡ Duplicate true
duplicate_is Notarization r h = absurd (cc)
duplicate_is Nullification r h = sym (ok_is _ r h)
duplicate_is Finalization r h = absurd (cc)

unopposed_is : (kind : Kind) (o r : Outcome) → unopposed_result kind o ≡ Ok r → r ≡ o
unopposed_is kind (Added retained) r h = sym (ok_is _ r h)
unopposed_is kind (Duplicate true) r h = duplicate_is kind r h
unopposed_is kind (Duplicate false) r h = sym (ok_is _ r h)
unopposed_is kind Conflicting r h = absurd (cc)

-- what comes of an own vote that isn't refused is what recording it answers
pub result_is : {G D : Type 0} (o : Observed G D) (kind : Kind) (outcome r : Outcome)
    → own_result_by o kind outcome ≡ Ok r → r ≡ outcome
result_is unseen kind outcome r h = unopposed_is kind outcome r h
result_is (in_full vote) kind outcome r h = absurd (cc)
result_is (as_facts facts) kind outcome r h = absurd (cc)

-- and nothing was seen that excludes it
pub own_unseen : {G D : Type 0} (o : Observed G D) (kind : Kind) (outcome r : Outcome)
    → own_result_by o kind outcome ≡ Ok r → is_seen o ≡ false
own_unseen unseen kind outcome r h = refl
own_unseen (in_full vote) kind outcome r h = absurd (cc)
own_unseen (as_facts facts) kind outcome r h = absurd (cc)

module _ {G D : Type 0} (same : D → D → Bool) where
  pub may_fix_selects : (old : VerifierState G D) (kept : PerKind (List (Vote G D)))
      (o : Option (Proposal D)) (new : VerifierState G D) → MayFix same old kept o new
      → new.selection
      ≡ fixes old.selection o
  may_fix_selects old kept None new h = ap (λ b. b.selection) h
  may_fix_selects old kept (Some p) new h = h.selection

  pub may_fix_certifies : (old : VerifierState G D) (kept : PerKind (List (Vote G D)))
      (o : Option (Proposal D)) (new : VerifierState G D) → MayFix same old kept o new
      → (kind : Kind)
      → of_kind new.certified kind ≡ of_kind old.certified kind
  may_fix_certifies old kept None new h kind = ap (λ b. of_kind b.certified kind) h
  may_fix_certifies old kept (Some p) new h kind = (h.buffers kind).certified

  unseen_known : (held : TrackerState G D) (selected : Option (Proposal D)) (compacted : Bool)
      (own : Observed G D) (vote : Vote G D)
      → is_added (outcome_by same selected compacted own vote) ≡ false → is_seen own ≡ true
  unseen_known held selected compacted unseen vote h = absurd (cc)
  unseen_known held selected compacted (in_full kept) vote h = refl
  unseen_known held selected compacted (as_facts facts) vote h = refl

  -- of a vote that isn't added an earlier one of its kind and signer was seen
  pub seen_before : (held : TrackerState G D) (selected : Option (Proposal D)) (vote : Vote G D)
      → is_added (outcome_by same selected (of_kind held.compacted (kind_of vote))
      (observed held (kind_of vote) (signer_of vote)) vote) ≡ false
      → is_seen (observed held (kind_of vote) (signer_of vote)) ≡ true
  seen_before held selected vote h =
      unseen_known held selected (of_kind held.compacted (kind_of vote)) (observed held (kind_of vote) (signer_of vote)) vote h

-- whether a vote is kept doesn't depend on the proposal that is selected
pub same_kept : {G D : Type 0} (same : D → D → Bool) (selected other : Option (Proposal D))
    (released : Bool) (first : Observed G D) (vote : Vote G D)
    → is_kept (outcome_by same selected released first vote)
    ≡ is_kept (outcome_by same other released first vote)
same_kept same selected other released unseen vote = refl
same_kept same selected other released (in_full kept) vote = refl
same_kept same selected other released (as_facts facts) vote =
    not_kept (conflicts_with same selected vote facts) ∙ sym (not_kept (conflicts_with same other vote facts))
  where
    not_kept : (b : Bool) → is_kept (cond b Conflicting (Duplicate false)) ≡ false
    not_kept true = refl
    not_kept false = refl

released_again : (mode : Mode) (b : Bool) → (is_released_in mode true || is_released_in mode b)
    ≡ is_released_in mode true
released_again Retaining b = refl
released_again Releasing b = refl
released_again Skipped b = refl

one_way : (b : Bool) → b ≡ true → (c : Bool) → (b || c) ≡ true
one_way true e c = refl
one_way false e c = absurd (cc)

-- A proposal that is fixed, as far as the round is concerned.
module _ {D K G C : Type 0} (m : Meaning D K G C) (same : D → D → Bool) (tracker : TrackerView G D)
    (old new : VerifierState G D) (q : ℕ) (o : Option (Proposal D)) (right : IsRight m tracker old q)
    (fixed : MayFix same old tracker.holds.kept o new) (within : BuffersOnlyKept tracker.holds new)
  where
    pub right_fixed : IsRight m tracker new q
    right_fixed =
        record {
          some = right.some;
          quorum_is = right.quorum_is;
          bound = right.bound;
          within = within;
          compacted =
              λ kind. right.compacted kind ∙ ap (λ b. is_released_in tracker.mode b) (sym (may_fix_certifies same old tracker.holds.kept o new fixed kind));
          fixed =
              λ h. ap is_fixed (may_fix_selects same old tracker.holds.kept o new fixed)
              ∙ fixes_fixed old.selection o (right.fixed (sym (may_fix_certifies same old tracker.holds.kept o new fixed Finalization) ∙ h));
        }

-- A certificate from outside: its kind is complete, its proposal fixed, and the votes of its kind
-- released.
module _ {D K G C : Type 0} (m : Meaning D K G C) (same : D → D → Bool)
    (tracker settled : TrackerView G D) (old completed new : VerifierState G D) (q : ℕ) (certified : Kind)
    (o selected : Option (Proposal D))
    (right : IsRight m tracker old q) (completes : CompletesKind same old certified completed) (fixed : MayFix same completed tracker.holds.kept o new) where
  within_completed : BuffersOnlyKept tracker.holds old → BuffersOnlyKept tracker.holds completed
  within_completed within kind i =
      fewer kind i (is_kind certified kind) (of_kind old.verified kind) (of_kind old.pending kind) (completes.verified kind) (completes.pending kind)
      (within kind i) where
        fewer : (kind : Kind) (i : ℕ) (b : Bool) (vs ps : List (Vote G D))
            → of_kind completed.verified kind ≡ cond b [] vs → of_kind completed.pending kind
            ≡ cond b [] ps → count (λ v. signer_of v == i) (vs ++ ps)
            ≤ cond (is_some (kept_vote tracker.holds kind i)) 1 0
            → count (λ v. signer_of v == i) (of_kind completed.verified kind
            ++ of_kind completed.pending kind) ≤ cond (is_some (kept_vote tracker.holds kind i)) 1 0
        fewer kind i true vs ps e f h = rw (e, f) (omega arith)
        fewer kind i false vs ps e f h = rw (e, f) h

  pub within_complete : BuffersOnlyKept tracker.holds completed
  within_complete = within_completed right.within

  now_certified : (kind : Kind) → of_kind new.certified kind
      ≡ (is_kind certified kind || of_kind old.certified kind)
  now_certified kind = may_fix_certifies same completed tracker.holds.kept o new fixed kind ∙ completes.certified kind

  done : (kind : Kind) → is_kind certified kind ≡ true → of_kind new.certified kind ≡ true
  done kind e = now_certified kind ∙ one_way (is_kind certified kind) e (of_kind old.certified kind)

  abbrev pub Empty : Kind → Type 0
  Empty kind = (of_kind new.verified kind ≡ []) × (of_kind new.pending kind ≡ [])

  emptied : (p : Option (Proposal D)) → MayFix same completed tracker.holds.kept p new
      → (kind : Kind) → is_kind certified kind ≡ true → of_kind new.certified kind ≡ true
      → Empty kind
  emptied None f kind e c = (
    ap (λ h. of_kind h.verified kind) f ∙ completes.verified kind ∙ ap (λ b. cond b [] (of_kind old.verified kind)) e,
    ap (λ h. of_kind h.pending kind) f
        ∙ completes.pending kind ∙ ap (λ b. cond b [] (of_kind old.pending kind)) e,
  )
  emptied (Some p) f kind e c = (
    (f.buffers kind).verified ∙ ap (λ b. cond b [] (filter (is_eligible same (proposal_of new.selection)) (of_kind completed.verified kind ++ []))) c,
    (f.buffers kind).pending
        ∙ ap (λ b. cond b [] (filter (is_eligible same (proposal_of new.selection))
        (of_kind completed.pending kind ++ restored_by_fix same completed tracker.holds.kept p kind))) c,
  )

  module _ (within : BuffersOnlyKept tracker.holds new)
      (participants : settled.participants ≡ tracker.participants)
      (mode : settled.mode ≡ tracker.mode)
      (releases : (kind : Kind) → ReleasesKind same tracker.holds settled.holds selected (is_kind certified kind && is_released_in tracker.mode true) kind)
      (others : (kind : Kind) → is_kind certified kind ≡ false → SameTrackerState tracker.holds settled.holds kind) where
    within_by : (kind : Kind) (i : ℕ) (b : Bool) → is_kind certified kind ≡ b
        → count (λ v. signer_of v == i) (of_kind new.verified kind ++ of_kind new.pending kind)
        ≤ cond (is_some (kept_vote settled.holds kind i)) 1 0
    within_by kind i true e = let none = emptied o fixed kind e (done kind e) in rw (none.0, none.1) (omega arith)
    within_by kind i false e =
        subst (λ votes. count (λ v. signer_of v == i) (of_kind new.verified kind ++ of_kind new.pending kind)
        ≤ cond (is_some (find (is_vote_of kind i) votes)) 1 0) (sym (others kind e).kept) (within kind i)

    compacted_by : (kind : Kind) (b : Bool) → is_kind certified kind ≡ b
        → of_kind settled.holds.compacted kind
        ≡ is_released_in settled.mode (of_kind new.certified kind)
    compacted_by kind true e =
        (releases kind).compacted ∙ ap (λ b. (b && is_released_in tracker.mode true) || of_kind tracker.holds.compacted kind) e
        ∙ ap (λ b. is_released_in tracker.mode true || b) (right.compacted kind)
        ∙ released_again tracker.mode (of_kind old.certified kind) ∙ ap (λ w. is_released_in w true) (sym mode)
        ∙ ap (λ b. is_released_in settled.mode b) (sym (done kind e))
    compacted_by kind false e =
        (others kind e).compacted ∙ right.compacted kind ∙ ap (λ w. is_released_in w (of_kind old.certified kind)) (sym mode)
        ∙ ap (λ b. is_released_in settled.mode b) (sym (now_certified kind ∙ ap (λ b. b || of_kind old.certified kind) e))

    still_fixed : (is_kind certified Finalization ≡ true → is_some o ≡ true) → (b : Bool)
        → is_kind certified Finalization ≡ b → of_kind new.certified Finalization ≡ true
        → is_fixed new.selection ≡ true
    still_fixed for true e h = ap is_fixed (may_fix_selects same completed tracker.holds.kept o new fixed) ∙ fixes_any completed.selection o (for e)
    still_fixed for false e h =
        let before = right.fixed (sym (now_certified Finalization ∙ ap (λ b. b || of_kind old.certified Finalization) e) ∙ h) in
        ap is_fixed (may_fix_selects same completed tracker.holds.kept o new fixed)
        ∙ fixes_fixed completed.selection o (ap is_fixed completes.selection ∙ before)

    pub right_certified : (is_kind certified Finalization ≡ true → is_some o ≡ true)
        → IsRight m settled new q
    right_certified for =
        record {
          some = right.some;
          quorum_is = right.quorum_is;
          bound = participants ∙ right.bound;
          within = λ kind i. within_by kind i (is_kind certified kind) refl;
          compacted = λ kind. compacted_by kind (is_kind certified kind) refl;
          fixed = still_fixed for (is_kind certified Finalization) refl;
        }

-- The step at an own vote, by what is done in turn: its proposal is fixed, and then it is recorded
-- and waits.
module _ {D K G C : Type 0} (x : Config D K G C) (old new : RoundState G D) (vote : Vote G D)
    (outcome taken : Outcome) (fixed : VerifierState G D) (participants : ℕ) where
  pub own_step : (before : TrackerState G D) (report : Option (Activity G D))
      → own_result x old vote
      ≡ Ok outcome → report ≡ report_by outcome vote → new.forwarded ≡ old.forwarded →
      MayFix x.same_digest old.buffered old.tracked.kept (fixed_by vote) fixed → before
      ≡ old.tracked → nat_lt (signer_of vote) participants ≡ true →
      taken ≡ outcome_of x.same_digest participants before (proposal_of fixed.selection) vote →
      ((kind : Kind) → RecordsKind x.same_digest before new.tracked (proposal_of fixed.selection)
      true vote kind) →
      MatchBool (is_kept taken) (AddsVote x.same_digest fixed vote true new.buffered)
      (new.buffered ≡ fixed) →
      AfterOwn x old vote outcome report new
  own_step before report result report_is forwarded fixes_it same below took tracked eligible_then =
      let recorded : taken ≡ outcome_by x.same_digest (proposal_of fixed.selection) (of_kind old.tracked.compacted (kind_of vote))
      (observed old.tracked (kind_of vote) (signer_of vote)) vote =
      took ∙ in_range x.same_digest participants before (proposal_of fixed.selection) vote below
      ∙ ap (λ h. outcome_by x.same_digest (proposal_of fixed.selection) (of_kind h.compacted (kind_of vote)) (observed h (kind_of vote) (signer_of vote))
      vote) same in
      let is : is_kept taken ≡ is_kept outcome = ap is_kept recorded
      ∙ same_kept x.same_digest (proposal_of fixed.selection) (proposal_of old.buffered.selection) (of_kind old.tracked.compacted (kind_of vote))
      (observed old.tracked (kind_of vote) (signer_of vote)) vote
      ∙ sym (ap is_kept (result_is (observed_opposite old.tracked vote) (kind_of vote) _ _ result)) in
      record {
        outcome_is = result;
        report_is = report_is;
        forwarded = forwarded;
        fixed = fixed;
        fixes = fixes_it;
        tracked =
            λ kind. subst (λ h. RecordsKind x.same_digest h new.tracked (proposal_of fixed.selection) true vote kind) same (tracked kind);
        buffered = subst (λ b. MatchBool b (AddsVote x.same_digest fixed vote true new.buffered) (new.buffered ≡ fixed)) is eligible_then;
      }
