-- An own vote, from what comes of it to what it changes.
use Rattle.batcher_round.proofs.Words.{MatchBool, IsOk, ◌≡◌, ◌∙◌, Bool, true, false, ℕ, nat_lt, Option, Result, Ok, refl, sym, ap, subst, Kind, Proposal, Vote}
use Rattle.batcher_round.proofs.Words.{kind_of, signer_of, Meaning, Outcome, of_kind, VerifierState, RoundState, TrackerView, SameTracker, proposal_of}
use Rattle.batcher_round.proofs.Words.{observed, observed_opposite, is_released_in, is_seen, outcome_of, outcome_by, RecordsKind, AddsVote, MayFix}
use Rattle.batcher_round.proofs.Words.{BuffersOnlyKept, Config, IsRight, AfterOwn, own_result, fixed_by, is_added, is_kept, report_by, IsNew, added_new}
use Rattle.batcher_round.proofs.Words.{right_recorded, right_eligible, in_range, kept_outcome, own_step, result_is, right_fixed, same_kept, seen_before}

-- a tracker with more room
pub right_moved : {D K G C : Type 0} (m : Meaning D K G C) (tracker moved : TrackerView G D)
    (held : VerifierState G D) (q : ℕ) → IsRight m tracker held q → moved.holds ≡ tracker.holds
    → SameTracker tracker moved → IsRight m moved held q
right_moved m tracker moved held q right holds same =
    record {
      some = right.some;
      quorum_is = right.quorum_is;
      bound = same.1 ∙ right.bound;
      within = subst (λ t. BuffersOnlyKept t held) (sym holds) right.within;
      compacted =
          λ kind. ap (λ t. of_kind t.compacted kind) holds ∙ right.compacted kind
          ∙ ap (λ w. is_released_in w (of_kind held.certified kind)) (sym same.0);
      fixed = right.fixed;
    }

-- what is held of both, before a proposal is forwarded
abbrev pub held_by : {G D : Type 0} → TrackerView G D → VerifierState G D → RoundState G D
held_by tracker buffered =
    record { tracked = tracker.holds; buffered = buffered; forwarded = false }

module _ {D K G C : Type 0} (x : Config D K G C) (tracker : TrackerView G D) (old : VerifierState G D)
    (vote : Vote G D) (outcome : Outcome) where
  module _ (result : own_result x (held_by tracker old) vote ≡ Ok outcome) where
    recordable_by : {X E Room : Type 0} (r : Result X E) (b : Bool) → is_added outcome ≡ b
        → (is_added outcome ≡ true → Room) → (Room → IsOk r)
        → (is_seen (observed tracker.holds (kind_of vote) (signer_of vote)) ≡ true → IsOk r)
        → IsOk r
    recordable_by r true e room with_room repeated = with_room (room e)
    recordable_by r false e room with_room repeated =
        let told = result_is (observed_opposite tracker.holds vote) (kind_of vote) _ outcome result in
        repeated (seen_before x.same_digest tracker.holds _ vote (ap is_added (sym told) ∙ e))

    -- it is recorded: there is room for one that is added, and another was seen before
    pub recordable : {X E Room : Type 0} (r : Result X E) → (is_added outcome ≡ true → Room)
        → (Room → IsOk r)
        → (is_seen (observed tracker.holds (kind_of vote) (signer_of vote)) ≡ true → IsOk r)
        → IsOk r
    recordable r = recordable_by r (is_added outcome) refl

    module _ (moved : TrackerView G D) (fixed : VerifierState G D) (selected : Option (Proposal D))
        (taken : Outcome) (holds : moved.holds ≡ tracker.holds)
        (fixes_it : MayFix x.same_digest old tracker.holds.kept (fixed_by vote) fixed)
        (below : nat_lt (signer_of vote) moved.participants ≡ true)
        (selects : selected ≡ proposal_of fixed.selection)
        (took : taken ≡ outcome_of x.same_digest moved.participants moved.holds selected vote) where
      took_fixed : taken ≡ outcome_of x.same_digest moved.participants moved.holds
          (proposal_of fixed.selection) vote
      took_fixed =
          took ∙ ap (λ s. outcome_of x.same_digest moved.participants moved.holds s vote) selects

      -- it is kept where it was answered so before
      pub kept_as_said : is_kept taken ≡ is_kept outcome
      kept_as_said =
          ap is_kept (took_fixed ∙ in_range x.same_digest moved.participants moved.holds (proposal_of fixed.selection) vote below
          ∙ ap (λ h. outcome_by x.same_digest (proposal_of fixed.selection) (of_kind h.compacted (kind_of vote)) (observed h (kind_of vote) (signer_of vote))
          vote) holds)
          ∙ same_kept x.same_digest (proposal_of fixed.selection) (proposal_of old.selection) (of_kind tracker.holds.compacted (kind_of vote))
          (observed tracker.holds (kind_of vote) (signer_of vote)) vote
          ∙ sym (ap is_kept (result_is (observed_opposite tracker.holds vote) (kind_of vote) _ outcome result))

      -- one that is kept is the first of its kind and signer
      pub kept_new : is_kept outcome ≡ true → IsNew moved.holds vote
      kept_new kept =
          added_new x.same_digest moved.holds selected vote moved.participants (sym took ∙ kept_outcome taken (kept_as_said ∙ kept))

      module _ (recorded : TrackerView G D)
          (records : (kind : Kind) → RecordsKind x.same_digest moved.holds recorded.holds selected true vote kind) where
        pub accepted : (new : VerifierState G D)
            → MatchBool (is_kept outcome) (AddsVote x.same_digest fixed vote true new) (new ≡ fixed)
            → AfterOwn x (held_by tracker old) vote outcome (report_by outcome vote)
            (held_by recorded new)
        accepted new is_eligible =
            own_step x (held_by tracker old) (held_by recorded new) vote outcome taken fixed moved.participants moved.holds _
            result refl refl fixes_it holds below took_fixed
            (λ kind. subst (λ s. RecordsKind x.same_digest moved.holds recorded.holds s true vote kind) selects (records kind))
            (subst (λ b. MatchBool b (AddsVote x.same_digest fixed vote true new) (new ≡ fixed)) (sym kept_as_said) is_eligible)

        module _ (q : ℕ) (right : IsRight x.meaning tracker old q)
            (within : BuffersOnlyKept tracker.holds fixed) (same : SameTracker tracker moved)
            (participants : recorded.participants ≡ moved.participants)
            (mode : recorded.mode ≡ moved.mode) where
          right_then : IsRight x.meaning moved fixed q
          right_then =
              right_moved x.meaning tracker moved fixed q
              (right_fixed x.meaning x.same_digest tracker old fixed q (fixed_by vote) right fixes_it within) holds same

          pub right_accepted : IsRight x.meaning recorded fixed q
          right_accepted =
              right_recorded x.meaning x.same_digest moved recorded fixed q right_then selected true vote participants mode records

          pub right_kept : (new : VerifierState G D) → is_kept outcome ≡ true
              → AddsVote x.same_digest fixed vote true new → IsRight x.meaning recorded new q
          right_kept new kept adds =
              right_eligible x.meaning x.same_digest moved recorded fixed q right_then selected true vote participants mode records new true adds
              (kept_new kept) refl
