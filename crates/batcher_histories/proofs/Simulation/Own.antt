-- An own vote: what a round does with it is what the history with it names.
use Rattle.batcher_histories.proofs.Words.{◌≡◌, Bool, true, false, not, cond, ◌&&◌, [], ◌∷◌, ◌++◌, Option, Some, None, Ok, refl, ap, sym, ◌∙◌, subst, filter}
use Rattle.batcher_histories.proofs.Words.{is_none, or_right, append-nil, and-true, Proposal, Vote, NotarizeVote, NullifyVote, FinalizeVote, Kind, Activity}
use Rattle.batcher_histories.proofs.Words.{FixedProposal, Outcome, Duplicate, Conflicting, OwnCall, OwnAnswer, Config, kind_of, signer_of, is_of_kind}
use Rattle.batcher_histories.proofs.Words.{is_eligible, open_or_closed, filter_behind, proposal_of, updated, fixes, of_kind, VerifierState, RoundState}
use Rattle.batcher_histories.proofs.Words.{is_skipped, outcome_by, RecordsKind, MayFix, FixesProposal, restored_by_fix, selected_in, fixed_by, is_kept}
use Rattle.batcher_histories.proofs.Words.{AfterOwn, MayCall, Event, History, is_free, first_votes, first_like, opposite_vote, selection, selected_proposal}
use Rattle.batcher_histories.proofs.Words.{fixing_evidence, is_restored, is_certified, is_released, conflicts, facts_of, known_after, eligible_among}
use Rattle.batcher_histories.proofs.Words.{own_answer, known_by, Represents, Simulates, pending_after, verified_after}
use Rattle.batcher_histories.proofs.Correctness.Own.{own_unseen, result_is, may_fix_selects}
use Rattle.batcher_histories.proofs.KnownLemmas.Observed.{none_from}
use Rattle.batcher_histories.proofs.History.Laws.{HasLaws}
use Rattle.batcher_histories.proofs.KnownLemmas.Named.{own_same}
use Rattle.batcher_histories.proofs.Simulation.Frame.{Moves, followed, leader_same, closed_verified}
use Rattle.batcher_histories.proofs.Simulation.FirstVotes.{free_is, is_taken, unseen_opposite}
use Rattle.batcher_histories.proofs.Simulation.EligibleVotes.{none_joins, is_closed, state_fixed, eligible_by, WaitsFixed, WaitsAfter, released_selects}
use Rattle.batcher_histories.proofs.Simulation.EligibleVotes.{eligible_after, moves_kind, with_restored, eligible_unfixed}
use Rattle.batcher_histories.proofs.Simulation.Restored.{returned_fixed, nothing_comes}

module _ {D K G C : Type 0} (x : Config D K G C) where
  -- WHICH VOTES ARE ADDED
  pub unopposed : (past : History D K G C) (vote : Vote G D) (outcome : Outcome)
      → own_answer x past vote ≡ Ok outcome → opposite_vote x past vote ≡ None
  unopposed past vote outcome h =
      none_from x (opposite_vote x past vote)
      (sym (unseen_opposite x past (opposite_vote x past vote)) ∙ ap not (own_unseen ((known_after x past).opposite vote) (kind_of vote) _ outcome h))

  kept_first : (past : History D K G C) (vote : Vote G D) (released : Bool)
      (first : Option (Vote G D)) →
      is_kept (outcome_by x.same_digest (selected_proposal x past) released
      (known_by released (facts_of x past (kind_of vote) (signer_of vote)) first) vote)
      ≡ (is_none first && not released)
  kept_first past vote released None = refl
  kept_first past vote false (Some kept) = refl
  kept_first past vote true (Some seen) = by_conflict (conflicts x past vote)
    where
      by_conflict : (conflict : Bool) → is_kept (cond conflict Conflicting (Duplicate false))
          ≡ false
      by_conflict true = refl
      by_conflict false = refl

  kept_as_answered : (past : History D K G C) (vote : Vote G D) (outcome : Outcome)
      → own_answer x past vote ≡ Ok outcome → is_kept outcome
      ≡ (is_free (first_votes x past) vote && not (is_released x past (kind_of vote)))
  kept_as_answered past vote outcome h =
      ap is_kept (result_is ((known_after x past).opposite vote) (kind_of vote) _ outcome h)
      ∙ (kept_first past vote (is_released x past (kind_of vote)) (first_like x past vote)
      ∙ ap (λ b. b && not (is_released x past (kind_of vote)))
      (sym (and-true (is_none (first_like x past vote)))
      ∙ (ap (λ o. is_none (first_like x past vote) && is_none o) (sym (unopposed past vote outcome h)) ∙ sym (free_is (first_votes x past) vote))))

  -- WHAT THE CALL MOVES
  module _ (past : History D K G C) (old : RoundState G D) (vote : Vote G D) (outcome : Outcome)
      (report : Option (Activity G D)) (new : RoundState G D) (represents : Represents x past old)
      (step : AfterOwn x old vote outcome report new) where
    abbrev event : Event D K G C
    event = (OwnCall vote, OwnAnswer outcome report)

    answered : own_answer x past vote ≡ Ok outcome
    answered = sym (own_same x past old vote represents) ∙ step.outcome_is

    evidence_is : (w : Vote G D) → fixing_evidence {D = D} {K = K} {G = G} {C = C}
        (OwnCall w, OwnAnswer outcome report) ≡ fixed_by w
    evidence_is (NotarizeVote v) = refl
    evidence_is (NullifyVote v) = refl
    evidence_is (FinalizeVote v) = refl

    records : (kind : Kind) → RecordsKind x.same_digest old.tracked new.tracked
        (selected_in step.fixed) (is_taken x past event vote true) vote kind
    records kind =
        subst (λ (b : Bool). RecordsKind x.same_digest old.tracked new.tracked (selected_in step.fixed) b vote kind)
        (sym (ap is_none (unopposed past vote outcome answered))) (step.tracked kind)

    selected_is : selected_in step.fixed ≡ proposal_of (state_fixed x past event)
    selected_is =
        ap proposal_of (may_fix_selects x.same_digest old.buffered old.tracked.kept (fixed_by vote) step.fixed step.fixes)
        ∙ ap (λ s. proposal_of (fixes s (fixed_by vote))) represents.selection_is ∙ ap (λ e. proposal_of (fixes (selection x past) e)) (sym (evidence_is vote))

    eligible_fixed : (fixed : VerifierState G D) (p : Proposal D) → fixing_evidence event ≡ Some p
        → FixesProposal x.same_digest old.buffered old.tracked.kept p fixed
        → WaitsFixed x past event fixed (with_restored x past event old)
        (of_kind old.buffered.verified)
    eligible_fixed fixed p fixing f =
        let selection_goes : fixed.selection ≡ fixes (selection x past) (Some p) = f.selection
        ∙ ap (λ s. updated s (FixedProposal p)) represents.selection_is in
        let certified_goes : (kind : Kind) → of_kind fixed.certified kind ≡ is_certified past kind = λ kind. (f.buffers kind).certified
        ∙ (represents.each_kind kind).certified_is in
        record {
          leader_is = f.leader ∙ represents.leader_is;
          selection_is = selection_goes ∙ ap (fixes (selection x past)) (sym fixing);
          certified_is = certified_goes;
          pending_are = λ kind.
              (f.buffers kind).pending
              ∙ (ap (λ c. eligible_by x.same_digest c (proposal_of fixed.selection)
              (of_kind old.buffered.pending kind ++ restored_by_fix x.same_digest old.buffered old.tracked.kept p kind)) (certified_goes kind)
              ∙ (ap (λ s. eligible_by x.same_digest (is_certified past kind) (proposal_of s)
              (of_kind old.buffered.pending kind ++ restored_by_fix x.same_digest old.buffered old.tracked.kept p kind)) selection_goes
              ∙ (open_or_closed (is_eligible x.same_digest (proposal_of (fixes (selection x past) (Some p)))) (is_certified past kind) (is_skipped x.mode)
              (of_kind old.buffered.pending kind ++ restored_by_fix x.same_digest old.buffered old.tracked.kept p kind) (with_restored x past event old kind)
              (nothing_comes x past old kind p old.buffered represents)
              (λ by_new still.
              filter_behind (is_eligible x.same_digest (proposal_of (fixes (selection x past) (Some p)))) (of_kind old.buffered.pending kind)
              (restored_by_fix x.same_digest old.buffered old.tracked.kept p kind) (filter (is_restored x past event) (of_kind old.tracked.kept kind))
              (returned_fixed x past event old kind p old.buffered represents refl fixing still))
              ∙ ap (λ e. eligible_by x.same_digest (is_closed x past event kind) (proposal_of (fixes (selection x past) e))
              (with_restored x past event old kind)) (sym fixing))));
          verified_are = λ kind.
              (f.buffers kind).verified
              ∙ (ap (λ c. eligible_by x.same_digest c (proposal_of fixed.selection) (of_kind old.buffered.verified kind ++ [])) (certified_goes kind)
              ∙ (ap (λ s. eligible_by x.same_digest (is_certified past kind) (proposal_of s) (of_kind old.buffered.verified kind ++ [])) selection_goes
              ∙ (ap (eligible_by x.same_digest (is_certified past kind) (proposal_of (fixes (selection x past) (Some p))))
              (append-nil (of_kind old.buffered.verified kind))
              ∙ (open_or_closed (is_eligible x.same_digest (proposal_of (fixes (selection x past) (Some p)))) (is_certified past kind) (is_skipped x.mode)
              (of_kind old.buffered.verified kind) (of_kind old.buffered.verified kind)
              (λ skips. closed_verified x past old kind represents (or_right (is_certified past kind) (is_skipped x.mode) skips)) (λ by_new still. refl)
              ∙ ap (λ e. eligible_by x.same_digest (is_closed x past event kind) (proposal_of (fixes (selection x past) e))
              (of_kind old.buffered.verified kind))
              (sym fixing)))));
        }

    -- what waits once the evidence of the vote is taken in
    waits_by : (evidence : Option (Proposal D)) (fixed : VerifierState G D) → fixing_evidence event
        ≡ evidence → MayFix x.same_digest old.buffered old.tracked.kept evidence fixed
        → WaitsFixed x past event fixed (with_restored x past event old)
        (of_kind old.buffered.verified)
    waits_by None fixed unfixing same = eligible_unfixed x past event old fixed represents refl unfixing same
    waits_by (Some p) fixed fixing f = eligible_fixed fixed p fixing f

    eligible_then : WaitsAfter x past event vote true new.buffered true
        (with_restored x past event old) (of_kind old.buffered.verified)
    eligible_then =
        eligible_after x past event vote true step.fixed new.buffered true (is_kept outcome) (with_restored x past event old)
        (of_kind old.buffered.verified) refl
        refl refl
        (kept_as_answered past vote outcome answered) (waits_by (fixed_by vote) step.fixed (evidence_is vote) step.fixes) step.buffered

    pending_goes : (kind : Kind) → of_kind new.buffered.pending kind
        ≡ pending_after x past old event kind
    pending_goes kind =
        eligible_then.pending_are kind
        ∙ ap (λ b. eligible_among x (event ∷ past) kind (with_restored x past event old kind ++ cond b (vote ∷ []) []))
        (none_joins (is_of_kind kind vote) (is_free (first_votes x past) vote))

    verified_goes : (kind : Kind) → of_kind new.buffered.verified kind
        ≡ verified_after x past old event kind
    verified_goes kind =
        eligible_then.verified_are kind
        ∙ ap (λ b. eligible_among x (event ∷ past) kind (of_kind old.buffered.verified kind ++ cond b (vote ∷ []) []))
        (ap (λ f. is_of_kind kind vote && f) (and-true (is_free (first_votes x past) vote)))

    moves : MayCall x.meaning x.number (OwnCall vote)
        → Moves x past old (OwnCall vote) (OwnAnswer outcome report) new
    moves allowed =
        record {
          allowed = allowed;
          made = refl;
          answered = (answered, step.report_is);
          leader_is = eligible_then.leader_is ∙ sym (leader_same x past event refl);
          selection_is = eligible_then.selection_is;
          forwarded_is = step.forwarded ∙ represents.forwarded_is;
          kinds =
              moves_kind x past event vote true old new (selected_in step.fixed) true (with_restored x past event old)
              (of_kind old.buffered.verified) represents
              refl refl
              (λ released. selected_is ∙ released_selects x past event vote true refl refl released) eligible_then records;
          pending_are = pending_goes;
          verified_are = verified_goes;
          attempt = tt;
        }

  -- An own vote is followed.
  pub own_simulates : HasLaws x → (past : History D K G C) (old : RoundState G D) (vote : Vote G D)
      (outcome : Outcome) (report : Option (Activity G D)) (new : RoundState G D) →
      Represents x past old → MayCall x.meaning x.number (OwnCall vote)
      → AfterOwn x old vote outcome report new →
      Simulates x past old (OwnCall vote, OwnAnswer outcome report) new
  own_simulates lawful past old vote outcome report new represents allowed step =
      followed x lawful past old (OwnCall vote) (OwnAnswer outcome report) new represents (moves past old vote outcome report new represents step allowed)
