-- A network vote: what a round does with it is what the history with it names.
use Rattle.batcher_histories.proofs.Words.{◌≡◌, Bool, true, false, not, cond, ◌&&◌, [], ◌∷◌, ◌++◌, refl, ap, sym, ◌∙◌, subst, is_none, append-nil, and-true}
use Rattle.batcher_histories.proofs.Words.{Vote, Kind, Admission, NetworkCall, NetworkAnswer, Config, sender_in, kind_of, is_of_kind, proposal_of, of_kind}
use Rattle.batcher_histories.proofs.Words.{RoundState, is_seen, observed_opposite, RecordsKind, AfterNetwork, MayCall, Event, History, names_sender, is_free}
use Rattle.batcher_histories.proofs.Words.{first_votes, opposite_vote, network_answer, known_after, eligible_among, Represents, Simulates, pending_after}
use Rattle.batcher_histories.proofs.Words.{verified_after, selected_in}
use Rattle.batcher_histories.proofs.Correctness.Admission.{added_from}
use Rattle.batcher_histories.proofs.History.Laws.{HasLaws}
use Rattle.batcher_histories.proofs.KnownLemmas.Named.{network_same, opposite_same}
use Rattle.batcher_histories.proofs.Simulation.Frame.{Moves, followed, leader_same}
use Rattle.batcher_histories.proofs.Simulation.FirstVotes.{filter_given, is_new, is_taken, unseen_opposite, free_known}
use Rattle.batcher_histories.proofs.Simulation.EligibleVotes.{none_joins, is_kept_new, WaitsAfter, released_selects, eligible_after, moves_kind, with_restored}
use Rattle.batcher_histories.proofs.Simulation.EligibleVotes.{eligible_unfixed}

added_table : (n k f : Bool) → (n && (k && f)) ≡ (k && ((n && f) && true))
added_table true true f = sym (and-true f)
added_table true false f = refl
added_table false true f = refl
added_table false false f = refl

module _ {D K G C : Type 0} (x : Config D K G C) where
  -- A network vote is added where it names its sender and is free.
  pub added_is : (past : History D K G C) (sender : K) (vote : Vote G D)
      → (network_answer x past sender vote).added
      ≡ (names_sender x sender vote && is_free (first_votes x past) vote)
  added_is past sender vote =
      added_from x (known_after x past) vote (sender_in x sender) ∙ ap (λ free. names_sender x sender vote && free) (free_known x past vote)

  -- WHAT IS RECORDED
  unopposed : (past : History D K G C) (held : RoundState G D) (vote : Vote G D)
      → Represents x past held
      → not (is_seen (observed_opposite held.tracked vote)) ≡ is_none (opposite_vote x past vote)
  unopposed past held vote represents =
      ap (λ o. not (is_seen o)) (opposite_same x past held vote represents) ∙ unseen_opposite x past (opposite_vote x past vote)

  -- WHAT THE CALL MOVES
  module _ (past : History D K G C) (old : RoundState G D) (sender : K) (vote : Vote G D)
      (answer : Admission G D) (new : RoundState G D) (represents : Represents x past old)
      (step : AfterNetwork x old sender vote answer new) where
    abbrev event : Event D K G C
    event = (NetworkCall sender vote, NetworkAnswer answer)

    abbrev named : Bool
    named = names_sender x sender vote

    answer_is : answer ≡ network_answer x past sender vote
    answer_is = step.answer_is ∙ network_same x past old sender vote represents

    casts : cond named (vote ∷ []) [] ++ [] ≡ cond named (vote ∷ []) []
    casts = append-nil (cond named (vote ∷ []) [])

    records : (kind : Kind) → RecordsKind x.same_digest old.tracked new.tracked
        (selected_in old.buffered)
        (is_taken x past event vote named) vote kind
    records kind =
        subst (λ (b : Bool). RecordsKind x.same_digest old.tracked new.tracked (selected_in old.buffered) b vote kind)
        (ap (λ b. named && b) (unopposed past old vote represents)) (step.tracked kind)

    kept_new : (answer.added && not (of_kind old.tracked.compacted (kind_of vote)))
        ≡ is_kept_new x past event vote named
    kept_new =
        ap (λ b. b && not (of_kind old.tracked.compacted (kind_of vote))) (ap (λ a. a.added) answer_is ∙ added_is past sender vote)
        ∙ ap (λ c. is_new x past event vote named && not c) (represents.each_kind (kind_of vote)).compacted_is

    is_eligible : WaitsAfter x past event vote named new.buffered false
        (with_restored x past event old)
        (of_kind old.buffered.verified)
    is_eligible =
        eligible_after x past event vote named old.buffered new.buffered false (answer.added && not (of_kind old.tracked.compacted (kind_of vote)))
        (with_restored x past event old) (of_kind old.buffered.verified) casts refl refl kept_new
        (eligible_unfixed x past event old old.buffered represents refl refl refl) step.buffered

    pending_goes : (kind : Kind) → of_kind new.buffered.pending kind
        ≡ pending_after x past old event kind
    pending_goes kind =
        is_eligible.pending_are kind
        ∙ ap (λ vs. eligible_among x (event ∷ past) kind (with_restored x past event old kind ++ vs))
        (sym (filter_given (λ v. is_of_kind kind v && is_free (first_votes x past) v) named vote
        ∙ ap (λ b. cond b (vote ∷ []) []) (added_table named (is_of_kind kind vote) (is_free (first_votes x past) vote))))

    verified_goes : (kind : Kind) → of_kind new.buffered.verified kind
        ≡ verified_after x past old event kind
    verified_goes kind =
        is_eligible.verified_are kind
        ∙ ap (λ b. eligible_among x (event ∷ past) kind (of_kind old.buffered.verified kind ++ cond b (vote ∷ []) []))
        (none_joins (is_of_kind kind vote) (is_new x past event vote named))

    moves : MayCall x.meaning x.number (NetworkCall sender vote)
        → Moves x past old (NetworkCall sender vote) (NetworkAnswer answer) new
    moves allowed =
        record {
          allowed = allowed;
          made = refl;
          answered = answer_is;
          leader_is = is_eligible.leader_is ∙ sym (leader_same x past event refl);
          selection_is = is_eligible.selection_is;
          forwarded_is = step.forwarded ∙ represents.forwarded_is;
          kinds =
              moves_kind x past event vote named old new (selected_in old.buffered) false (with_restored x past event old)
              (of_kind old.buffered.verified) represents casts
              refl
              (λ released. ap proposal_of represents.selection_is ∙ released_selects x past event vote named casts refl released) is_eligible records;
          pending_are = pending_goes;
          verified_are = verified_goes;
          attempt = tt;
        }

  -- A network vote is followed.
  pub network_simulates : HasLaws x → (past : History D K G C) (old : RoundState G D) (sender : K)
      (vote : Vote G D) (answer : Admission G D) (new : RoundState G D) →
      Represents x past old → MayCall x.meaning x.number (NetworkCall sender vote)
      → AfterNetwork x old sender vote answer new →
      Simulates x past old (NetworkCall sender vote, NetworkAnswer answer) new
  network_simulates lawful past old sender vote answer new represents allowed step =
      followed x lawful past old (NetworkCall sender vote) (NetworkAnswer answer) new represents (moves past old sender vote answer new represents step allowed)
