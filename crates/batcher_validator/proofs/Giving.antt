-- A validator goes on with what it gives, and has nothing to give.
use Rattle.batcher_validator.proofs.Words.{◌≡◌, ◌⊎◌, ◌+◌, ◌<◌, ◌≤◌, ◌∙◌, ◌^◌, ℕ, zero, suc, true, false, List, [], ◌∷◌, Option, Some, None, ap, arith, inl, inr}
use Rattle.batcher_validator.proofs.Words.{length, refl, set, subst, sym, take, Contains, IfSome, MatchBool, MatchOption, unwrap_or, slice_get, le-ltb}
use Rattle.batcher_validator.proofs.Words.{take_all, All-contains, get_or_from_slice_get, slice_get_within, kind_certified, round_in, same_subject}
use Rattle.batcher_validator.proofs.Words.{subject_certified, subject_of, Certificate, FinalizationCertificate, NotarizationCertificate}
use Rattle.batcher_validator.proofs.Words.{NullificationCertificate, Proposal, Finalize, Kind, Finalization, Notarization, Round, RoundView, Subject, Vote}
use Rattle.batcher_validator.proofs.Words.{Participant, View, conduct_of, Conduct, HasVoted, MayBeWrittenBehind, IsFree, LeavesFree, is_below, is_over}
use Rattle.batcher_validator.proofs.Words.{view_history, IsAtRest, NodeConfig, cause_at, slot_at, ViewRepresents, is_to_be_tried, numbered, Cause, Slot}
use Rattle.batcher_validator.proofs.Words.{AreKept, ForEachRun, GivenView, Gives, IsRunning, RunMeets, RunStays, ValidatorView, is_before_view, is_over_for}
use Rattle.batcher_validator.proofs.Words.{HadVoted, HasAnnouncedFrom, HasAskedFrom, HasForwarded, HasHanded, HasRecast, HasSent, IsVerifying, ValidatorHistory}
use Rattle.batcher_validator.proofs.Words.{again, answered, nothing_unsigned, calls_in, conduct_in, forward_with, gave, to_forward, voter_history, window_by}
use Rattle.batcher_validator.proofs.Words.{Counts, HasEntered}
use Rattle.batcher_validator.proofs.Words.{IsNextIn, NobodyIsToBlock, NothingIsDue, NothingIsDueMeanwhile, NothingIsProposed, NothingIsToSign}
use Rattle.batcher_validator.proofs.Words.{Verify, AreDistinct, AreFirst, HaveNoFinal, IsAt, kind_and_round, KnowsOf, BeginWithOneView, IsNextView}
use Rattle.batcher_validator.proofs.Words.{Block, Cast, Enter, Forward, SendCertificate, SendVote}
use Rattle.batcher_validator.proofs.Blocking.{blocks_one, not_blocked}
use Rattle.batcher_validator.proofs.Beginning.{first_none}
use Rattle.batcher_validator.proofs.Forwarding.{all_forwarded, not_forwarded}
use Rattle.batcher_validator.proofs.Intending.{still_intent}
use Rattle.batcher_validator.proofs.Keeping.{kept_still}
use Rattle.batcher_validator.proofs.Learning.{all_learned}
use Rattle.batcher_validator.proofs.Words.{◌||◌, max, turn_at, turn_in, still_to_forward, is_again, is_earlier, HasSentOnce, IsPlaceFrom}
use Rattle.batcher_validator.proofs.Words.{IsPlaceToSend, SendsNone, PutsBehind}
use Rattle.batcher_validator.proofs.Parting.{first_behind, kept_behind}
use Rattle.batcher_validator.proofs.Repeating.{begin_sending, earlier_sent, not_since, pass_over, send_again_one, send_one, sent_once}
use Rattle.batcher_validator.proofs.Queueing.{before_differ, contained_first, contained_more, give_one, not_given}

-- no votes are being verified
abbrev pub not_verifying : {D : Type 0} → GivenView D → GivenView D
not_verifying given = record given { verifying = false }

pub contained : {X : Type 0} (xs : List X) (i : ℕ) (x : X) → slice_get xs i ≡ Some x → Contains xs x
contained xs i x there =
    (i, slice_get_within xs i x there, get_or_from_slice_get xs i x x there)

-- A finalization is of the finalizing of a proposal.
pub final_of : {C D : Type 0} (c : Certificate C D) → kind_certified c ≡ Finalization
    → (p : Proposal D) × (subject_certified c ≡ Finalize p)
final_of (NotarizationCertificate n) e = absurd cc
final_of (NullificationCertificate n) e = absurd cc
final_of (FinalizationCertificate f) e = (f.proposal, refl)

pub kind_of : {C D : Type 0} (c : Certificate C D) (p : Proposal D)
    → subject_certified c ≡ Finalize p
    → kind_certified c ≡ Finalization
kind_of (NotarizationCertificate n) p e = absurd cc
kind_of (NullificationCertificate n) p e = absurd cc
kind_of (FinalizationCertificate f) p e = refl

past_end : {X : Type 0} (xs : List X) (i : ℕ) → slice_get xs i ≡ None → length xs ≤ i
past_end [] i none = omega arith
past_end (x ∷ xs) zero none = absurd cc
past_end (x ∷ xs) (suc i) none = omega (arith, past_end xs i none)

module _ {S D K G C L : Type 0} (x : NodeConfig D K G C) (old new : ValidatorView S G D L C)
    (voter : new.voter ≡ old.voter) where
  module _ (vote : Vote G D) (reflexive : (s : Subject D) → same_subject x.same_digest s s ≡ true)
      (opened : old.voter.journal.is_open ≡ true)
      (followed : MayBeWrittenBehind x.same_digest old.voter.journal.contents.floor [] old.voter.journal.contents.votes)
      (count : ℕ) (there : slice_get old.voter.journal.contents.votes count ≡ Some vote)
      (shelf : new.shelf ≡ old.shelf) where
    abbrev votes : List (Vote G D)
    votes = old.voter.journal.contents.votes

    abbrev floor : Round
    floor = old.voter.journal.contents.floor

    may : IsFree x.same_digest (take count votes) (subject_of vote) × (is_over floor vote ≡ false)
    may = followed count vote (slice_get_within votes count vote there)
        (sym (get_or_from_slice_get votes count vote vote there))

    differs : (w : Vote G D) → Contains (take count votes) w → subject_of w ≡ subject_of vote → ⊥
    differs w first same =
        let free : LeavesFree x.same_digest (subject_of vote) w =
        All-contains (LeavesFree x.same_digest (subject_of vote)) (take count votes) w may.0 first in
        let yes : same_subject x.same_digest (subject_of w) (subject_of vote) ≡ true =
        subst (λ s. same_subject x.same_digest s (subject_of vote) ≡ true) (sym same) (reflexive (subject_of vote)) in
        let no : true ≡ false = sym yes ∙ free.0 in
        absurd cc

    pub gives_vote :
        (next : ℕ) → IsPlaceToSend old count
        → IsPlaceFrom old.given.resending.from votes (count + 1)
        (max old.given.tally.sent (count + 1)) next
        → new.given ≡ record old.given {
          tally = record old.given.tally {
            sent = max old.given.tally.sent (count + 1);
            resent = next;
          };
        }
        → Gives x old new (SendVote vote)
    gives_vote next here behind given past earlier is =
        record {
          voting = rw (voter) is.voting;
          in_turn = (
            (
              (is.voting.remembers opened).no_others vote (contained votes count vote there),
              not_since (is_over_for floor) (λ s. HasSentOnce past s) (λ s. HasSent past s) from votes
                  old.given.tally.sent (is.votes opened) (sent_once past) since_once
                  old.given.tally.resent count (is.votes_again opened) here vote there may.1 differs,
            ),
            is.in_turn,
          );
          blocks = rw (given) is.blocks;
          calms = rw (given) is.calms;
          finals = rw (given) is.finals;
          votes = λ still. rw (voter, given) once_now;
          votes_again = λ still. rw (voter, given) (pass_over (is_over_for floor)
              (λ s. HasSentOnce (gave (SendVote vote) ∷ past) s) (λ s. HasSent (gave (SendVote vote) ∷ past) s)
              from votes (max old.given.tally.sent (count + 1)) once_now (sent_once (gave (SendVote vote) ∷ past))
              (λ s earlier_one was. elim was [
                | inl is_it ↦ inl is_it
                | inr before ↦ inr (since_once s earlier_one before)
              ]) (count + 1) next
              (send_again_one (is_over_for floor) (λ s. HasSentOnce past s) (λ s. HasSent past s) from votes
              old.given.tally.sent (is.votes opened) (sent_once past) since_once
              old.given.tally.resent count (is.votes_again opened) here vote there may.1 differs
              (λ s. HasSentOnce (gave (SendVote vote) ∷ past) s) (λ s. HasSent (gave (SendVote vote) ∷ past) s)
              (inl refl) (inl refl) (λ s was. inr was) (λ s was. inr was) (λ s was. was) (λ s was. was))
              behind);
          resends = rw (given) is.resends;
          begins = rw (voter, given) is.begins;
          casts = rw (voter, given) is.casts;
          kept = rw (shelf) (kept_still x past (gave (SendVote vote) ∷ past) refl old.shelf.certificates
              (λ c had. had) (λ c had. had) is.kept);
          certificates = rw (shelf) is.certificates;
          asks = rw (given) is.asks;
          verifies = rw (given) is.verifies;
          forwards = rw (given) is.forwards;
          intends = rw (given) (still_intent past (gave (SendVote vote) ∷ past) old.given.intent refl refl refl refl refl refl
              is.intends);
          decides = rw (given) is.decides;
          hears = rw (given) is.hears;
        }
      where
        from : ℕ
        from = old.given.resending.from

        since_once : (s : Subject D) → is_earlier old.given.resending.from s ≡ true
            → HasSentOnce past s → HasSent past s
        since_once s earlier_one was =
            earlier_sent past s (subst (λ n. is_earlier n s ≡ true) (sym is.resends.0) earlier_one) was

        once_now : AreFirst subject_of (is_over_for floor)
            (λ s. HasSentOnce (gave (SendVote vote) ∷ past) s)
            votes (max old.given.tally.sent (count + 1))
        once_now =
            send_one (is_over_for floor) (λ s. HasSentOnce past s) (λ s. HasSent past s) old.given.resending.from votes
            old.given.tally.sent (is.votes opened) (sent_once past) since_once
            old.given.tally.resent count (is.votes_again opened) here vote there may.1 differs
            (λ s. HasSentOnce (gave (SendVote vote) ∷ past) s) (λ s. HasSent (gave (SendVote vote) ∷ past) s)
            (inl refl) (inl refl) (λ s was. inr was) (λ s was. inr was) (λ s was. was) (λ s was. was)

    pub gives_cast :
        ForEachRun x old (λ past earlier. HasEntered x past)
        → count ≡ old.given.tally.recast → count < old.given.tally.begun
        → new.given ≡ record old.given { tally = record old.given.tally { recast = count + 1 } }
        → Gives x old new (Cast vote)
    gives_cast entered here before given past earlier is =
        record {
          voting = rw (voter) is.voting;
          in_turn = (
            (
              (is.begins opened).were_given vote (contained_first votes count old.given.tally.begun vote there before),
              (
                not_given subject_of (is_over_for floor) (λ s. HasRecast past s) votes count first vote may.1 differs,
                entered past earlier is,
              ),
            ),
            is.in_turn,
          );
          blocks = rw (given) is.blocks;
          calms = rw (given) is.calms;
          finals = rw (given) is.finals;
          votes = rw (voter, given) is.votes;
          votes_again = rw (voter, given) is.votes_again;
          resends = rw (given) is.resends;
          begins = rw (voter, given) is.begins;
          casts = λ still. rw (voter, given) (give_one subject_of (is_over_for floor) (λ s. HasRecast past s)
              votes count first (λ s. HasRecast (gave (Cast vote) ∷ past) s) vote there
              (inl refl) (λ s was. inr was) (λ s was. was));
          kept = rw (shelf) (kept_still x past (gave (Cast vote) ∷ past) refl old.shelf.certificates
              (λ c had. had) (λ c had. had) is.kept);
          certificates = rw (shelf) is.certificates;
          asks = rw (given) is.asks;
          verifies = rw (given) is.verifies;
          forwards = rw (given) is.forwards;
          intends = rw (given) (still_intent past (gave (Cast vote) ∷ past) old.given.intent refl refl refl refl refl refl
              is.intends);
          decides = rw (given) is.decides;
          hears = rw (given) is.hears;
        }
      where
        first : AreFirst subject_of (is_over_for floor) (λ s. HasRecast past s) votes count
        first = subst (λ n. AreFirst subject_of (is_over_for floor) (λ s. HasRecast past s) votes n) (sym here)
            (is.casts opened)

  pub gives_certificate :
      (kind : Kind) (number : Round) → AreDistinct kind_and_round old.shelf.certificates
      → IsAt old.shelf.certificates old.shelf.handed (kind, number)
      → old.given.forwarding ≡ None
      → new.given ≡ record old.given {
        forwarding = forward_with kind number old.given.forwarding;
      }
      → new.shelf.certificates ≡ old.shelf.certificates
      → new.shelf.handed ≡ old.shelf.handed + 1
      → Gives x old new (SendCertificate kind number)
  gives_certificate kind number distinct it nothing given certificates handed past earlier is =
      record {
        voting = rw (voter) is.voting;
        in_turn = (
          (
            record {
              certificate = c;
              had = is.kept.had c in_shelf;
              is_of = it.is_of;
              certifies = is.kept.certify c in_shelf;
            },
            (
              λ was. not_given kind_and_round (is_before_view first) (λ key. HasHanded past key) old.shelf.certificates
                  old.shelf.handed is.certificates c
                  (le-ltb (round_in (subject_certified c)).view.0 first (is.kept.looked_at c in_shelf).from_first)
                  (before_differ kind_and_round old.shelf.certificates old.shelf.handed c distinct it.there)
                  (subst (λ key. HasHanded past key) (sym it.is_of) was),
              is.forwards ∙ nothing,
            ),
          ),
          is.in_turn,
        );
        blocks = rw (given) is.blocks;
        calms = rw (given) is.calms;
        finals = rw (given) is.finals;
        votes = rw (voter, given) is.votes;
        votes_again = rw (voter, given) is.votes_again;
        resends = rw (given) is.resends;
        begins = rw (voter, given) is.begins;
        casts = rw (voter, given) is.casts;
        kept = rw (certificates) is_kept;
        certificates = rw (certificates, handed) (give_one kind_and_round (is_before_view first) (λ key. HasHanded past key)
            old.shelf.certificates old.shelf.handed is.certificates
            (λ key. HasHanded (gave (SendCertificate kind number) ∷ past) key) c it.there
            (inl (sym it.is_of)) (λ key was. inr was) (λ key was. of_handed key was));
        asks = rw (given) is.asks;
        verifies = rw (given) is.verifies;
        forwards = rw (given) (ap (forward_with kind number) is.forwards);
        intends = rw (given) (still_intent past (gave (SendCertificate kind number) ∷ past) old.given.intent refl refl refl refl refl refl
            is.intends);
        decides = rw (given) is.decides;
        hears = rw (given) is.hears;
      }
    where
      c : Certificate C D
      c = it.certificate

      of_handed : (key : Kind × Round) → HasHanded (gave (SendCertificate kind number) ∷ past) key
          → (kind_and_round c ≡ key) ⊎ HasHanded past key
      of_handed key (inl same) = inl (it.is_of ∙ same)
      of_handed key (inr before) = inr before

      first : ℕ
      first = (window_by past).finalized

      in_shelf : Contains old.shelf.certificates c
      in_shelf = contained old.shelf.certificates old.shelf.handed c it.there

      is_kept : AreKept x (gave (SendCertificate kind number) ∷ past) old.shelf.certificates
      is_kept = kept_still x past (gave (SendCertificate kind number) ∷ past) refl old.shelf.certificates (λ d had. had) (λ d had. had) is.kept

  module _ (shelf : new.shelf ≡ old.shelf) where
    pub gives_block :
        (who : Participant) (cause : Cause)
        → who.0 < length x.meaning.participants
        → length old.given.blocked ≡ length x.meaning.participants
        → cause_at old.voter.node.blocked who.0 ≡ Some cause
        → slice_get old.given.blocked who.0 ≡ Some false
        → new.given ≡ record old.given { blocked = set old.given.blocked who.0 true }
        → Gives x old new (Block who cause)
    gives_block who cause within same there not_yet given past earlier is =
        record {
          voting = rw (voter) is.voting;
          in_turn = (
            (
              sym (is.voting.represents.blocked_are who.0 within) ∙ there,
              not_blocked past old.given.blocked is.blocks who cause not_yet,
            ),
            is.in_turn,
          );
          blocks = rw (given) (blocks_one past old.given.blocked is.blocks who cause (omega (arith, within, same)));
          calms = rw (given) (λ yes i lt. elim (is.calms yes i lt) [
            | inl none ↦ inl none
            | inr was ↦ inr (inr was)
          ]);
          finals = rw (given) is.finals;
          votes = rw (voter, given) is.votes;
          votes_again = rw (voter, given) is.votes_again;
          resends = rw (given) is.resends;
          begins = rw (voter, given) is.begins;
          casts = rw (voter, given) is.casts;
          kept = rw (shelf) (kept_still x past (gave (Block who cause) ∷ past) refl old.shelf.certificates
              (λ c had. had) (λ c had. had) is.kept);
          certificates = rw (shelf) is.certificates;
          asks = rw (given) is.asks;
          verifies = rw (given) is.verifies;
          forwards = rw (given) is.forwards;
          intends = rw (given) (still_intent past (gave (Block who cause) ∷ past) old.given.intent refl refl refl refl refl refl
              is.intends);
          decides = rw (given) is.decides;
          hears = rw (given) is.hears;
        }

    pub gives_enter :
        (view : View) → x.epoch ≡ old.voter.node.epoch
        → ((past : ValidatorHistory D K G C) (earlier : Conduct D) → IsRunning x past earlier old
        → IsNextView old.voter (voter_history past) view.0)
        → old.voter.node.window.current < view.0 → old.given.asked < view.0
        → new.given ≡ record old.given { asked = view.0 }
        → Gives x old new (Enter view)
    gives_enter view epoch next beyond unasked given past earlier is =
        record {
          voting = rw (voter) is.voting;
          in_turn = (
            (
              is_next,
              (
                subst (λ w. w.current < view.0) is.voting.represents.window_is beyond,
                λ has. absurd (omega (arith, is.asks.no_others view.0 has, unasked)),
              ),
            ),
            is.in_turn,
          );
          blocks = rw (given) is.blocks;
          calms = rw (given) is.calms;
          finals = rw (given) is.finals;
          votes = rw (voter, given) is.votes;
          votes_again = rw (voter, given) is.votes_again;
          resends = rw (given) is.resends;
          begins = rw (voter, given) is.begins;
          casts = rw (voter, given) is.casts;
          kept = rw (shelf) (kept_still x past (gave (Enter view) ∷ past) refl old.shelf.certificates
              (λ c had. had) (λ c had. had) is.kept);
          certificates = rw (shelf) is.certificates;
          asks = rw (given) record {
            were_asked = λ v some within. inl within;
            no_others = λ v has. elim has [
              | inl within ↦ within
              | inr before ↦ omega (arith, is.asks.no_others v before, unasked)
            ];
          };
          verifies = rw (given) is.verifies;
          forwards = rw (given) is.forwards;
          intends = rw (given) (still_intent past (gave (Enter view) ∷ past) old.given.intent refl refl refl refl refl refl
              is.intends);
          decides = rw (given) is.decides;
          hears = rw (given) is.hears;
        }
      where
        is_next : IsNextIn x past view.0
        is_next =
            let it = next past earlier is in
            record {
              behind_all = λ s knows same. it.behind_all s knows (same ∙ epoch);
              behind_one = elim (it.behind_one) [
                | inl first ↦ inl (first ∙ ap (λ w. w.finalized + 1) is.voting.represents.window_is)
                | inr one ↦ inr (one.0, (one.1.0, subst (λ e. KnowsOf (conduct_of (voter_history past)) (numbered e one.0)) (sym epoch) one.1.1))
              ];
            }

    pub gives_verify :
        old.given.verifying ≡ false → new.given ≡ record old.given { verifying = true }
        → Gives x old new Verify
    gives_verify idle given past earlier is =
        record {
          voting = rw (voter) is.voting;
          in_turn = (
            subst (λ b. MatchBool b (IsVerifying past) (IsVerifying past → ⊥)) idle is.verifies,
            is.in_turn,
          );
          blocks = rw (given) is.blocks;
          calms = rw (given) is.calms;
          finals = rw (given) is.finals;
          votes = rw (voter, given) is.votes;
          votes_again = rw (voter, given) is.votes_again;
          resends = rw (given) is.resends;
          begins = rw (voter, given) is.begins;
          casts = rw (voter, given) is.casts;
          kept = rw (shelf) (kept_still x past (gave Verify ∷ past) refl old.shelf.certificates
              (λ c had. had) (λ c had. had) is.kept);
          certificates = rw (shelf) is.certificates;
          asks = rw (given) is.asks;
          verifies = rw (given) tt;
          forwards = rw (given) is.forwards;
          intends = rw (given) (still_intent past (gave Verify ∷ past) old.given.intent refl refl refl refl refl refl
              is.intends);
          decides = rw (given) is.decides;
          hears = rw (given) is.hears;
        }

    pub gives_forward :
        (number : Round) → old.given.forwarding ≡ Some number
        → new.given ≡ record old.given { forwarding = None }
        → Gives x old new (Forward number)
    gives_forward number due given past earlier is =
        record {
          voting = rw (voter) is.voting;
          in_turn = (
            (is.forwards ∙ due, not_forwarded x earlier past is.in_turn number (is.forwards ∙ due)),
            is.in_turn,
          );
          blocks = rw (given) is.blocks;
          calms = rw (given) is.calms;
          finals = rw (given) is.finals;
          votes = rw (voter, given) is.votes;
          votes_again = rw (voter, given) is.votes_again;
          resends = rw (given) is.resends;
          begins = rw (voter, given) is.begins;
          casts = rw (voter, given) is.casts;
          kept = rw (shelf) (kept_still x past (gave (Forward number) ∷ past) refl old.shelf.certificates
              (λ c had. had) (λ c had. had) is.kept);
          certificates = rw (shelf) is.certificates;
          asks = rw (given) is.asks;
          verifies = rw (given) is.verifies;
          forwards = rw (given) refl;
          intends = rw (given) (still_intent past (gave (Forward number) ∷ past) old.given.intent refl refl refl refl refl refl
              is.intends);
          decides = rw (given) is.decides;
          hears = rw (given) is.hears;
        }

    -- votes were verified, or all is to be sent again
    pub answers :
        new.given ≡ record old.given { verifying = false }
        → (past : ValidatorHistory D K G C) (earlier : Conduct D)
        → IsRunning x past earlier old → IsRunning x (answered ∷ past) earlier new
    answers given past earlier is =
        record {
          voting = rw (voter) is.voting;
          in_turn = is.in_turn;
          blocks = rw (given) is.blocks;
          calms = rw (given) is.calms;
          finals = rw (given) is.finals;
          votes = rw (voter, given) is.votes;
          votes_again = rw (voter, given) is.votes_again;
          resends = rw (given) is.resends;
          begins = rw (voter, given) is.begins;
          casts = rw (voter, given) is.casts;
          kept = rw (shelf) (kept_still x past (answered ∷ past) refl old.shelf.certificates (λ c had. had) (λ c had. had) is.kept);
          certificates = rw (shelf) is.certificates;
          asks = rw (given) is.asks;
          verifies = rw (given) (λ no. no);
          forwards = rw (given) is.forwards;
          intends = rw (given) (still_intent past (answered ∷ past) old.given.intent refl refl refl refl refl refl
              is.intends);
          decides = rw (given) is.decides;
          hears = rw (given) is.hears;
        }

  pub begins_again :
      (resent : ℕ)
      → IsPlaceFrom old.voter.node.window.current old.voter.journal.contents.votes 0
      old.given.tally.sent resent
      → new.given ≡ record old.given {
        tally = record old.given.tally { resent = resent };
        resending = record {
          from = old.voter.node.window.current;
          turn = turn_at old.voter.node.window old.given.resending.turn + 1;
        };
        forwarding = still_to_forward old.voter.node.window old.given.resending.turn
            old.given.forwarding;
        intent = record old.given.intent { signing = None; unsigned = nothing_unsigned };
      }
      → PutsBehind (λ c. is_again old.voter.node.window old.given.resending.turn (kind_and_round c))
      old.shelf new.shelf
      → RunMeets x old new again
  begins_again resent place given puts past earlier is =
      record {
        voting = rw (voter) is.voting;
        in_turn = is.in_turn;
        blocks = rw (given) is.blocks;
        calms = rw (given) is.calms;
        finals = rw (given) is.finals;
        votes = rw (voter, given) is.votes;
        votes_again = λ opened. rw (voter, given) (again_since (rw (voter) at opened));
        resends = rw (given) (
          ap (λ w. w.current) (sym window),
          ap (λ w. turn_at w (turn_in past) + 1) (sym window)
              ∙ ap (λ n. turn_at old.voter.node.window n + 1) is.resends.1,
        );
        begins = rw (voter, given) is.begins;
        casts = rw (voter, given) is.casts;
        kept = kept_behind x past old.shelf.certificates new.shelf.certificates puts.moves is.kept;
        certificates = subst (λ w. AreFirst kind_and_round (is_before_view (window_by past).finalized)
            (λ key. (is_again w (turn_in past) key ≡ false) × HasHanded past key)
            new.shelf.certificates new.shelf.handed) window
            (subst (λ n. AreFirst kind_and_round (is_before_view (window_by past).finalized)
            (λ key. (is_again old.voter.node.window n key ≡ false) × HasHanded past key)
            new.shelf.certificates new.shelf.handed) (sym is.resends.1)
            (first_behind (is_before_view (window_by past).finalized)
            (λ key. is_again old.voter.node.window old.given.resending.turn key) (λ key. HasHanded past key)
            old.shelf new.shelf is.certificates puts));
        asks = rw (given) is.asks;
        verifies = rw (given) is.verifies;
        forwards = rw (given) (
            ap (λ w. still_to_forward w (turn_in past) (to_forward past)) (sym window)
            ∙ ap (λ n. still_to_forward old.voter.node.window n (to_forward past)) is.resends.1
            ∙ ap (λ o. still_to_forward old.voter.node.window old.given.resending.turn o) is.forwards
            );
        intends = rw (given) record {
          votes_as = is.intends.votes_as;
          signs = refl;
          refuses = refl;
          expires = is.intends.expires;
          chooses = is.intends.chooses;
          poses = is.intends.poses;
        };
        decides = rw (given) is.decides;
        hears = rw (given) is.hears;
      }
    where
      window : old.voter.node.window ≡ window_by past
      window = is.voting.represents.window_is

      again_since : old.voter.journal.is_open ≡ true
          → AreFirst subject_of
          (λ s. is_earlier old.voter.node.window.current s
          || is_over_for old.voter.journal.contents.floor s)
          (λ s. HasSent (again ∷ past) s) old.voter.journal.contents.votes resent
      again_since opened =
          subst (λ w. AreFirst subject_of
          (λ s. is_earlier w.current s || is_over_for old.voter.journal.contents.floor s)
          (λ s. HasSent (again ∷ past) s) old.voter.journal.contents.votes resent) (sym window)
          (begin_sending past (is_over_for old.voter.journal.contents.floor)
          old.voter.journal.contents.votes old.given.tally.sent resent (is.votes opened)
          (subst (λ w. IsPlaceFrom w.current old.voter.journal.contents.votes 0 old.given.tally.sent resent)
          window place))

-- It is calm, where nothing is due.
pub becomes_calm :
    {S D K G C L : Type 0} (x : NodeConfig D K G C) (old new : ValidatorView S G D L C)
    → new.voter ≡ old.voter → new.shelf ≡ old.shelf → new.given ≡ record old.given { calm = true }
    → ForEachRun x old (λ past earlier. NothingIsDue x earlier past) → RunStays x old new
becomes_calm x old new voter shelf given nothing past earlier is =
    record {
      voting = rw (voter) is.voting;
      in_turn = is.in_turn;
      blocks = rw (given) is.blocks;
      calms = rw (given) (λ yes. (nothing past earlier is).meanwhile.blocks);
      finals = rw (given) is.finals;
      votes = rw (voter, given) is.votes;
      votes_again = rw (voter, given) is.votes_again;
      resends = rw (given) is.resends;
      begins = rw (voter, given) is.begins;
      casts = rw (voter, given) is.casts;
      kept = rw (shelf) is.kept;
      certificates = rw (shelf) is.certificates;
      asks = rw (given) is.asks;
      verifies = rw (given) is.verifies;
      forwards = rw (given) is.forwards;
      intends = rw (given) is.intends;
      decides = rw (given) is.decides;
      hears = rw (given) is.hears;
    }

module _ {S D K G C L : Type 0} (x : NodeConfig D K G C) (old : ValidatorView S G D L C)
    (begins : BeginWithOneView old.voter) (epoch : x.epoch ≡ old.voter.node.epoch)
    (past : ValidatorHistory D K G C) (earlier : Conduct D) (is : IsRunning x past earlier old) where
  floor_is :
      old.voter.journal.is_open ≡ true
      → old.voter.journal.contents.floor ≡ numbered x.epoch (window_by past).finalized
  floor_is opened =
      begins.floor_is opened ∙ ap (λ e. numbered e old.voter.node.window.finalized) (sym epoch)
      ∙ ap (λ w. numbered x.epoch w.finalized) is.voting.represents.window_is

  -- no vote of the journal is left
  no_vote_due :
      old.voter.journal.is_open ≡ true
      → SendsNone old
      → (s : Subject D) → HasVoted (conduct_in earlier past) s
      → is_below (numbered x.epoch (window_by past).finalized) (round_in s) ≡ false
      → HasSent past s
  no_vote_due opened none s has above =
      let votes = old.voter.journal.contents.votes in
      let it = (is.voting.remembers opened).are_there s has
      (subst (λ f. is_below f (round_in s) ≡ false) (sym (floor_is opened)) above) in
      subst (λ t. HasSent past t) it.is_for
      ((all_sent opened).were_given it.vote
      (subst (λ vs. Contains vs it.vote)
      (sym (take_all none.place votes (past_end votes none.place none.none))) it.there))
    where
      all_sent : old.voter.journal.is_open ≡ true
          → AreFirst subject_of
          (λ s. is_earlier old.given.resending.from s
          || is_over_for old.voter.journal.contents.floor s)
          (λ s. HasSent past s) old.voter.journal.contents.votes none.place
      all_sent still =
          pass_over (is_over_for old.voter.journal.contents.floor) (λ s. HasSentOnce past s) (λ s. HasSent past s)
          old.given.resending.from old.voter.journal.contents.votes old.given.tally.sent (is.votes still)
          (sent_once past)
          (λ s earlier_one was. earlier_sent past s
          (subst (λ n. is_earlier n s ≡ true) (sym is.resends.0) earlier_one) was)
          old.given.tally.resent none.place (is.votes_again still) none.is_next

  -- and none of an earlier life is left to be cast again
  no_cast_due :
      old.voter.journal.is_open ≡ true
      → (old.given.tally.begun ≤ old.given.tally.recast)
      ⊎ (slice_get old.voter.journal.contents.votes old.given.tally.recast ≡ None)
      → (s : Subject D) → HadVoted earlier past s
      → is_below (numbered x.epoch (window_by past).finalized) (round_in s) ≡ false
      → HasRecast past s
  no_cast_due opened none s had above =
      let it = (is.begins opened).no_others s had
      (subst (λ f. is_below f (round_in s) ≡ false) (sym (floor_is opened)) above) in
      subst (λ t. HasRecast past t) it.is_of ((is.casts opened).were_given it.item (among it.item it.there none))
    where
      votes : List (Vote G D)
      votes = old.voter.journal.contents.votes

      among :
          (vote : Vote G D) → Contains (take old.given.tally.begun votes) vote
          → (old.given.tally.begun ≤ old.given.tally.recast)
          ⊎ (slice_get votes old.given.tally.recast ≡ None)
          → Contains (take old.given.tally.recast votes) vote
      among vote there (inl le) =
          contained_more votes old.given.tally.begun old.given.tally.recast vote le there
      among vote there (inr end) =
          contained_more votes old.given.tally.begun old.given.tally.recast vote
          (omega (arith, (is.begins opened).within, past_end votes old.given.tally.recast end)) there

  -- nobody is blocked who wasn't given to be
  no_block_due :
      (old.given.calm ≡ true) ⊎ ((i : ℕ) → i < length x.meaning.participants
      → (cause_at old.voter.node.blocked i ≡ None) ⊎ (slice_get old.given.blocked i ≡ Some true))
      → NobodyIsToBlock x past
  no_block_due (inl calm) = is.calms calm
  no_block_due (inr blocks) = λ i lt. elim (blocks i lt) [
    | inl none ↦ inl (sym (is.voting.represents.blocked_are i lt) ∙ none)
    | inr noted ↦ inr (is.blocks.were_blocked i noted)
  ]

  -- all votes that wait are being verified
  no_verify_due :
      (old.given.verifying ≡ true) ⊎ IsAtRest old.voter.node
      → IsVerifying past
      ⊎ ((view : ℕ) → (window_by past).finalized ≤ view
      → is_to_be_tried (view_history view (calls_in past)) ≡ false)
  no_verify_due (inl noted) =
      inl (subst (λ b. MatchBool b (IsVerifying past) (IsVerifying past → ⊥)) noted is.verifies)
  no_verify_due (inr rests) = inr (λ view from. of_slot view (slot_at old.voter.node.rounds view)
      (rests view) (is.voting.represents.views view
      (subst (λ w. w.finalized ≤ view) (sym is.voting.represents.window_is) from)))
    where
      of_slot : (view : ℕ) (at : Option (Slot (RoundView S G D)))
          → IfSome at (λ slot. slot.changed ≡ false)
          → MatchOption at (view_history view (calls_in past)
          ≡ []) (ViewRepresents x (calls_in past) view)
          → is_to_be_tried (view_history view (calls_in past)) ≡ false
      of_slot view None rest none = ap is_to_be_tried none
      of_slot view (Some slot) rest there = sym there.changed_is ∙ rest

  -- the next view was entered, or given to be
  pub no_enter_due :
      (2 ^ 64 ≤ old.voter.knowledge.highest + 1)
      ⊎ ((old.voter.knowledge.highest + 1 ≤ old.voter.node.window.current)
      ⊎ (old.voter.knowledge.highest + 1 ≤ old.given.asked))
      → (next : ℕ) → IsNextIn x past next → (window_by past).finalized < next → next < 2 ^ 64
      → (next ≤ (window_by past).current) ⊎ HasAskedFrom past next
  no_enter_due some next is_next above small =
      of_cases some
    where
      within : next ≤ old.voter.knowledge.highest + 1
      within = elim (is_next.behind_one) [
        | inl first ↦ omega (
          arith,
          first,
          ap (λ w. w.finalized) is.voting.represents.window_is,
          begins.from_final,
          is.voting.is_highest.from_floor,
        )
        | inr one ↦ omega (
          arith,
          one.1.0,
          ap (λ r. r.view.0) one.1.1.of_round,
          is.voting.is_highest.none_above one.1.1.subject one.1.1.known
              (ap (λ r. r.epoch) one.1.1.of_round ∙ epoch ∙ sym begins.of_epoch),
        )
      ]

      -- the highest view is known, so the next one is behind it
      beyond : old.voter.knowledge.highest < next
      beyond = elim (is.voting.is_highest.is_known) [
        | inl floor ↦ omega (
          arith,
          floor,
          begins.from_final,
          ap (λ w. w.finalized) is.voting.represents.window_is,
          above,
        )
        | inr one ↦ omega (
          arith,
          ap (λ r. r.view.0) one.of_round,
          is_next.behind_all one.subject one.known
              (ap (λ r. r.epoch) one.of_round ∙ begins.of_epoch ∙ sym epoch),
        )
      ]

      of_cases :
          (2 ^ 64 ≤ old.voter.knowledge.highest + 1)
          ⊎ ((old.voter.knowledge.highest + 1 ≤ old.voter.node.window.current)
          ⊎ (old.voter.knowledge.highest + 1 ≤ old.given.asked))
          → (next ≤ (window_by past).current) ⊎ HasAskedFrom past next
      of_cases (inl end) = absurd (omega (arith, end, beyond, small))
      of_cases (inr (inl entered)) =
          inl (omega (arith, within, entered, ap (λ w. w.current) is.voting.represents.window_is))
      of_cases (inr (inr asked)) =
          inr (is.asks.were_asked next (omega (arith, above)) (omega (arith, within, asked)))

  -- each certificate that counts was given to be sent
  no_certificate_due :
      length old.shelf.certificates ≤ old.shelf.handed
      → (c : Certificate C D) → Counts x past c → HasHanded past (kind_and_round c)
  no_certificate_due all c counts =
      let it = is.kept.are_there c counts in
      subst (λ key. HasHanded past key) it.is_of
      (is.certificates.were_given it.item
      (subst (λ cs. Contains cs it.item) (sym (take_all old.shelf.handed old.shelf.certificates all)) it.there))

  -- and what is notarized to be forwarded
  no_forward_due :
      old.given.forwarding ≡ None
      → (number : Round) → HasHanded past (Notarization, number) → HasForwarded past number
  no_forward_due none number handed =
      elim (all_forwarded x earlier past is.in_turn number handed) [
        | inl was ↦ was
        | inr due ↦ absurd (no_both (to_forward past) (is.forwards ∙ none) due)
      ]
    where
      no_both : (o : Option Round) → o ≡ None → o ≡ Some number → ⊥
      no_both o none some = absurd cc

  -- and each finalization as final
  no_final_due :
      HaveNoFinal old.given.announced old.shelf.certificates
      → (c : Certificate C D) → Counts x past c → (p : Proposal D)
      → subject_certified c ≡ Finalize p
      → 0 < p.round.view.0 → HasAnnouncedFrom past p.round.view.0
  no_final_due all c counts p is_of some =
      let it = is.kept.are_there c counts in
      let other = final_of it.item (ap (λ (k : Kind × Round). k.0) it.is_of ∙ kind_of c p is_of) in
      let round : other.0.round ≡ p.round =
      sym (ap round_in other.1) ∙ ap (λ (k : Kind × Round). k.1) it.is_of ∙ ap round_in is_of in
      is.finals.were_asked p.round.view.0 some
      (omega (arith, ap (λ (r : Round). r.view.0) round, all it.item it.there other.0 other.1))

  pub nothing_due_meanwhile :
      old.voter.journal.is_open ≡ true
      → (old.given.calm ≡ true) ⊎ ((i : ℕ) → i < length x.meaning.participants
      → (cause_at old.voter.node.blocked i ≡ None) ⊎ (slice_get old.given.blocked i ≡ Some true))
      → (old.given.tally.begun ≤ old.given.tally.recast)
      ⊎ (slice_get old.voter.journal.contents.votes old.given.tally.recast ≡ None)
      → (2 ^ 64 ≤ old.voter.knowledge.highest + 1)
      ⊎ ((old.voter.knowledge.highest + 1 ≤ old.voter.node.window.current)
      ⊎ (old.voter.knowledge.highest + 1 ≤ old.given.asked))
      → (old.given.verifying ≡ true) ⊎ IsAtRest old.voter.node
      → NothingIsProposed x earlier past → NothingIsDueMeanwhile x earlier past
  nothing_due_meanwhile opened blocks casts enters verifies proposals =
      record {
        blocks = no_block_due blocks;
        enters = no_enter_due enters;
        casts = no_cast_due opened casts;
        verifies = no_verify_due verifies;
        proposals = proposals;
      }

  pub nothing_due :
      old.voter.journal.is_open ≡ true
      → (old.given.calm ≡ true) ⊎ ((i : ℕ) → i < length x.meaning.participants
      → (cause_at old.voter.node.blocked i ≡ None) ⊎ (slice_get old.given.blocked i ≡ Some true))
      → HaveNoFinal old.given.announced old.shelf.certificates
      → (old.given.tally.begun ≤ old.given.tally.recast)
      ⊎ (slice_get old.voter.journal.contents.votes old.given.tally.recast ≡ None)
      → SendsNone old
      → length old.shelf.certificates ≤ old.shelf.handed
      → old.given.forwarding ≡ None
      → (2 ^ 64 ≤ old.voter.knowledge.highest + 1)
      ⊎ ((old.voter.knowledge.highest + 1 ≤ old.voter.node.window.current)
      ⊎ (old.voter.knowledge.highest + 1 ≤ old.given.asked))
      → (old.given.verifying ≡ true) ⊎ IsAtRest old.voter.node
      → NothingIsProposed x earlier past → NothingIsToSign x earlier past
      → NothingIsDue x earlier past
  nothing_due opened blocks finals casts votes certificates forwards enters verifies proposals signs =
      record {
        meanwhile = nothing_due_meanwhile opened blocks casts enters verifies proposals;
        finals = no_final_due finals;
        learns = λ c counts. all_learned x earlier past is.in_turn c counts.had;
        votes = no_vote_due opened votes;
        certificates = no_certificate_due certificates;
        forwards = no_forward_due forwards;
        signs = signs;
      }
