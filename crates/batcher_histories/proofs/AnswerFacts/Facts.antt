-- What holds throughout a possible history.
use Rattle.batcher_histories.proofs.Words.{◌≡◌, ◌≤◌, Bool, true, false, cond, ◌||◌, [], ◌∷◌, Option, None, refl, ap, sym, ◌∙◌, arith, ⊎_elim, is_some}
use Rattle.batcher_histories.proofs.Words.{cases_Bool, false≢true, Call, NetworkCall, OwnCall, CertificateCall, LeaderCall, ConstructCall, ForwardCall}
use Rattle.batcher_histories.proofs.Words.{MissingCall, Answer, OutOfMemory, NetworkAnswer, OwnAnswer, OwnRefused, CertificateAnswer, LeaderAnswer}
use Rattle.batcher_histories.proofs.Words.{ConstructAnswer, ForwardAnswer, MissingAnswer, Config, count, count_none, History, selected_proposal, was_forwarded}
use Rattle.batcher_histories.proofs.Words.{forwards, MayAnswer, IsPossible, ConflictAnswered, NamesBadSigners, GivesSelected, ForwardsSelected, ChangesNoFixed}
use Rattle.batcher_histories.proofs.Words.{HoldsThen, HoldsThroughout}
use Rattle.batcher_histories.proofs.Headline.Promises.{at_each_event, at_each_time}
use Rattle.batcher_histories.proofs.Headline.Attesting.{proven_attest, names_bad_signers, usable_are}
use Rattle.batcher_histories.proofs.AnswerFacts.Told.{conflict_answered_so, added_are, gives_selected, forwards_selected, changes_no_fixed}
use Rattle.batcher_histories.proofs.History.Laws.{HasLaws}

-- ONE FORWARD CALL AT MOST ANSWERS A PROPOSAL
none_before : {X : Type 0} (was leader : Bool) (o : Option X)
    → is_some (cond (was || leader) None o) ≡ true → was ≡ false
none_before true leader o h = absurd (false≢true h)
none_before false leader o h = refl

module _ {D K G C : Type 0} (x : Config D K G C) where
  forwards_first : (past : History D K G C) (call : Call K G C D) (answer : Answer G C D)
      → MayAnswer x past call answer → forwards answer ≡ true → was_forwarded past ≡ false
  forwards_first past (ForwardCall me) (ForwardAnswer proposal) may h =
      none_before (was_forwarded past) _ (selected_proposal x past) (sym (ap is_some may) ∙ h)
  forwards_first past (NetworkCall sender vote) (ForwardAnswer proposal) may h = absurd may
  forwards_first past (OwnCall vote) (ForwardAnswer proposal) may h = absurd may
  forwards_first past (CertificateCall certificate) (ForwardAnswer proposal) may h = absurd may
  forwards_first past (LeaderCall leader) (ForwardAnswer proposal) may h = absurd may
  forwards_first past ConstructCall (ForwardAnswer proposal) may h = absurd may
  forwards_first past (MissingCall p) (ForwardAnswer proposal) may h = absurd may
  forwards_first past call (NetworkAnswer admission) may h = absurd (false≢true h)
  forwards_first past call (OwnAnswer outcome report) may h = absurd (false≢true h)
  forwards_first past call (OwnRefused fault) may h = absurd (false≢true h)
  forwards_first past call (CertificateAnswer changed) may h = absurd (false≢true h)
  forwards_first past call (LeaderAnswer result) may h = absurd (false≢true h)
  forwards_first past call (ConstructAnswer batch) may h = absurd (false≢true h)
  forwards_first past call (MissingAnswer missing) may h = absurd (false≢true h)
  forwards_first past call OutOfMemory may h = absurd (false≢true h)

  pub forwarded_once : (past : History D K G C) → IsPossible x past
      → count (λ event. forwards event.1) past ≤ 1
  forwarded_once [] possible = omega arith
  forwarded_once (event ∷ past) possible =
      ⊎_elim
      (λ now. let none = count_none (λ e. forwards e.1) past (forwards_first past event.0 event.1 possible.1.1.0 now) in rw now (omega (arith, none)))
      (λ other. rw other (omega (arith, forwarded_once past possible.1.1.1)))
      (cases_Bool (forwards event.1))

-- ALL OF IT
module _ {D K G C : Type 0} (x : Config D K G C) (laws : HasLaws x) where
  holds_then : (past : History D K G C) → IsPossible x past → HoldsThen x past
  holds_then past possible =
      record {
        proven_votes_attest = proven_attest x laws past possible;
        usable_are_eligible = usable_are x past possible;
      }

  -- What holds throughout does so of every possible history.
  pub holds_throughout : (past : History D K G C) → IsPossible x past → HoldsThroughout x past
  holds_throughout past possible =
      record {
        at_each_time = at_each_time x (HoldsThen x) holds_then past possible;
        conflicts_have_cause = at_each_event x (ConflictAnswered x) (conflict_answered_so x laws) past possible;
        added_are_first = added_are x past possible;
        named_signers_are_bad = at_each_event x (NamesBadSigners x) (names_bad_signers x laws) past possible;
        given_are_selected = at_each_event x (GivesSelected x) (gives_selected x laws) past possible;
        forwarded_are_selected = at_each_event x (ForwardsSelected x) (forwards_selected x) past possible;
        fixed_are_not_changed = at_each_event x (ChangesNoFixed x) (changes_no_fixed x) past possible;
        forwarded_at_most_once = forwarded_once x past possible;
      }
