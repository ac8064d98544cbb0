-- How a run goes on: by one more call, to what it leaves in the end.
use Rattle.batcher_histories.proofs.Words.{◌++◌, ◌∷◌, [], List, refl, sym, subst, Stream, Call, Answer, Config, RoundState, nothing_held, Steps, Runs, History}
use Rattle.batcher_histories.proofs.Words.{history, IsPossible, IsAnswered, AreAnswered, Represents, Meets, IsPromised, IsRun}
use Rattle.batcher_histories.proofs.History.Laws.{HasLaws}
use Rattle.batcher_histories.proofs.KnownLemmas.AtFirst.{fresh_represents}
use Rattle.batcher_histories.proofs.Runs.Histories.{meets_represents, history-push, answered-push}
use Rattle.batcher_histories.proofs.Runs.Grown.{Runs-push}
use Rattle.batcher_histories.proofs.Headline.Promises.{promised}
use Rattle.batcher_histories.proofs.Certificates.Agree.{gives_safely}
use Rattle.batcher_histories.proofs.Certificates.Timing.{gives_promptly}
use Rattle.batcher_histories.proofs.Blocks.Blocked.{blocks_justly}
use Rattle.batcher_histories.proofs.Blocks.Caused.{blocked_for_cause_all}
use Rattle.batcher_histories.proofs.Blocks.Reported.{reports_truly}
use Rattle.batcher_histories.proofs.Blocks.Honest.{takes_in_honest}
use Rattle.batcher_histories.proofs.Blocks.Flood.{flood_bounded}
use Rattle.batcher_histories.proofs.AnswerFacts.Told.{answered_conflicts}
use Rattle.batcher_histories.proofs.AnswerFacts.Facts.{holds_throughout}
use Rattle.batcher_histories.proofs.AnswerFacts.ByDefinition.{follows_by_definition}

-- what stays true of a run while it goes on
pub record Goes {D K G C : Type 0} (x : Config D K G C) (before : Stream)
    (calls : List (Call K G C D)) (answers : List (Answer G C D)) (held : RoundState G D) (after : Stream)
    : Type 0 where
  pub runs : Runs x (nothing_held x.mode) before calls answers held after
  pub represents : Represents x (history calls answers) held
  pub answered : AreAnswered x [] calls answers

module _ {D K G C : Type 0} (x : Config D K G C) where
  pub goes_first : (before : Stream) → Goes x before [] [] (nothing_held x.mode) before
  goes_first before = record { runs = (refl, refl); represents = fresh_represents x; answered = tt }

  pub goes_more : (before : Stream) (calls : List (Call K G C D)) (answers : List (Answer G C D))
      (held : RoundState G D) (stream : Stream) (call : Call K G C D) (answer : Answer G C D)
      (new : RoundState G D) (after : Stream) →
      Goes x before calls answers held stream → Steps x held stream call answer new after
      → Meets x (history calls answers) held (call, answer) new
      → IsAnswered x (history calls answers) call answer →
      Goes x before (calls ++ call ∷ []) (answers ++ answer ∷ []) new after
  goes_more before calls answers held stream call answer new after goes step meets answered =
      record {
        runs = Runs-push x (nothing_held x.mode) before calls answers held stream call answer new after goes.runs step;
        represents =
            subst (λ past. Represents x past new) (sym (history-push x [] calls answers call answer goes.answered))
            (meets_represents x (history calls answers) held call answer new goes.represents meets);
        answered = answered-push x [] calls answers call answer goes.answered answered;
      }

  -- What is promised of the history of a list of calls holds of every possible history.
  pub is_promised : HasLaws x → (past : History D K G C) → IsPossible x past → IsPromised x past
  is_promised laws past possible =
      record {
        promises = promised x laws past possible;
        gives_safely = gives_safely x laws past possible;
        gives_promptly = gives_promptly x laws past possible;
        blocks_justly = blocks_justly x laws past possible;
        reports_truly = reports_truly x past possible;
        takes_in_honest = takes_in_honest x laws past possible;
        flood_bounded = flood_bounded x laws past possible;
        throughout = holds_throughout x laws past possible;
        follows = follows_by_definition x laws past;
      }

  pub goes_to : HasLaws x → (before : Stream) (calls : List (Call K G C D))
      (answers : List (Answer G C D)) (held : RoundState G D) (after : Stream)
      → Goes x before calls answers held after → IsRun x before calls answers held after
  goes_to laws before calls answers held after goes =
      record {
        runs = goes.runs;
        represents = goes.represents;
        answered = goes.answered;
        promised = is_promised laws (history calls answers) goes.represents.possible;
        conflicts_have_cause = answered_conflicts x laws [] calls answers goes.answered;
        blocked_gave_cause = blocked_for_cause_all x laws [] calls answers goes.answered;
        some_participant = laws.some_participant;
      }
