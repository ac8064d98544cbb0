-- What a list of calls on a fresh round leaves.
use Rattle.std.specs.Prelude.{◌≤◌, List, [], All}
use Rattle.rand_core.specs.Stream.{Stream}
use Rattle.batcher_histories.specs.declared.calls.Call.{Call}
use Rattle.batcher_histories.specs.declared.answers.Answer.{Answer}
use Rattle.batcher_histories.specs.Config.{Config, participants_in}
use Rattle.batcher_votes.specs.RoundState.{RoundState}
use Rattle.batcher_histories.specs.Steps.{nothing_held}
use Rattle.batcher_histories.specs.Runs.{Runs, blocked_senders}
use Rattle.batcher_histories.specs.History.{History, history}
use Rattle.batcher_histories.specs.Answers.{AreAnswered}
use Rattle.batcher_histories.specs.Represents.{Represents}
use Rattle.batcher_histories.specs.Promises.{Promises}
use Rattle.batcher_histories.specs.AnswerFacts.{AtEachCall, ConflictsWithAnother, HoldsThroughout}
use Rattle.batcher_histories.specs.Backing.{GivesSafely}
use Rattle.batcher_histories.specs.CertificateTiming.{GivesPromptly}
use Rattle.batcher_histories.specs.Blocks.{BlocksJustly, GaveCause}
use Rattle.batcher_histories.specs.Reports.{ReportsTruly}
use Rattle.batcher_histories.specs.Honest.{TakesInHonest}
use Rattle.batcher_histories.specs.Flood.{IsFloodBounded}
use Rattle.batcher_histories.specs.Consequences.{FollowsByDefinition}

-- What holds of the history of a list of calls on a fresh round, group by group.
pub record IsPromised {D K G C : Type 0} (x : Config D K G C) (past : History D K G C) : Type 0
  where
    -- the headline
    pub promises : Promises x past
    -- certificates: which are given, and how soon
    pub gives_safely : GivesSafely x past
    pub gives_promptly : GivesPromptly x past
    -- senders: whom votes block, what is reported of them, and what the honest can rely on
    pub blocks_justly : BlocksJustly x past
    pub reports_truly : ReportsTruly x past
    pub takes_in_honest : TakesInHonest x past
    -- work: what a flood of messages can cost
    pub flood_bounded : IsFloodBounded x past
    -- answers: what else holds of them, and what follows from the definitions alone
    pub throughout : HoldsThroughout x past
    pub follows : FollowsByDefinition x past

-- Each call is its step from what those before left, what is held represents all of them, each is
-- answered as those before it name, and what is promised holds.
pub record IsRun {D K G C : Type 0} (x : Config D K G C) (before : Stream)
    (calls : List (Call K G C D)) (answers : List (Answer G C D)) (held : RoundState G D)
    (after : Stream)
    : Type 0 where
  pub runs : Runs x (nothing_held x.mode) before calls answers held after
  pub represents : Represents x (history calls answers) held
  pub answered : AreAnswered x [] calls answers
  pub promised : IsPromised x (history calls answers)
  -- A call that is answered as a conflict has a cause, also one that is refused as such and so is
  -- not in the history.
  pub conflicts_have_cause : AtEachCall (ConflictsWithAnother x) [] calls answers
  -- All whom the answers block gave cause.
  pub blocked_gave_cause : All (GaveCause x (history calls answers)) (blocked_senders calls answers)
  -- Somebody takes part, so that a quorum is at least one vote.
  pub some_participant : 1 ≤ participants_in x
