-- Equal runs go alike: what two runs on equal rounds have in common, from the same stream.
use Rattle.std.specs.Prelude.{◌≡◌, ℕ, Bool, true, false, List, take}
use Rattle.std.specs.List.{list_any}
use Rattle.rand_core.specs.Stream.{Stream}
use Rattle.batcher_histories.specs.declared.calls.Call.{Call}
use Rattle.batcher_histories.specs.declared.answers.Answer.{Answer}
use Rattle.batcher_histories.specs.declared.answers.Answer.TheVariants.{OutOfMemory}
use Rattle.batcher_histories.specs.Config.{Config}
use Rattle.batcher_votes.specs.RoundState.{RoundState}
use Rattle.batcher_histories.specs.RunContract.{IsRun}

module _ {G C D : Type 0} where
  -- whether a call was refused for memory
  abbrev pub is_out_of_memory : Answer G C D → Bool
  is_out_of_memory OutOfMemory = true
  is_out_of_memory answer = false

  -- Memory was never refused.
  abbrev pub HadMemory : List (Answer G C D) → Type 0
  HadMemory answers = list_any is_out_of_memory answers ≡ false

-- What two runs have in common, each with its calls, its answers, what is held after them, and the
-- stream that is left.
pub record GoAlike {D K G C : Type 0}
    (calls : List (Call K G C D)) (answers : List (Answer G C D)) (held : RoundState G D)
    (after : Stream)
    (others : List (Call K G C D)) (given : List (Answer G C D)) (left : RoundState G D)
    (then : Stream)
    : Type 0 where
  -- As far as their calls are the same, and memory is refused in neither, so are their answers.
  pub answered_alike :
      (n : ℕ) → take n calls ≡ take n others
      → HadMemory (take n answers) → HadMemory (take n given) → take n answers ≡ take n given
  -- So a run of the first calls of the other has its first answers,
  pub first_answers :
      (n : ℕ) → calls ≡ take n others
      → HadMemory answers → HadMemory (take n given) → answers ≡ take n given
  -- and where all calls are the same, so is all that they leave.
  pub left_alike :
      calls ≡ others → HadMemory answers → HadMemory given
      → (answers ≡ given) × ((held ≡ left) × (after ≡ then))

module _ {D K G C : Type 0} (x : Config D K G C) where
  -- Any two runs on equal rounds go alike, where their generators have the same stream.
  abbrev pub EqualRunsGoAlike : Type 0
  EqualRunsGoAlike =
      (before : Stream) (calls others : List (Call K G C D)) (answers given : List (Answer G C D))
      (held left : RoundState G D) (after then : Stream)
      → IsRun x before calls answers held after → IsRun x before others given left then
      → GoAlike calls answers held after others given left then
