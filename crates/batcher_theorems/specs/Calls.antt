-- Lives of a validator, call by call, by what its contracts say of each.
use Rattle.std.specs.Prelude.{◌≡◌, ⊤, List, [], ◌∷◌, ◌++◌}
use Rattle.batcher.specs.Meaning.{Meaning}
use Rattle.batcher.specs.messages.Certificate.{Certificate}
use Rattle.batcher_agreement.specs.Policy.{Conduct}
use Rattle.batcher_bytes.specs.Format.{Format}
use Rattle.batcher_node.specs.Nodes.{NodeConfig, NodeView, SameNode}
use Rattle.batcher_validator.specs.Histories.{ValidatorHistory, began, only_took}
use Rattle.batcher_validator.specs.Running.{HasBegun, IsRunning, ValidatorView}
use Rattle.batcher_theorems.specs.Lives.{ValidatorLife, acts_in}

-- All that had happened in a life once a call had ended, the newest first, and what the call left.
pub record MadeCall (S D K G C L : Type 0) : Type 0 where
  pub past : ValidatorHistory D K G C
  pub after : ValidatorView S G D L C

-- A life: a validator as it was made, and its calls, the first one first.
pub record CalledLife (S D K G C L : Type 0) : Type 0 where
  pub begun : ValidatorView S G D L C
  pub calls : List (MadeCall S D K G C L)

module _ {S D K G C L : Type 0} where
  -- what had happened once all calls had ended
  abbrev pub past_after : ValidatorHistory D K G C → List (MadeCall S D K G C L)
      → ValidatorHistory D K G C
  past_after past [] = past
  past_after past (call ∷ later) = past_after call.past later

  -- what they left
  abbrev pub left_after : ValidatorView S G D L C → List (MadeCall S D K G C L)
      → ValidatorView S G D L C
  left_after before [] = before
  left_after before (call ∷ later) = left_after call.after later

  module _ (config : NodeView S G D → NodeConfig D K G C) (earlier : Conduct D) where
    -- More has happened by the call, or nothing has. Where the validator before it is by what had
    -- happened, the one after it is by that and what happened. So it is where the call meets an
    -- event, gives a task, casts a vote, or leaves all as it was. The scheme and the epoch stay.
    pub record IsCall (past : ValidatorHistory D K G C) (before : ValidatorView S G D L C)
        (call : MadeCall S D K G C L) : Type 0 where
      pub more : ValidatorHistory D K G C
      pub past_is : call.past ≡ more ++ past
      pub goes_on :
          IsRunning (config before.voter.node) past earlier before
          → IsRunning (config before.voter.node) call.past earlier call.after
      pub same : SameNode before.voter.node call.after.voter.node

    abbrev pub AreCalls : ValidatorHistory D K G C → ValidatorView S G D L C
        → List (MadeCall S D K G C L) → Type 0
    AreCalls past before [] = ⊤
    AreCalls past before (call ∷ later) =
        IsCall past before call × AreCalls call.past call.after later

  module _ (config : NodeView S G D → NodeConfig D K G C)
      (certificates : Format (Certificate C D)) (meaning : S → Meaning D K G C)
      (m : Meaning D K G C) where
    -- A life by calls is this history: it began behind what was done in the lives before it, and
    -- then its calls were made.
    pub record IsLifeByCalls (earlier : List (ValidatorLife S D K G C L))
        (called : CalledLife S D K G C L) (life : ValidatorLife S D K G C L) : Type 0 where
      pub of_scheme : meaning called.begun.voter.node.scheme ≡ m
      pub has_begun :
          HasBegun (config called.begun.voter.node) certificates (acts_in earlier) called.begun
      pub are_calls :
          AreCalls config (acts_in earlier)
          (only_took has_begun.held ++ began has_begun.me has_begun.past ∷ []) called.begun
          called.calls
      pub past_is :
          life.past ≡ past_after
          (only_took has_begun.held ++ began has_begun.me has_begun.past ∷ []) called.calls
      pub validator_is : life.validator ≡ left_after called.begun called.calls

    -- The same of all lives of a participant, the last one first.
    abbrev pub AreLivesByCalls : List (CalledLife S D K G C L)
        → List (ValidatorLife S D K G C L) → Type 0
    AreLivesByCalls [] [] = ⊤
    AreLivesByCalls (called ∷ before) (life ∷ earlier) =
        IsLifeByCalls earlier called life × AreLivesByCalls before earlier
    AreLivesByCalls called lives = ⊥
