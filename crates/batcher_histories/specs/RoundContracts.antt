-- The configuration of a round, and what holds of one call whatever history the round represents.
use Rattle.std.specs.Prelude.{◌≡◌, Bool, true, Result, IfOk, OnErr}
use Rattle.std.specs.declared.cmp.Ordering.{Ordering}
use Rattle.batcher_histories.specs.declared.calls.Call.{Call}
use Rattle.batcher_histories.specs.declared.answers.Answer.{Answer}
use Rattle.batcher_types.specs.Meaning.{Meaning}
use Rattle.batcher_histories.specs.Config.{Config, config}
use Rattle.batcher_votes.specs.RoundState.{RoundState, RoundView}
use Rattle.batcher_histories.specs.History.{History}
use Rattle.batcher_histories.specs.Answers.{needs_memory}
use Rattle.batcher_histories.specs.Represents.{Represents, Simulates, Meets}

-- the configuration of a round: its scheme, its number, its mode, and the comparisons of its values
abbrev pub round_config : {S D K G C : Type 0} → (S → Meaning D K G C) → (K → K → Ordering)
    → (G → G → Bool) → (D → D → Bool) → RoundView S G D → Config D K G C
round_config meaning compare_keys same_signature same_digest round =
    config (meaning round.scheme) compare_keys same_signature same_digest round.number round.mode

module _ {S D K G C : Type 0} (config_of_round : RoundView S G D → Config D K G C)
    (round : RoundView S G D) where
  -- It holds of every history that the round represents, in its configuration.
  abbrev pub ForEachHistory : (Config D K G C → History D K G C → Type 0) → Type 0
  ForEachHistory holds =
      let x = config_of_round round in
      (past : History D K G C) → Represents x past round.holds → holds x past

  -- A call that always answers is simulated with its answer.
  abbrev pub SimulatesAlways : Call K G C D × Answer G C D → RoundState G D → Type 0
  SimulatesAlways event new = ForEachHistory (λ x past. Simulates x past round.holds event new)

  -- A call that always answers meets the model, whether it is refused or made.
  abbrev pub MeetsAlways : Call K G C D × Answer G C D → RoundState G D → Type 0
  MeetsAlways event new = ForEachHistory (λ x past. Meets x past round.holds event new)

  -- A call that is made is simulated with its answer.
  abbrev pub SimulatesOnOk : {A E : Type 0} → Call K G C D → (A → Answer G C D) → Result A E
      → RoundState G D → Type 0
  SimulatesOnOk call answered result new =
      ForEachHistory (λ x past.
      IfOk result (λ answer. Simulates x past round.holds (call, answered answer) new))

  -- A call is refused for memory only where the history says that it may need some.
  abbrev pub IsRefusedForNeed : {A E : Type 0} → Call K G C D → Result A E → Type 0
  IsRefusedForNeed call result =
      ForEachHistory (λ x past. OnErr result (needs_memory x past call ≡ true))
