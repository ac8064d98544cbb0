-- What the theorem supposes of participants: few are faulty, and each other one is a voter.
use Rattle.std.specs.Prelude.{◌≤◌, ◌-◌, ◌/◌, ℕ, Bool, List, length}
use Rattle.std.specs.List.{AllByRecursion}
use Rattle.batcher.specs.Meaning.{Meaning}
use Rattle.batcher_evidence.specs.Rounds.{count_below}
use Rattle.batcher_node.specs.Nodes.{NodeConfig, NodeView}
use Rattle.batcher_agreement.specs.Lives.{IsLife, Life, conduct_of_lives}
use Rattle.batcher_agreement.specs.Participants.{IsHonest}
use Rattle.batcher_agreement.specs.Policy.{KeepsPolicy}

-- Fewer than a third of the participants are faulty, of whom there are some.
pub record AreFewFaulty {D K G C : Type 0} (m : Meaning D K G C) (is_faulty : ℕ → Bool)
    : Type 0 where
  pub some : 1 ≤ length m.participants
  pub few : count_below (length m.participants) is_faulty ≤ (length m.participants - 1) / 3

-- Each that isn't faulty has lives with nodes of the scheme, one after the other, and keeps the
-- policy by what it voted for and learned in all of them.
pub record AreVoters {S D K G C : Type 0} (meaning : S → Meaning D K G C)
    (config : NodeView S G D → NodeConfig D K G C) (m : Meaning D K G C) (is_faulty : ℕ → Bool)
    (lives : ℕ → List (Life S D K G C)) : Type 0 where
  pub have_nodes : (i : ℕ) → IsHonest m is_faulty i
      → AllByRecursion (IsLife meaning config m) (lives i)
  pub keep_policy : (i : ℕ) → IsHonest m is_faulty i → KeepsPolicy (conduct_of_lives (lives i))
