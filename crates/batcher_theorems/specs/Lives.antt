-- The lives of validators, and what they gave as final.
use Rattle.std.specs.Prelude.{◌≡◌, ◌≤◌, ◌⊎◌, ⊤, ℕ, Bool, List, [], ◌∷◌}
use Rattle.batcher.specs.Meaning.{Meaning}
use Rattle.batcher.specs.messages.Proposal.{Proposal}
use Rattle.batcher_agreement.specs.Agreement.{IsInChain}
use Rattle.batcher_agreement.specs.Lives.{Life, conduct_of_lives}
use Rattle.batcher_agreement.specs.Participants.{IsHonest}
use Rattle.batcher_agreement.specs.Policy.{Conduct}
use Rattle.batcher_node.specs.Nodes.{NodeConfig, NodeView}
use Rattle.batcher_validator.specs.Histories.{ValidatorHistory, began, gave, voter_history}
use Rattle.batcher_validator.specs.Running.{IsRunning, ValidatorView}
use Rattle.batcher_validator.specs.declared.task.Task.{Task}
use Rattle.batcher_validator.specs.declared.task.Task.TheVariants.{Final}

-- A life of a validator: what it was, and what had happened in it, when its disk had all that was
-- cast, for the last time. What was sent, signed or given as final was so by then.
pub record ValidatorLife (S D K G C L : Type 0) : Type 0 where
  pub validator : ValidatorView S G D L C
  pub past : ValidatorHistory D K G C

module _ {D K G C : Type 0} where
  -- it gave this to be done since it began
  abbrev pub HasGiven : ValidatorHistory D K G C → Task G D → Type 0
  HasGiven [] task = ⊥
  HasGiven (began me before ∷ past) task = ⊥
  HasGiven (gave given ∷ past) task = (given ≡ task) ⊎ HasGiven past task
  HasGiven (event ∷ past) task = HasGiven past task

module _ {S D K G C L : Type 0} where
  -- the same lives as those of its voter, the last one first
  abbrev pub voter_lives : List (ValidatorLife S D K G C L) → List (Life S D K G C)
  voter_lives [] = []
  voter_lives (life ∷ earlier) =
      record { node = life.validator.voter.node; past = voter_history life.past }
      ∷ voter_lives earlier

  -- what was voted for and learned in them
  abbrev pub acts_in : List (ValidatorLife S D K G C L) → Conduct D
  acts_in lives = conduct_of_lives (voter_lives lives)

  -- In one of them a proposal was given as final.
  abbrev pub HasGivenFinal : List (ValidatorLife S D K G C L) → Proposal D → Type 0
  HasGivenFinal [] p = ⊥
  HasGivenFinal (life ∷ earlier) p = HasGiven life.past (Final p) ⊎ HasGivenFinal earlier p

  module _ (meaning : S → Meaning D K G C) (config : NodeView S G D → NodeConfig D K G C)
      (m : Meaning D K G C) where
    -- Each is the life of a validator of the scheme, behind what was done in those before it.
    abbrev pub AreLives : List (ValidatorLife S D K G C L) → Type 0
    AreLives [] = ⊤
    AreLives (life ∷ earlier) =
        (meaning life.validator.voter.node.scheme ≡ m)
        × (IsRunning (config life.validator.voter.node) life.past (acts_in earlier) life.validator
        × AreLives earlier)

-- Of any two proposals that any two honest participants gave as final in an epoch, the one of the
-- lower view is in the chain of the other.
abbrev pub AgreeOnFinals : {S D K G C L : Type 0} → Meaning D K G C → (ℕ → Bool)
    → (ℕ → List (ValidatorLife S D K G C L)) → Type 0
AgreeOnFinals m is_faulty lives =
    (i j : ℕ) → IsHonest m is_faulty i → IsHonest m is_faulty j
    → (p q : Proposal _) → HasGivenFinal (lives i) p → HasGivenFinal (lives j) q
    → q.round.epoch ≡ p.round.epoch → p.round.view.0 ≤ q.round.view.0
    → IsInChain m is_faulty (λ k. acts_in (lives k)) p q
