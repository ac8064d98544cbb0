use Rattle.batcher_voter.proofs.Words.{◌≡◌, ◌≤◌, ◌<◌, ℕ, true, IsParent, learned_at}
use Rattle.batcher_voter.proofs.knowledge.Knowledge.walk_below.Given as goal

abbrev pub invariant-loop-below : goal.invariant-loop-below
invariant-loop-below g l =
    (l.below ≤ l.view) × ((between : ℕ) → l.below ≤ between → between < l.view
    → ((learned_at l.self between).nullified ≡ true) × (IsParent l.self between → ⊥))

abbrev pub decreases-loop-below : goal.decreases-loop-below
decreases-loop-below g l = l.below
