-- What the honest agree on.
use Rattle.std.specs.Prelude.{◌≡◌, ◌≤◌, ℕ, Bool}
use Rattle.batcher.specs.Meaning.{Meaning}
use Rattle.batcher.specs.messages.Proposal.{Proposal}
use Rattle.batcher.specs.messages.Subject.TheVariants.{Notarize, Nullify, Finalize}
use Rattle.batcher_node.specs.Windows.{numbered}
use Rattle.batcher_agreement.specs.Policy.{Conduct}
use Rattle.batcher_agreement.specs.Participants.{IsHeldByHonest}

module _ {D K G C : Type 0} (m : Meaning D K G C) (is_faulty : ℕ → Bool)
    (conduct : ℕ → Conduct D) where
  abbrev pub IsNotarized : Proposal D → Type 0
  IsNotarized p = IsHeldByHonest m is_faulty conduct (Notarize p)

  abbrev pub IsFinal : Proposal D → Type 0
  IsFinal p = IsHeldByHonest m is_faulty conduct (Finalize p)

  -- A proposal is in the chain of another: it is that one, or in the chain of what was notarized in
  -- the view of the other's parent.
  pub data IsInChain (p : Proposal D) : Proposal D → Type 0 where
    itself : IsInChain p p
    above : (q parent : Proposal D) → parent.round ≡ numbered q.round.epoch q.parent.0
        → IsNotarized parent → IsInChain p parent → IsInChain p q

  pub record Agree : Type 0 where
    -- In a view one proposal is notarized at most, and so a proposal has one chain. What is final
    -- is notarized, and its view isn't nullified.
    pub one_notarized :
        (p q : Proposal D) → q.round ≡ p.round → IsNotarized p → IsNotarized q → q ≡ p
    pub final_are_notarized : (p : Proposal D) → IsFinal p → IsNotarized p
    pub one_final : (p q : Proposal D) → q.round ≡ p.round → IsFinal p → IsNotarized q → q ≡ p
    pub not_nullified :
        (p : Proposal D) → IsFinal p → IsHeldByHonest m is_faulty conduct (Nullify p.round) → ⊥
    -- What is final is in the chain of all that is notarized or final in later views of its epoch.
    pub in_later_chains :
        (p q : Proposal D) → q.round.epoch ≡ p.round.epoch → p.round.view.0 ≤ q.round.view.0
        → IsFinal p → IsNotarized q → IsInChain p q
    pub in_later_final_chains :
        (p q : Proposal D) → q.round.epoch ≡ p.round.epoch → p.round.view.0 ≤ q.round.view.0
        → IsFinal p → IsFinal q → IsInChain p q
