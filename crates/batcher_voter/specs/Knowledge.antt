-- What a voter knows to be certified, by what it learned.
use Rattle.std.specs.Prelude.{◌≡◌, ◌==◌, ◌<◌, ◌≤◌, ◌⊎◌, ℕ, cond, true, false, List, [], ◌∷◌, Some}
use Rattle.std.specs.Prelude.{None, is_some, max, unwrap_or}
use Rattle.batcher.specs.Votes.{round_in, same_round}
use Rattle.batcher.specs.messages.Subject.{Subject}
use Rattle.batcher.specs.messages.Subject.TheVariants.{Notarize, Nullify, Finalize}
use Rattle.batcher.specs.positions.Epoch.{Epoch}
use Rattle.batcher.specs.positions.Round.{Round}
use Rattle.batcher_agreement.specs.Policy.{Conduct, Knows, learned, voted}
use Rattle.batcher_node.specs.Nodes.{slot_at}
use Rattle.batcher_node.specs.Windows.{numbered}
use Rattle.batcher_voter.specs.declared.knowledge.Learned.{Learned}

-- What is known of an epoch, from the floor on: by the views' numbers, ascending.
pub record KnowledgeView (D : Type 0) : Type 0 where
  pub epoch : Epoch
  pub floor : ℕ
  -- the highest view of which something was learned, or the floor
  pub highest : ℕ
  pub views : List (ℕ × Learned D)

module _ {D : Type 0} where
  abbrev pub nothing_learned : Learned D
  nothing_learned = record { notarized = None; nullified = false; finalized = None }

  -- with a certificate of this
  abbrev pub with_learned : Subject D → Learned D → Learned D
  with_learned (Notarize p) before = record before { notarized = Some p }
  with_learned (Nullify number) before = record before { nullified = true }
  with_learned (Finalize p) before = record before { finalized = Some p }

  -- what was learned of a round
  abbrev pub learned_of : Conduct D → Round → Learned D
  learned_of [] number = nothing_learned
  learned_of (voted s ∷ past) number = learned_of past number
  learned_of (learned s ∷ past) number =
      cond (same_round (round_in s) number) (with_learned s (learned_of past number))
      (learned_of past number)

  abbrev pub learned_at : KnowledgeView D → ℕ → Learned D
  learned_at knowledge view = unwrap_or (slot_at knowledge.views view) nothing_learned

  -- From the floor on, a voter knows of each view what was learned.
  abbrev pub HasLearned : KnowledgeView D → Conduct D → Type 0
  HasLearned knowledge past =
      (view : ℕ) → knowledge.floor ≤ view
      → learned_at knowledge view ≡ learned_of past (numbered knowledge.epoch view)

  -- a certificate of the round is known
  pub record KnowsOf (past : Conduct D) (number : Round) : Type 0 where
    pub subject : Subject D
    pub of_round : round_in subject ≡ number
    pub known : Knows past subject

  -- No certificate of a view above is known, but of this one, unless it is the floor.
  pub record IsHighest (knowledge : KnowledgeView D) (past : Conduct D) : Type 0 where
    pub none_above :
        (s : Subject D) → Knows past s → (round_in s).epoch ≡ knowledge.epoch
        → (round_in s).view.0 ≤ knowledge.highest
    pub is_known :
        (knowledge.highest ≡ knowledge.floor)
        ⊎ KnowsOf past (numbered knowledge.epoch knowledge.highest)
    pub from_floor : knowledge.floor ≤ knowledge.highest

  -- a view on which a proposal may be: the start, or one of which a proposal is known to be
  -- notarized or final
  abbrev pub IsParent : KnowledgeView D → ℕ → Type 0
  IsParent knowledge view =
      (view ≡ 0) ⊎ ((is_some (learned_at knowledge view).notarized ≡ true)
      ⊎ (is_some (learned_at knowledge view).finalized ≡ true))

  -- each view between the two is known to be nullified
  abbrev pub AreNullified : KnowledgeView D → ℕ → ℕ → Type 0
  AreNullified knowledge parent view =
      (between : ℕ) → parent < between → between < view
      → (learned_at knowledge between).nullified ≡ true

  -- and none of these is such a view
  abbrev pub HaveNoParent : KnowledgeView D → ℕ → ℕ → Type 0
  HaveNoParent knowledge parent view =
      (between : ℕ) → parent < between → between < view → IsParent knowledge between → ⊥

  -- What is noted, so that a parent is found without a walk: these views are known to be nullified,
  -- and no view above the last is such a view, which isn't before the floor.
  pub record AreNoted (first end last : ℕ) (knowledge : KnowledgeView D) : Type 0 where
    pub nullified :
        (view : ℕ) → first ≤ view → view < end → (learned_at knowledge view).nullified ≡ true
    pub no_parent : (view : ℕ) → last < view → IsParent knowledge view → ⊥
    pub from_floor : knowledge.floor ≤ last

  abbrev pub HasRoom : KnowledgeView D → ℕ → Type 0
  HasRoom knowledge view = is_some (slot_at knowledge.views view) ≡ true

  -- the same is known
  pub record SameKnowledge (old new : KnowledgeView D) : Type 0 where
    pub epoch : new.epoch ≡ old.epoch
    pub floor : new.floor ≡ old.floor
    pub highest : new.highest ≡ old.highest
    pub each : (view : ℕ) → learned_at new view ≡ learned_at old view

  -- a certificate of this came
  pub record Learns (s : Subject D) (old new : KnowledgeView D) : Type 0 where
    pub epoch : new.epoch ≡ old.epoch
    pub floor : new.floor ≡ old.floor
    pub highest : new.highest ≡ max old.highest (round_in s).view.0
    pub each :
        (view : ℕ) → learned_at new view ≡ cond ((round_in s).view.0 == view)
        (with_learned s (learned_at old view)) (learned_at old view)

  -- the views before this one are forgotten
  pub record Forgets (first : ℕ) (old new : KnowledgeView D) : Type 0 where
    pub epoch : new.epoch ≡ old.epoch
    pub floor : new.floor ≡ max old.floor first
    pub highest : new.highest ≡ max old.highest first
    pub each : (view : ℕ) → first ≤ view → learned_at new view ≡ learned_at old view
    pub room : (view : ℕ) → first ≤ view → HasRoom old view → HasRoom new view
