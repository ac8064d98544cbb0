-- What a participant has voted for and learned, by what happened to it.
use Rattle.std.specs.Prelude.{◌≡◌, ◌⊎◌, ⊤, true, List, [], ◌∷◌, ◌++◌, Option, Some, None}
use Rattle.std.specs.Option.{option_map_or}
use Rattle.batcher.specs.Meaning.{Meaning}
use Rattle.batcher.specs.Verifiers.{certifies_itself}
use Rattle.batcher.specs.Votes.{subject_of, subject_certified}
use Rattle.batcher.specs.messages.Vote.{Vote}
use Rattle.batcher.specs.messages.Certificate.{Certificate}
use Rattle.batcher_node.specs.declared.answers.Receipt.TheVariants.{Answered}
use Rattle.batcher_node.specs.declared.answers.Verdict.TheVariants.{Recorded}
use Rattle.batcher_node.specs.Events.{NodeEvent, certificate_came, constructed, NodeHistory}
use Rattle.batcher_node.specs.Nodes.{NodeView, NodeConfig}
use Rattle.batcher_node.specs.Represents.{NodeRepresents}
use Rattle.batcher_agreement.specs.Policy.{Conduct, learned, voted}

pub data VoterEvent (D K G C : Type 0) : Type 0 where
  -- its node was called, and answered
  called : NodeEvent D K G C → VoterEvent D K G C
  -- It verified a certificate by itself, as one that its disk had.
  verified : Certificate C D → VoterEvent D K G C
  -- a vote of its own was written to its disk, to be sent
  written : Vote G D → VoterEvent D K G C

-- all that happened, the newest first
abbrev pub VoterHistory : Type 0 → Type 0 → Type 0 → Type 0 → Type 0
VoterHistory D K G C = List (VoterEvent D K G C)

-- A life, from its start to its end or to now: its node, with what happened.
pub record Life (S D K G C : Type 0) : Type 0 where
  pub node : NodeView S G D
  pub past : VoterHistory D K G C

abbrev pub learned_by : {C D : Type 0} → Option (Certificate C D) → Conduct D
learned_by held = option_map_or (λ c. learned (subject_certified c) ∷ []) held []

module _ {D K G C : Type 0} where
  -- what happened to its node
  abbrev pub node_history : VoterHistory D K G C → NodeHistory D K G C
  node_history [] = []
  node_history (called event ∷ past) = event ∷ node_history past
  node_history (event ∷ past) = node_history past

  -- A certificate is held where the node recorded or gave it, or it was verified.
  abbrev pub held_by : VoterEvent D K G C → Option (Certificate C D)
  held_by (called (certificate_came peer certificate (Answered (Recorded changed)))) =
      Some certificate
  held_by (called (constructed view (Some batch))) = batch.certificate
  held_by (verified certificate) = Some certificate
  held_by event = None

  -- what it did by an event: it learned what a certificate is of, or it voted
  abbrev pub acts_of : VoterEvent D K G C → Conduct D
  acts_of (written vote) = voted (subject_of vote) ∷ []
  acts_of event = learned_by (held_by event)

  abbrev pub conduct_of : VoterHistory D K G C → Conduct D
  conduct_of [] = []
  conduct_of (event ∷ past) = acts_of event ++ conduct_of past

  abbrev pub HasHeld : VoterHistory D K G C → Certificate C D → Type 0
  HasHeld [] c = ⊥
  HasHeld (event ∷ past) c = (held_by event ≡ Some c) ⊎ HasHeld past c

  -- The same of a participant that was started anew, the last life first.
  abbrev pub conduct_of_lives : {S : Type 0} → List (Life S D K G C) → Conduct D
  conduct_of_lives [] = []
  conduct_of_lives (life ∷ earlier) = conduct_of life.past ++ conduct_of_lives earlier

  abbrev pub HasHeldInLives : {S : Type 0} → List (Life S D K G C) → Certificate C D → Type 0
  HasHeldInLives [] c = ⊥
  HasHeldInLives (life ∷ earlier) c = HasHeld life.past c ⊎ HasHeldInLives earlier c

-- What it verified by itself certifies what it names.
abbrev pub AreVerified : {D K G C : Type 0} → Meaning D K G C → VoterHistory D K G C → Type 0
AreVerified m [] = ⊤
AreVerified m (verified c ∷ past) = (certifies_itself m c ≡ true) × AreVerified m past
AreVerified m (event ∷ past) = AreVerified m past

module _ {S D K G C : Type 0} (meaning : S → Meaning D K G C)
    (config : NodeView S G D → NodeConfig D K G C) (m : Meaning D K G C) where
  -- A life with a node of the scheme.
  pub record IsLife (life : Life S D K G C) : Type 0 where
    pub of_scheme : meaning life.node.scheme ≡ m
    pub represents : NodeRepresents (config life.node) (node_history life.past) life.node
    pub are_verified : AreVerified m life.past
