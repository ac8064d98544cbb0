-- Who is absent. A view is given up as it is entered, where its leader is, or is blocked.
use Rattle.std.specs.Prelude.{ℕ, Bool, true, false, cond, not, ◌*◌, ◌&&◌, ◌||◌, ◌==◌, List, [], ◌∷◌}
use Rattle.std.specs.Prelude.{Option, None, Some, is_some, length, nat_le, nat_lt, set}
use Rattle.std.specs.List.{count_by}
use Rattle.batcher.specs.Lists.{is_some_and}
use Rattle.batcher.specs.positions.Participant.{Participant}
use Rattle.batcher_agreement.specs.Lives.{called}
use Rattle.batcher_node.specs.Events.{NodeEvent, NodeHistory, cause_in, certificate_came, is_peer}
use Rattle.batcher_node.specs.Events.{view_entered, vote_came}
use Rattle.batcher_node.specs.Nodes.{NodeConfig}
use Rattle.batcher_node.specs.declared.answers.Receipt.{Receipt}
use Rattle.batcher_node.specs.declared.answers.Receipt.TheVariants.{Answered, Dropped, Outside}
use Rattle.batcher_node.specs.declared.answers.Receipt.TheVariants.{Unknown}
use Rattle.batcher_validator.specs.Histories.{ValidatorHistory, calls_in, did, gave_up, me_in}

-- A message is a sign of life of its sender, also where it is of a view outside of the window. It
-- is none where the sender takes no part, or is blocked.
abbrev pub is_sign : {A : Type 0} → Receipt A → Bool
is_sign (Answered answer) = true
is_sign Outside = true
is_sign Dropped = false
is_sign Unknown = false

-- what is noted once a message came of a participant
abbrev pub with_sign : Bool → Option Participant → List ℕ → List ℕ
with_sign false sender silences = silences
with_sign true None silences = silences
with_sign true (Some who) silences = set silences who.0 0

-- whether a call entered a view
abbrev pub enters : {D K G C : Type 0} → NodeEvent D K G C → Bool
enters (view_entered view leader) = true
enters event = false

module _ {D K G C : Type 0} (x : NodeConfig D K G C) where
  -- whether a call took in a sign of life of the participant of an index
  abbrev pub is_sign_of : ℕ → NodeEvent D K G C → Bool
  is_sign_of i (vote_came peer vote receipt) = is_sign receipt && is_peer x peer i
  is_sign_of i (certificate_came peer certificate receipt) = is_sign receipt && is_peer x peer i
  is_sign_of i event = false

  -- the calls since the last of these, the newest first
  abbrev pub since_sign : ℕ → NodeHistory D K G C → NodeHistory D K G C
  since_sign i [] = []
  since_sign i (event ∷ past) = cond (is_sign_of i event) [] (event ∷ since_sign i past)

  -- how many views were entered since, in this life
  abbrev pub silence_of : ℕ → NodeHistory D K G C → ℕ
  silence_of i past = count_by enters (since_sign i past)

  -- The participant of an index is absent: at least twice as many views as there are participants.
  abbrev pub is_absent : ValidatorHistory D K G C → ℕ → Bool
  is_absent past i =
      nat_le (length x.meaning.participants * 2) (silence_of i (calls_in past))

  abbrev pub is_blocked : ValidatorHistory D K G C → ℕ → Bool
  is_blocked past i = is_some (cause_in x (calls_in past) i)

  abbrev pub is_itself : ValidatorHistory D K G C → ℕ → Bool
  is_itself past i = is_some_and (me_in past) (λ me. me.0 == i)

  -- A leader's views are given up: it is another participant, and blocked, or absent.
  abbrev pub is_given_up : ValidatorHistory D K G C → Participant → Bool
  is_given_up past leader =
      nat_lt leader.0 (length x.meaning.participants)
      && (not (is_itself past leader.0) && (is_blocked past leader.0 || is_absent past leader.0))

  -- what happened once a view was entered with its leader
  abbrev pub entering : ValidatorHistory D K G C → ℕ → Participant → ValidatorHistory D K G C
  entering past view leader =
      cond (is_given_up past leader) (gave_up view ∷ did (called (view_entered view leader)) ∷ past)
      (did (called (view_entered view leader)) ∷ past)
