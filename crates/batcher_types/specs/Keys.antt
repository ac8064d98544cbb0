-- A list of keys as participants.
use Rattle.std.specs.Prelude.{ℕ, List, Option, position}
use Rattle.std.specs.Option.{option_map}
use Rattle.std.specs.Ordering.{is_eq}
use Rattle.std.specs.declared.cmp.Ordering.{Ordering}
use Rattle.batcher_types.specs.declared.positions.Participant.{Participant}

-- the participant of an index
abbrev pub participant : ℕ → Participant
participant i = record { 0 = i }

-- the first participant whose key ties with k
unfoldable pub index_of : {P : Type 0} → (P → P → Ordering) → List P → P → Option Participant
index_of cmp keys k = option_map participant (position (λ y. is_eq (cmp y k)) keys)
