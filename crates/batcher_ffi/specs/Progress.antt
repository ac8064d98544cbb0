-- How far a view is, as it is written to C.
use Rattle.std.specs.Prelude.{◌≡◌, ℕ, false, length, Option, Some, None, if◌then◌else◌, is_some}
use Rattle.std.specs.Option.{option_map}
use Rattle.batcher.specs.Eligible.{fresh_votes, proven_votes}
use Rattle.batcher.specs.RoundContracts.{ForEachHistory}
use Rattle.batcher.specs.RoundState.{RoundView}
use Rattle.batcher.specs.Selection.{is_certified, leader_of, selected_proposal}
use Rattle.batcher_types.specs.Keys.{participant}
use Rattle.batcher_types.specs.declared.messages.Kind.{Kind}
use Rattle.batcher_types.specs.declared.messages.Kind.TheVariants.{Finalization, Notarization}
use Rattle.batcher_types.specs.declared.messages.Kind.TheVariants.{Nullification}
use Rattle.batcher_types.specs.declared.messages.Sha256Digest.{Sha256Digest}
use Rattle.batcher_types.specs.declared.positions.Participant.{Participant}
use Rattle.batcher_bytes.specs.declared.signature.Signature.{Signature}
use Rattle.batcher_bytes.specs.declared.signed.Signed.{Signed}
use Rattle.batcher_node.specs.Nodes.{slot_at}
use Rattle.batcher_ffi.specs.declared.caller.Caller.{Caller}
use Rattle.batcher_ffi.specs.declared.progress.FlatCounts.{FlatCounts}
use Rattle.batcher_ffi.specs.declared.progress.FlatProgress.{FlatProgress}
use Rattle.batcher_ffi.specs.Validators.{CValidator, validator_round_config}

abbrev pub leader_shown : FlatProgress → Option Participant
leader_shown flat = if flat.has_leader then Some (participant flat.leader) else None

module _ (round : RoundView (Signed Caller 1) Signature Sha256Digest) where
  -- The votes of a kind that wait are counted, as its history says.
  abbrev pub IsCounted : Kind → FlatCounts → Type 0
  IsCounted kind counts = ForEachHistory validator_round_config round (λ x past.
      (counts.pending ≡ length (fresh_votes x past kind))
      × ((counts.verified ≡ length (proven_votes x past kind))
      × (counts.certified ≡ is_certified past kind)))

  pub record IsProgress (flat : FlatProgress) : Type 0 where
    pub notarizes : IsCounted Notarization flat.notarizes
    pub nullifies : IsCounted Nullification flat.nullifies
    pub finalizes : IsCounted Finalization flat.finalizes
    pub led :
        ForEachHistory validator_round_config round (λ x past. leader_shown flat ≡ leader_of past)
    pub proposed :
        ForEachHistory validator_round_config round (λ x past.
        flat.has_proposal ≡ is_some (selected_proposal x past))

-- nothing was said
abbrev pub IsNone : FlatCounts → Type 0
IsNone counts =
    (counts.pending ≡ 0) × ((counts.verified ≡ 0) × (counts.certified ≡ false))

pub record IsUnbegun (flat : FlatProgress) : Type 0 where
  pub notarizes : IsNone flat.notarizes
  pub nullifies : IsNone flat.nullifies
  pub finalizes : IsNone flat.finalizes
  pub no_leader : leader_shown flat ≡ None
  pub no_proposal : flat.has_proposal ≡ false

abbrev IsOf : Option (RoundView (Signed Caller 1) Signature Sha256Digest) → FlatProgress → Type 0
IsOf None flat = IsUnbegun flat
IsOf (Some round) flat = IsProgress round flat

-- How far a view of a validator is.
abbrev pub AsksProgress : CValidator → ℕ → FlatProgress → Type 0
AsksProgress l view flat =
    IsOf (option_map (λ slot. slot.round) (slot_at l.voter.node.rounds view)) flat
