-- The votes of each kind on their way to a certificate, as what a verifier holds of them.
use Rattle.std.specs.Prelude.{ℕ, ◌-◌, ◌^◌, Bool, true, false, List, [], Option}
use Rattle.batcher_types.specs.declared.positions.Participant.{Participant}
use Rattle.batcher_types.specs.declared.messages.Vote.{Vote}
use Rattle.batcher_votes.specs.declared.verifier.ProposalState.{ProposalState}
use Rattle.batcher_votes.specs.declared.verifier.certification.Certification.{Certification}
use Rattle.batcher_votes.specs.declared.verifier.certification.Certification.TheVariants.{Open}
use Rattle.batcher_votes.specs.declared.verifier.certification.Certification.TheVariants.{Complete}
use Rattle.batcher_votes.specs.RoundState.{PerKind, VerifierState}

-- what each is mapped to
abbrev pub map_kinds : {X Y : Type 0} → (X → Y) → PerKind X → PerKind Y
map_kinds f all =
    record {
      notarize = f all.notarize;
      nullify = f all.nullify;
      finalize = f all.finalize;
    }

module _ {G D : Type 0} where
  -- whether a certificate is there
  abbrev pub is_complete : Certification G D → Bool
  is_complete (Open pending verified) = false
  is_complete Complete = true

  abbrev pub pending_of : Certification G D → List (Vote G D)
  pending_of (Open pending verified) = pending.votes
  pending_of Complete = []

  abbrev pub verified_of : Certification G D → List (Vote G D)
  verified_of (Open pending verified) = verified.votes
  verified_of Complete = []

  -- For how many more votes there is room in each of the buffers. Where a certificate is there no
  -- vote is taken, so there is room for as many as can be asked for.
  abbrev pub pending_room : Certification G D → ℕ
  pending_room (Open pending verified) = pending.room
  pending_room Complete = 2 ^ 64 - 1

  abbrev pub verified_room : Certification G D → ℕ
  verified_room (Open pending verified) = verified.room
  verified_room Complete = 2 ^ 64 - 1

  -- for how many more verified votes of one subject there is room
  abbrev pub room_for_run : Certification G D → ℕ
  room_for_run (Open pending verified) = verified.room_for_run
  room_for_run Complete = 2 ^ 64 - 1

  abbrev pub verifier_holding : Option Participant → ProposalState D → PerKind (Certification G D)
      → VerifierState G D
  verifier_holding leader selection kinds =
      record {
        leader = leader;
        selection = selection;
        certified = map_kinds is_complete kinds;
        pending = map_kinds pending_of kinds;
        verified = map_kinds verified_of kinds;
      }
