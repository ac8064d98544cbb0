-- What the next construction looks at, by what the round holds.
use Rattle.std.specs.Prelude.{List, [], Option, option_and_then}
use Rattle.std.specs.Option.{option_map_or}
use Rattle.batcher_types.specs.declared.messages.Attestation.{Attestation}
use Rattle.batcher_types.specs.declared.messages.Subject.{Subject}
use Rattle.batcher_votes.specs.RoundState.{RoundState}
use Rattle.batcher_votes.specs.VerifierSteps.{subject_tried}
use Rattle.batcher_votes.specs.AttemptInputs.{pending_tried, verified_tried}
use Rattle.batcher_histories.specs.Config.{Config, quorum_in}
use Rattle.batcher_histories.specs.Steps.{kind_tried}

module _ {D K G C : Type 0} (x : Config D K G C) where
  -- what it is about, where a kind is ready
  abbrev pub subject_next : RoundState G D → Option (Subject D)
  subject_next held =
      option_and_then (subject_tried held.buffered x.number) (kind_tried x held)

  -- the pending attestations that it looks at: none where no kind is ready
  abbrev pub pending_next : RoundState G D → List (Attestation G)
  pending_next held =
      option_map_or (pending_tried (quorum_in x) held.buffered) (kind_tried x held) []

  -- those of its kind that are known to attest: none where no kind is ready
  abbrev pub verified_next : RoundState G D → List (Attestation G)
  verified_next held = option_map_or (verified_tried held.buffered) (kind_tried x held) []
