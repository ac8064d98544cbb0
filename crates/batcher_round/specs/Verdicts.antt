-- What a construction is where verdicts come from elsewhere, or a certificate, and what the next
-- one looks at.
use Rattle.std.specs.Prelude.{◌≡◌, ◌≤◌, ◌+◌, true, List, length, Some, IfSome}
use Rattle.batcher_types.specs.declared.messages.Attestation.{Attestation}
use Rattle.batcher_types.specs.declared.messages.Certificate.{Certificate}
use Rattle.batcher_types.specs.declared.messages.Kind.{Kind}
use Rattle.batcher_types.specs.declared.messages.Subject.{Subject}
use Rattle.batcher_types.specs.Meaning.{Meaning}
use Rattle.batcher_types.specs.Votes.{subject_certified, content_of}
use Rattle.batcher_votes.specs.declared.verifier.Batch.{Batch}
use Rattle.batcher_votes.specs.AttemptInputs.{pending_tried, verified_tried}
use Rattle.batcher_votes.specs.RoundState.{RoundState}
use Rattle.batcher_votes.specs.Verdicts as votes
use Rattle.batcher_votes.specs.VerifierSteps.{subject_tried}
use Rattle.batcher_histories.specs.Config.{Config, quorum_in}
use Rattle.batcher_histories.specs.Steps.{is_ready_in}
use Rattle.batcher_round.specs.Next.{subject_next, pending_next, verified_next}

module _ {D K G C : Type 0} (m : Meaning D K G C) where
  -- A certificate is what the scheme assembles of attestations of its subject.
  abbrev pub IsAssembled : Certificate C D → Type 0
  IsAssembled certificate =
      (prior : List (Attestation G)) × (fresh : List (Attestation G))
      × (content_of certificate ≡ m.assembled (subject_certified certificate) prior fresh)

  -- So is the certificate of a batch, where it has one.
  abbrev pub BatchIsAssembled : Batch (Certificate C D) → Type 0
  BatchIsAssembled batch = IfSome batch.certificate IsAssembled

module _ {D K G C : Type 0} (x : Config D K G C) where
  -- the round's configuration, where each pending attestation has a verdict
  abbrev pub judged_config : Config D K G C
  judged_config = record x { meaning = votes.judged x.meaning }

  -- the same where a certificate was made elsewhere
  abbrev pub judged_config_with : C → Config D K G C
  judged_config_with certificate = record x { meaning = votes.judged_with x.meaning certificate }

  -- The kind is ready. An attempt at it is about the subject, and looks at these pending
  -- attestations.
  abbrev pub LooksAtKind : RoundState G D → Kind → Subject D → List (Attestation G) → Type 0
  LooksAtKind held kind subject list =
      (is_ready_in x held kind ≡ true)
      × (subject_tried held.buffered x.number kind ≡ Some subject)
      × (pending_tried (quorum_in x) held.buffered kind ≡ list)

  -- The next construction is about the subject, and looks at these pending attestations.
  abbrev pub LooksAtNext : RoundState G D → Subject D → List (Attestation G) → Type 0
  LooksAtNext held subject list =
      (subject_next x held ≡ Some subject) × (pending_next x held ≡ list)

  -- what an attempt at the kind looks at could be a quorum, or what the next construction does
  abbrev pub MayBeQuorumOf : RoundState G D → Kind → Type 0
  MayBeQuorumOf held kind =
      quorum_in x
      ≤ length (verified_tried held.buffered kind)
      + length (pending_tried (quorum_in x) held.buffered kind)

  abbrev pub MayBeQuorumNext : RoundState G D → Type 0
  MayBeQuorumNext held =
      quorum_in x ≤ length (verified_next x held) + length (pending_next x held)
