-- Whom a report convicts.
use Rattle.std.specs.Prelude.{◌≡◌, ◌==◌, ◌&&◌, Bool, true, cond, [], ◌∷◌, Option, Some, None}
use Rattle.std.specs.Prelude.{IfSome, option_and_then}
use Rattle.std.specs.Option.{option_map_or}
use Rattle.rand_core.specs.Stream.{Stream}
use Rattle.batcher.specs.Lists.{is_some_and}
use Rattle.batcher.specs.Meaning.{Meaning}
use Rattle.batcher.specs.Votes.{signer_of, subject_of, attestation_of}
use Rattle.batcher.specs.Reports.{subjects_contradict, evidence_in}
use Rattle.batcher.specs.positions.Participant.{Participant}
use Rattle.batcher.specs.messages.Vote.{Vote}
use Rattle.batcher.specs.messages.Activity.{Activity}

module _ {G D : Type 0} (same : D → D → Bool) where
  -- whether two votes of one signer contradict each other, so that they convict it if both attest
  abbrev pub may_convict : Vote G D → Vote G D → Bool
  may_convict a b =
      (signer_of a == signer_of b) && subjects_contradict same (subject_of a) (subject_of b)

  -- whether a report holds two such votes
  abbrev pub has_to_verify : Activity G D → Bool
  has_to_verify report = is_some_and (evidence_in report) (λ pair. may_convict pair.0 pair.1)

-- whom a report convicts where both of its votes attest, or not
abbrev pub convicted_where : {G D : Type 0} → (D → D → Bool) → Activity G D → Bool
    → Option Participant
convicted_where same report both =
    option_and_then
    (λ pair. cond (may_convict same pair.0 pair.1 && both)
    (Some (attestation_of pair.0).signer) None)
    (evidence_in report)

module _ {D K G C : Type 0} (m : Meaning D K G C) where
  -- whether both votes attest
  abbrev pub both_attest : Vote G D → Vote G D → Bool
  both_attest a b =
      m.attests (subject_of a) (attestation_of a) && m.attests (subject_of b) (attestation_of b)

  -- whether two votes of one signer contradict each other and attest
  abbrev pub convicts : (D → D → Bool) → Vote G D → Vote G D → Bool
  convicts same a b =
      (signer_of a == signer_of b)
      && (subjects_contradict same (subject_of a) (subject_of b) && both_attest a b)

  -- the stream that a vote leaves whose attestation is verified by itself
  abbrev pub left_by : Vote G D → Stream → Stream
  left_by vote stream = m.left_by_verifying (subject_of vote) (attestation_of vote ∷ []) stream

  -- and that which two leave, of which the second is verified only where the first attests
  abbrev pub left_by_both : Vote G D → Vote G D → Stream → Stream
  left_by_both a b stream =
      cond (m.attests (subject_of a) (attestation_of a)) (left_by b (left_by a stream))
      (left_by a stream)

  -- The stream that a report leaves. Its votes are verified only if they may convict, so a report
  -- of one vote draws nothing.
  abbrev pub left_by_convicting : (D → D → Bool) → Activity G D → Stream → Stream
  left_by_convicting same report stream =
      option_map_or
      (λ pair. cond (may_convict same pair.0 pair.1) (left_by_both pair.0 pair.1 stream) stream)
      (evidence_in report) stream

  -- whom a report convicts
  abbrev pub convicted_by : (D → D → Bool) → Activity G D → Option Participant
  convicted_by same report =
      option_and_then
      (λ pair. cond (convicts same pair.0 pair.1) (Some (attestation_of pair.0).signer) None)
      (evidence_in report)

  -- Of a report of two votes these are what the scheme says of each.
  abbrev pub AreVerdicts : Activity G D → Bool → Bool → Type 0
  AreVerdicts report first second =
      IfSome (evidence_in report) (λ pair.
      (first ≡ m.attests (subject_of pair.0) (attestation_of pair.0))
      × (second ≡ m.attests (subject_of pair.1) (attestation_of pair.1)))

  -- The report holds two votes of the participant that attest and contradict each other.
  pub record IsProof (same : D → D → Bool) (report : Activity G D) (i : Participant) : Type 0 where
    pub first : Vote G D
    pub second : Vote G D
    pub holds : evidence_in report ≡ Some (first, second)
    pub signers : (signer_of first ≡ i.0) × (signer_of second ≡ i.0)
    pub contradict : subjects_contradict same (subject_of first) (subject_of second) ≡ true
    pub attest : both_attest first second ≡ true
