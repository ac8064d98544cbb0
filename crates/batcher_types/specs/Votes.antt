-- Votes and certificates: their kinds, signers and subjects, and which votes exclude each other or
-- are the same.
use Rattle.std.specs.Prelude.{ℕ, Bool, true, false, not, ◌&&◌, ◌||◌, ◌==◌, Option, Some, None}
use Rattle.batcher_types.specs.declared.positions.Round.{Round}
use Rattle.batcher_types.specs.declared.messages.Proposal.{Proposal}
use Rattle.batcher_types.specs.declared.messages.Attestation.{Attestation}
use Rattle.batcher_types.specs.declared.messages.Vote.{Vote}
use Rattle.batcher_types.specs.declared.messages.Vote.TheVariants.{Notarize as NotarizeVote}
use Rattle.batcher_types.specs.declared.messages.Vote.TheVariants.{Nullify as NullifyVote}
use Rattle.batcher_types.specs.declared.messages.Vote.TheVariants.{Finalize as FinalizeVote}
use Rattle.batcher_types.specs.declared.messages.Kind.{Kind}
use Rattle.batcher_types.specs.declared.messages.Kind.TheVariants.{Notarization, Nullification}
use Rattle.batcher_types.specs.declared.messages.Kind.TheVariants.{Finalization}
use Rattle.batcher_types.specs.declared.messages.Subject.{Subject}
use Rattle.batcher_types.specs.declared.messages.Subject.TheVariants.{Notarize as NotarizeSubject}
use Rattle.batcher_types.specs.declared.messages.Subject.TheVariants.{Nullify as NullifySubject}
use Rattle.batcher_types.specs.declared.messages.Subject.TheVariants.{Finalize as FinalizeSubject}
use Rattle.batcher_types.specs.declared.messages.Certificate.{Certificate}
use Rattle.batcher_types.specs.declared.messages.Certificate.TheVariants.{Notarization as NotarizationCertificate}
use Rattle.batcher_types.specs.declared.messages.Certificate.TheVariants.{Nullification as NullificationCertificate}
use Rattle.batcher_types.specs.declared.messages.Certificate.TheVariants.{Finalization as FinalizationCertificate}

abbrev pub is_kind : Kind → Kind → Bool
is_kind Notarization Notarization = true
is_kind Nullification Nullification = true
is_kind Finalization Finalization = true
is_kind _ _ = false

-- A participant casts no nullify beside a finalize.
abbrev pub are_opposite : Kind → Kind → Bool
are_opposite Nullification Finalization = true
are_opposite Finalization Nullification = true
are_opposite _ _ = false

-- whether votes of the kind carry a proposal
abbrev pub has_proposals : Kind → Bool
has_proposals kind = not (is_kind kind Nullification)

module _ {G D : Type 0} where
  abbrev pub kind_of : Vote G D → Kind
  kind_of (NotarizeVote vote) = Notarization
  kind_of (NullifyVote vote) = Nullification
  kind_of (FinalizeVote vote) = Finalization

  abbrev pub attestation_of : Vote G D → Attestation G
  attestation_of (NotarizeVote vote) = vote.attestation
  attestation_of (NullifyVote vote) = vote.attestation
  attestation_of (FinalizeVote vote) = vote.attestation

  abbrev pub signer_of : Vote G D → ℕ
  signer_of vote = (attestation_of vote).signer.0

  -- what its signer signs: the kind with its context
  abbrev pub subject_of : Vote G D → Subject D
  subject_of (NotarizeVote vote) = NotarizeSubject vote.proposal
  subject_of (NullifyVote vote) = NullifySubject vote.round
  subject_of (FinalizeVote vote) = FinalizeSubject vote.proposal

  abbrev pub is_of_kind : Kind → Vote G D → Bool
  is_of_kind kind vote = is_kind (kind_of vote) kind

  -- whether the vote is of that kind and signer
  abbrev pub is_vote_of : Kind → ℕ → Vote G D → Bool
  is_vote_of kind i vote = is_kind (kind_of vote) kind && (signer_of vote == i)

  -- Votes of one signer exclude each other where they are of one kind, or a nullify and a finalize.
  abbrev pub excludes : Vote G D → Vote G D → Bool
  excludes a b =
      (signer_of a == signer_of b) && (is_kind (kind_of a) (kind_of b)
      || are_opposite (kind_of a) (kind_of b))

  -- whether the two are a nullify and a finalize of one signer
  abbrev pub opposes : Vote G D → Vote G D → Bool
  opposes a b = (signer_of a == signer_of b) && are_opposite (kind_of a) (kind_of b)

module _ {D : Type 0} where
  abbrev pub proposal_in : Subject D → Option (Proposal D)
  proposal_in (NotarizeSubject proposal) = Some proposal
  proposal_in (NullifySubject round) = None
  proposal_in (FinalizeSubject proposal) = Some proposal

  abbrev pub round_in : Subject D → Round
  round_in (NotarizeSubject proposal) = proposal.round
  round_in (NullifySubject round) = round
  round_in (FinalizeSubject proposal) = proposal.round

module _ {C D : Type 0} where
  abbrev pub kind_certified : Certificate C D → Kind
  kind_certified (NotarizationCertificate certificate) = Notarization
  kind_certified (NullificationCertificate certificate) = Nullification
  kind_certified (FinalizationCertificate certificate) = Finalization

  abbrev pub subject_certified : Certificate C D → Subject D
  subject_certified (NotarizationCertificate certificate) = NotarizeSubject certificate.proposal
  subject_certified (NullificationCertificate certificate) = NullifySubject certificate.round
  subject_certified (FinalizationCertificate certificate) = FinalizeSubject certificate.proposal

  abbrev pub content_of : Certificate C D → C
  content_of (NotarizationCertificate certificate) = certificate.certificate
  content_of (NullificationCertificate certificate) = certificate.certificate
  content_of (FinalizationCertificate certificate) = certificate.certificate

abbrev pub same_round : Round → Round → Bool
same_round a b = (a.epoch.0 == b.epoch.0) && (a.view.0 == b.view.0)

-- By a test of whether two digests are the same.
module _ {D : Type 0} (same : D → D → Bool) where
  abbrev pub same_proposal : Proposal D → Proposal D → Bool
  same_proposal a b =
      same_round a.round b.round && ((a.parent.0 == b.parent.0) && same a.payload b.payload)

  abbrev pub same_subject : Subject D → Subject D → Bool
  same_subject (NotarizeSubject p) (NotarizeSubject q) = same_proposal p q
  same_subject (NullifySubject r) (NullifySubject s) = same_round r s
  same_subject (FinalizeSubject p) (FinalizeSubject q) = same_proposal p q
  same_subject _ _ = false

module _ {G D : Type 0} (same : D → D → Bool) where
  -- whether the vote carries the proposal
  abbrev pub is_for : Proposal D → Vote G D → Bool
  is_for p (NotarizeVote vote) = same_proposal same p vote.proposal
  is_for p (NullifyVote vote) = false
  is_for p (FinalizeVote vote) = same_proposal same p vote.proposal

  -- With no proposal selected votes for any wait for it, else nullifies and those for it.
  abbrev pub is_eligible : Option (Proposal D) → Vote G D → Bool
  is_eligible None vote = true
  is_eligible (Some p) vote = not (has_proposals (kind_of vote)) || is_for p vote
