-- What is answered to votes: admission, block and report of a network vote; outcome, report and
-- fault of an own vote.
use Rattle.std.specs.Prelude.{Bool, true, false, cond, ◌&&◌, ◌==◌, Option, Some, None}
use Rattle.batcher_types.specs.declared.messages.Vote.{Vote}
use Rattle.batcher_types.specs.declared.messages.Vote.TheVariants.{Notarize as NotarizeVote}
use Rattle.batcher_types.specs.declared.messages.Vote.TheVariants.{Nullify as NullifyVote}
use Rattle.batcher_types.specs.declared.messages.Vote.TheVariants.{Finalize as FinalizeVote}
use Rattle.batcher_types.specs.declared.messages.Kind.{Kind}
use Rattle.batcher_types.specs.declared.messages.Kind.TheVariants.{Notarization, Nullification}
use Rattle.batcher_types.specs.declared.messages.Kind.TheVariants.{Finalization}
use Rattle.batcher_types.specs.declared.messages.Activity.{Activity}
use Rattle.batcher_types.specs.declared.messages.Activity.TheVariants.{Notarize as ReportNotarize}
use Rattle.batcher_types.specs.declared.messages.Activity.TheVariants.{Nullify as ReportNullify}
use Rattle.batcher_types.specs.declared.messages.Activity.TheVariants.{Finalize as ReportFinalize}
use Rattle.batcher_types.specs.declared.messages.Activity.TheVariants.{ConflictingNotarize as ReportConflictingNotarize}
use Rattle.batcher_types.specs.declared.messages.Activity.TheVariants.{ConflictingFinalize as ReportConflictingFinalize}
use Rattle.batcher_types.specs.declared.messages.Activity.TheVariants.{NullifyFinalize as ReportNullifyFinalize}
use Rattle.batcher_histories.specs.declared.answers.BlockReason.{BlockReason}
use Rattle.batcher_histories.specs.declared.answers.BlockReason.TheVariants.{NotarizeSignerMismatch}
use Rattle.batcher_histories.specs.declared.answers.BlockReason.TheVariants.{NullifySignerMismatch}
use Rattle.batcher_histories.specs.declared.answers.BlockReason.TheVariants.{FinalizeSignerMismatch}
use Rattle.batcher_histories.specs.declared.answers.BlockReason.TheVariants.{ConflictingNotarize}
use Rattle.batcher_histories.specs.declared.answers.BlockReason.TheVariants.{ConflictingNullify}
use Rattle.batcher_histories.specs.declared.answers.BlockReason.TheVariants.{ConflictingFinalize}
use Rattle.batcher_histories.specs.declared.answers.BlockReason.TheVariants.{InvalidSignature}
use Rattle.batcher_histories.specs.declared.answers.BlockReason.TheVariants.{NullifyAfterFinalize}
use Rattle.batcher_histories.specs.declared.answers.BlockReason.TheVariants.{FinalizeAfterNullify}
use Rattle.batcher_histories.specs.declared.answers.Admission.{Admission}
use Rattle.batcher_votes.specs.declared.votes.Outcome.{Outcome}
use Rattle.batcher_votes.specs.declared.votes.Outcome.TheVariants.{Added, Duplicate, Conflicting}
use Rattle.batcher_types.specs.Votes.{kind_of, signer_of, attestation_of, subject_of, same_proposal}
use Rattle.batcher_types.specs.Votes.{same_subject}

abbrev pub mismatch_reason : Kind → BlockReason
mismatch_reason Notarization = NotarizeSignerMismatch
mismatch_reason Nullification = NullifySignerMismatch
mismatch_reason Finalization = FinalizeSignerMismatch

abbrev pub conflict_reason : Kind → BlockReason
conflict_reason Notarization = ConflictingNotarize
conflict_reason Nullification = ConflictingNullify
conflict_reason Finalization = ConflictingFinalize

-- The three sorts of admission: a vote is added and reported, refused without a word, or its sender
-- is blocked.
module _ {G D : Type 0} where
  abbrev pub report_of : Vote G D → Activity G D
  report_of (NotarizeVote vote) = ReportNotarize vote
  report_of (NullifyVote vote) = ReportNullify vote
  report_of (FinalizeVote vote) = ReportFinalize vote

  abbrev pub addition : Vote G D → Admission G D
  addition vote = record { added = true; block = None; report = Some (report_of vote) }

  abbrev pub refusal : Admission G D
  refusal = record { added = false; block = None; report = None }

  abbrev pub block_for : BlockReason → Option (Activity G D) → Admission G D
  block_for reason report = record { added = false; block = Some reason; report = report }

  -- what is answered to a vote that was recorded
  abbrev pub admission_of : Outcome → Vote G D → Admission G D
  admission_of (Added retained) vote = addition vote
  admission_of (Duplicate retained) vote = refusal
  admission_of Conflicting vote = block_for (conflict_reason (kind_of vote)) None

  -- A nullify after a finalize of its signer, or the reverse: both are reported where the earlier
  -- one is kept in full.
  abbrev pub admission_after : Vote G D → Vote G D → Admission G D
  admission_after (FinalizeVote earlier) (NullifyVote vote) =
      block_for NullifyAfterFinalize (Some (ReportNullifyFinalize vote earlier))
  admission_after (NullifyVote earlier) (FinalizeVote vote) =
      block_for FinalizeAfterNullify (Some (ReportNullifyFinalize earlier vote))
  admission_after earlier vote = refusal

  -- the same, where facts alone are kept of the earlier one
  abbrev pub admission_after_facts : Vote G D → Admission G D
  admission_after_facts (NotarizeVote vote) = refusal
  admission_after_facts (NullifyVote vote) = block_for NullifyAfterFinalize None
  admission_after_facts (FinalizeVote vote) = block_for FinalizeAfterNullify None

-- By tests of whether digests, and signatures, are the same.
module _ {G D : Type 0} (same : D → D → Bool) (equal : G → G → Bool) where
  abbrev pub same_vote : Vote G D → Vote G D → Bool
  same_vote a b =
      same_subject same (subject_of a) (subject_of b)
      && ((signer_of a == signer_of b) && equal (attestation_of a).signature
      (attestation_of b).signature)

  -- A vote beside the kept one of its kind and signer. With another proposal it is a conflict to
  -- report; with the same it
  -- differs in its signature at most.
  abbrev pub admission_beside : Vote G D → Vote G D → Admission G D
  admission_beside (NotarizeVote kept) (NotarizeVote vote) =
      cond (same_proposal same kept.proposal vote.proposal)
      (cond (same_vote (NotarizeVote kept) (NotarizeVote vote)) refusal
      (block_for InvalidSignature None))
      (block_for ConflictingNotarize (Some (ReportConflictingNotarize kept vote)))
  admission_beside (NullifyVote kept) (NullifyVote vote) =
      cond (same_vote (NullifyVote kept) (NullifyVote vote)) refusal
      (block_for ConflictingNullify None)
  admission_beside (FinalizeVote kept) (FinalizeVote vote) =
      cond (same_proposal same kept.proposal vote.proposal)
      (cond (same_vote (FinalizeVote kept) (FinalizeVote vote)) refusal
      (block_for InvalidSignature None))
      (block_for ConflictingFinalize (Some (ReportConflictingFinalize kept vote)))
  admission_beside kept vote = refusal
