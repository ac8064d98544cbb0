-- What flat values and codes mean.
use Rattle.std.specs.Prelude.{◌≡◌, ◌==◌, ℕ, List, if◌then◌else◌, map, nat_le, Option, Some, None}
use Rattle.std.specs.Prelude.{option_and_then, take}
use Rattle.std.specs.Option.{option_map, option_or}
use Rattle.batcher_types.specs.declared.positions.Round.{Round}
use Rattle.batcher_types.specs.declared.messages.Sha256Digest.{Sha256Digest}
use Rattle.batcher_types.specs.declared.messages.Proposal.{Proposal}
use Rattle.batcher_types.specs.declared.messages.Attestation.{Attestation}
use Rattle.batcher_types.specs.declared.messages.Notarize.{Notarize}
use Rattle.batcher_types.specs.declared.messages.Nullify.{Nullify}
use Rattle.batcher_types.specs.declared.messages.Finalize.{Finalize}
use Rattle.batcher_types.specs.declared.messages.Vote.{Vote}
use Rattle.batcher_types.specs.declared.messages.Vote.TheVariants.{Notarize as NotarizeVote}
use Rattle.batcher_types.specs.declared.messages.Vote.TheVariants.{Nullify as NullifyVote}
use Rattle.batcher_types.specs.declared.messages.Vote.TheVariants.{Finalize as FinalizeVote}
use Rattle.batcher_types.specs.declared.messages.Subject.{Subject}
use Rattle.batcher_types.specs.declared.messages.Subject.TheVariants.{Notarize as NotarizeSubject}
use Rattle.batcher_types.specs.declared.messages.Subject.TheVariants.{Nullify as NullifySubject}
use Rattle.batcher_types.specs.declared.messages.Subject.TheVariants.{Finalize as FinalizeSubject}
use Rattle.batcher_types.specs.declared.messages.Kind.{Kind}
use Rattle.batcher_types.specs.declared.messages.Kind.TheVariants.{Notarization, Nullification}
use Rattle.batcher_types.specs.declared.messages.Kind.TheVariants.{Finalization}
use Rattle.batcher_types.specs.declared.messages.Activity.{Activity}
use Rattle.batcher_types.specs.declared.messages.Activity.TheVariants.{Notarize as NotarizeReport}
use Rattle.batcher_types.specs.declared.messages.Activity.TheVariants.{Nullify as NullifyReport}
use Rattle.batcher_types.specs.declared.messages.Activity.TheVariants.{Finalize as FinalizeReport}
use Rattle.batcher_types.specs.declared.messages.Activity.TheVariants.{ConflictingNotarize as NotarizesReport}
use Rattle.batcher_types.specs.declared.messages.Activity.TheVariants.{ConflictingFinalize as FinalizesReport}
use Rattle.batcher_types.specs.declared.messages.Activity.TheVariants.{NullifyFinalize as NullifyFinalizeReport}
use Rattle.batcher_votes.specs.declared.votes.Mode.{Mode}
use Rattle.batcher_votes.specs.declared.votes.Mode.TheVariants.{Retaining, Releasing, Skipped}
use Rattle.batcher_votes.specs.declared.votes.Outcome.{Outcome}
use Rattle.batcher_votes.specs.declared.votes.Outcome.TheVariants.{Added, Duplicate}
use Rattle.batcher_histories.specs.declared.answers.Admission.{Admission}
use Rattle.batcher_histories.specs.declared.answers.BlockReason.{BlockReason}
use Rattle.batcher_histories.specs.declared.answers.BlockReason.TheVariants.{UnknownParticipant}
use Rattle.batcher_histories.specs.declared.answers.BlockReason.TheVariants.{NotarizeSignerMismatch}
use Rattle.batcher_histories.specs.declared.answers.BlockReason.TheVariants.{NullifySignerMismatch}
use Rattle.batcher_histories.specs.declared.answers.BlockReason.TheVariants.{FinalizeSignerMismatch}
use Rattle.batcher_histories.specs.declared.answers.BlockReason.TheVariants.{ConflictingNotarize}
use Rattle.batcher_histories.specs.declared.answers.BlockReason.TheVariants.{ConflictingNullify}
use Rattle.batcher_histories.specs.declared.answers.BlockReason.TheVariants.{ConflictingFinalize}
use Rattle.batcher_histories.specs.declared.answers.BlockReason.TheVariants.{InvalidSignature}
use Rattle.batcher_histories.specs.declared.answers.BlockReason.TheVariants.{NullifyAfterFinalize}
use Rattle.batcher_histories.specs.declared.answers.BlockReason.TheVariants.{FinalizeAfterNullify}
use Rattle.batcher_histories.specs.declared.answers.OwnFault.{OwnFault}
use Rattle.batcher_histories.specs.declared.answers.OwnFault.TheVariants.{OutOfMemory as OutOfMemoryFault}
use Rattle.batcher_histories.specs.declared.answers.OwnFault.TheVariants.{DuplicateNotarize as DuplicateNotarizeFault}
use Rattle.batcher_histories.specs.declared.answers.OwnFault.TheVariants.{DuplicateFinalize as DuplicateFinalizeFault}
use Rattle.batcher_histories.specs.declared.answers.OwnFault.TheVariants.{Conflicting as ConflictingFault}
use Rattle.batcher_histories.specs.declared.answers.OwnFault.TheVariants.{NullifyAfterFinalize as NullifyAfterFinalizeFault}
use Rattle.batcher_histories.specs.declared.answers.OwnFault.TheVariants.{FinalizeAfterNullify as FinalizeAfterNullifyFault}
use Rattle.batcher_node.specs.declared.answers.Cause.{Cause}
use Rattle.batcher_node.specs.declared.answers.Cause.TheVariants.{Vote as ForVote}
use Rattle.batcher_node.specs.declared.answers.Cause.TheVariants.{Certificate as ForCertificate}
use Rattle.batcher_node.specs.declared.answers.Cause.TheVariants.{Signature as ForSignature}
use Rattle.batcher_bytes.specs.Signatures.{signature_of}
use Rattle.batcher_bytes.specs.declared.signature.Signature.{Signature}
use Rattle.batcher_bytes.specs.declared.signature.TheConstants.{WIDTH}
use Rattle.batcher_ffi.specs.declared.codes.TheConstants.{OUT_OF_MEMORY, DUPLICATE_NOTARIZE}
use Rattle.batcher_ffi.specs.declared.codes.TheConstants.{DUPLICATE_FINALIZE, CONFLICTING}
use Rattle.batcher_ffi.specs.declared.codes.TheConstants.{NULLIFY_AFTER_FINALIZE}
use Rattle.batcher_ffi.specs.declared.codes.TheConstants.{FINALIZE_AFTER_NULLIFY, NOTARIZATION}
use Rattle.batcher_ffi.specs.declared.codes.TheConstants.{NULLIFICATION, FINALIZATION, RETAINING}
use Rattle.batcher_ffi.specs.declared.codes.TheConstants.{RELEASING, SKIPPED}
use Rattle.batcher_ffi.specs.declared.codes.TheConstants.{BLOCK_UNKNOWN_PARTICIPANT}
use Rattle.batcher_ffi.specs.declared.codes.TheConstants.{BLOCK_NOTARIZE_SIGNER_MISMATCH}
use Rattle.batcher_ffi.specs.declared.codes.TheConstants.{BLOCK_NULLIFY_SIGNER_MISMATCH}
use Rattle.batcher_ffi.specs.declared.codes.TheConstants.{BLOCK_FINALIZE_SIGNER_MISMATCH}
use Rattle.batcher_ffi.specs.declared.codes.TheConstants.{BLOCK_CONFLICTING_NOTARIZE}
use Rattle.batcher_ffi.specs.declared.codes.TheConstants.{BLOCK_CONFLICTING_NULLIFY}
use Rattle.batcher_ffi.specs.declared.codes.TheConstants.{BLOCK_CONFLICTING_FINALIZE}
use Rattle.batcher_ffi.specs.declared.codes.TheConstants.{BLOCK_INVALID_SIGNATURE}
use Rattle.batcher_ffi.specs.declared.codes.TheConstants.{BLOCK_NULLIFY_AFTER_FINALIZE}
use Rattle.batcher_ffi.specs.declared.codes.TheConstants.{BLOCK_FINALIZE_AFTER_NULLIFY}
use Rattle.batcher_ffi.specs.declared.codes.TheConstants.{CAUSE_CERTIFICATE, CAUSE_SIGNATURE}
use Rattle.batcher_ffi.specs.declared.codes.TheConstants.{REPORT_NOTARIZE, REPORT_NULLIFY}
use Rattle.batcher_ffi.specs.declared.codes.TheConstants.{REPORT_FINALIZE}
use Rattle.batcher_ffi.specs.declared.codes.TheConstants.{REPORT_CONFLICTING_NOTARIZE}
use Rattle.batcher_ffi.specs.declared.codes.TheConstants.{REPORT_CONFLICTING_FINALIZE}
use Rattle.batcher_ffi.specs.declared.codes.TheConstants.{REPORT_NULLIFY_FINALIZE}
use Rattle.batcher_ffi.specs.declared.flat.FlatProposal.{FlatProposal}
use Rattle.batcher_ffi.specs.declared.flat.FlatAttestation.{FlatAttestation}
use Rattle.batcher_ffi.specs.declared.flat.FlatVote.{FlatVote}
use Rattle.batcher_ffi.specs.declared.flat.FlatAdmission.{FlatAdmission}

abbrev pub kind_in : ℕ → Option Kind
kind_in code =
    if code == NOTARIZATION then Some Notarization else
    if code == NULLIFICATION then Some Nullification else
    if code == FINALIZATION then Some Finalization else None

abbrev pub mode_in : ℕ → Option Mode
mode_in code =
    if code == RETAINING then Some Retaining else
    if code == RELEASING then Some Releasing else
    if code == SKIPPED then Some Skipped else None

abbrev pub block_in : ℕ → Option BlockReason
block_in code =
    if code == BLOCK_UNKNOWN_PARTICIPANT then Some UnknownParticipant else
    if code == BLOCK_NOTARIZE_SIGNER_MISMATCH then Some NotarizeSignerMismatch else
    if code == BLOCK_NULLIFY_SIGNER_MISMATCH then Some NullifySignerMismatch else
    if code == BLOCK_FINALIZE_SIGNER_MISMATCH then Some FinalizeSignerMismatch else
    if code == BLOCK_CONFLICTING_NOTARIZE then Some ConflictingNotarize else
    if code == BLOCK_CONFLICTING_NULLIFY then Some ConflictingNullify else
    if code == BLOCK_CONFLICTING_FINALIZE then Some ConflictingFinalize else
    if code == BLOCK_INVALID_SIGNATURE then Some InvalidSignature else
    if code == BLOCK_NULLIFY_AFTER_FINALIZE then Some NullifyAfterFinalize else
    if code == BLOCK_FINALIZE_AFTER_NULLIFY then Some FinalizeAfterNullify else None

-- why a participant of a node is blocked, if it is
abbrev pub cause_of_code : ℕ → Option Cause
cause_of_code code =
    option_or (option_map ForVote (block_in code))
    (if code == CAUSE_CERTIFICATE then Some ForCertificate else
    if code == CAUSE_SIGNATURE then Some ForSignature else None)

-- why a round refuses an own vote, where the code is of that
abbrev pub fault_in : ℕ → Option OwnFault
fault_in code =
    if code == OUT_OF_MEMORY then Some OutOfMemoryFault else
    if code == DUPLICATE_NOTARIZE then Some DuplicateNotarizeFault else
    if code == DUPLICATE_FINALIZE then Some DuplicateFinalizeFault else
    if code == CONFLICTING then Some ConflictingFault else
    if code == NULLIFY_AFTER_FINALIZE then Some NullifyAfterFinalizeFault else
    if code == FINALIZE_AFTER_NULLIFY then Some FinalizeAfterNullifyFault else None

abbrev pub round_of_flat : FlatProposal → Round
round_of_flat flat = record { epoch = record { 0 = flat.epoch }; view = record { 0 = flat.view } }

abbrev pub proposal_of_flat : FlatProposal → Proposal Sha256Digest
proposal_of_flat flat =
    record {
      round = round_of_flat flat;
      parent = record { 0 = flat.parent };
      payload = record { 0 = flat.payload };
    }

-- the attestation of these very bytes, as those are that are written to C
abbrev pub raw_in : FlatAttestation → Attestation Signature
raw_in flat =
    record {
      signer = record { 0 = flat.signer };
      signature = record { length = flat.length; bytes = flat.bytes };
    }

-- The attestation that C hands in: its signature is as many of the bytes as it says, whatever comes
-- after them. None where it says more than there are.
abbrev pub attestation_in : FlatAttestation → Option (Attestation Signature)
attestation_in flat =
    if nat_le flat.length WIDTH
    then Some (record {
      signer = record { 0 = flat.signer };
      signature = signature_of (take flat.length flat.bytes);
    }) else None

-- The list that C hands in is of these attestations.
abbrev pub AreIn : List FlatAttestation → List (Attestation Signature) → Type 0
AreIn list all = map attestation_in list ≡ map Some all

abbrev pub notarize_with : FlatVote → Attestation Signature → Notarize Signature Sha256Digest
notarize_with flat a = record { proposal = proposal_of_flat flat.proposal; attestation = a }

abbrev pub nullify_with : FlatVote → Attestation Signature → Nullify Signature
nullify_with flat a = record { round = round_of_flat flat.proposal; attestation = a }

abbrev pub finalize_with : FlatVote → Attestation Signature → Finalize Signature Sha256Digest
finalize_with flat a = record { proposal = proposal_of_flat flat.proposal; attestation = a }

abbrev pub vote_with : FlatVote → Attestation Signature → Kind → Vote Signature Sha256Digest
vote_with flat a Notarization = NotarizeVote (notarize_with flat a)
vote_with flat a Nullification = NullifyVote (nullify_with flat a)
vote_with flat a Finalization = FinalizeVote (finalize_with flat a)

-- the vote that C hands in, where its kind is one, and its signature
abbrev pub vote_of_flat : FlatVote → Option (Vote Signature Sha256Digest)
vote_of_flat flat =
    option_and_then (λ a. option_map (vote_with flat a) (kind_in flat.kind))
    (attestation_in flat.attestation)

-- a vote that is written to C
abbrev pub raw_vote_in : FlatVote → Option (Vote Signature Sha256Digest)
raw_vote_in flat = option_map (vote_with flat (raw_in flat.attestation)) (kind_in flat.kind)

abbrev pub subject_of_kind : FlatProposal → Kind → Subject Sha256Digest
subject_of_kind flat Notarization = NotarizeSubject (proposal_of_flat flat)
subject_of_kind flat Nullification = NullifySubject (round_of_flat flat)
subject_of_kind flat Finalization = FinalizeSubject (proposal_of_flat flat)

-- what is signed, where the kind is one
abbrev pub subject_in : ℕ → FlatProposal → Option (Subject Sha256Digest)
subject_in code flat = option_map (subject_of_kind flat) (kind_in code)

abbrev pub as_notarize : Option (Vote Signature Sha256Digest)
    → Option (Notarize Signature Sha256Digest)
as_notarize (Some (NotarizeVote vote)) = Some vote
as_notarize other = None

abbrev pub as_nullify : Option (Vote Signature Sha256Digest) → Option (Nullify Signature)
as_nullify (Some (NullifyVote vote)) = Some vote
as_nullify other = None

abbrev pub as_finalize : Option (Vote Signature Sha256Digest)
    → Option (Finalize Signature Sha256Digest)
as_finalize (Some (FinalizeVote vote)) = Some vote
as_finalize other = None

-- two votes, where both are there
abbrev pub with_both : {A B C : Type 0} → (A → B → C) → Option A → Option B → Option C
with_both f a b = option_and_then (λ x. option_map (f x) b) a

-- the report of a code, of the first vote or of both
abbrev pub report_of_code : ℕ → Option (Vote Signature Sha256Digest)
    → Option (Vote Signature Sha256Digest) → Option (Activity Signature Sha256Digest)
report_of_code code first second =
    if code == REPORT_NOTARIZE then option_map NotarizeReport (as_notarize first) else
    if code == REPORT_NULLIFY then option_map NullifyReport (as_nullify first) else
    if code == REPORT_FINALIZE then option_map FinalizeReport (as_finalize first) else
    if code == REPORT_CONFLICTING_NOTARIZE
    then with_both NotarizesReport (as_notarize first) (as_notarize second) else
    if code == REPORT_CONFLICTING_FINALIZE
    then with_both FinalizesReport (as_finalize first) (as_finalize second) else
    if code == REPORT_NULLIFY_FINALIZE
    then with_both NullifyFinalizeReport (as_nullify first) (as_finalize second) else None

-- what is reported, if anything is
abbrev pub report_in : FlatAdmission → Option (Activity Signature Sha256Digest)
report_in flat = report_of_code flat.report (raw_vote_in flat.first) (raw_vote_in flat.second)

abbrev pub admission_in : FlatAdmission → Admission Signature Sha256Digest
admission_in flat =
    record { added = flat.added; block = block_in flat.block; report = report_in flat }

-- what came of an own vote that isn't refused
abbrev pub outcome_in : FlatAdmission → Outcome
outcome_in flat = if flat.added then Added flat.retained else Duplicate flat.retained
