-- What the task means that is written to C.
use Rattle.std.specs.Prelude.{◌≡◌, ◌==◌, if◌then◌else◌, Option, Some, None}
use Rattle.std.specs.Option.{option_map}
use Rattle.batcher_types.specs.Keys.{participant}
use Rattle.batcher_types.specs.declared.messages.Sha256Digest.{Sha256Digest}
use Rattle.batcher_types.specs.declared.positions.Epoch.{Epoch}
use Rattle.batcher_bytes.specs.declared.signature.Signature.{Signature}
use Rattle.batcher_validator.specs.declared.task.Task.{Task}
use Rattle.batcher_validator.specs.declared.task.Task.TheVariants.{Block, Cast, Enter, Final}
use Rattle.batcher_validator.specs.declared.task.Task.TheVariants.{Forward, Judge, Propose}
use Rattle.batcher_validator.specs.declared.task.Task.TheVariants.{SendCertificate, SendVote, Sign}
use Rattle.batcher_validator.specs.declared.task.Task.TheVariants.{Verify}
use Rattle.batcher_ffi.specs.declared.codes.TheConstants.{TASK_BLOCK, TASK_CAST, TASK_ENTER}
use Rattle.batcher_ffi.specs.declared.codes.TheConstants.{TASK_FINAL, TASK_FORWARD, TASK_JUDGE}
use Rattle.batcher_ffi.specs.declared.codes.TheConstants.{TASK_PROPOSE, TASK_SEND_CERTIFICATE}
use Rattle.batcher_ffi.specs.declared.codes.TheConstants.{TASK_SEND_VOTE, TASK_SIGN, TASK_VERIFY}
use Rattle.batcher_ffi.specs.declared.tasks.FlatTask.{FlatTask}
use Rattle.batcher_ffi.specs.Flat.{cause_of_code, kind_in, proposal_of_flat, raw_vote_in}
use Rattle.batcher_ffi.specs.Flat.{round_of_flat, subject_in}

abbrev pub task_in : FlatTask → Option (Task Signature Sha256Digest)
task_in flat =
    if flat.task == TASK_BLOCK
    then option_map (Block (participant flat.participant)) (cause_of_code flat.cause) else
    if flat.task == TASK_FINAL then Some (Final (proposal_of_flat flat.proposal)) else
    if flat.task == TASK_CAST then option_map Cast (raw_vote_in flat.vote) else
    if flat.task == TASK_SEND_VOTE then option_map SendVote (raw_vote_in flat.vote) else
    if flat.task == TASK_SEND_CERTIFICATE
    then option_map (λ kind. SendCertificate kind (round_of_flat flat.proposal))
    (kind_in flat.kind) else
    if flat.task == TASK_ENTER then Some (Enter (record { 0 = flat.proposal.view })) else
    if flat.task == TASK_VERIFY then Some Verify else
    if flat.task == TASK_SIGN then option_map Sign (subject_in flat.kind flat.proposal) else
    if flat.task == TASK_PROPOSE
    then Some (Propose (record { 0 = flat.proposal.view })
    (record { 0 = flat.proposal.parent })) else
    if flat.task == TASK_JUDGE then Some (Judge (proposal_of_flat flat.proposal)) else
    if flat.task == TASK_FORWARD then Some (Forward (round_of_flat flat.proposal)) else None

-- Members that a task doesn't name stay as they were.
abbrev pub OthersStay : Task Signature Sha256Digest → FlatTask → FlatTask → Type 0
OthersStay (Block who cause) old new =
    new ≡ record old { task = new.task; participant = new.participant; cause = new.cause }
OthersStay (Cast vote) old new = new ≡ record old { task = new.task; vote = new.vote }
OthersStay (SendVote vote) old new = new ≡ record old { task = new.task; vote = new.vote }
OthersStay (SendCertificate kind round) old new =
    new ≡ record old { task = new.task; kind = new.kind; proposal = new.proposal }
OthersStay (Sign subject) old new =
    new ≡ record old { task = new.task; kind = new.kind; proposal = new.proposal }
OthersStay Verify old new = new ≡ record old { task = new.task }
OthersStay task old new = new ≡ record old { task = new.task; proposal = new.proposal }

-- A proposal that is to be made has the epoch, so that its payload alone is missing.
abbrev pub IsProposedIn : Epoch → FlatTask → Type 0
IsProposedIn epoch flat = flat.task ≡ TASK_PROPOSE → flat.proposal.epoch ≡ epoch.0
