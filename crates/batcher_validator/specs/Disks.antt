-- What a validator takes to be on the disk, and what its caller has written there.
use Rattle.std.specs.Prelude.{◌≡◌, ◌≢◌, ◌⊎◌, ℕ, false, true, List, None, Option, Some, Result}
use Rattle.std.specs.Prelude.{Ok, Err}
use Rattle.batcher.specs.messages.Certificate.{Certificate}
use Rattle.batcher.specs.messages.Proposal.{Proposal}
use Rattle.batcher.specs.messages.Vote.{Vote}
use Rattle.batcher_bytes.specs.Copies.{CopiedView, is_done_in, is_given}
use Rattle.batcher_bytes.specs.Format.{Format}
use Rattle.batcher_bytes.specs.declared.signature.Signature.{Signature}
use Rattle.batcher_node.specs.Nodes.{NodeConfig}
use Rattle.batcher_types.specs.declared.messages.Sha256Digest.{Sha256Digest}
use Rattle.batcher_validator.specs.Ending.{GivesTask, HasLessLeft}
use Rattle.batcher_validator.specs.Running.{ForEachRun, RunStays, ValidatorView}
use Rattle.batcher_validator.specs.Shelves.{IsFinalAt, IsToAnnounce}
use Rattle.batcher_validator.specs.Tasks.{IsGivenMeanwhile, NothingIsDue, NothingIsDueMeanwhile}
use Rattle.batcher_validator.specs.declared.next.Next.{Next}
use Rattle.batcher_validator.specs.declared.next.Next.TheVariants.{Do, Write}
use Rattle.batcher_validator.specs.declared.task.PollFault.{PollFault}
use Rattle.batcher_validator.specs.declared.task.PollFault.TheVariants.{Closed, Full, OutOfMemory}
use Rattle.batcher_validator.specs.declared.task.Task.{Task}
use Rattle.batcher_voter.specs.Journals.{IsTooLongToFinalize}

module _ {S G D C : Type 0} (validator : ValidatorView S G D CopiedView C) where
  abbrev pub log_of : List ℕ
  log_of = validator.voter.journal.log.bytes

  abbrev pub disk_of : List ℕ
  disk_of = validator.voter.journal.log.copy.lasting

  -- the number of the write that is under way, and what the disk has once that is done
  abbrev pub under_way_of : Option (ℕ × List ℕ)
  under_way_of = validator.voter.journal.log.copy.under_way

  -- The disk has what is taken to be there, and no write is under way.
  abbrev pub IsAllWritten : Type 0
  IsAllWritten = (disk_of ≡ log_of) × (under_way_of ≡ None)

  abbrev pub with_log : CopiedView → ValidatorView S G D CopiedView C
  with_log log = record validator {
    voter = record validator.voter {
      journal = record validator.voter.journal { log = log };
    };
  }

  -- a write of all that the disk lacks is under way
  abbrev pub with_write_given : ℕ → ValidatorView S G D CopiedView C
  with_write_given number = with_log (is_given number validator.voter.journal.log)

  -- the write that was under way is done, if one was
  abbrev pub with_write_done : ValidatorView S G D CopiedView C
  with_write_done = with_log (is_done_in validator.voter.journal.log)

-- What comes of asking what is to be done next.
module _ {S K C : Type 0} (x : NodeConfig Sha256Digest K Signature C)
    (old new : ValidatorView S Signature Sha256Digest CopiedView C) where
  -- Something is to be written, and no write is under way.
  pub record IsToWrite : Type 0 where
    pub lacks : disk_of old ≢ log_of old
    pub none_under_way : under_way_of old ≡ None
    pub stays : new ≡ old

  -- A task is given where all is written that it rests on, and there is less left to be given.
  pub record GivesWritten (task : Task Signature Sha256Digest) : Type 0 where
    pub written : IsGivenMeanwhile task ⊎ IsAllWritten old
    pub gives : GivesTask x old new task
    pub less : HasLessLeft x old new task

  -- Nothing is to be done, or what is left waits for the write that is under way.
  pub record GivesNothing : Type 0 where
    pub nothing :
        under_way_of old ≡ None
        → ForEachRun x old (λ past earlier. NothingIsDue x earlier past)
    pub waits :
        under_way_of old ≢ None
        → ForEachRun x old (λ past earlier. NothingIsDueMeanwhile x earlier past)
    pub rests : RunStays x old new

  -- It is refused: the journal is closed, or a view couldn't be made the final one.
  pub record IsNotPolled (fault : PollFault) : Type 0 where
    pub why :
        (old.voter.journal.is_open ≡ false)
        ⊎ IsToAnnounce old.given.announced old.shelf.certificates
    pub rests : RunStays x old new
    pub closed : fault ≡ Closed → new.voter.journal.is_open ≡ false
    pub memory : fault ≡ OutOfMemory → new.voter.journal.is_open ≡ true
    pub not_full : fault ≢ Full

  abbrev pub GivesNext : Result (Option Next) PollFault → Type 0
  GivesNext (Ok (Some Write)) = IsToWrite
  GivesNext (Ok (Some (Do task))) = GivesWritten task
  GivesNext (Ok None) = GivesNothing
  GivesNext (Err fault) = IsNotPolled fault

-- With a finalization that is to be announced the journal doesn't fit into its log.
pub record IsTooLongToAnnounce {S G D L C : Type 0} (votes : Format (Vote G D))
    (certificates : Format (Certificate C D)) (is_too_small : L → List ℕ → Type 0)
    (validator : ValidatorView S G D L C) : Type 0
  where
    pub place : ℕ
    pub proposal : Proposal D
    pub final : IsFinalAt validator.given.announced validator.shelf.certificates place proposal
    pub too_long :
        IsTooLongToFinalize votes certificates is_too_small final.certificate
        validator.voter.journal
