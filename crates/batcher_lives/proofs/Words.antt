-- What proofs of this crate use of definitions, and of lemmas from below it.
pub use Rattle.std.proofs.Common.{◌∙◌, inl, inr, refl, subst, sym, ap}
pub use Rattle.std.proofs.lemmas.List.{take_at}
pub use Rattle.std.specs.Prelude.{◌≡◌, ◌⊎◌, ◌++◌, ℕ, Bool, true, false, List, [], ◌∷◌, Err, Result, All, take}
pub use Rattle.batcher_bytes.specs.Format.{Format}
pub use Rattle.batcher_bytes.specs.Messages.{vote_format}
pub use Rattle.batcher_journal.specs.Answers.{Answers, MayBeWrittenBehind}
pub use Rattle.batcher_journal.specs.Causes.{IsOneText}
pub use Rattle.batcher_journal.specs.Contradictions.{AreCompatible, AreSignedOnce}
pub use Rattle.batcher_journal.specs.Floors.{is_below, from_floor}
pub use Rattle.batcher_journal.specs.Lives.{IsKept, NeverContradicts, Asks, Breaks, BreaksRaising, Crashes, JournalEvent, JournalLife, Opens, Raises, Step}
pub use Rattle.batcher_journal.specs.Lives.{World, Writes}
pub use Rattle.batcher_journal.specs.Ready.{HasContents, IsAsBefore, IsOnDisk, JournalView, RaiseLeaves, WriteLeaves, begun, raised, with_more}
pub use Rattle.batcher_journal.specs.Text.{Contents, IsText, OwnerFields, fields_of}
pub use Rattle.batcher_journal.specs.declared.journal.Answer.TheVariants.{Known}
pub use Rattle.batcher_journal.specs.declared.journal.RaiseFault.{RaiseFault}
pub use Rattle.batcher_journal.specs.declared.journal.RaiseFault.TheVariants.{Closed as RaiseClosed, Full as RaiseFull, Lower, OutOfMemory as RaiseMemory}
pub use Rattle.batcher_journal.specs.declared.journal.WriteFault.{WriteFault}
pub use Rattle.batcher_journal.specs.declared.journal.WriteFault.TheVariants.{Closed as WriteClosed, Full as NoRoom, NotFree, OutOfMemory as NoMemory}
pub use Rattle.batcher_lives.specs.Living.{LeadsToOpen, IsReached, IsShut, IsSomewhere, just_begun, world, IsLived}
pub use Rattle.batcher_types.specs.declared.messages.Subject.{Subject}
pub use Rattle.batcher_types.specs.declared.messages.Vote.{Vote}
pub use Rattle.batcher_types.specs.declared.positions.Round.{Round}
