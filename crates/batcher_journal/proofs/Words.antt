-- What proofs of this crate use of definitions, and of lemmas from below it.
pub use Rattle.std.proofs.Common.{◌∙◌, ap, arith, get_or, inl, inr, refl, subst, sym, eqb, ltb, Fits, append_assoc, w8, rules}
pub use Rattle.std.proofs.Math.Seq.{take-append-add, take-append_seam}
pub use Rattle.std.proofs.lemmas.Bool.{cases_lt, cases_eq, eq-eqb, eqb-true, ltb-true, lt-ltb, ne_eqb, eqb-false}
pub use Rattle.std.proofs.lemmas.Grind.{flat_map-append}
pub use Rattle.std.proofs.lemmas.List.{get_or-append-add, get_or-append_right, get_or-take, get_or_append_left, get_or_default, length-append, length-take}
pub use Rattle.std.proofs.lemmas.List.{take-append-le, take-take, drop-take, take_all, length-drop, take-append-drop, take_more, append-nil, drop_all}
pub use Rattle.std.proofs.lemmas.List.{flat_map_more}
pub use Rattle.std.proofs.lemmas.List.Elements.{All-append, All-contains, All-nil, All-weaker, Contains-append_cases, Contains-append_left}
pub use Rattle.std.proofs.lemmas.List.Elements.{Contains-append_right, All-cons, All-filter, filter_more}
pub use Rattle.std.proofs.lemmas.List.Folds.{list_any-append, list_any_none}
pub use Rattle.std.proofs.lemmas.List.Sorted.{IsPartitionPoint-from_clause}
pub use Rattle.std.specs.Cmp.{IsEquivalence}
pub use Rattle.std.specs.List.{filter, AllByRecursion, flat_map, list_any}
pub use Rattle.std.specs.Prelude.{◌≡◌, ◌+◌, ◌-◌, ◌<◌, ◌≤◌, ◌++◌, ℕ, Bool, true, false, List, [], length, take, Contains, drop, All, ◌⊎◌, zero, suc, not, ◌∷◌}
pub use Rattle.std.specs.Prelude.{◌≢◌, cond, ◌&&◌, ◌||◌, Ok, Err, map}
pub use Rattle.batcher.specs.Reports.{subjects_contradict}
pub use Rattle.batcher_bytes.specs.Exact.{AreBytes-rest, bytes_is_exact, ok_is, pair_is_exact, u32_is_exact, bind_ok, exact_is_prefix_free}
pub use Rattle.batcher_bytes.specs.Format.{Format, IsExact, AreBytes, bytes_format, pair, u32_format}
pub use Rattle.batcher_bytes.specs.Lawful.{versioned_is_exact, round_is_exact, vote_is_exact}
pub use Rattle.batcher_bytes.specs.Messages.{round_format, vote_format}
pub use Rattle.batcher_bytes.specs.declared.fault.DecodeFault.{DecodeFault}
pub use Rattle.batcher_bytes.specs.declared.fault.DecodeFault.TheVariants.{Version}
pub use Rattle.batcher_journal.specs.Answers.{MayBeWrittenBehind, Answers}
pub use Rattle.batcher_journal.specs.Causes.{AreNoText, Cause, IsOneText, SaysNoOwner, MayBeOf, Unfollowed}
pub use Rattle.batcher_journal.specs.Contradictions.{AreCompatible, AreSignedOnce, IsFree, LeavesFree, BarsSubject}
pub use Rattle.batcher_journal.specs.Floors.{is_over, is_below, from_floor, certified_from}
pub use Rattle.batcher_journal.specs.Index.{AreByRounds, IsIndex, Points}
pub use Rattle.batcher_journal.specs.Lives.{Asks, Breaks, BreaksRaising, Crashes, JournalEvent, IsKept, JournalLife, NeverContradicts, Opens, Raises, Step}
pub use Rattle.batcher_journal.specs.Lives.{World, Writes, handed_after}
pub use Rattle.batcher_journal.specs.Ready.{IsReady, JournalView, Keeps, first_of, left_by_floor, raised, with_more, RaiseLeaves, HasContents, WriteLeaves}
pub use Rattle.batcher_journal.specs.Ready.{HasNoRoomFor, IsTooLongFor}
pub use Rattle.batcher_journal.specs.Records.{AreRecords, Certified, Certifies, HasRecords, Record, Voted, certificates_of, certified_format, record_bytes}
pub use Rattle.batcher_journal.specs.Records.{record_format, records_of, records_text, votes_of, record_at}
pub use Rattle.batcher_journal.specs.Seen.{contents_of}
pub use Rattle.batcher_journal.specs.Text.{Contents, IsText, OwnerFields, owner_format, fields_of}
pub use Rattle.batcher_journal.specs.declared.indexed.Entry.{Entry}
pub use Rattle.batcher_journal.specs.declared.journal.Answer.{Answer}
pub use Rattle.batcher_journal.specs.declared.journal.Answer.TheVariants.{Closed, Known, Over, Refused, Sign}
pub use Rattle.batcher_journal.specs.declared.journal.OpenFault.{OpenFault}
pub use Rattle.batcher_journal.specs.declared.journal.OpenFault.TheVariants.{Contradiction, Malformed, NotBegun, OtherKeys, OtherLengths, OtherNamespace}
pub use Rattle.batcher_journal.specs.declared.journal.OpenFault.TheVariants.{OtherParticipant, OtherVersion, OutOfMemory}
pub use Rattle.batcher_types.specs.Votes.{subject_of, round_in, same_proposal, same_round, same_subject}
pub use Rattle.batcher_types.specs.declared.messages.Proposal.{Proposal}
pub use Rattle.batcher_types.specs.declared.messages.Subject.{Subject}
pub use Rattle.batcher_types.specs.declared.messages.Subject.TheVariants.{Notarize, Nullify, Finalize}
pub use Rattle.batcher_types.specs.declared.messages.Vote.{Vote}
pub use Rattle.batcher_types.specs.declared.positions.Round.{Round}
