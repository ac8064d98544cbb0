-- What proofs of this crate use of definitions, and of lemmas from below it.
pub use Rattle.std.proofs.Common.{inl, inr, refl, subst, ◌∙◌, ap, sym, eq-eqb, arith, ⊎_elim, append-nil, append_assoc, eqb, eqb-true, rules}
pub use Rattle.std.proofs.lemmas.Bool.{cases_lt, le-ltb, leb-true}
pub use Rattle.std.proofs.lemmas.List.Elements.{recursion_from_All, All-contains, All-contains_itself, All-filter, Contains-append_cases}
pub use Rattle.std.proofs.lemmas.List.Elements.{filter_passes, Contains-append_right}
pub use Rattle.std.proofs.lemmas.List.Elements.{Contains-append_left}
pub use Rattle.std.proofs.lemmas.Map.Made.{filter_same_pairs}
pub use Rattle.std.proofs.lemmas.Option.{same_Some}
pub use Rattle.std.specs.List.{filter}
pub use Rattle.std.specs.Prelude.{◌≡◌, ◌++◌, [], ◌∷◌, ◌⊎◌, true, ℕ, Bool, Option, Some, None, IfSome, OnErr, MatchOption, option_and_then, ◌&&◌, false, not}
pub use Rattle.std.specs.Prelude.{IfErr, ⊤}
pub use Rattle.std.specs.Prelude.{List}
pub use Rattle.std.specs.Prelude.{Contains, ◌+◌, ◌≤◌, zero, suc, cond, length, All, Err, IfOk, Ok, Result, ◌<◌, ◌≢◌, MatchBool, is_some}
pub use Rattle.std.specs.Prelude.{slice_index_or, nat_le}
pub use Rattle.std.specs.declared.cmp.Ordering.{Ordering}
pub use Rattle.batcher.specs.AnswerFacts.{usable_votes}
pub use Rattle.batcher.specs.Answers.{IsPossible}
pub use Rattle.batcher.specs.Backing.{IsBacked, votes_behind}
pub use Rattle.batcher.specs.Config.{Config, quorum_in}
pub use Rattle.batcher.specs.FirstVotes.{first_votes, is_free}
pub use Rattle.batcher.specs.History.{History, cast_votes, names_sender}
pub use Rattle.batcher.specs.Lists.{ElementsWithin, count}
pub use Rattle.batcher.specs.Meaning.{Meaning}
pub use Rattle.batcher.specs.Reports.{subjects_contradict}
pub use Rattle.batcher.specs.RunContract.{IsPromised}
pub use Rattle.batcher.specs.Runs.{MayCall}
pub use Rattle.batcher.specs.Verifiers.{certifies_itself}
pub use Rattle.batcher.specs.Votes.{round_in, subject_certified, same_proposal, same_round, same_subject, signer_of, subject_of, kind_certified}
pub use Rattle.batcher.specs.answers.Answer.TheVariants.{Construct as ConstructAnswer}
pub use Rattle.batcher.specs.calls.Call.{Call}
pub use Rattle.batcher.specs.calls.Call.TheVariants.{Network as NetworkCall, Own as OwnCall, Construct as ConstructCall, Leader as LeaderCall}
pub use Rattle.batcher.specs.calls.Call.TheVariants.{Forward as ForwardCall, Missing as MissingCall, Certificate as CertificateCall}
pub use Rattle.batcher.specs.messages.Certificate.{Certificate}
pub use Rattle.batcher.specs.messages.Certificate.TheVariants.{Notarization as NotarizationCertificate, Nullification as NullificationCertificate}
pub use Rattle.batcher.specs.messages.Certificate.TheVariants.{Finalization as FinalizationCertificate}
pub use Rattle.batcher.specs.messages.Kind.{Kind}
pub use Rattle.batcher.specs.messages.Kind.TheVariants.{Finalization}
pub use Rattle.batcher.specs.messages.Proposal.{Proposal}
pub use Rattle.batcher.specs.messages.Subject.{Subject}
pub use Rattle.batcher.specs.messages.Subject.TheVariants.{Notarize, Finalize, Nullify}
pub use Rattle.batcher.specs.messages.Vote.{Vote}
pub use Rattle.batcher.specs.positions.Epoch.{Epoch}
pub use Rattle.batcher.specs.positions.Participant.{Participant}
pub use Rattle.batcher.specs.positions.Round.{Round}
pub use Rattle.batcher.specs.verifier.Batch.{Batch}
pub use Rattle.batcher_agreement.proofs.Voting.{not_both}
pub use Rattle.batcher_agreement.specs.Lives.{held_by, VoterHistory, called, conduct_of, verified, VoterEvent, acts_of, learned_by, written}
pub use Rattle.batcher_agreement.specs.Policy.{Conduct, IsGrounded, Knows, KnowsProposal, learned, voted, KeepsPolicy, HasVoted, IsCleared}
pub use Rattle.batcher_bytes.specs.Format.{Format, whole}
pub use Rattle.batcher_bytes.specs.Messages.{certificate_format, versioned, vote_format}
pub use Rattle.batcher_journal.proofs.Lives.{contains_filter}
pub use Rattle.batcher_journal.proofs.Rounds.{still_over}
pub use Rattle.batcher_journal.specs.Answers.{MayBeWrittenBehind, Answers}
pub use Rattle.batcher_journal.specs.Causes.{IsOneText}
pub use Rattle.batcher_journal.specs.Contradictions.{IsFree, LeavesFree}
pub use Rattle.batcher_journal.specs.Floors.{certified_from, is_below, from_floor, is_over}
pub use Rattle.batcher_journal.specs.Ready.{IsTooLongFor}
pub use Rattle.batcher_journal.specs.Ready.{JournalView, HasContents, IsAsBefore, Keeps, raised, RaiseLeaves, WriteLeaves, with_more}
pub use Rattle.batcher_journal.specs.Records.{Certified}
pub use Rattle.batcher_journal.specs.Text.{Contents, OwnerFields, IsText}
pub use Rattle.batcher_journal.specs.declared.journal.Answer.TheVariants.{Refused}
pub use Rattle.batcher_node.proofs.Dropping.{is_kept, kept_from}
pub use Rattle.batcher_node.specs.Events.{started, proposal_forwarded, NodeEvent, certificate_came, constructed, view_finalized, NodeHistory, view_history}
pub use Rattle.batcher_node.specs.Events.{forgery_came, view_entered, vote_came}
pub use Rattle.batcher_node.specs.NodePromises.{IsNodePromised}
pub use Rattle.batcher_node.specs.Nodes.{NodeConfig, slot_at, NodeView, SameNode, node_config, WhyNotEntered}
pub use Rattle.batcher_node.specs.Represents.{NodeRepresents, VoteMayNeed, SimulatesForward, NodeMeets, receipt, HasHistory, config_of}
pub use Rattle.batcher_node.specs.Sending.{HoldsCertified}
pub use Rattle.batcher_node.specs.Windows.{numbered, is_of, contains}
pub use Rattle.batcher_node.specs.declared.answers.Cast.{Cast}
pub use Rattle.batcher_node.specs.declared.answers.Cast.TheVariants.{ToSend}
pub use Rattle.batcher_node.specs.declared.answers.Receipt.{Receipt}
pub use Rattle.batcher_node.specs.declared.answers.Receipt.TheVariants.{Answered, Dropped, Outside, Unknown}
pub use Rattle.batcher_node.specs.declared.answers.Verdict.{Verdict}
pub use Rattle.batcher_node.specs.declared.answers.Verdict.TheVariants.{Forged, Known, Recorded}
pub use Rattle.batcher_node.specs.declared.node.Construction.{Construction}
pub use Rattle.batcher_node.specs.declared.window.Window.{Window}
pub use Rattle.batcher_types.proofs.VoteLemmas.{same_round-refl, same_round-true, same_subject-true, same_proposal-true}
pub use Rattle.batcher_voter.specs.Knowledge.{HasLearned, IsHighest, Learns, SameKnowledge, KnowledgeView, learned_at, Forgets, AreNullified}
pub use Rattle.batcher_voter.specs.Knowledge.{IsParent, KnowsOf}
pub use Rattle.batcher_voter.specs.Keeping.{DoesFor, HasOf, IsKnownAlready, IsKnownHere, WaitsFor, certificates_in, kept_for, HasOnDisk}
pub use Rattle.batcher_voter.specs.Keeping.{IsKeptAmong, IsSafelyKept, KeepsWhatIsKnown}
pub use Rattle.batcher_voter.specs.Journals.{MayGain}
pub use Rattle.batcher_voter.specs.Knowledge.{learned_of, nothing_learned, with_learned}
pub use Rattle.batcher_voter.specs.Refusals.{HasNoGround, IsNotNotarized, IsRefused, RestsOnLearned}
pub use Rattle.batcher_voter.specs.Remembering.{Remembers, HasVoteFor, IsLeft}
pub use Rattle.batcher_voter.specs.Reopening.{IsKindKnown, IsTakenIn, StaysKnown, IsFinalView}
pub use Rattle.batcher_voter.specs.Voting.{HasStarted, IsVoting, VoterView, ForwardsProposal, AreWrittenFirst, VoterMeets, VoterStays, was_recorded}
pub use Rattle.batcher_voter.specs.Voting.{Permits, Says, IsOfItsView, ForEachLife, LeavesVote, LeavesWhatWasDone, WhyNotCast, WhyNotShown, Casts, MayWrite}
pub use Rattle.batcher_voter.specs.Voting.{Shows}
pub use Rattle.batcher_voter.specs.declared.answers.CastFault.{CastFault}
pub use Rattle.batcher_voter.specs.declared.answers.CastFault.TheVariants.{Closed as NotOpen, Excluded, Full as NoRoom, NotOwn, OutOfMemory as NoMemory}
pub use Rattle.batcher_voter.specs.declared.answers.CastFault.TheVariants.{Refused as RefusedBy, Signed}
pub use Rattle.batcher_voter.specs.declared.answers.Permission.TheVariants.{Refused as RefusedVote, Sign}
pub use Rattle.batcher_voter.specs.declared.answers.Rule.{Rule}
pub use Rattle.batcher_voter.specs.declared.answers.Rule.TheVariants.{Contradicts, Nullified, NotNotarized, ParentBeforeFinal, ParentNotEarlier}
pub use Rattle.batcher_voter.specs.declared.answers.Rule.TheVariants.{ParentUnknown}
pub use Rattle.batcher_voter.specs.declared.answers.Rule.TheVariants.{ViewNotNullified}
pub use Rattle.batcher_voter.specs.declared.knowledge.Learned.{Learned}
pub use Rattle.batcher_voter.specs.declared.answers.StartFault.{StartFault}
pub use Rattle.batcher_voter.specs.declared.answers.StartFault.TheVariants.{Forged as ForgedToStart, Malformed, NotFinal, OutOfMemory as NoMemoryToStart}
pub use Rattle.batcher_voter.specs.Unstarted.{HasFinalization, HasUnread, IsVouched, IsCertifiedAs, KeepsReadable, WhyUncertified, all_in}
pub use Rattle.batcher_voter.specs.Unstarted.{AreReadable, HasForged, HasNoFinalization, IsReadAs, IsNoCertificate, WhyNotLearned, WhyNotStarted, WhyUnread}
pub use Rattle.batcher_voter.specs.Casting.{WritesVote}
pub use Rattle.batcher_bytes.specs.Copies.{CopyView, KeepsCopy}
pub use Rattle.batcher_journal.specs.Ready.{HasNoRoomFor}
pub use Rattle.batcher_voter.specs.Finalizing.{WhyNotFinalized}
pub use Rattle.batcher_voter.specs.Journals.{IsTooLongToFinalize}
pub use Rattle.batcher_voter.specs.declared.answers.FinalizeFault.{FinalizeFault}
pub use Rattle.batcher_voter.specs.declared.answers.FinalizeFault.TheVariants.{Closed as NotOpenToFinalize, Forged as ForgedFinalization, Full as TooLong}
pub use Rattle.batcher_voter.specs.declared.answers.FinalizeFault.TheVariants.{NotOfEpoch, OutOfMemory as NoMemoryToFinalize, Passed}
