-- What proofs of this crate use of definitions, and of lemmas from below it.
pub use Rattle.std.proofs.Common.{◌∙◌, ap, arith, refl, subst, sym, inl, inr, eq-eqb, eqb, get_or, rules}
pub use Rattle.std.proofs.Math.Seq.{take-append_seam, take-suc}
pub use Rattle.std.proofs.lemmas.Bool.{eqb-true, eqb-false, ne_eqb, lt-leb}
pub use Rattle.std.proofs.lemmas.Grind.{get_or_default_zero}
pub use Rattle.std.proofs.lemmas.List.Edits.{map_over_more}
pub use Rattle.std.proofs.lemmas.Bool.{cases_lt, le-ltb, lt-ltb, ltb-true, le-leb, leb-true, ltb-false, false≢true}
pub use Rattle.std.proofs.lemmas.Fn.{filter_same}
pub use Rattle.std.proofs.lemmas.List.{take_all, length-append, take-append-drop, take-append-le}
pub use Rattle.std.proofs.lemmas.List.Elements.{All-contains, Contains-append_cases, Contains-append_left, Contains-append_right}
pub use Rattle.std.proofs.lemmas.List.Elements.{filter_passes, All-contains_itself, All-filter}
pub use Rattle.std.proofs.lemmas.List.Folds.{Any-from_list_any, list_any_at}
pub use Rattle.std.proofs.lemmas.List.Edits.{Swapped, swapped_from_swap, length-swap}
pub use Rattle.std.proofs.lemmas.List.Sorted.{Contains-permutation, IsPermutation-keeps, IsPermutation-swap, IsPermutation-sym}
pub use Rattle.std.proofs.lemmas.List.Sorted.{IsPermutation-trans, length_permutation}
pub use Rattle.std.proofs.lemmas.List.Sums.{sum_by-cons, length-filter}
pub use Rattle.std.proofs.lemmas.Option.{same_Some, get_or_from_slice_get, slice_get_within, slice_get-get_or, slice_get-map}
pub use Rattle.std.specs.List.{slice_get, count_by, filter, list_any, swap}
pub use Rattle.std.specs.Option.{option_map, option_map_or, option_or}
pub use Rattle.std.specs.Prelude.{◌≡◌, ◌++◌, ℕ, zero, suc, Bool, true, false, List, [], ◌∷◌, Some, None, length, replicate, take, Contains, unwrap_or, ◌⊎◌, ◌<◌}
pub use Rattle.std.specs.Prelude.{◌-◌, ◌*◌, ◌||◌, IsPermutation, min, nat_le}
pub use Rattle.std.specs.Prelude.{Option, cond, set, is_some, ◌≤◌, All, IfSome, max, ◌+◌, not, ◌≢◌, ◌^◌, MatchBool, MatchOption, ◌&&◌, drop}
pub use Rattle.std.specs.Prelude.{IfErr, Ok, map, nat_lt, ◌==◌}
pub use Rattle.batcher.specs.Lists.{is_some_and}
pub use Rattle.batcher.specs.Config.{Config}
pub use Rattle.batcher.specs.Next.{pending_next, subject_next}
pub use Rattle.batcher.specs.Reports.{subjects_contradict}
pub use Rattle.batcher.specs.RoundContracts.{round_config}
pub use Rattle.batcher.specs.RoundState.{RoundView}
pub use Rattle.batcher.specs.Steps.{is_ready_in}
pub use Rattle.batcher.specs.Verdicts.{LooksAtKind}
pub use Rattle.batcher.specs.Verifiers.{certifies_itself}
pub use Rattle.batcher.specs.Votes.{subject_of, same_proposal, subject_certified, kind_certified, round_in, same_subject, same_round}
pub use Rattle.batcher.specs.answers.Admission.{Admission}
pub use Rattle.batcher.specs.answers.BlockReason.{BlockReason}
pub use Rattle.batcher.specs.messages.Activity.{Activity}
pub use Rattle.batcher.specs.messages.Attestation.{Attestation}
pub use Rattle.batcher.specs.messages.Certificate.{Certificate}
pub use Rattle.batcher.specs.messages.Certificate.TheVariants.{Finalization as FinalizationCertificate, Notarization as NotarizationCertificate}
pub use Rattle.batcher.specs.messages.Certificate.TheVariants.{Nullification as NullificationCertificate}
pub use Rattle.batcher.specs.messages.Kind.{Kind}
pub use Rattle.batcher.specs.messages.Kind.TheVariants.{Finalization, Notarization, Nullification}
pub use Rattle.batcher.specs.messages.Proposal.{Proposal}
pub use Rattle.batcher.specs.messages.Sha256Digest.{Sha256Digest}
pub use Rattle.batcher.specs.messages.Subject.{Subject}
pub use Rattle.batcher.specs.messages.Subject.TheVariants.{Notarize, Nullify, Finalize}
pub use Rattle.batcher.specs.messages.Vote.{Vote}
pub use Rattle.batcher.specs.positions.Epoch.{Epoch}
pub use Rattle.batcher.specs.positions.Participant.{Participant}
pub use Rattle.batcher.specs.positions.Round.{Round}
pub use Rattle.batcher.specs.positions.View.{View}
pub use Rattle.batcher.specs.votes.Outcome.{Outcome}
pub use Rattle.batcher_agreement.proofs.Voting.{voted_final_is_notarized}
pub use Rattle.batcher_agreement.specs.Lives.{node_history, called, held_by, conduct_of, verified, VoterEvent, VoterHistory, written, acts_of, learned_by}
pub use Rattle.batcher_agreement.specs.Policy.{Conduct, HasVoted, Knows, IsGrounded, IsCleared, KeepsPolicy, learned, voted}
pub use Rattle.batcher_bytes.specs.Format.{Format, whole}
pub use Rattle.batcher_bytes.specs.Messages.{versioned, certificate_format}
pub use Rattle.batcher_bytes.specs.declared.signature.Signature.{Signature}
pub use Rattle.batcher_journal.proofs.Lives.{contains_filter}
pub use Rattle.batcher_journal.proofs.Rounds.{still_over}
pub use Rattle.batcher_journal.specs.Answers.{MayBeWrittenBehind}
pub use Rattle.batcher_journal.specs.Contradictions.{IsFree, LeavesFree}
pub use Rattle.batcher_journal.specs.Floors.{is_below, is_over}
pub use Rattle.batcher_journal.specs.Ready.{JournalView, begun}
pub use Rattle.batcher_journal.specs.Records.{Certified}
pub use Rattle.batcher_journal.specs.Text.{Contents, fields_of}
pub use Rattle.batcher_node.proofs.Lowest.{one_next}
pub use Rattle.batcher_node.specs.Events.{started, cause_by, is_peer, vote_came, NodeEvent, certificate_came, constructed, cause_in}
pub use Rattle.batcher_node.specs.Events.{forgery_came, peer_in, view_finalized, view_history, window_after, vote_cast, view_entered}
pub use Rattle.batcher_node.specs.Nodes.{NodeConfig, NodeView, SameNode, node_config, IsAtRest, cause_at, slot_at, IsNext}
pub use Rattle.batcher_node.specs.Represents.{ViewRepresents, ahead_answer, ahead_answer_of, is_to_be_tried}
pub use Rattle.batcher_node.specs.Verdicts.{LooksAtKindThere, LooksAtThere}
pub use Rattle.batcher_node.specs.Windows.{is_ahead, is_of, numbered}
pub use Rattle.batcher_node.specs.declared.answers.Cast.TheVariants.{ToSend, Known as KnownVote, Outside as OutsideVote}
pub use Rattle.batcher_node.specs.declared.answers.Cause.{Cause}
pub use Rattle.batcher_node.specs.declared.answers.Cause.TheVariants.{Vote as ForVote}
pub use Rattle.batcher_node.specs.declared.answers.Ahead.{Ahead}
pub use Rattle.batcher_node.specs.declared.answers.Ahead.TheVariants.{Certified as CertifiedAhead, Forged as ForgedAhead}
pub use Rattle.batcher_node.specs.declared.answers.Receipt.{Receipt}
pub use Rattle.batcher_node.specs.declared.answers.Receipt.TheVariants.{Answered, Dropped, Outside, Unknown}
pub use Rattle.batcher_node.specs.declared.slot.Slot.{Slot}
pub use Rattle.batcher_node.specs.declared.window.Window.{Window}
pub use Rattle.batcher_types.proofs.VoteLemmas.{same_proposal-true, same_round-refl, same_round-true, same_subject-refl}
pub use Rattle.batcher_bytes.specs.Copies.{CopyView}
pub use Rattle.batcher_validator.specs.Disks.{log_of}
pub use Rattle.batcher_validator.specs.Ending.{IsPreferred, GivesOnAndOn, HasLessLeft, WaitsForVote, finals_left, is_final_after, others_left}
pub use Rattle.batcher_validator.specs.Absence.{enters, entering, is_given_up, is_sign, is_sign_of, silence_of, with_sign}
pub use Rattle.batcher_validator.specs.Histories.{gave_up}
pub use Rattle.batcher_validator.specs.Histories.{began, only_took, HasBlocked, ValidatorHistory, gave, chose, expired, later_of, conduct_in, voter_history}
pub use Rattle.batcher_validator.specs.Histories.{window_by, calls_in, HasHad, HasHanded, did, HasForwarded, again, forward_with, to_forward, HadVoted}
pub use Rattle.batcher_validator.specs.Histories.{HasAnnouncedFrom, HasAskedFrom, HasRecast, HasSent, IsVerifying, answered, ValidatorEvent, only_did, took}
pub use Rattle.batcher_validator.specs.Histories.{chosen_in, expired_in, last_to_sign, me_in, posed_in, refused, unsigned_in, HasSentOnce, resent_from, turn_in}
pub use Rattle.batcher_validator.specs.Posing.{CannotSign, CannotVote, IsNotToSign, Grounds, HasCast, HasNotCast, IsNotToPropose}
pub use Rattle.batcher_validator.specs.Decisions.{AreDecided, HasDecided}
pub use Rattle.batcher_validator.specs.Posing.{IsPlaceToSend, SendsNone}
pub use Rattle.batcher_validator.specs.Queues.{AreFirst, AreDistinct, AreParted, HasKey}
pub use Rattle.batcher_validator.specs.Resending.{is_again, is_again_above, is_earlier, is_sent_again, still_to_forward, turn_at, below_turn, IsPlaceFrom}
pub use Rattle.batcher_validator.specs.Resending.{is_due_again, is_finalization_of}
pub use Rattle.batcher_validator.specs.Returning.{agains, StaysFinal}
pub use Rattle.batcher_validator.specs.Recalling.{Recalls, IsAtPlace}
pub use Rattle.batcher_validator.specs.Running.{HasBegun, HasCertificate, IsRunning, ValidatorView, is_over_for, AreBlocked, blocks_sender, IntentView}
pub use Rattle.batcher_validator.specs.Running.{ForEachRun, Gives, GivenView, RunStays, tally_from, left_of, AreKept, RunMeets, is_before_view}
pub use Rattle.batcher_validator.specs.Running.{AreFirstVotes, AreFirstVotesBut, HasConstructed, tallied, IsIntent, AreBytesOf, AreSilent, RunEnters}
pub use Rattle.batcher_validator.specs.Running.{RunCasts, RunMayWrite, RunWrites, RunTakes}
pub use Rattle.batcher_validator.specs.Shelves.{PutsBehind, ShelfView, last_of}
pub use Rattle.batcher_validator.specs.Shelves.{AreShelved, IsFinalAt, is_from, HaveNoFinal, IsAt, kind_and_round, Shelves, IsLookedAt, ShelvesOne}
pub use Rattle.batcher_validator.specs.Shelves.{IsLowestFinal}
pub use Rattle.batcher_validator.specs.Tasks.{MayGive, IsContested, MaySign, MayVote, AreGivenInTurn, Counts, HasEntered, IsNextIn, NobodyIsToBlock}
pub use Rattle.batcher_validator.specs.Tasks.{NothingIsDue, NothingIsDueMeanwhile, IsNextFinal}
pub use Rattle.batcher_validator.specs.Tasks.{NothingIsProposed, NothingIsToSign, IsOpen}
pub use Rattle.batcher_validator.specs.Unsigned.{nothing_unsigned, with_refused}
pub use Rattle.batcher_validator.specs.declared.decided.Decided.{Decided}
pub use Rattle.batcher_validator.specs.declared.tally.Tally.{Tally}
pub use Rattle.batcher_validator.specs.declared.task.Task.{Task}
pub use Rattle.batcher_validator.specs.declared.task.Task.TheVariants.{Block, Judge, Propose, Sign, Final, SendVote, Forward, SendCertificate, Cast, Enter}
pub use Rattle.batcher_validator.specs.declared.task.Task.TheVariants.{Verify}
pub use Rattle.batcher_voter.proofs.Appending.{knows_before}
pub use Rattle.batcher_voter.proofs.Windowed.{from_first, same_epoch}
pub use Rattle.batcher_voter.specs.Journals.{IsRaised, MayGain}
pub use Rattle.batcher_voter.specs.Knowledge.{KnowsOf}
pub use Rattle.batcher_voter.specs.Refusals.{RestsOnLearned, IsAnotherNotarized, IsRefused}
pub use Rattle.batcher_voter.specs.Remembering.{Remembers}
pub use Rattle.batcher_voter.specs.Reopening.{IsFinalView, IsTakenIn, StaysKnown}
pub use Rattle.batcher_voter.specs.Voting.{HasStarted, BeginWithOneView, ForEachLife, IsFinalizable, Permits, IsVoting, VoterStays, IsNextView}
pub use Rattle.batcher_voter.specs.Voting.{VoterMeets, Casts, IsWritten, MayWrite, WritesAndCalls}
pub use Rattle.batcher_voter.specs.declared.answers.Permission.{Permission}
pub use Rattle.batcher_voter.specs.declared.answers.Permission.TheVariants.{Refused}
pub use Rattle.batcher_voter.specs.declared.answers.Rule.{Rule}
pub use Rattle.batcher_voter.specs.declared.answers.Rule.TheVariants.{Contradicts, Nullified, NotNotarized, ParentBeforeFinal, ParentNotEarlier, ParentUnknown}
pub use Rattle.batcher_voter.specs.declared.answers.Rule.TheVariants.{ViewNotNullified}
pub use Rattle.batcher_bytes.specs.Messages.{vote_format}
pub use Rattle.batcher_node.specs.Nodes.{WhyNotEntered}
pub use Rattle.batcher_voter.specs.Finalizing.{Finalizes, WhyNotFinalized}
