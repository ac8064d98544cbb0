-- What proofs of this crate use of definitions, and of lemmas from below it.
pub use Rattle.std.proofs.Common.{◌∙◌, ap, append_assoc, arith, refl, sym, subst, eqb, inl, inr, add-one, ⊎_elim, zero-add, rules}
pub use Rattle.std.proofs.lemmas.Bool.{eq-eqb, false≢true, true≢false, eqb-true, cases_eq, or_parts, or_right, and_parts, and_from, or_cases}
pub use Rattle.std.proofs.lemmas.Bool.{false_from_ne_true, cases_Bool, or_left}
pub use Rattle.std.proofs.lemmas.Bool.Decides.{nat_tests}
pub use Rattle.std.proofs.lemmas.List.Elements.{All-head, All-tail, All-from_recursion, All-cons, All-nil}
pub use Rattle.std.proofs.lemmas.List.Folds.{list_any-append}
pub use Rattle.std.proofs.lemmas.List.Sorted.{sum_by-IsPermutation}
pub use Rattle.std.proofs.lemmas.List.Sums.{sum_by-cons, list_all-from_AllPass, AllPass-from_list_all}
pub use Rattle.std.proofs.lemmas.Map.{length-set_value}
pub use Rattle.std.proofs.lemmas.Map.Keys.{sorted_head, sorted_tail, ge_from_not_lt}
pub use Rattle.std.proofs.lemmas.Map.Lookups.{exact_unsigned}
pub use Rattle.std.proofs.lemmas.Map.Made.{filter_same_pairs}
pub use Rattle.std.proofs.lemmas.Map.Steps.{set_value_same}
pub use Rattle.std.proofs.lemmas.Option.{none-some}
pub use Rattle.std.specs.BTreeMap.{BTreeMap, get, is_at}
pub use Rattle.std.specs.BinaryHeap.{IsUpperBound, heap_items, heap_len, heap_capacity}
pub use Rattle.std.specs.Cmp.{nat_cmp_is}
pub use Rattle.std.specs.List.{list_any, AllPass, AllByRecursion, list_all}
pub use Rattle.std.specs.List.Sorted.{IsStrictlySortedBy, IsPermutation}
pub use Rattle.std.specs.Map.{lookup, keys_of}
pub use Rattle.std.specs.Option.{option_map, option_or, unwrap_or}
pub use Rattle.std.specs.Ordering.{nat_cmp, is_eq, is_gt}
pub use Rattle.std.specs.Prelude.{◌≡◌, ◌==◌, ◌≤◌, ℕ, Bool, true, false, cond, ◌&&◌, [], ◌∷◌, ◌++◌, Option, Some, ◌≢◌, ◌<◌, not, List, None, Ok, is_some, length}
pub use Rattle.std.specs.Prelude.{MatchOption, IfSome, zero, suc, set, Result, Err, OnErr, IfOk, IfErr, IsErrAnd, is_err, ◌||◌, ◌+◌, nat_lt, nat_le, filter}
pub use Rattle.std.specs.Prelude.{sum_by, IfNone, ◌⊎◌, ◌-◌, ◌/◌, find, option_and_then, All, take, is_none}
pub use Rattle.std.specs.declared.cmp.Ordering.{Ordering}
pub use Rattle.std.specs.declared.cmp.Ordering.TheVariants.{Less, Equal, Greater}
pub use Rattle.std.specs.declared.cmp.Reverse.{Reverse}
pub use Rattle.batcher.proofs.CountLemmas.{count-append}
pub use Rattle.batcher.proofs.ListLemmas.{any_more}
pub use Rattle.batcher.specs.Answers.{needs_memory, own_answer, certificate_answer, IsPossible, MayAnswer}
pub use Rattle.batcher.specs.CertificateTiming.{is_due, LeavesNoneDue}
pub use Rattle.batcher.specs.Config.{Config, config, quorum_in, participants_in, sender_in}
pub use Rattle.batcher.specs.Eligible.{ready_kind, is_valid, is_counted}
pub use Rattle.batcher.specs.FirstVotes.{first_votes, is_free}
pub use Rattle.batcher.specs.History.{Event, History, names_sender, cast_votes, sent_votes}
pub use Rattle.batcher.specs.Honest.{OwnAddedAgree, own_added_by, own_votes_added, sent_bad_vote, NamesForOwnVotes, votes_sent}
pub use Rattle.batcher.specs.Lists.{count, is_some_and, is_empty}
pub use Rattle.batcher.specs.Meaning.{Meaning}
pub use Rattle.batcher.specs.Promises.{gave_cause, AtEachVote, AtEachEvent, IsBlockedForCause, ends_in_constructions, IsAcceptedExactly, Rests, GivesVerified}
pub use Rattle.batcher.specs.ProposalStates.{proposal_of}
pub use Rattle.batcher.specs.Reports.{IsAmong}
pub use Rattle.batcher.specs.Represents.{Represents}
pub use Rattle.batcher.specs.RoundContracts.{ForEachHistory, round_config, SimulatesAlways, SimulatesOnOk}
pub use Rattle.batcher.specs.RoundState.{RoundView, SameRound}
pub use Rattle.batcher.specs.RunContract.{IsPromised}
pub use Rattle.batcher.specs.Runs.{MayCall}
pub use Rattle.batcher.specs.Selection.{is_certified, is_released, selection_by, fixed_proposal, fixing_evidence, leader_of, leader_named}
pub use Rattle.batcher.specs.SentVotes.{SendersOfAddedGiveNoCause, SendsAdded}
pub use Rattle.batcher.specs.Steps.{is_added, fault_or_memory, unopposed_result, leader_set_answer, report_by}
pub use Rattle.batcher.specs.TrackerSteps.{is_skipped}
pub use Rattle.batcher.specs.Verifiers.{certifies_itself}
pub use Rattle.batcher.specs.Votes.{excludes, kind_certified, subject_of, subject_certified, round_in, kind_of, is_of_kind, is_vote_of, proposal_in, signer_of}
pub use Rattle.batcher.specs.Votes.{attestation_of, is_kind}
pub use Rattle.batcher.specs.answers.Admission.{Admission}
pub use Rattle.batcher.specs.answers.Answer.{Answer}
pub use Rattle.batcher.specs.answers.Answer.TheVariants.{Network as NetworkAnswer, Certificate as CertificateAnswer, Own as OwnAnswer, Leader as LeaderAnswer}
pub use Rattle.batcher.specs.answers.Answer.TheVariants.{Construct as ConstructAnswer, Forward as ForwardAnswer, OwnRefused, Missing as MissingAnswer}
pub use Rattle.batcher.specs.answers.Answer.TheVariants.{OutOfMemory}
pub use Rattle.batcher.specs.answers.BlockReason.{BlockReason}
pub use Rattle.batcher.specs.answers.OwnFault.{OwnFault}
pub use Rattle.batcher.specs.answers.OwnFault.TheVariants.{OutOfMemory as OutOfMemoryFault}
pub use Rattle.batcher.specs.calls.Call.{Call}
pub use Rattle.batcher.specs.calls.Call.TheVariants.{Network as NetworkCall, Certificate as CertificateCall, Own as OwnCall, Leader as LeaderCall}
pub use Rattle.batcher.specs.calls.Call.TheVariants.{Construct as ConstructCall, Forward as ForwardCall, Missing as MissingCall}
pub use Rattle.batcher.specs.messages.Activity.{Activity}
pub use Rattle.batcher.specs.messages.Certificate.{Certificate}
pub use Rattle.batcher.specs.messages.Kind.{Kind}
pub use Rattle.batcher.specs.messages.Kind.TheVariants.{Notarization, Nullification, Finalization}
pub use Rattle.batcher.specs.messages.Proposal.{Proposal}
pub use Rattle.batcher.specs.messages.Vote.{Vote}
pub use Rattle.batcher.specs.positions.Epoch.{Epoch}
pub use Rattle.batcher.specs.positions.Participant.{Participant}
pub use Rattle.batcher.specs.positions.Round.{Round}
pub use Rattle.batcher.specs.verifier.Batch.{Batch}
pub use Rattle.batcher.specs.verifier.LeaderFault.{LeaderFault}
pub use Rattle.batcher.specs.verifier.LeaderFault.TheVariants.{LeaderChanged}
pub use Rattle.batcher.specs.votes.Mode.{Mode}
pub use Rattle.batcher.specs.votes.Outcome.{Outcome}
pub use Rattle.batcher.specs.votes.Outcome.TheVariants.{Added, Duplicate, Conflicting}
pub use Rattle.batcher_node.specs.Due.{times, ListsChanged, times_due}
pub use Rattle.batcher_node.specs.Events.{NodeEvent, NodeHistory, view_history, view_history_by, vote_cast, vote_came, certificate_came, view_entered}
pub use Rattle.batcher_node.specs.Events.{view_finalized, constructed, proposal_forwarded, at_view, peer_in, is_peer, cause_by, invalid_in, started, cause_in}
pub use Rattle.batcher_node.specs.Events.{forgery_came, window_in, window_after}
pub use Rattle.batcher_node.specs.NodePromises.{IsForCause, AreForCause, GaveCauseFor, HadGivenCause, IsNodePromised}
pub use Rattle.batcher_node.specs.declared.answers.EnterFault.TheVariants.{LeaderChanged as LeaderChangedFault}
pub use Rattle.batcher_node.specs.Nodes.{NodeConfig, NodeView, node_config, cause_at, slot_at, fresh_round, MakesCall, MakesCallThere, NeedsThere, IsNext}
pub use Rattle.batcher_node.specs.Nodes.{IsTended, HasChanged, WhyNotEntered, Refuses, IsLedByAnother, due_after, MakesCallFresh, ViewGoesOn, SameNode}
pub use Rattle.batcher_node.specs.Represents.{AreNamed, IsNamed, NodeRepresents, receipt, receipt_from, is_within, config_of, is_to_be_tried, ViewRepresents}
pub use Rattle.batcher_node.specs.Represents.{CertificateMayNeed, NodeMeets, SimulatesCast, SimulatesForward, MayNeedIn, NextMayNeed, VoteMayNeed, cast_by}
pub use Rattle.batcher_node.specs.Represents.{HasHistory, ForEachNodeHistory}
pub use Rattle.batcher_node.specs.Represents.{ForSomeNodeHistory, IsNode, is_unblocked, mode_of}
pub use Rattle.batcher_node.specs.Sending.{ToSendAgree, to_send_by, view_of, votes_to_send, HearsOnly, HoldsCertified, SendsWhatIsToSend, HearsWhatIsToSend}
pub use Rattle.batcher_node.specs.SendingExamples.{of_four, sent, heard, SendingExamples}
pub use Rattle.batcher_node.specs.Verdicts.{LooksAtThere}
pub use Rattle.batcher_node.specs.Windows.{contains, numbered, is_ahead, is_of, entered, finalized, width, mode_now}
pub use Rattle.batcher_node.specs.declared.answers.Cast.{Cast}
pub use Rattle.batcher_node.specs.declared.answers.Cast.TheVariants.{ToSend}
pub use Rattle.batcher_node.specs.declared.answers.Cause.{Cause}
pub use Rattle.batcher_node.specs.declared.answers.Cause.TheVariants.{Vote as ForVote, Certificate as ForCertificate, Signature as ForSignature}
pub use Rattle.batcher_node.specs.declared.answers.Receipt.{Receipt}
pub use Rattle.batcher_node.specs.declared.answers.Receipt.TheVariants.{Answered, Outside, Dropped, Unknown}
pub use Rattle.batcher_node.specs.declared.answers.Verdict.{Verdict}
pub use Rattle.batcher_node.specs.declared.answers.Verdict.TheVariants.{Recorded, Forged, Known}
pub use Rattle.batcher_node.specs.declared.slot.Slot.{Slot}
pub use Rattle.batcher_node.specs.declared.window.Window.{Window}
