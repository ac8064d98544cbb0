-- What proofs of this crate use of definitions, and of lemmas from below it.
pub use Rattle.std.proofs.Common.{inl, inr, refl, ap, ◌∙◌, arith, sym, ⊎_elim, eqb, subst, ltb, get_or, length-append, leb}
pub use Rattle.std.proofs.Math.Bool.{and-true, or-false, or_assoc, and-not_self}
pub use Rattle.std.proofs.Math.Nat.{le_trans}
pub use Rattle.std.proofs.lemmas.Bool.{cases_Bool, false≢true, and_from, and_parts, or_left, or_right, or_cases, or_parts, true≢false, false_from_ne_true}
pub use Rattle.std.proofs.lemmas.Bool.{eqb-true, not-true, and_right, or_from, not-false, eq-eqb, lt-ltb, le-leb, true_from_ne_false, cond_both, leb-true}
pub use Rattle.std.proofs.lemmas.Bool.{ltb-true, and_left, le-ltb, leb-false, lt-leb, ltb-false, eqb-false, ne_eqb}
pub use Rattle.std.proofs.lemmas.Bool.Decides.{nat_tests}
pub use Rattle.std.proofs.lemmas.List.{nil_from_length, append-nil, take-append-drop, length-map, map-append}
pub use Rattle.std.proofs.lemmas.List.Elements.{All-nil, All-cons, All-head, All-tail, filter_agree, filter-append, All-filter, All-append, All-weaker}
pub use Rattle.std.proofs.lemmas.List.Elements.{filter_passes}
pub use Rattle.std.proofs.lemmas.List.Folds.{list_any-append, list_any_none}
pub use Rattle.std.proofs.lemmas.List.FromFn.{filter_of_map_range_with_len_more}
pub use Rattle.std.proofs.lemmas.List.Quantifiers.{position-Some}
pub use Rattle.std.proofs.lemmas.List.Sums.{AllPass-from_list_all, list_all-from_AllPass}
pub use Rattle.std.proofs.lemmas.Option.{same_Some, cond_some, none-some}
pub use Rattle.std.specs.Cmp.{both_ways}
pub use Rattle.std.specs.List.{list_any, cons_option, range_with_len, AllPass, list_all, All}
pub use Rattle.std.specs.Option.{option_or, option_map_or, option_map}
pub use Rattle.std.specs.Ordering.{is_eq}
pub use Rattle.std.specs.Prelude.{◌≡◌, ◌≤◌, ◌⊎◌, ℕ, ◌+◌, Bool, true, false, cond, [], ◌∷◌, Option, Some, None, is_some, option_and_then, ◌||◌, ◌≢◌, not, ◌&&◌}
pub use Rattle.std.specs.Prelude.{List, ◌++◌, Result, Ok, Err, is_none, IfSome, filter, ◌==◌, find, ◌<◌, ◌*◌, zero, suc, nat_lt, length, nat_le, map, position}
pub use Rattle.std.specs.Prelude.{MatchBool, if◌then◌else◌, OnOk, OnErr, is_ok, IsOk, IfErr, take, ⊤, is_err, drop}
pub use Rattle.std.specs.Result.{result_ok}
pub use Rattle.batcher_histories.specs.Admissions.{same_vote, refusal, block_for, mismatch_reason, admission_after, admission_after_facts, admission_beside}
pub use Rattle.batcher_histories.specs.Admissions.{report_of, addition, conflict_reason}
pub use Rattle.batcher_histories.specs.AnswerFacts.{ConflictAnswered, NamesBadSigners, GivesSelected, ForwardsSelected, ChangesNoFixed, HoldsThen}
pub use Rattle.batcher_histories.specs.AnswerFacts.{HoldsThroughout, carry_different, is_conflict, AtEachCall, added_by, votes_added, proposal_forwarded}
pub use Rattle.batcher_histories.specs.AnswerFacts.{ConflictsWithAnother, has_bad_vote, usable_votes}
pub use Rattle.batcher_histories.specs.Answers.{MayAnswer, IsPossible, network_answer, certificate_answer, IsAnswered, AreAnswered, own_answer, forward_after}
pub use Rattle.batcher_histories.specs.Answers.{missing_after, keeps_nullify, has_voted, needs_memory}
pub use Rattle.batcher_histories.specs.Attempts.{AttemptAfter, votes_checked, certifies_subject, bad_signers, Attempt, are_of, left_verified, GivenAtOnce}
pub use Rattle.batcher_histories.specs.Attempts.{FellBack, OnlyVerified}
pub use Rattle.batcher_histories.specs.Backing.{proposal_certified, gives_kind, was_given, IsGiven, GivesOnce, IsBacked, GivesBacked, GivesFixed}
pub use Rattle.batcher_histories.specs.Backing.{NameOneProposal, GivesSafely, votes_behind}
pub use Rattle.batcher_histories.specs.Blocks.{IsBlockedForItself, IsBlockedInEveryMode, IsBlockedExactlyUntilRelease, IsBlockedExactlyIfRetaining}
pub use Rattle.batcher_histories.specs.Blocks.{BlocksJustly, GaveCause}
pub use Rattle.batcher_histories.specs.CertificateTiming.{has_valid_quorum, HasNoBadVote, IsClean, GivesAtOnce, is_due, kinds_due, TakesOne}
pub use Rattle.batcher_histories.specs.CertificateTiming.{GivesDespiteBadVotes, LeavesNoneDue, GivesPromptly}
pub use Rattle.batcher_histories.specs.Comparison.{conflicts, compared_votes, compared_votes_of, is_compared, is_compared_at_release, is_matched, facts_of}
pub use Rattle.batcher_histories.specs.Comparison.{known_after, known_opposite, has_block}
pub use Rattle.batcher_histories.specs.Config.{Config, sender_in, participants_in, quorum_in}
pub use Rattle.batcher_histories.specs.Consequences.{KeepsFixed, KeepsLeaders, replacements, FollowsThen, FollowsByDefinition}
pub use Rattle.batcher_histories.specs.Eligible.{is_trusted, was_eligible, was_invalid, trials, fresh_votes, proven_votes, ready_kind, is_valid, is_among}
pub use Rattle.batcher_histories.specs.Eligible.{is_counted, counted_votes, valid_votes, is_ready_by, holds_vote, eligible_votes, with_batch, eligible_among}
pub use Rattle.batcher_histories.specs.Eligible.{Trial, proven_by, fresh_by, ready_kind_by, trial_of}
pub use Rattle.batcher_histories.specs.Examples.Answers.{WorkedExamples, is_good, listing, four, p, net, nullify, refused, changed_calls, changed_answers}
pub use Rattle.batcher_histories.specs.Examples.Answers.{repeated_calls, repeated_answers, TinyVote, finalize, TinyCall, construct, batch, notarization}
pub use Rattle.batcher_histories.specs.Examples.Answers.{finalization, played, notarize, no_words}
pub use Rattle.batcher_histories.specs.Examples.Blocks.{BlockExamples}
pub use Rattle.batcher_histories.specs.Examples.Certificates.{hopeful, tiny, three_notarizes, one_bad, with_outsider, CertificateExamples}
pub use Rattle.batcher_histories.specs.Examples.Honest.{undiscerning, played_nullifies, HonestExamples}
pub use Rattle.batcher_histories.specs.Examples.Replays.{ReplayExamples, new_round}
pub use Rattle.batcher_histories.specs.FirstVotes.{first_votes, first_like, is_free, opposite_vote, contradicts, first_vote, own_first_votes}
pub use Rattle.batcher_histories.specs.Flood.{batches_given, constructions_made, others_made, is_at_rest, ConstructsUnlessAtRest, IsFloodBounded}
pub use Rattle.batcher_histories.specs.History.{Event, History, names_sender, cast_votes, batch_given, certificate_given, history_after, is_made, history_from}
pub use Rattle.batcher_histories.specs.History.{sent_votes, own_votes, history, recorded_certificate}
pub use Rattle.batcher_histories.specs.Honest.{named_invalid, IsAddedWithoutCause, times_named, votes_sent, sent_bad_vote, NamesForOwnVotes, voted_well}
pub use Rattle.batcher_histories.specs.Honest.{honest_voters, CompletesHonestQuorums, LeavesNoHonestQuorum, TakesInHonest, own_added_by, own_votes_added}
pub use Rattle.batcher_histories.specs.Honest.{OwnAddedAgree}
pub use Rattle.batcher_histories.specs.Known.{Known, known_in, admission_from, known_by, forward_by, has_block_by, missing_by, network_by, own_by, first_ready}
pub use Rattle.batcher_histories.specs.OrderIndependence.{Batches, after_constructions, is_settled, CertifiesExactly, CertifyAlike, Converges, OrderIsFree}
pub use Rattle.batcher_histories.specs.OrderIndependence.{calls_of, is_construction, evidence_by, fix_different, IsOrderless}
pub use Rattle.batcher_histories.specs.Pairs.{blocks_participant, TellsNoKeysApart, IsAlike, in_mode, IsBeside, blocks, was_blocked, tells_nothing, AtEachPlace}
pub use Rattle.batcher_histories.specs.Pairs.{SelectsAlike, IsBlockedByBoth, IsBlockedByOne, AnsweredAlike, BlocksNoMore, is_other_selected, IsMissingInBoth}
pub use Rattle.batcher_histories.specs.Pairs.{ends_pair, is_own_fault, PairGoesOn, EndsAt, IsPairRun}
pub use Rattle.batcher_histories.specs.Promises.{AtEachEvent, AtEachTime, votes_cast, names_another, contradicts_itself, gave_cause, AtEachVote}
pub use Rattle.batcher_histories.specs.Promises.{IsAcceptedExactly, IsBlockedForCause, IsBlockedIfContradicting, GivesVerified, CompletesQuorums, Rests}
pub use Rattle.batcher_histories.specs.Promises.{GivesNone, Promises, ends_in_constructions}
pub use Rattle.batcher_histories.specs.Replay.{is_out_of_memory, HadMemory, GoAlike, EqualRunsGoAlike}
pub use Rattle.batcher_histories.specs.Reports.{are_contrary, contrary_vote, IsAmong, subjects_contradict, vote_in, evidence_in, ordered_pair, kept_votes}
pub use Rattle.batcher_histories.specs.Reports.{contrary_pair, AreContrary, ReportsAdded, ReportsEvidence, ReportsEachContrary, ReportsContrary, ReportsTruly}
pub use Rattle.batcher_histories.specs.Represents.{tries_kind, Represents, RepresentsKind, first_by_signer, Meets, Simulates, arrivals, pending_after}
pub use Rattle.batcher_histories.specs.Represents.{verified_after, TriesBuffers}
pub use Rattle.batcher_histories.specs.RunContract.{IsRun, IsPromised}
pub use Rattle.batcher_histories.specs.Runs.{blocked_sender, blocked_senders, MayCall, certifies_answer, AfterLeaderSet, Steps, StepsNetwork, StepsOwn}
pub use Rattle.batcher_histories.specs.Runs.{StepsCertificate, StepsLeader, StepsConstruct, StepsForward, StepsMissing, Runs}
pub use Rattle.batcher_histories.specs.Selection.{selection_by, fixed_proposal, fixing_evidence, leaders_proposal, selected_proposal, was_forwarded, forwards}
pub use Rattle.batcher_histories.specs.Selection.{selection, leader_of, is_released, is_certified, is_restored, certificate_of, finalized_by, restored_votes}
pub use Rattle.batcher_histories.specs.Selection.{votes_restored_by, replacement, leader_named}
pub use Rattle.batcher_histories.specs.SentVotes.{SendsAdded, SendersOfAddedGiveNoCause}
pub use Rattle.batcher_histories.specs.Steps.{is_added, is_participant, opposite_fault, duplicate_result, unopposed_result, report_by, IsRight, AfterNetwork}
pub use Rattle.batcher_histories.specs.Steps.{rejection_to, rejection_by, admission, admission_by, admission_named, is_recorded, Fixes, leader_set_answer}
pub use Rattle.batcher_histories.specs.Steps.{has_block_held, missing_in, AfterOwn, fixed_by, own_result, own_result_by, is_kept, restored_by, restored_with}
pub use Rattle.batcher_histories.specs.Steps.{nothing_held, forward_answer, is_ready_in, kind_tried, fault_or_memory, AfterLeader, AfterCertificate, AfterBatch}
pub use Rattle.batcher_histories.specs.Steps.{AfterConstruct, Settles, AfterGiven, option_proposal}
pub use Rattle.batcher_histories.specs.Work.{processed_total, IsWorkBounded, processed_by, votes_accepted_open}
pub use Rattle.batcher_histories.specs.declared.answers.Admission.{Admission}
pub use Rattle.batcher_histories.specs.declared.answers.Answer.{Answer}
pub use Rattle.batcher_histories.specs.declared.answers.Answer.TheVariants.{OutOfMemory, Network as NetworkAnswer, Own as OwnAnswer, OwnRefused}
pub use Rattle.batcher_histories.specs.declared.answers.Answer.TheVariants.{Certificate as CertificateAnswer, Leader as LeaderAnswer}
pub use Rattle.batcher_histories.specs.declared.answers.Answer.TheVariants.{Construct as ConstructAnswer, Forward as ForwardAnswer, Missing as MissingAnswer}
pub use Rattle.batcher_histories.specs.declared.answers.Answer.TheVariants.{OutOfMemory as OutOfMemoryAnswer, OwnRefused as OwnRefusedAnswer}
pub use Rattle.batcher_histories.specs.declared.answers.BlockReason.{BlockReason}
pub use Rattle.batcher_histories.specs.declared.answers.BlockReason.TheVariants.{InvalidSignature, ConflictingNullify, UnknownParticipant}
pub use Rattle.batcher_histories.specs.declared.answers.OwnFault.{OwnFault}
pub use Rattle.batcher_histories.specs.declared.answers.OwnFault.TheVariants.{Conflicting as ConflictingFault}
pub use Rattle.batcher_histories.specs.declared.calls.Call.{Call}
pub use Rattle.batcher_histories.specs.declared.calls.Call.TheVariants.{Network as NetworkCall, Own as OwnCall, Certificate as CertificateCall}
pub use Rattle.batcher_histories.specs.declared.calls.Call.TheVariants.{Leader as LeaderCall, Construct as ConstructCall, Forward as ForwardCall}
pub use Rattle.batcher_histories.specs.declared.calls.Call.TheVariants.{Missing as MissingCall}
pub use Rattle.batcher_types.proofs.CountLemmas.{count_none, at_most_one, count_mono, count-append, count-false, count-true, count_same, count_covers}
pub use Rattle.batcher_types.proofs.CountLemmas.{count_split, below_or_at, below_zero, count-filter, count-filter_le, count-map, any_count, few_distinct}
pub use Rattle.batcher_types.proofs.CountLemmas.{quorums_overlap, once_fewer, length_same, all_count, all_counted, all_counted_both, none_fails, keeps_all}
pub use Rattle.batcher_types.proofs.CountLemmas.{filter_all}
pub use Rattle.batcher_types.proofs.KindLemmas.{is_kind-true, is_kind-refl, each_kind}
pub use Rattle.batcher_types.proofs.ListLemmas.{any_found, none_found, any_more, any_other, any_filter, any_of_filtered, either_same, filter_none, filter_twice}
pub use Rattle.batcher_types.proofs.ListLemmas.{filter_again, map_same, none_both, open_or_closed, filter_behind, first_only}
pub use Rattle.batcher_types.proofs.OptionLemmas.{is_some-option_map, is_some-false}
pub use Rattle.batcher_types.proofs.VoteLemmas.{same_subject-true, same_round-true, same_round-refl, same_subject-refl, same_proposal-refl, same_proposal-true}
pub use Rattle.batcher_types.specs.Ascending.{insert_by, ordered_by}
pub use Rattle.batcher_types.specs.Attempts.{AttemptResult, checked, one_by_one, at_once, attempt_of, attempt_with}
pub use Rattle.batcher_types.specs.Attestations.{index_of_signer, IsQuorum, signers, failing}
pub use Rattle.batcher_types.specs.Keys.{participant}
pub use Rattle.batcher_types.specs.Lists.{count, is_some_and, EachOnce, ElementsWithin, SameElements, is_empty, exactly_one}
pub use Rattle.batcher_types.specs.Meaning.{Meaning, IsLawful, MayTry}
pub use Rattle.batcher_types.specs.Ordered.{All-ordered}
pub use Rattle.batcher_types.specs.Quorum.{quorum_of}
pub use Rattle.batcher_types.specs.Votes.{kind_of, signer_of, is_vote_of, proposal_in, subject_certified, same_proposal, is_kind, are_opposite, opposes}
pub use Rattle.batcher_types.specs.Votes.{is_of_kind, is_eligible, subject_of, attestation_of, has_proposals, same_subject, excludes, round_in, same_round}
pub use Rattle.batcher_types.specs.Votes.{kind_certified, is_for}
pub use Rattle.batcher_types.specs.declared.messages.Activity.{Activity}
pub use Rattle.batcher_types.specs.declared.messages.Attestation.{Attestation}
pub use Rattle.batcher_types.specs.declared.messages.Certificate.{Certificate}
pub use Rattle.batcher_types.specs.declared.messages.Certificate.TheVariants.{Notarization as NotarizationCertificate}
pub use Rattle.batcher_types.specs.declared.messages.Certificate.TheVariants.{Nullification as NullificationCertificate}
pub use Rattle.batcher_types.specs.declared.messages.Certificate.TheVariants.{Finalization as FinalizationCertificate}
pub use Rattle.batcher_types.specs.declared.messages.Kind.{Kind}
pub use Rattle.batcher_types.specs.declared.messages.Kind.TheVariants.{Notarization, Nullification, Finalization}
pub use Rattle.batcher_types.specs.declared.messages.Notarize.{Notarize}
pub use Rattle.batcher_types.specs.declared.messages.Proposal.{Proposal}
pub use Rattle.batcher_types.specs.declared.messages.Subject.{Subject}
pub use Rattle.batcher_types.specs.declared.messages.Subject.TheVariants.{Notarize as NotarizeSubject, Nullify as NullifySubject, Finalize as FinalizeSubject}
pub use Rattle.batcher_types.specs.declared.messages.Vote.{Vote}
pub use Rattle.batcher_types.specs.declared.messages.Vote.TheVariants.{Notarize as NotarizeVote, Nullify as NullifyVote, Finalize as FinalizeVote}
pub use Rattle.batcher_types.specs.declared.positions.Participant.{Participant}
pub use Rattle.batcher_types.specs.declared.positions.Round.{Round}
pub use Rattle.batcher_votes.proofs.VerifierLemmas.Certificates.{made_about, certified_subject}
pub use Rattle.batcher_votes.proofs.VerifierLemmas.CheckedQuorum.{IsQuorum-checked}
pub use Rattle.batcher_votes.proofs.VerifierLemmas.Construction.{verified_about, attested_about, once_attestations, votes_again, known}
pub use Rattle.batcher_votes.proofs.VerifierLemmas.FixedProposal.{selects_fixed, fixes_fixed, fixes_any}
pub use Rattle.batcher_votes.proofs.VerifierLemmas.RestoredVotes.{count_buffers}
pub use Rattle.batcher_votes.proofs.VerifierLemmas.Soundness.{fewer_left}
pub use Rattle.batcher_votes.specs.ProposalStates.{replaces, proposal_of, is_fixed, fixes as to_fixed, updated, fixes, same_selected, selects}
pub use Rattle.batcher_votes.specs.RoundState.{of_kind, Facts, TrackerState, VerifierState, TrackerView, RoundState, PerKind}
pub use Rattle.batcher_votes.specs.Soundness.{BuffersOnlyKept, HasRoomFor, KeepsOtherRoom, WhereItReplaces, IsSound, attests_itself, may_be_buffered}
pub use Rattle.batcher_votes.specs.TrackerSteps.{is_released_in, is_skipped, Observed, unseen, in_full, as_facts, is_seen, observed, observed_opposite}
pub use Rattle.batcher_votes.specs.TrackerSteps.{kept_vote, from_kept, from_facts, known_facts, outcome_of, outcome_by, conflicts_with, RecordsKind}
pub use Rattle.batcher_votes.specs.TrackerSteps.{ReleasesKind, SameTrackerState, nothing_tracked, shown, is_seen_for, is_known, facts_of_kept, facts_with}
pub use Rattle.batcher_votes.specs.TrackerSteps.{no_facts, recorded_facts}
pub use Rattle.batcher_votes.specs.VerifierSteps.{have_one_subject, AddsVote, is_buffered, selected_in, TriesKind, SameVerifierState, attestations_of, vote_for}
pub use Rattle.batcher_votes.specs.VerifierSteps.{Buffers, nothing_buffered, SetsLeader, leader_answer, MayFix, CompletesKind, restored_by_fix, is_enough}
pub use Rattle.batcher_votes.specs.VerifierSteps.{still_eligible, SetsProposal, batch_of, subject_tried, proposal_tried, first_proposal, certificate_for}
pub use Rattle.batcher_votes.specs.VerifierSteps.{leaders_vote, subject_from, FixesProposal}
pub use Rattle.batcher_votes.specs.Verifiers.{certifies_itself}
pub use Rattle.batcher_votes.specs.declared.verifier.Batch.{Batch}
pub use Rattle.batcher_votes.specs.declared.verifier.LeaderFault.{LeaderFault}
pub use Rattle.batcher_votes.specs.declared.verifier.LeaderFault.TheVariants.{LeaderChanged}
pub use Rattle.batcher_votes.specs.declared.verifier.ProposalState.{ProposalState}
pub use Rattle.batcher_votes.specs.declared.verifier.ProposalState.TheVariants.{Leader as LeadersProposal, Certificate as FixedProposal, Unknown}
pub use Rattle.batcher_votes.specs.declared.votes.Mode.{Mode}
pub use Rattle.batcher_votes.specs.declared.votes.Mode.TheVariants.{Retaining, Releasing, Skipped}
pub use Rattle.batcher_votes.specs.declared.votes.Outcome.{Outcome}
pub use Rattle.batcher_votes.specs.declared.votes.Outcome.TheVariants.{Added, Duplicate, Conflicting}
pub use Rattle.rand_core.specs.Stream.{Stream}
