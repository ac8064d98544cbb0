-- What proofs of this crate use of definitions, and of lemmas from below it.
pub use Rattle.std.proofs.Common.{ap, sym, subst, refl, inl, inr, ◌∙◌, ⊎_elim, rules, arith, length-append}
pub use Rattle.std.proofs.lemmas.Bool.{not-true, false≢true, and_parts}
pub use Rattle.std.proofs.lemmas.Bool.Decides.{nat_tests}
pub use Rattle.std.proofs.lemmas.Option.{none-some}
pub use Rattle.std.proofs.lemmas.Result.{IfOk-weaker}
pub use Rattle.std.specs.List.{list_all}
pub use Rattle.std.specs.Option.{option_map, option_map_or}
pub use Rattle.std.specs.Prelude.{◌≡◌, ◌+◌, cond, ℕ, Bool, true, false, List, length, Option, Some, None, IfSome, nat_le, filter, is_some, Result, Ok, Err}
pub use Rattle.std.specs.Prelude.{IfOk, OnOk, OnErr, ◌≤◌, [], ◌∷◌, option_and_then, ◌&&◌, not, is_none, MatchBool, IsOk, nat_lt, IfErr, ◌==◌, ◌||◌, is_ok}
pub use Rattle.std.specs.Prelude.{vec_capacity}
pub use Rattle.batcher_histories.proofs.Correctness.Admission.{IsNew, added_new, right_recorded, right_eligible, first_added, first_unopposed, mismatched}
pub use Rattle.batcher_histories.proofs.Correctness.Admission.{objected, same_number, unopposed_admission, unopposed_after, not_buffered}
pub use Rattle.batcher_histories.proofs.Correctness.Attempt.{right_without, right_given}
pub use Rattle.batcher_histories.proofs.Correctness.Kept.{right_at_first, right_led, led_by}
pub use Rattle.batcher_histories.proofs.Correctness.Missing.{missing_one, missing_none}
pub use Rattle.batcher_histories.proofs.Correctness.Own.{in_range, kept_outcome, own_step, result_is, right_fixed, same_kept, seen_before, right_certified}
pub use Rattle.batcher_histories.proofs.Correctness.Own.{within_complete, own_result_of}
pub use Rattle.batcher_histories.proofs.Correctness.Room.{no_room_with, room_left}
pub use Rattle.batcher_histories.proofs.History.Laws.{HasLaws, laws_by}
pub use Rattle.batcher_histories.proofs.KnownLemmas.AtFirst.{fresh_represents}
pub use Rattle.batcher_histories.proofs.KnownLemmas.Named.{own_same, block_same}
pub use Rattle.batcher_histories.proofs.KnownLemmas.Observed.{nullify_same}
pub use Rattle.batcher_histories.proofs.KnownLemmas.Ready.{tried_ready}
pub use Rattle.batcher_histories.proofs.Memory.Needed.{own_needed, network_needed, construct_needed, certificate_needed}
pub use Rattle.batcher_histories.proofs.Simulation.Construct.{construct_simulates}
pub use Rattle.batcher_histories.proofs.Simulation.Network.{network_simulates}
pub use Rattle.batcher_histories.proofs.Simulation.Own.{own_simulates}
pub use Rattle.batcher_histories.proofs.Simulation.Recorded.{certificate_simulates}
pub use Rattle.batcher_histories.proofs.Simulation.Resting.{missing_simulates, leader_meets, forward_simulates, leader_step}
pub use Rattle.batcher_histories.specs.Admissions.{block_for, mismatch_reason, admission_of}
pub use Rattle.batcher_histories.specs.Answers.{IsPossible, MayAnswer}
pub use Rattle.batcher_histories.specs.Attempts.{Attempt, AttemptAfter}
pub use Rattle.batcher_histories.specs.Config.{Config, quorum_in, config, sender_in}
pub use Rattle.batcher_histories.specs.History.{History}
pub use Rattle.batcher_histories.specs.Represents.{Represents, Simulates}
pub use Rattle.batcher_histories.specs.RoundContracts.{round_config}
pub use Rattle.batcher_histories.specs.Steps.{AfterBatch, AfterConstruct, TriesHeld, is_ready_in, kind_tried, AfterCertificate, AfterGiven, AfterLeader}
pub use Rattle.batcher_histories.specs.Steps.{AfterOwn, IsRight, Fixes, own_result, fixed_by, is_added, is_kept, report_by, fault_or_memory, leader_set_answer}
pub use Rattle.batcher_histories.specs.Steps.{has_block_held, missing_in}
pub use Rattle.batcher_histories.specs.declared.answers.Answer.{Answer}
pub use Rattle.batcher_histories.specs.declared.answers.Answer.TheVariants.{Construct as ConstructAnswer, Certificate as CertificateAnswer}
pub use Rattle.batcher_histories.specs.declared.calls.Call.{Call}
pub use Rattle.batcher_histories.specs.declared.calls.Call.TheVariants.{Construct as ConstructCall, Certificate as CertificateCall}
pub use Rattle.batcher_round.specs.BallotsView.{BallotsView, SameRoundState, round_with}
pub use Rattle.batcher_round.specs.Verdicts.{IsAssembled, BatchIsAssembled, judged_config, LooksAtKind, LooksAtNext, MayBeQuorumOf, MayBeQuorumNext}
pub use Rattle.batcher_types.proofs.CountLemmas.{length_same}
pub use Rattle.batcher_types.proofs.OptionLemmas.{given}
pub use Rattle.batcher_types.proofs.PlaceLemmas.{none_below}
pub use Rattle.batcher_types.proofs.VoteLemmas.{same_proposal-refl}
pub use Rattle.batcher_types.specs.Attempts.{AttemptResult, at_once, attempt_with, one_by_one}
pub use Rattle.batcher_types.specs.Lists.{count}
pub use Rattle.batcher_types.specs.Meaning.{Meaning, IsLawful}
pub use Rattle.batcher_types.specs.Quorum.{quorum_of}
pub use Rattle.batcher_types.specs.Votes.{has_proposals, proposal_in, same_proposal, subject_certified, kind_of, signer_of, subject_of, attestation_of, is_kind}
pub use Rattle.batcher_types.specs.Votes.{kind_certified}
pub use Rattle.batcher_types.specs.declared.messages.Activity.{Activity}
pub use Rattle.batcher_types.specs.declared.messages.Attestation.{Attestation}
pub use Rattle.batcher_types.specs.declared.messages.Certificate.{Certificate}
pub use Rattle.batcher_types.specs.declared.messages.Kind.{Kind}
pub use Rattle.batcher_types.specs.declared.messages.Kind.TheVariants.{Notarization, Nullification, Finalization}
pub use Rattle.batcher_types.specs.declared.messages.Proposal.{Proposal}
pub use Rattle.batcher_types.specs.declared.messages.Subject.{Subject}
pub use Rattle.batcher_types.specs.declared.messages.Subject.TheVariants.{Notarize, Nullify, Finalize}
pub use Rattle.batcher_types.specs.declared.messages.Vote.{Vote}
pub use Rattle.batcher_types.specs.declared.positions.Participant.{Participant}
pub use Rattle.batcher_types.specs.declared.positions.Round.{Round}
pub use Rattle.batcher_votes.proofs.VerifierLemmas.Certificates.{made_about}
pub use Rattle.batcher_votes.proofs.VerifierLemmas.FixedProposal.{finalization_for, made_for}
pub use Rattle.batcher_votes.proofs.VerifierLemmas.RestoredVotes.{replaced_by, fixed_now, room_after, none_came, fixes_alone, within_alone, fixes_both}
pub use Rattle.batcher_votes.proofs.VerifierLemmas.RestoredVotes.{within_both, once_kept, kinds_kept}
pub use Rattle.batcher_votes.proofs.VerifierLemmas.Verdicts.{no_stream, judged_lawful, judged_with_lawful}
pub use Rattle.batcher_votes.specs.AttemptInputs.{pending_tried, verified_tried}
pub use Rattle.batcher_votes.specs.ProposalStates.{proposal_of, replaces, same_selected, updated}
pub use Rattle.batcher_votes.specs.RoundState.{RoundState, SameTracker, SameVerifier, VerifierState, TrackerView, TrackerState, of_kind}
pub use Rattle.batcher_votes.specs.Soundness.{IsSound, BuffersOnlyKept}
pub use Rattle.batcher_votes.specs.TrackerSteps.{observed, observed_opposite, is_released_in, is_seen, outcome_of, outcome_by, RecordsKind, ReleasesKind}
pub use Rattle.batcher_votes.specs.TrackerSteps.{nothing_tracked, shown, is_seen_for}
pub use Rattle.batcher_votes.specs.Verdicts.{judged, judged_with}
pub use Rattle.batcher_votes.specs.VerifierSteps.{certificate_for, subject_tried, Buffers, MayFix, subject_from, TriesKind, AddsVote, selected_in}
pub use Rattle.batcher_votes.specs.VerifierSteps.{CompletesKind, leader_answer}
pub use Rattle.batcher_votes.specs.Verifiers.{IfGiven, certifies_itself}
pub use Rattle.batcher_votes.specs.declared.verifier.Batch.{Batch}
pub use Rattle.batcher_votes.specs.declared.verifier.ProposalState.{ProposalState}
pub use Rattle.batcher_votes.specs.declared.verifier.ProposalState.TheVariants.{Unknown, Leader as LeadersProposal, Certificate as FixedProposal}
pub use Rattle.batcher_votes.specs.declared.votes.Mode.TheVariants.{Retaining}
pub use Rattle.batcher_votes.specs.declared.votes.Outcome.{Outcome}
pub use Rattle.rand_core.specs.Stream.{Stream}
