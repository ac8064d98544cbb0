-- The words of a round's contracts, from the modules that define them.
pub use Rattle.batcher_types.specs.Quorum.{quorum_of}
pub use Rattle.batcher_types.specs.declared.messages.Kind.{Kind as TheKind}
pub use Rattle.batcher_types.specs.declared.messages.Kind.TheVariants.{Nullification as NullifyKind}
pub use Rattle.batcher_types.specs.Votes.{attestation_of, subject_of, round_in, subject_certified}
pub use Rattle.batcher_votes.specs.RoundState.{of_kind, SameRound}
pub use Rattle.batcher_votes.specs.TrackerSteps.{kept_vote}
pub use Rattle.batcher_votes.specs.VerifierSteps.{selected_in}
pub use Rattle.batcher_votes.specs.Verifiers.{IfGiven, BatchCertifies}
pub use Rattle.batcher_histories.specs.Steps.{nothing_held, missing_in, leader_set_answer}
pub use Rattle.batcher_histories.specs.Steps.{forward_answer, admission, kind_tried, restored_with}
pub use Rattle.batcher_histories.specs.Steps.{own_result, fault_or_memory, is_added}
pub use Rattle.batcher_histories.specs.Steps.{has_block_held}
pub use Rattle.batcher_histories.specs.Steps.{AfterLeader, AfterNetwork, AfterConstruct, AfterOwn}
pub use Rattle.batcher_histories.specs.Steps.{AfterCertificate}
pub use Rattle.batcher_histories.specs.Selection.{is_certified, leader_of, selected_proposal}
pub use Rattle.batcher_histories.specs.Comparison.{has_block}
pub use Rattle.batcher_histories.specs.Eligible.{proven_votes, fresh_votes}
pub use Rattle.batcher_histories.specs.Answers.{keeps_nullify, own_answer, needs_memory}
pub use Rattle.batcher_histories.specs.Runs.{MayCall}
pub use Rattle.batcher_histories.specs.RoundContracts.{ForEachHistory, SimulatesAlways, MeetsAlways}
pub use Rattle.batcher_histories.specs.RoundContracts.{SimulatesOnOk, IsRefusedForNeed}
pub use Rattle.batcher_histories.specs.Represents.{Represents}
pub use Rattle.batcher_histories.specs.declared.calls.Call.TheVariants.{Network as NetworkCall}
pub use Rattle.batcher_histories.specs.declared.calls.Call.TheVariants.{Own as OwnCall}
pub use Rattle.batcher_histories.specs.declared.calls.Call.TheVariants.{Construct as ConstructCall}
pub use Rattle.batcher_histories.specs.declared.calls.Call.TheVariants.{Leader as LeaderCall}
pub use Rattle.batcher_histories.specs.declared.calls.Call.TheVariants.{Forward as ForwardCall}
pub use Rattle.batcher_histories.specs.declared.calls.Call.TheVariants.{Missing as MissingCall}
pub use Rattle.batcher_histories.specs.declared.calls.Call.TheVariants.{Certificate as CertificateCall}
pub use Rattle.batcher_histories.specs.declared.answers.Answer.TheVariants.{Network as NetworkAnswer}
pub use Rattle.batcher_histories.specs.declared.answers.Answer.TheVariants.{Own as OwnAnswer}
pub use Rattle.batcher_histories.specs.declared.answers.Answer.TheVariants.{Construct as ConstructAnswer}
pub use Rattle.batcher_histories.specs.declared.answers.Answer.TheVariants.{Leader as LeaderAnswer}
pub use Rattle.batcher_histories.specs.declared.answers.Answer.TheVariants.{Forward as ForwardAnswer}
pub use Rattle.batcher_histories.specs.declared.answers.Answer.TheVariants.{Missing as MissingAnswer}
pub use Rattle.batcher_histories.specs.declared.answers.Answer.TheVariants.{Certificate as CertificateAnswer}
pub use Rattle.batcher_histories.specs.declared.answers.OwnFault.TheVariants.{OutOfMemory as OutOfMemoryFault}
pub use Rattle.batcher_round.specs.Next.{subject_next, pending_next, verified_next}
