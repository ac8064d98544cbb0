-- What proofs of this crate use of definitions, and of lemmas from below it.
pub use Rattle.std.proofs.Common.{◌∙◌, sym, subst, inl, inr, ap, refl, arith, rules}
pub use Rattle.std.proofs.Math.Seq.{take-length, drop-append_seam, take-append_seam}
pub use Rattle.std.proofs.lemmas.Bool.{true≢false, false≢true, cases_eq, cases_lt}
pub use Rattle.std.proofs.lemmas.Grind.{common_steps}
pub use Rattle.std.proofs.lemmas.List.{append-nil, append_cancel_left, length-drop, length-append, map-append, take-map, append_assoc}
pub use Rattle.std.proofs.lemmas.List.{take-append-drop, length-map, take-take, length-take-le}
pub use Rattle.std.proofs.lemmas.List.Elements.{filter-append}
pub use Rattle.std.proofs.lemmas.Map.Made.{filter_same_pairs}
pub use Rattle.std.proofs.lemmas.Map.Steps.{set_value_same}
pub use Rattle.std.proofs.lemmas.Option.{same_Some}
pub use Rattle.std.specs.BTreeMap.{is_at}
pub use Rattle.std.specs.Map.{set_value}
pub use Rattle.std.specs.Ordering.{nat_cmp}
pub use Rattle.std.specs.Borrow.{Bor}
pub use Rattle.std.specs.Option.{option_map}
pub use Rattle.std.specs.Prelude.{◌≡◌, ℕ, List, [], take, Some, Result, Ok, Err, Option, None, IfSome, OnErr, ◌++◌, ◌-◌, ◌+◌, Bool, length, drop, map, true}
pub use Rattle.std.specs.Prelude.{◌≢◌, ◌*◌, IfOk, is_some, ◌⊎◌, ◌<◌, ◌≤◌, ◌&&◌, ◌||◌, false, not, cond, ◌∷◌, filter}
pub use Rattle.batcher_histories.proofs.History.Past.{open_eligible}
pub use Rattle.batcher_histories.specs.Config.{Config, quorum_in}
pub use Rattle.batcher_histories.specs.Eligible.{fresh_votes, eligible_votes, eligible_among, is_trusted, was_eligible, trials}
pub use Rattle.batcher_histories.specs.FirstVotes.{first_votes}
pub use Rattle.batcher_histories.specs.History.{History, Event, sent_votes}
pub use Rattle.batcher_histories.specs.Represents.{Represents, Simulates, tries_kind, arrivals}
pub use Rattle.batcher_histories.specs.Selection.{is_certified, is_restored, selected_proposal}
pub use Rattle.batcher_node.proofs.Calling.{not_at}
pub use Rattle.batcher_node.proofs.Dropping.{is_kept, kept_from, none_before}
pub use Rattle.batcher_node.proofs.Lowest.{one_next}
pub use Rattle.batcher_node.specs.Nodes.{IsNext, slot_at}
pub use Rattle.batcher_node.specs.Verdicts.{LooksAtThere}
pub use Rattle.batcher_node.specs.declared.slot.Slot.{Slot}
pub use Rattle.batcher_round.specs.Next.{subject_next, pending_next, verified_next}
pub use Rattle.batcher_round.specs.Verdicts.{LooksAtNext, MayBeQuorumNext}
pub use Rattle.batcher_types.proofs.CountLemmas.{count-filter, count-filter_le, filter_all}
pub use Rattle.batcher_types.specs.Lists.{count}
pub use Rattle.batcher_types.specs.Votes.{is_of_kind, is_eligible, attestation_of}
pub use Rattle.batcher_types.specs.declared.messages.Attestation.{Attestation}
pub use Rattle.batcher_types.specs.declared.messages.Kind.{Kind}
pub use Rattle.batcher_types.specs.declared.messages.Kind.TheVariants.{Notarization, Nullification, Finalization}
pub use Rattle.batcher_types.specs.declared.messages.Proposal.{Proposal}
pub use Rattle.batcher_types.specs.declared.messages.Subject.{Subject}
pub use Rattle.batcher_types.specs.declared.messages.Vote.{Vote}
pub use Rattle.batcher_types.specs.declared.messages.Vote.TheVariants.{Notarize as NotarizeVote, Nullify as NullifyVote, Finalize as FinalizeVote}
pub use Rattle.batcher_verdicts.specs.Nodes.{AreCompleteThere, KnownThere}
pub use Rattle.batcher_verdicts.specs.Recorded.{Recorded, Asks, IsKnown, Begins, AreTrue, AddsVerdicts, VerdictsNeed}
pub use Rattle.batcher_verdicts.specs.Requests.{AllHaveTrueVerdicts, AreJudged, DropsBefore, HasTrueVerdicts, RequestView}
pub use Rattle.batcher_verdicts.specs.Requests.{RequestsView, IsLeftAt, judged_by, request_at}
pub use Rattle.batcher_verdicts.specs.Rounds.{recorded_of, AsksNext, AllTrue, AreComplete, kind_attested}
pub use Rattle.batcher_verdicts.specs.Waiting.{GoesOnWaiting, VerdictsStay}
pub use Rattle.batcher_verdicts.specs.Wholes.{IsWhole}
pub use Rattle.batcher_votes.specs.RoundState.{PerKind, RoundState, RoundView, of_kind}
pub use Rattle.batcher_votes.specs.TrackerSteps.{is_skipped}
pub use Rattle.batcher_votes.specs.VerifierSteps.{attestations_of}
