-- What proofs of this crate use of definitions, and of lemmas from below it.
pub use Rattle.std.proofs.Common.{◌∙◌, refl, ap, sym, subst, arith, get_or, length-append, append-nil, Bor, add-one, rules}
pub use Rattle.std.proofs.Math.Seq.{paste}
pub use Rattle.std.proofs.lemmas.Bool.{and_parts, eq-eqb, ne_eqb, le-leb, lt-leb, true≢false, false≢true, and_from, not-true, or_parts, lt-ltb}
pub use Rattle.std.proofs.lemmas.Bool.Decides.{nat_tests}
pub use Rattle.std.proofs.lemmas.Grind.{common_steps}
pub use Rattle.std.proofs.lemmas.List.{map-append, append_assoc, drop-drop, drop_more, length-drop, length-replicate, length-take-le, take-append-drop, take_at}
pub use Rattle.std.proofs.lemmas.List.Edits.{drop-paste, length-paste, take-paste, map_over_more}
pub use Rattle.std.proofs.lemmas.List.Elements.{All-set, All-cons, All-append, filter_passes, All-head, All-tail, All-nil, filter-append, All-filter}
pub use Rattle.std.proofs.lemmas.List.Filters.{FiltersInPlace-more_no, FiltersInPlace-more_set, FiltersInPlace}
pub use Rattle.std.proofs.lemmas.List.Sums.{AllPass-from_list_all, list_all-from_AllPass}
pub use Rattle.std.proofs.lemmas.Option.{slice_get-map, none-some, same_Some, gets}
pub use Rattle.std.specs.List.{slice_get, AllByRecursion, AllPass, list_all, filter_map, cons_option, All, list_any}
pub use Rattle.std.specs.Option.{option_map, option_copied}
pub use Rattle.std.specs.Prelude.{◌≡◌, ℕ, List, Option, Some, None, map, ◌≤◌, ◌<◌, ◌==◌, ◌&&◌, Bool, true, false, cond, [], ◌∷◌, length, filter, find, is_some}
pub use Rattle.std.specs.Prelude.{◌+◌, suc, zero, nat_eq, nat_le, set, ◌^◌, not, nat_lt, ◌||◌, ◌++◌, Result, Ok, Err, IfErr, ◌≢◌, IfSome, is_none, IfOk, take}
pub use Rattle.std.specs.Prelude.{drop, ◌-◌, replicate, min, vec_len}
pub use Rattle.batcher_types.proofs.AscendingLemmas.{found_key, find_at, replace_at, All-insert_by, set_ascending}
pub use Rattle.batcher_types.proofs.CountLemmas.{once_filter_end, once_none, once_front, count-map, count-append, count-filter_le, once_fewer, count_none}
pub use Rattle.batcher_types.proofs.CountLemmas.{none_fails}
pub use Rattle.batcher_types.proofs.KindLemmas.{is_kind-true, is_kind-refl, each_kind}
pub use Rattle.batcher_types.proofs.ListLemmas.{and-true, AllPass-nil, AllPass-weaker}
pub use Rattle.batcher_types.proofs.OptionLemmas.{given, is_some-option_map, is_some-false}
pub use Rattle.batcher_types.proofs.PlaceLemmas.{rank_below, rank_is, rank_replace, lower_count, place_item, place_below, place_absent}
pub use Rattle.batcher_types.proofs.VoteLemmas.{same_subject-true, same_subject-refl, same_proposal-true, same_proposal-refl}
pub use Rattle.batcher_types.specs.Ascending.{IsAscending, insert_by}
pub use Rattle.batcher_types.specs.Attempts.{AttemptResult, checked, one_by_one, at_once, attempt_of, attempt_with}
pub use Rattle.batcher_types.specs.Attestations.{index_of_signer, signers, failing, IsQuorum, Sorts}
pub use Rattle.batcher_types.specs.Items.{place_of}
pub use Rattle.batcher_types.specs.Lawful.{filter_all}
pub use Rattle.batcher_types.specs.Lists.{count, is_some_and, exactly_one, EachOnce, is_empty}
pub use Rattle.batcher_types.specs.Meaning.{Meaning, MayTry, IsLawful}
pub use Rattle.batcher_types.specs.Ordered.{rec_from_all, rec_weaker, all_from_rec}
pub use Rattle.batcher_types.specs.Quorum.{quorum_of}
pub use Rattle.batcher_types.specs.Votes.{signer_of, is_of_kind, is_vote_of, kind_of, attestation_of, is_kind, has_proposals, same_proposal, is_for}
pub use Rattle.batcher_types.specs.Votes.{subject_certified, is_eligible, subject_of, proposal_in, same_subject, content_of, kind_certified}
pub use Rattle.batcher_types.specs.declared.messages.Attestation.{Attestation}
pub use Rattle.batcher_types.specs.declared.messages.Certificate.{Certificate}
pub use Rattle.batcher_types.specs.declared.messages.Certificate.TheVariants.{Notarization as NotarizationCertificate}
pub use Rattle.batcher_types.specs.declared.messages.Certificate.TheVariants.{Nullification as NullificationCertificate}
pub use Rattle.batcher_types.specs.declared.messages.Certificate.TheVariants.{Finalization as FinalizationCertificate}
pub use Rattle.batcher_types.specs.declared.messages.Finalize.{Finalize}
pub use Rattle.batcher_types.specs.declared.messages.Kind.{Kind}
pub use Rattle.batcher_types.specs.declared.messages.Kind.TheVariants.{Notarization, Nullification, Finalization, Nullification as TheNullification}
pub use Rattle.batcher_types.specs.declared.messages.Nullify.{Nullify}
pub use Rattle.batcher_types.specs.declared.messages.Proposal.{Proposal}
pub use Rattle.batcher_types.specs.declared.messages.Subject.{Subject}
pub use Rattle.batcher_types.specs.declared.messages.Subject.TheVariants.{Notarize as NotarizeSubject, Nullify as NullifySubject, Finalize as FinalizeSubject}
pub use Rattle.batcher_types.specs.declared.messages.Vote.{Vote}
pub use Rattle.batcher_types.specs.declared.messages.Vote.TheVariants.{Nullify as NullifyVote, Finalize as FinalizeVote, Notarize as NotarizeVote}
pub use Rattle.batcher_types.specs.declared.positions.Participant.{Participant}
pub use Rattle.batcher_types.specs.declared.positions.Round.{Round}
pub use Rattle.batcher_votes.specs.AttemptInputs.{pending_tried, verified_tried}
pub use Rattle.batcher_votes.specs.BufferView.{votes_from, may_be_eligible, one_subject, one_subject_in, subjects_of_runs, retained_attestations}
pub use Rattle.batcher_votes.specs.Certifications.{map_kinds, is_complete, pending_of, verified_of, verifier_holding}
pub use Rattle.batcher_votes.specs.Entries.{proposal_at, Entry, entry_key, part, vote_at, kept_part, kept_among, may_say, Fits, tracked_by, put_by, with_part}
pub use Rattle.batcher_votes.specs.Entries.{nothing_seen, seen_in, entry_or_new, entries_with, is_any, has_index, compared, seen_outcome, facts_seen}
pub use Rattle.batcher_votes.specs.Entries.{facts_part, facts_among, with_vote, own_vote, observed_seen, IsTracked, tested, with_mark, without, tested_at}
pub use Rattle.batcher_votes.specs.Entries.{seen_released, entry_released, votes_in, marks_of, is_selected_in}
pub use Rattle.batcher_votes.specs.Kinds.{with_kind}
pub use Rattle.batcher_votes.specs.Outcomes.{IsFine, TakesIn, attempt_result}
pub use Rattle.batcher_votes.specs.ProposalStates.{proposal_of, updated, selects, same_selected, is_fixed, fixes, replaces}
pub use Rattle.batcher_votes.specs.RoundState.{PerKind, of_kind, for_each, Facts, TrackerState, VerifierState}
pub use Rattle.batcher_votes.specs.Soundness.{IsSound, IsSoundKind, attests_itself, is_about, may_be_buffered, BuffersOnlyKept}
pub use Rattle.batcher_votes.specs.TrackerSteps.{KeepsEach, from_kept, is_seen, is_known, observed, kept_vote, no_facts, facts_with, facts_of_kept}
pub use Rattle.batcher_votes.specs.TrackerSteps.{recorded_facts, RecordsKind, outcome_by, outcome_of, ReleasesKind, SameTrackerState, Observed, unseen}
pub use Rattle.batcher_votes.specs.TrackerSteps.{from_facts, is_seen_for, is_released_in, shown}
pub use Rattle.batcher_votes.specs.Verdicts.{judged, judged_with}
pub use Rattle.batcher_votes.specs.VerifierSteps.{certificate_for, SameVerifierState, vote_for, attestations_of, subject_from, first_proposal, is_enough}
pub use Rattle.batcher_votes.specs.VerifierSteps.{is_ready, CompletesKind, subject_tried, batch_of, TriesKind, leaders_vote, Buffers, AddsVote, SetsProposal}
pub use Rattle.batcher_votes.specs.VerifierSteps.{FixesProposal, still_eligible, have_one_subject, is_buffered, nothing_buffered}
pub use Rattle.batcher_votes.specs.Verifiers.{subject_ready, certifies_itself, BatchCertifies, NamesSomebody, is_of_round}
pub use Rattle.batcher_votes.specs.declared.verifier.Batch.{Batch}
pub use Rattle.batcher_votes.specs.declared.verifier.ProposalState.{ProposalState}
pub use Rattle.batcher_votes.specs.declared.verifier.ProposalState.TheVariants.{Unknown, Leader as LeadersProposal, Certificate as FixedProposal}
pub use Rattle.batcher_votes.specs.declared.verifier.buffer.Run.{Run}
pub use Rattle.batcher_votes.specs.declared.verifier.certification.Certification.{Certification}
pub use Rattle.batcher_votes.specs.declared.votes.Outcome.TheVariants.{Added, Duplicate}
pub use Rattle.batcher_votes.specs.declared.votes.entry.Seen.{Seen}
pub use Rattle.batcher_votes.specs.declared.votes.entry.Seen.TheVariants.{Nothing, Uncompared, Differs, Matches, Kept}
pub use Rattle.rand_core.specs.Stream.{Stream}
