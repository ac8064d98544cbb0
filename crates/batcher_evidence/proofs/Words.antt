-- What proofs of this crate use of definitions, and of lemmas from below it.
pub use Rattle.std.proofs.Common.{refl, ap, sym, ◌∙◌, arith, ⊎_elim, subst, inl, inr, get_or}
pub use Rattle.std.proofs.Math.Bool.{and_assoc}
pub use Rattle.std.proofs.lemmas.Bool.{cases_Bool, and_right, and_from, and_parts, eqb-true, lt-ltb, cases_lt, eq-eqb}
pub use Rattle.std.proofs.lemmas.Bool.Decides.{nat_tests}
pub use Rattle.std.proofs.lemmas.List.Elements.{Contains-append_cases, Contains-append_left, Contains-append_right, Contains-push, Contains-push_cases}
pub use Rattle.std.proofs.lemmas.List.Sums.{AllPass-from_list_all, list_all-from_AllPass}
pub use Rattle.std.proofs.lemmas.Option.{same_Some}
pub use Rattle.std.specs.List.{list_any, list_all, find, filter_map, cons_option, AllByRecursion}
pub use Rattle.std.specs.Option.{option_map, option_copied}
pub use Rattle.std.specs.Prelude.{◌≡◌, ◌≤◌, ◌<◌, ◌+◌, ◌==◌, ℕ, Bool, true, false, cond, List, [], ◌∷◌, length, Option, Some, None, is_some, ◌&&◌, ◌||◌, nat_lt}
pub use Rattle.std.specs.Prelude.{IfOk, IfSome, Result, Ok, Err, option_and_then, zero, suc, filter, Contains, ◌≢◌, ◌⊎◌, not, ◌++◌, IsSomeAnd}
pub use Rattle.std.specs.declared.cmp.Ordering.{Ordering}
pub use Rattle.batcher.proofs.CountLemmas.{quorums_overlap, count_same, count-false, count_covers, count_none, below_or_at, below_zero, at_most_one}
pub use Rattle.batcher.proofs.CountLemmas.{all_counted, any_within, count-append, count-filter, count_mono}
pub use Rattle.batcher.proofs.ListLemmas.{and-true}
pub use Rattle.batcher.proofs.VoteLemmas.{same_subject-true}
pub use Rattle.batcher.specs.Ascending.{IsAscending}
pub use Rattle.batcher.specs.Attestations.{index_of_signer}
pub use Rattle.batcher.specs.Backing.{GivesBacked, IsBacked, IsGiven, votes_behind}
pub use Rattle.batcher.specs.Config.{Config, participants_in, quorum_in}
pub use Rattle.batcher.specs.Examples.Answers.{p, the_round}
pub use Rattle.batcher.specs.FirstVotes.{first_votes, is_free}
pub use Rattle.batcher.specs.History.{Event, History, batch_given, certificate_given, cast_votes, names_sender}
pub use Rattle.batcher.specs.Lists.{count, EachOnce, ElementsWithin}
pub use Rattle.batcher.specs.Meaning.{Meaning, IsLawful}
pub use Rattle.batcher.specs.Promises.{AtEachEvent, votes_cast, AtEachVote}
pub use Rattle.batcher.specs.Quorum.{quorum_of}
pub use Rattle.batcher.specs.Reports.{subjects_contradict, evidence_in, AreContrary, ReportsContrary}
pub use Rattle.batcher.specs.Runs.{certifies_answer}
pub use Rattle.batcher.specs.Verifiers.{certifies_itself}
pub use Rattle.batcher.specs.Votes.{subject_certified, content_of, signer_of, subject_of, attestation_of, same_proposal, same_round, same_subject}
pub use Rattle.batcher.specs.answers.Admission.{Admission}
pub use Rattle.batcher.specs.answers.Answer.{Answer}
pub use Rattle.batcher.specs.answers.Answer.TheVariants.{OutOfMemory, Network as NetworkAnswer, Own as OwnAnswer, OwnRefused, Certificate as CertificateAnswer}
pub use Rattle.batcher.specs.answers.Answer.TheVariants.{Leader as LeaderAnswer, Construct as ConstructAnswer, Forward as ForwardAnswer}
pub use Rattle.batcher.specs.answers.Answer.TheVariants.{Missing as MissingAnswer}
pub use Rattle.batcher.specs.calls.Call.TheVariants.{Network as NetworkCall}
pub use Rattle.batcher.specs.messages.Activity.{Activity}
pub use Rattle.batcher.specs.messages.Attestation.{Attestation}
pub use Rattle.batcher.specs.messages.Certificate.{Certificate}
pub use Rattle.batcher.specs.messages.Proposal.{Proposal}
pub use Rattle.batcher.specs.messages.Subject.{Subject}
pub use Rattle.batcher.specs.messages.Subject.TheVariants.{Notarize, Nullify, Finalize}
pub use Rattle.batcher.specs.messages.Vote.{Vote}
pub use Rattle.batcher.specs.positions.Participant.{Participant}
pub use Rattle.batcher.specs.positions.Round.{Round}
pub use Rattle.batcher.specs.verifier.Batch.{Batch}
pub use Rattle.batcher.specs.votes.Mode.{Mode}
pub use Rattle.batcher_evidence.specs.Convictions.{both_attest, convicts, convicted_by, convicted_where, may_convict, AreVerdicts, IsProof}
pub use Rattle.batcher_evidence.specs.Culprits.{AreCulprits, attests_both, beside, index_of_culprit, signed_both, certificates_contradict, culprits_of}
pub use Rattle.batcher_evidence.specs.Examples.{EvidenceExamples, TinyCertificate, finalization_with, first_three, in_full, last_three, listed, next}
pub use Rattle.batcher_evidence.specs.Examples.{next_notarized, notarized, nullified}
pub use Rattle.batcher_evidence.specs.Forks.{IsContradiction, certify_and_contradict, AreLinked, EndsBelow, IsFork, IsShown, IsShownWithGround}
pub use Rattle.batcher_evidence.specs.Rounds.{count_below, TakeContradictingVotes, TakesContradicting, votes_contradict, config_with, ConvictsIfAttested}
pub use Rattle.batcher_evidence.specs.Rounds.{ReportsConvict, AreAccountable}
pub use Rattle.batcher_evidence.specs.SignedQuorums.{ShowsQuorum, has_signed}
pub use Rattle.batcher_evidence.specs.declared.certificates.Culprit.{Culprit}
pub use Rattle.batcher_types.proofs.VoteLemmas.{same_proposal-true, same_round-refl}
