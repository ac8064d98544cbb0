-- What proofs of this crate use of definitions, and of lemmas from below it.
pub use Rattle.std.proofs.Common.{inl, inr, ⊎_elim, refl, ap, sym, ◌∙◌, subst, arith}
pub use Rattle.std.proofs.lemmas.Bool.{cases_lt, and_parts, and_from, lt-ltb}
pub use Rattle.std.proofs.lemmas.List.Elements.{recursion_from_All}
pub use Rattle.std.proofs.lemmas.List.Sums.{list_all-from_AllPass}
pub use Rattle.std.proofs.lemmas.Option.{same_Some}
pub use Rattle.std.specs.List.{list_all, AllByRecursion}
pub use Rattle.std.specs.Prelude.{◌≡◌, ◌<◌, ◌≤◌, ℕ, zero, suc, Bool, ◌⊎◌, true, List, length, ◌+◌, ◌-◌, ◌/◌, ◌==◌, ◌&&◌, ◌||◌, false, cond, nat_lt, [], ◌∷◌}
pub use Rattle.std.specs.Prelude.{◌++◌, Option, Some, None, All, IfSome, not}
pub use Rattle.std.specs.declared.cmp.Ordering.{Ordering}
pub use Rattle.batcher.proofs.CountLemmas.{quorums_overlap}
pub use Rattle.batcher.proofs.ListLemmas.{and-true}
pub use Rattle.batcher.specs.Attestations.{index_of_signer}
pub use Rattle.batcher.specs.Config.{Config, config}
pub use Rattle.batcher.specs.Examples.Answers.{finalization, listing, notarization, p}
pub use Rattle.batcher.specs.History.{History}
pub use Rattle.batcher.specs.Meaning.{Meaning, IsLawful}
pub use Rattle.batcher.specs.Quorum.{quorum_of}
pub use Rattle.batcher.specs.RunContract.{IsPromised}
pub use Rattle.batcher.specs.Verifiers.{certifies_itself}
pub use Rattle.batcher.specs.Votes.{subject_certified, content_of}
pub use Rattle.batcher.specs.messages.Attestation.{Attestation}
pub use Rattle.batcher.specs.messages.Certificate.{Certificate}
pub use Rattle.batcher.specs.messages.Proposal.{Proposal}
pub use Rattle.batcher.specs.messages.Subject.{Subject}
pub use Rattle.batcher.specs.messages.Subject.TheVariants.{Notarize, Nullify, Finalize}
pub use Rattle.batcher.specs.positions.Epoch.{Epoch}
pub use Rattle.batcher.specs.positions.Round.{Round}
pub use Rattle.batcher.specs.votes.Mode.{Mode}
pub use Rattle.batcher_agreement.specs.Agreement.{IsNotarized, IsFinal, IsInChain, itself, above, Agree}
pub use Rattle.batcher_agreement.specs.Examples.{AgreementExamples, asked, did, is_zero}
pub use Rattle.batcher_agreement.specs.Lives.{AreVerified, HasHeld, HasHeldInLives, IsLife, Life, VoterEvent, VoterHistory, acts_of, called, conduct_of}
pub use Rattle.batcher_agreement.specs.Lives.{conduct_of_lives, held_by, learned_by, node_history, verified, written}
pub use Rattle.batcher_agreement.specs.Participants.{IsHonest, IsHeldByHonest, IsBackedBy, HoldsFor, AreBacked, AreUnforged}
pub use Rattle.batcher_agreement.specs.Policy.{Conduct, Knows, IsGrounded, KnowsProposal, HasVoted, KeepsPolicy, learned, voted, Act, IsCleared}
pub use Rattle.batcher_agreement.specs.Voters.{AreFewFaulty, AreVoters}
pub use Rattle.batcher_evidence.proofs.Counting.{below_both, below_more, distinct_below, has_number}
pub use Rattle.batcher_evidence.specs.Rounds.{count_below, TakesContradicting}
pub use Rattle.batcher_evidence.specs.SignedQuorums.{ShowsQuorum, has_signed}
pub use Rattle.batcher_node.specs.Events.{NodeEvent, certificate_came, constructed, NodeHistory, view_history}
pub use Rattle.batcher_node.specs.Nodes.{NodeView, NodeConfig, node_config}
pub use Rattle.batcher_node.specs.Represents.{NodeRepresents, AreNamed, mode_of}
pub use Rattle.batcher_node.specs.Sending.{HoldsCertified}
pub use Rattle.batcher_node.specs.SendingExamples.{of_four}
pub use Rattle.batcher_node.specs.Windows.{numbered}
pub use Rattle.batcher_node.specs.declared.answers.Receipt.TheVariants.{Answered}
pub use Rattle.batcher_node.specs.declared.answers.Verdict.TheVariants.{Recorded}
