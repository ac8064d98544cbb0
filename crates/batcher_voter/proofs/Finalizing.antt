-- A voter goes on with a final view.
use Rattle.batcher_voter.proofs.Words.{◌<◌, ◌≢◌, ◌⊎◌, ◌∙◌, ap, false, kind_certified, subst, certifies_itself, CopyView, Err, Finalization, Format, IfErr, List}
use Rattle.batcher_voter.proofs.Words.{Ok, Result, ⊤, ℕ, Vote}
use Rattle.batcher_voter.proofs.Words.{FinalizeFault, ForgedFinalization, IsTooLongToFinalize, NoMemoryToFinalize, NotOfEpoch, NotOpenToFinalize, Passed}
use Rattle.batcher_voter.proofs.Words.{TooLong, WhyNotFinalized}
use Rattle.batcher_voter.proofs.Words.{◌≡◌, ◌++◌, ◌∙◌, ℕ, List, true, false, ◌∷◌, arith, sym, certifies_itself, round_in, subject_certified, Certificate, Round}
use Rattle.batcher_voter.proofs.Words.{VoterHistory, called, conduct_of, verified, Conduct, is_below, raised, Certified, Contents, OwnerFields, view_finalized}
use Rattle.batcher_voter.proofs.Words.{NodeConfig, NodeMeets, NodeView, Forgets, KnowledgeView, Learns, Remembers, IsVoting, VoterView}
use Rattle.batcher_voter.proofs.Calling.{remembers_learned}
use Rattle.batcher_voter.proofs.Grounding.{highest_from, highest_more, learned_from, learned_more}
use Rattle.batcher_voter.proofs.Writing.{are_there_from, no_others_from}

-- what a floor leaves
pub remembers_raised :
    {G D : Type 0} (past : Conduct D) (contents : Contents G D) (unwritten : List Certified)
    (owner : OwnerFields) (floor : Round) (finalization : List ℕ)
    → is_below contents.floor floor ≡ false → Remembers past contents
    → Remembers past (raised contents unwritten owner floor finalization)
remembers_raised past contents unwritten owner floor finalization up has =
    record {
      are_there = are_there_from past contents.floor floor contents.votes up has.are_there;
      no_others = no_others_from past floor contents.votes has.no_others;
    }

module _ {S D K G C L : Type 0} (x : NodeConfig D K G C) (old new : VoterView S G D L)
    (c : Certificate C D) (forgotten : KnowledgeView D) where
  pub finalized_by :
      certifies_itself x.meaning c ≡ true
      → NodeMeets x old.node (view_finalized (round_in (subject_certified c)).view.0) new.node
      → Forgets (round_in (subject_certified c)).view.0 old.knowledge forgotten
      → Learns (subject_certified c) forgotten new.knowledge
      → (round_in (subject_certified c)).epoch ≡ old.knowledge.epoch
      → old.journal.is_open ≡ true
      → is_below old.journal.contents.floor (round_in (subject_certified c)) ≡ false
      → (finalization : List ℕ)
      → new.journal.contents ≡ raised old.journal.contents old.journal.unwritten
      old.journal.contents.owner (round_in (subject_certified c)) finalization
      → (past : VoterHistory D K G C) (earlier : Conduct D) → IsVoting x past earlier old
      → IsVoting x (called (view_finalized (round_in (subject_certified c)).view.0)
      ∷ verified c ∷ past) earlier new
  finalized_by certifies meets forgets learns epoch is_open up finalization contents past earlier is =
      record {
        represents = meets _ is.represents;
        are_verified = (certifies, is.are_verified);
        written_first = is.written_first;
        keeps_policy = is.keeps_policy;
        has_learned = learned_more (subject_certified c) forgotten new.knowledge (conduct_of past) learns
            (epoch ∙ sym forgets.epoch)
            (learned_from old.knowledge forgotten (conduct_of past) forgets.epoch
            (omega (arith, forgets.floor))
            (λ view from. forgets.each view (omega (arith, from, forgets.floor)))
            is.has_learned);
        is_highest = highest_more (subject_certified c) forgotten new.knowledge (conduct_of past) learns
            (epoch ∙ sym forgets.epoch)
            (highest_from (round_in (subject_certified c)).view.0 old.knowledge forgotten (conduct_of past)
            forgets is.is_highest);
        remembers = λ still. rw (contents)
            (remembers_learned (subject_certified c) (conduct_of past ++ earlier) _
            (remembers_raised (conduct_of past ++ earlier) old.journal.contents old.journal.unwritten
            old.journal.contents.owner (round_in (subject_certified c)) finalization up (is.remembers is_open)));
      }

-- Why its view isn't made the final one is said as well of a voter of the same node and journal.
pub why_still_not_final :
    {S D K G C L : Type 0} (config : NodeView S G D → NodeConfig D K G C)
    (votes : Format (Vote G D)) (certificates : Format (Certificate C D))
    (is_too_small : L → List ℕ → Type 0) (is_honest : L → Type 0) (may_leave : L → List ℕ → Type 0)
    (is_copied_as : L → CopyView → Type 0) (old mid : VoterView S G D L)
    (node : mid.node ≡ old.node) (journal : mid.journal ≡ old.journal)
    (certificate : Certificate C D) (new : VoterView S G D L) (result : Result ⊤ FinalizeFault)
    → IfErr result (WhyNotFinalized (config mid.node) votes certificates is_too_small is_honest
    may_leave is_copied_as mid certificate new)
    → IfErr result (WhyNotFinalized (config old.node) votes certificates is_too_small is_honest
    may_leave is_copied_as old certificate new)
why_still_not_final config votes certificates is_too_small is_honest may_leave is_copied_as old mid node
    journal certificate new (Ok done) why = tt
why_still_not_final config votes certificates is_too_small is_honest may_leave is_copied_as old mid node
    journal certificate new (Err NoMemoryToFinalize) why = why ∙ ap (λ j. j.is_open) journal
why_still_not_final config votes certificates is_too_small is_honest may_leave is_copied_as old mid node
    journal certificate new (Err TooLong) why = (
      why.0 ∙ ap (λ j. j.is_open) journal,
      subst (λ j. IsTooLongToFinalize votes certificates is_too_small certificate j) journal why.1,
    )
why_still_not_final config votes certificates is_too_small is_honest may_leave is_copied_as old mid node
    journal certificate new (Err NotOfEpoch) why =
    subst (λ n. (kind_certified certificate ≢ Finalization)
    ⊎ ((round_in (subject_certified certificate)).epoch ≢ (config n).epoch)) node why
why_still_not_final config votes certificates is_too_small is_honest may_leave is_copied_as old mid node
    journal certificate new (Err Passed) why =
    subst (λ n. (round_in (subject_certified certificate)).view.0 < n.window.finalized) node why
why_still_not_final config votes certificates is_too_small is_honest may_leave is_copied_as old mid node
    journal certificate new (Err ForgedFinalization) why =
    subst (λ n. certifies_itself (config n).meaning certificate ≡ false) node why
why_still_not_final config votes certificates is_too_small is_honest may_leave is_copied_as old mid node
    journal certificate new (Err NotOpenToFinalize) why = why
