-- In which views a validator has voted to finalize or to nullify.
use Rattle.batcher_validator.proofs.Words.{◌≡◌, ◌+◌, ◌≤◌, ◌++◌, ◌∙◌, ℕ, Bool, true, [], ◌∷◌, ap, arith, inl, inr, subst, sym, cases_lt}
use Rattle.batcher_validator.proofs.Words.{subject_of, subjects_contradict, Proposal, Subject, Notarize, Nullify, Finalize, Round}
use Rattle.batcher_validator.proofs.Words.{learned, voted, acts_of, conduct_of, VoterHistory, Conduct, HasVoted, IsCleared, KeepsPolicy}
use Rattle.batcher_validator.proofs.Words.{voted_final_is_notarized, same_round-true, IsAnotherNotarized, IsRefused, Rule, Contradicts}
use Rattle.batcher_validator.proofs.Words.{conduct_in, only_did, voter_history, ValidatorHistory, AreDecided, HasDecided, ForEachRun}
use Rattle.batcher_validator.proofs.Words.{IsNotToSign, window_by, Decided, Epoch, NodeConfig, NodeView, RunStays}
use Rattle.batcher_validator.proofs.Words.{ValidatorView, numbered, same_epoch}

-- What it voted for before it did more it has voted for.
module _ {D : Type 0} where
  voted_between :
      (more past earlier : Conduct D) (s : Subject D) → HasVoted (past ++ earlier) s
      → HasVoted ((more ++ past) ++ earlier) s
  voted_between [] past earlier s was = was
  voted_between (voted t ∷ more) past earlier s was = inr (voted_between more past earlier s was)
  voted_between (learned t ∷ more) past earlier s was = voted_between more past earlier s was

voted_more :
    {D K G C : Type 0} (earlier : Conduct D) (more : VoterHistory D K G C)
    (past : ValidatorHistory D K G C) (s : Subject D) → HasVoted (conduct_in earlier past) s
    → HasVoted (conduct_in earlier (only_did more ++ past)) s
voted_more earlier [] past s was = was
voted_more earlier (event ∷ more) past s was =
    voted_between (acts_of event) (conduct_of (voter_history (only_did more ++ past))) earlier s
    (voted_more earlier more past s was)

pub decided_more :
    {D K G C : Type 0} (earlier : Conduct D) (more : VoterHistory D K G C)
    (past : ValidatorHistory D K G C) (number : Round) → HasDecided (conduct_in earlier past) number
    → HasDecided (conduct_in earlier (only_did more ++ past)) number
decided_more earlier more past number (inl nullified) =
    inl (voted_more earlier more past (Nullify number) nullified)
decided_more earlier more past number (inr (p, (of_round, finalized))) =
    inr (p, (of_round, voted_more earlier more past (Finalize p) finalized))

-- Nothing else is finalized of a round in which it has, but what is contested.
pub decided_is_contested :
    {D : Type 0} (all : Conduct D) → KeepsPolicy all → (p : Proposal D) → HasDecided all p.round
    → IsCleared all (Finalize p) → (HasVoted all (Finalize p) → ⊥) → IsAnotherNotarized all p
decided_is_contested all keeps p (inl nullified) cleared not_yet =
    absurd (cleared.not_nullified nullified)
decided_is_contested all keeps p (inr (q, (of_round, finalized))) cleared not_yet =
    record {
      other = q;
      of_round = of_round;
      differs = λ equal. not_yet (subst (λ r. HasVoted all (Finalize r)) equal finalized);
      known = voted_final_is_notarized all q keeps finalized;
    }

-- A nullify that is refused was decided against.
module _ {D : Type 0} (same : D → D → Bool) (all past : Conduct D) (final : ℕ) (number : Round) where
  by_subject :
      (t : Subject D) → HasVoted all t → subjects_contradict same t (Nullify number) ≡ true
      → HasDecided all number
  by_subject (Notarize q) was e = absurd cc
  by_subject (Nullify r) was e = absurd cc
  by_subject (Finalize q) was e = inr (q, (same_round-true q.round number e, was))

  pub refused_is_decided :
      {G : Type 0} (rule : Rule G D) → IsRefused same all past final rule (Nullify number)
      → HasDecided all number
  refused_is_decided (Contradicts vote) why = by_subject (subject_of vote) why.0 why.1
  refused_is_decided rule why = absurd why

-- More is noted.
pub becomes_settled :
    {S D K G C L : Type 0} (x : NodeConfig D K G C) (old new : ValidatorView S G D L C)
    (decided : Decided) → new.voter ≡ old.voter → new.shelf ≡ old.shelf
    → new.given ≡ record old.given { decided = decided }
    → ForEachRun x old (λ past earlier. AreDecided (conduct_in earlier past) x.epoch decided)
    → RunStays x old new
becomes_settled x old new decided voter shelf given are past earlier is =
    record {
      voting = rw (voter) is.voting;
      in_turn = is.in_turn;
      blocks = rw (given) is.blocks;
      calms = rw (given) is.calms;
      finals = rw (given) is.finals;
      votes = rw (voter, given) is.votes;
      votes_again = rw (voter, given) is.votes_again;
      resends = rw (given) is.resends;
      begins = rw (voter, given) is.begins;
      casts = rw (voter, given) is.casts;
      kept = rw (shelf) is.kept;
      certificates = rw (shelf) is.certificates;
      asks = rw (given) is.asks;
      verifies = rw (given) is.verifies;
      forwards = rw (given) is.forwards;
      intends = rw (given) is.intends;
      decides = rw (given) (are past earlier is);
      hears = rw (given) is.hears;
    }

-- What was noted, and what is behind it.
pub both_decided :
    {D : Type 0} (past : Conduct D) (epoch : Epoch) (first middle end : ℕ)
    → AreDecided past epoch (record { first = first; end = middle })
    → AreDecided past epoch (record { first = middle; end = end })
    → AreDecided past epoch (record { first = first; end = end })
both_decided past epoch first middle end noted behind view from before =
    elim (cases_lt view middle) [
      | inl below ↦ noted view from below
      | inr above ↦ behind view above before
    ]

-- and of one more view
pub one_more_decided :
    {D : Type 0} (past : Conduct D) (epoch : Epoch) (first end : ℕ)
    → AreDecided past epoch (record { first = first; end = end })
    → HasDecided past (numbered epoch end)
    → AreDecided past epoch (record { first = first; end = end + 1 })
one_more_decided past epoch first end are has view from before =
    elim (cases_lt view end) [
      | inl below ↦ are view from below
      | inr above ↦ subst (λ n. HasDecided past (numbered epoch n)) (same above) has
    ]
  where
    same : end ≤ view → end ≡ view
    same above = omega (arith, above, before)

-- In a view that was decided nothing is finalized that isn't contested.
pub decided_not_signed :
    {S D K G C L : Type 0} (config : NodeView S G D → NodeConfig D K G C)
    (old : ValidatorView S G D L C) → (config old.voter.node).epoch ≡ old.voter.node.epoch
    → (view : ℕ)
    → ForEachRun (config old.voter.node) old
    (λ past earlier. HasDecided (conduct_in earlier past) (numbered old.voter.node.epoch view))
    → (p : Proposal D) → p.round.view.0 ≡ view → IsNotToSign config old (Finalize p)
decided_not_signed config old epoch view has p here past earlier is wanted may =
    decided_is_contested (conduct_in earlier past) is.voting.keeps_policy p
    (subst (λ n. HasDecided (conduct_in earlier past) n) (sym round) (has past earlier is))
    may.0.cleared may.0.not_yet
  where
    round : p.round ≡ numbered old.voter.node.epoch view
    round =
        ap (λ e. numbered e p.round.view.0)
        (same_epoch (config old.voter.node).epoch (window_by past) p.round may.0.within ∙ epoch)
        ∙ ap (λ n. numbered old.voter.node.epoch n) here
