-- What was known by a part of a conduct is known by all of it.
use Rattle.batcher_voter.proofs.Words.{◌≡◌, ◌++◌, [], ◌∷◌, inl, inr, ◌⊎◌, Proposal, Subject, Notarize, Finalize, Round, Conduct, IsGrounded, Knows}
use Rattle.batcher_voter.proofs.Words.{KnowsProposal, learned, voted, numbered}

module _ {D : Type 0} where
  pub knows_before :
      (past earlier : Conduct D) (s : Subject D) → Knows past s → Knows (past ++ earlier) s
  knows_before [] earlier s h = absurd h
  knows_before (voted t ∷ past) earlier s h = knows_before past earlier s h
  knows_before (learned t ∷ past) earlier s (inl e) = inl e
  knows_before (learned t ∷ past) earlier s (inr h) = inr (knows_before past earlier s h)

  proposal_before :
      (past earlier : Conduct D) (number : Round) → KnowsProposal past number
      → KnowsProposal (past ++ earlier) number
  proposal_before past earlier number h =
      record { proposal = h.proposal; of_round = h.of_round; known = more h.proposal h.known }
    where
      more :
          (p : Proposal D) → Knows past (Notarize p) ⊎ Knows past (Finalize p)
          → Knows (past ++ earlier) (Notarize p) ⊎ Knows (past ++ earlier) (Finalize p)
      more p (inl k) = inl (knows_before past earlier (Notarize p) k)
      more p (inr k) = inr (knows_before past earlier (Finalize p) k)

  pub grounded_before :
      (past earlier : Conduct D) (p : Proposal D) → IsGrounded past p
      → IsGrounded (past ++ earlier) p
  grounded_before past earlier p h =
      record {
        earlier = h.earlier;
        parent = more h.parent;
        between = λ view above below. knows_before past earlier _ (h.between view above below);
      }
    where
      more :
          (p.parent.0 ≡ 0) ⊎ KnowsProposal past (numbered p.round.epoch p.parent.0)
          → (p.parent.0 ≡ 0) ⊎ KnowsProposal (past ++ earlier) (numbered p.round.epoch p.parent.0)
      more (inl start) = inl start
      more (inr known) =
          inr (proposal_before past earlier (numbered p.round.epoch p.parent.0) known)
