-- What one participant that keeps the policy has voted for and knows.
use Rattle.batcher_agreement.proofs.Words.{◌≡◌, [], ◌∷◌, inl, inr, ◌⊎◌, refl, sym, subst, Round, Proposal, Subject, Notarize, Nullify, Finalize, numbered, Act}
use Rattle.batcher_agreement.proofs.Words.{learned, voted, Conduct, HasVoted, Knows, KnowsProposal, IsGrounded, IsCleared, KeepsPolicy}

same_proposal :
    {D : Type 0} (t : Subject D) (p q : Proposal D) → t ≡ Notarize p → t ≡ Notarize q → q ≡ p
same_proposal t p q e f = cc

not_alike :
    {D : Type 0} (t : Subject D) (p : Proposal D) (number : Round) → t ≡ Finalize p
    → t ≡ Nullify number → ⊥
not_alike t p number e f = absurd (cc)

module _ {D : Type 0} where
  -- what is known is known from then on
  pub knows_more :
      (e : Act D) (past : Conduct D) (s : Subject D) → Knows past s → Knows (e ∷ past) s
  knows_more (voted t) past s h = h
  knows_more (learned t) past s h = inr h

  proposal_more :
      (e : Act D) (past : Conduct D) (number : Round) → KnowsProposal past number
      → KnowsProposal (e ∷ past) number
  proposal_more e past number h =
      record { proposal = h.proposal; of_round = h.of_round; known = more h.proposal h.known }
    where
      more :
          (p : Proposal D) → Knows past (Notarize p) ⊎ Knows past (Finalize p)
          → Knows (e ∷ past) (Notarize p) ⊎ Knows (e ∷ past) (Finalize p)
      more p (inl k) = inl (knows_more e past (Notarize p) k)
      more p (inr k) = inr (knows_more e past (Finalize p) k)

  grounded_more :
      (e : Act D) (past : Conduct D) (p : Proposal D) → IsGrounded past p
      → IsGrounded (e ∷ past) p
  grounded_more e past p h =
      record {
        earlier = h.earlier;
        parent = more h.parent;
        between = λ view above below. knows_more e past _ (h.between view above below);
      }
    where
      more :
          (p.parent.0 ≡ 0) ⊎ KnowsProposal past (numbered p.round.epoch p.parent.0)
          → (p.parent.0 ≡ 0) ⊎ KnowsProposal (e ∷ past) (numbered p.round.epoch p.parent.0)
      more (inl start) = inl start
      more (inr known) = inr (proposal_more e past (numbered p.round.epoch p.parent.0) known)

  -- what holds of a vote holds of an equal one
  cleared_as :
      (past : Conduct D) (t s : Subject D) → t ≡ s → IsCleared past t → IsCleared past s
  cleared_as past t s e h = subst (IsCleared past) e h

  -- what is notarized has ground
  pub voted_is_grounded :
      (conduct : Conduct D) (p : Proposal D) → KeepsPolicy conduct → HasVoted conduct (Notarize p)
      → IsGrounded conduct p
  voted_is_grounded [] p keeps h = absurd h
  voted_is_grounded (learned c ∷ past) p keeps h =
      grounded_more (learned c) past p (voted_is_grounded past p keeps h)
  voted_is_grounded (voted t ∷ past) p keeps (inr h) =
      grounded_more (voted t) past p (voted_is_grounded past p keeps.1 h)
  voted_is_grounded (voted t ∷ past) p keeps (inl e) =
      grounded_more (voted t) past p (cleared_as past t (Notarize p) e keeps.0).grounded

  -- what it finalizes it knows to be notarized
  pub voted_final_is_notarized :
      (conduct : Conduct D) (p : Proposal D) → KeepsPolicy conduct → HasVoted conduct (Finalize p)
      → Knows conduct (Notarize p)
  voted_final_is_notarized [] p keeps h = absurd h
  voted_final_is_notarized (learned c ∷ past) p keeps h =
      knows_more (learned c) past _ (voted_final_is_notarized past p keeps h)
  voted_final_is_notarized (voted t ∷ past) p keeps (inr h) =
      knows_more (voted t) past _ (voted_final_is_notarized past p keeps.1 h)
  voted_final_is_notarized (voted t ∷ past) p keeps (inl e) =
      knows_more (voted t) past _ (cleared_as past t (Finalize p) e keeps.0).notarized

  -- no two proposals of a round
  pub one_voted :
      (conduct : Conduct D) (p q : Proposal D) → KeepsPolicy conduct → q.round ≡ p.round
      → HasVoted conduct (Notarize p) → HasVoted conduct (Notarize q) → q ≡ p
  one_voted [] p q keeps same h k = absurd h
  one_voted (learned c ∷ past) p q keeps same h k = one_voted past p q keeps same h k
  one_voted (voted t ∷ past) p q keeps same (inr h) (inr k) = one_voted past p q keeps.1 same h k
  one_voted (voted t ∷ past) p q keeps same (inl e) (inl f) = same_proposal t p q e f
  one_voted (voted t ∷ past) p q keeps same (inl e) (inr k) =
      (cleared_as past t (Notarize p) e keeps.0).no_other q same k
  one_voted (voted t ∷ past) p q keeps same (inr h) (inl f) =
      sym ((cleared_as past t (Notarize q) f keeps.0).no_other p (sym same) h)

  -- no finalize and nullify of one round
  pub not_both :
      (conduct : Conduct D) (p : Proposal D) → KeepsPolicy conduct
      → HasVoted conduct (Finalize p) → HasVoted conduct (Nullify p.round) → ⊥
  not_both [] p keeps h k = absurd h
  not_both (learned c ∷ past) p keeps h k = not_both past p keeps h k
  not_both (voted t ∷ past) p keeps (inr h) (inr k) = not_both past p keeps.1 h k
  not_both (voted t ∷ past) p keeps (inl e) (inl f) = not_alike t p p.round e f
  not_both (voted t ∷ past) p keeps (inl e) (inr k) =
      (cleared_as past t (Finalize p) e keeps.0).not_nullified k
  not_both (voted t ∷ past) p keeps (inr h) (inl f) =
      cleared_as past t (Nullify p.round) f keeps.0 p refl h
