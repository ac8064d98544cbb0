-- By which votes and by what knowledge a vote is cleared, or refused.
use Rattle.batcher_voter.proofs.Words.{◌≡◌, ◌&&◌, ◌∙◌, Bool, true, false, not, List, eq-eqb, refl, subst, sym, Contains, All-contains, subjects_contradict}
use Rattle.batcher_voter.proofs.Words.{round_in, same_proposal, same_round, same_subject, subject_of, same_round-refl, same_round-true, Proposal, Subject}
use Rattle.batcher_voter.proofs.Words.{Notarize, Nullify, Finalize, Vote, Round, Conduct, HasVoted, KeepsPolicy, not_both, IsFree, LeavesFree, is_below}
use Rattle.batcher_voter.proofs.Words.{HasVoteFor}

module _ {D : Type 0} (same : D → D → Bool) where
  -- what a vote is for that leaves a subject free
  abbrev Leaves : Subject D → Subject D → Type 0
  Leaves subject s = (same_subject same s subject ≡ false) × (subjects_contradict same s subject ≡ false)

  -- Two subjects that a participant doesn't vote for both.
  one_notarize : (p q : Proposal D) → q.round ≡ p.round → Leaves (Notarize p) (Notarize q) → ⊥
  one_notarize p q e free = wrong (sym free.1 ∙ both)
    where
      both : (same_round q.round p.round && not (same_proposal same q p)) ≡ true
      both = rw (free.0) (rw (e) (rw (same_round-refl p.round) refl))

      wrong : false ≡ true → ⊥
      wrong w = absurd cc

  no_nullify : (p : Proposal D) → Leaves (Finalize p) (Nullify p.round) → ⊥
  no_nullify p free = wrong (sym free.1 ∙ same_round-refl p.round)
    where
      wrong : false ≡ true → ⊥
      wrong w = absurd cc

  -- what contradicts a nullify
  is_finalize :
      (s : Subject D) (number : Round) → subjects_contradict same s (Nullify number) ≡ true
      → (p : Proposal D) × ((p.round ≡ number) × (s ≡ Finalize p))
  is_finalize (Finalize p) number e = (p, (same_round-true p.round number e, refl))
  is_finalize (Notarize p) number e = absurd cc
  is_finalize (Nullify r) number e = absurd cc

module _ {G D : Type 0} (same : D → D → Bool) (identical : (a b : D) → same a b ≡ true → a ≡ b)
    (same_itself : (a : D) → same a a ≡ true) (past : Conduct D) (votes : List (Vote G D))
    (floor : Round)
    (are_there : (s : Subject D) → HasVoted past s → is_below floor (round_in s) ≡ false → HasVoteFor votes s)
    (no_others : (vote : Vote G D) → Contains votes vote → HasVoted past (subject_of vote)) where
  -- what was voted for leaves a subject free where the votes do
  leaves :
      (s subject : Subject D) → HasVoted past s → is_below floor (round_in s) ≡ false
      → IsFree same votes subject → Leaves same subject s
  leaves s subject voted above free =
      let it = are_there s voted above in
      subst (Leaves same subject) it.is_for
      (All-contains (LeavesFree same subject) votes it.vote free it.there)

  wrong : false ≡ true → ⊥
  wrong e = absurd cc

  proposal_itself : (p : Proposal D) → same_proposal same p p ≡ true
  proposal_itself p =
      rw (same_round-refl p.round, eq-eqb p.parent.0 p.parent.0 refl, same_itself p.payload) refl

  itself : (s : Subject D) → Leaves same s s → ⊥
  itself (Notarize p) free = wrong (sym free.0 ∙ proposal_itself p)
  itself (Nullify r) free = wrong (sym free.0 ∙ same_round-refl r)
  itself (Finalize p) free = wrong (sym free.0 ∙ proposal_itself p)

  pub free_is_new :
      (subject : Subject D) → is_below floor (round_in subject) ≡ false
      → IsFree same votes subject → HasVoted past subject → ⊥
  free_is_new subject above free voted = itself subject (leaves subject subject voted above free)

  pub no_other_notarize :
      (p q : Proposal D) → is_below floor p.round ≡ false → IsFree same votes (Notarize p)
      → q.round ≡ p.round → HasVoted past (Notarize q) → q ≡ p
  no_other_notarize p q above free e voted =
      absurd (one_notarize same p q e (leaves (Notarize q) (Notarize p) voted (rw (e) above) free))

  pub no_nullify_beside :
      (p : Proposal D) → is_below floor p.round ≡ false → IsFree same votes (Finalize p)
      → HasVoted past (Nullify p.round) → ⊥
  no_nullify_beside p above free voted =
      no_nullify same p (leaves (Nullify p.round) (Finalize p) voted above free)

module _ {G D : Type 0} (same : D → D → Bool) (past : Conduct D) (votes : List (Vote G D))
    (no_others : (vote : Vote G D) → Contains votes vote → HasVoted past (subject_of vote)) where
  -- A vote that contradicts a nullify is a finalize, beside which there is none.
  pub not_nullified :
      (number : Round) (vote : Vote G D) → KeepsPolicy past → Contains votes vote
      → subjects_contradict same (subject_of vote) (Nullify number) ≡ true
      → HasVoted past (Nullify number) → ⊥
  not_nullified number vote keeps there e voted =
      let it = is_finalize same (subject_of vote) number e in
      not_both past it.0 keeps (subst (HasVoted past) it.1.1 (no_others vote there))
      (subst (λ r. HasVoted past (Nullify r)) (sym it.1.0) voted)
