-- What a certificate that is given selects: its proposal was the selected one, or none was, so it
-- takes the place of none.
use Rattle.batcher_histories.proofs.Words.{inl, inr, ◌≡◌, true, false, not, cond, ◌⊎◌, Option, Some, None, refl, ap, sym, ◌∙◌, subst, is_none, option_and_then}
use Rattle.batcher_histories.proofs.Words.{Round, Proposal, Subject, NotarizeSubject, NullifySubject, FinalizeSubject, Vote, Kind, Notarization, Nullification}
use Rattle.batcher_histories.proofs.Words.{Finalization, ProposalState, Unknown, LeadersProposal, FixedProposal, Config, has_proposals, proposal_in}
use Rattle.batcher_histories.proofs.Words.{same_proposal, same_proposal-refl, proposal_of, updated, replaces, subject_from, Event, History, selection}
use Rattle.batcher_histories.proofs.Words.{selected_proposal, fixing_evidence, replacement, is_restored}
use Rattle.batcher_histories.proofs.History.Laws.{HasLaws}
use Rattle.batcher_histories.proofs.History.Selection.{unreplaced}

module _ {D : Type 0} where
  -- the proposal of what is tried, where its kind has proposals
  pub evidence_tried : (kind : Kind) (number : Round) (proposal : Option (Proposal D))
      (s : Subject D) → subject_from kind number proposal ≡ Some s →
      ((proposal_in s ≡ None) × (has_proposals kind ≡ false))
      ⊎ ((p : Proposal D) × ((proposal ≡ Some p) × (proposal_in s ≡ Some p)))
  evidence_tried Notarization number None s e = absurd (cc)
  evidence_tried Notarization number (Some p) s e = let same : NotarizeSubject p ≡ s = cc in inr (p, (refl, ap proposal_in (sym same)))
  evidence_tried Nullification number proposal s e = let same : NullifySubject number ≡ s = cc in inl (ap proposal_in (sym same), refl)
  evidence_tried Finalization number None s e = absurd (cc)
  evidence_tried Finalization number (Some p) s e = let same : FinalizeSubject p ≡ s = cc in inr (p, (refl, ap proposal_in (sym same)))

  -- It is the selected one, where one is.
  pub tried_selected : (selected first : Option (Proposal D)) (p : Proposal D)
      → cond (is_none selected) first selected ≡ Some p → (selected ≡ None) ⊎ (selected ≡ Some p)
  tried_selected None first p h = inl refl
  tried_selected (Some q) first p h = inr h

  pub selected_then : (s : ProposalState D) (p : Proposal D) → (proposal_of s ≡ None)
      ⊎ (proposal_of s ≡ Some p) → proposal_of (updated s (FixedProposal p)) ≡ Some p
  selected_then Unknown p h = refl
  selected_then (LeadersProposal q) p h = refl
  selected_then (FixedProposal q) p (inl h) = absurd (cc)
  selected_then (FixedProposal q) p (inr h) = h

module _ {D K G C : Type 0} (x : Config D K G C) where
  -- what is evidence at an event, where it takes the place of no other
  abbrev pub IsEvidence : History D K G C → Option (Proposal D) → Type 0
  IsEvidence past e = (e ≡ None) ⊎ ((p : Proposal D) × ((e ≡ Some p) × ((selected_proposal x past ≡ None) ⊎ (selected_proposal x past ≡ Some p))))

module _ {D K G C : Type 0} (x : Config D K G C) (lawful : HasLaws x) where
  pub not_replaced : (s : ProposalState D) (p : Proposal D) → (proposal_of s ≡ None)
      ⊎ (proposal_of s ≡ Some p) → replaces x.same_digest s p ≡ false
  not_replaced Unknown p h = refl
  not_replaced (LeadersProposal q) p (inl h) = absurd (cc)
  not_replaced (LeadersProposal q) p (inr h) =
      let same : q ≡ p = cc in
      ap not (subst (λ (r : Proposal D). same_proposal x.same_digest q r ≡ true) same (same_proposal-refl x.same_digest lawful.digests_same q))
  not_replaced (FixedProposal q) p h = refl

  no_replacement : (past : History D K G C) (event : Event D K G C) (e : Option (Proposal D))
      → fixing_evidence event ≡ e → IsEvidence x past e → replacement x past event ≡ None
  no_replacement past event e is (inl none) = ap (option_and_then (λ p. cond (replaces x.same_digest (selection x past) p) (Some p) None)) (is ∙ none)
  no_replacement past event e is (inr some) =
      ap (option_and_then (λ p. cond (replaces x.same_digest (selection x past) p) (Some p) None)) (is ∙ some.1.0)
      ∙ ap (λ b. cond b (Some some.0) None) (not_replaced (selection x past) some.0 some.1.1)

  -- Then no vote is restored.
  pub none_is_restored : (past : History D K G C) (event : Event D K G C) (e : Option (Proposal D))
      → fixing_evidence event ≡ e → IsEvidence x past e → (v : Vote G D)
      → is_restored x past event v ≡ false
  none_is_restored past event e is evidence v = unreplaced x past event v (no_replacement past event e is evidence)
