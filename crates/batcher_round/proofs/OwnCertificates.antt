-- A certificate of the round's own making never puts its proposal in the place of another: votes
-- for others don't wait.
use Rattle.batcher_round.proofs.Words.{◌≡◌, ◌∙◌, ◌&&◌, ℕ, Bool, true, false, not, cond, [], is_none, Option, Some, None, refl, sym, ap, subst, none-some}
use Rattle.batcher_round.proofs.Words.{option_map, Stream, Meaning, Round, Proposal, Subject, Certificate, Kind, Notarization, Nullification, Finalization}
use Rattle.batcher_round.proofs.Words.{has_proposals, proposal_in, same_proposal, subject_certified, same_proposal-refl, Batch, ProposalState, Unknown}
use Rattle.batcher_round.proofs.Words.{LeadersProposal, FixedProposal, VerifierState, TrackerState, of_kind, proposal_of, replaces, Buffers, MayFix}
use Rattle.batcher_round.proofs.Words.{certificate_for, subject_from, subject_tried, TriesKind, made_about, Config, Fixes}

some_is : {X : Type 0} (a b : X) → ◌≡◌ {A = Option X} (Some a) (Some b) → a ≡ b
some_is a b h = cc

module _ {D : Type 0} where
  -- of a subject with a selected proposal that is its proposal
  selected_in_it : (kind : Kind) (number : Round) (selected p : Proposal D) (subject : Subject D)
      → subject_from kind number (Some selected) ≡ Some subject → proposal_in subject ≡ Some p
      → selected ≡ p
  selected_in_it Notarization number selected p subject is has =
      some_is _ _ (ap proposal_in (some_is _ _ is) ∙ has)
  selected_in_it Nullification number selected p subject is has =
      absurd (none-some p (ap proposal_in (some_is _ _ is) ∙ has))
  selected_in_it Finalization number selected p subject is has =
      some_is _ _ (ap proposal_in (some_is _ _ is) ∙ has)

  module _ (same : D → D → Bool) (reflexive : (a : D) → same a a ≡ true) where
    never_by : (state : ProposalState D) (first : Option (Proposal D)) (kind : Kind)
        (number : Round) (subject : Subject D) (p : Proposal D)
        → subject_from kind number (cond (is_none (proposal_of state)) first (proposal_of state))
        ≡ Some subject → proposal_in subject ≡ Some p → replaces same state p ≡ false
    never_by Unknown first kind number subject p is has = refl
    never_by (LeadersProposal q) first kind number subject p is has =
        let own = selected_in_it kind number q p subject is has in
        ap (λ r. not (same_proposal same q r)) (sym own) ∙ ap not (same_proposal-refl same reflexive q)
    never_by (FixedProposal q) first kind number subject p is has = refl

    never_replaces : {G C : Type 0} (old : VerifierState G D) (kind : Kind) (number : Round)
        (subject : Subject D) (given : Option C) (certificate : Certificate C D) (p : Proposal D)
        → subject_tried old number kind ≡ Some subject
        → option_map (certificate_for subject) given ≡ Some certificate
        → proposal_in (subject_certified certificate) ≡ Some p
        → replaces same old.selection p ≡ false
    never_replaces old kind number subject given certificate p is made has =
        never_by old.selection _ kind number subject p is
        (ap proposal_in (sym (made_about subject given certificate made)) ∙ has)

-- An attempt gave a certificate, whose proposal is then fixed.
module _ {D K G C : Type 0} (m : Meaning D K G C) (same : D → D → Bool)
    (reflexive : (a : D) → same a a ≡ true) (number : Round) (q : ℕ) (old left : VerifierState G D)
    (kind : Kind) (before after : Stream) (batch : Batch (Certificate C D))
    (tries : TriesKind m number q old kind before batch after left) (certificate : Certificate C D)
    (given : batch.certificate ≡ Some certificate) (proposal : Option (Proposal D))
    (proposal_is : proposal ≡ proposal_in (subject_certified certificate)) where
  pub made_is : option_map (certificate_for tries.subject) tries.outcome.certificate
      ≡ Some certificate
  made_is = sym (ap (λ b. b.certificate) tries.batch_is) ∙ given

  -- it takes no other's place
  pub takes_none : (p : Proposal D) → proposal ≡ Some p → replaces same left.selection p ≡ false
  takes_none p is =
      ap (λ s. replaces same s p) tries.selection
      ∙ never_replaces same reflexive old kind number tries.subject tries.outcome.certificate certificate p tries.subject_is made_is
      (sym proposal_is ∙ is)

  -- so nothing is restored
  pub fixes_only : (x : Config D K G C) → x.same_digest ≡ same → (tracked : TrackerState G D)
      (new : VerifierState G D) → MayFix same left tracked.kept proposal new
      → Fixes x left proposal new
  fixes_only x e tracked new fixes = fixed_by proposal takes_none fixes where
    fixed_by : (o : Option (Proposal D))
        → ((p : Proposal D) → o ≡ Some p → replaces same left.selection p ≡ false)
        → MayFix same left tracked.kept o new → Fixes x left o new
    fixed_by None never fixes = fixes
    fixed_by (Some p) never fixes = record {
      leader = fixes.leader;
      selection_is = fixes.selection;
      buffers =
          λ kind. subst (λ same. Buffers same left new kind [] []) (sym e)
          (subst (λ b. Buffers same left new kind (cond (b && has_proposals kind) (of_kind tracked.kept kind) []) []) (never p refl) (fixes.buffers kind));
    }
