-- How the selection goes on, and which votes a replacement restores.
use Rattle.batcher_histories.proofs.Words.{inl, inr, ◌≡◌, Bool, true, false, not, cond, ◌&&◌, ◌||◌, ◌⊎◌, ◌∷◌, Option, Some, None, refl, ap, sym, ◌∙◌, ⊎_elim}
use Rattle.batcher_histories.proofs.Words.{subst, option_and_then, option_or, cases_Bool, and_parts, or_parts, not-true, false_from_ne_true, or_right, and-true}
use Rattle.batcher_histories.proofs.Words.{first_vote, Event, History, is_some_and, proposal_of, replaces, fixes, is_restored, fixed_proposal, fixing_evidence}
use Rattle.batcher_histories.proofs.Words.{is_certified, leader_of, leaders_proposal, replacement, selected_proposal, selection_by, selection, Config}
use Rattle.batcher_histories.proofs.Words.{is_counted, is_skipped, has_proposals, is_for, kind_of, proposal_in, same_proposal, subject_of, is_eligible, Kind}
use Rattle.batcher_histories.proofs.Words.{Notarization, Proposal, Vote, FinalizeVote, NotarizeVote, NullifyVote, Participant, same_proposal-true}
use Rattle.batcher_histories.proofs.Words.{same_proposal-refl}
use Rattle.batcher_histories.proofs.History.Distinct.{first_stays}
use Rattle.batcher_histories.proofs.History.Laws.{HasLaws}

pub mapped_some : {X Y : Type 0} (f : X → Option Y) (o : Option X) (p : Y) → option_and_then f o
    ≡ Some p → (a : X) × (o ≡ Some a) × (f a ≡ Some p)
mapped_some f None p h = cc
mapped_some f (Some a) p h = (a, refl, h)

-- a kind that is certified stays so
pub certified_before : {D K G C : Type 0} (past : History D K G C) (event : Event D K G C)
    (kind : Kind) → is_certified (event ∷ past) kind ≡ false → is_certified past kind ≡ false
certified_before past event kind h = (or_parts _ _ h).1

-- where nothing is replaced nothing is restored
pub unreplaced : {D K G C : Type 0} (x : Config D K G C) (past : History D K G C)
    (event : Event D K G C) (v : Vote G D) → replacement x past event ≡ None
    → is_restored x past event v ≡ false
unreplaced x past event v h = rw h refl

-- evidence goes before what is selected
pub fixes_by : {D : Type 0} (fixed evidence leaders : Option (Proposal D))
    → fixes (selection_by fixed leaders) evidence ≡ selection_by (option_or fixed evidence) leaders
fixes_by (Some f) None leaders = refl
fixes_by (Some f) (Some p) leaders = refl
fixes_by None None leaders = refl
fixes_by None (Some p) None = refl
fixes_by None (Some p) (Some l) = refl

-- where the leader's proposal stays, the evidence of an event alone changes the selection
pub selection_fixes : {D K G C : Type 0} (x : Config D K G C) (past : History D K G C)
    (event : Event D K G C) (evidence : Option (Proposal D)) → leaders_proposal x (event ∷ past)
    ≡ leaders_proposal x past →
    fixing_evidence event ≡ evidence → selection x (event ∷ past)
    ≡ fixes (selection x past) evidence
selection_fixes x past event evidence leaders is =
    ap (selection_by (option_or (fixed_proposal past) (fixing_evidence event))) leaders
    ∙ (ap (λ o. selection_by (option_or (fixed_proposal past) o) (leaders_proposal x past)) is
    ∙ sym (fixes_by (fixed_proposal past) evidence (leaders_proposal x past)))

-- a vote for a proposal is of a kind with proposals
pub for_has_proposals : {G D : Type 0} (same : D → D → Bool) (p : Proposal D) (v : Vote G D)
    → is_for same p v ≡ true → has_proposals (kind_of v) ≡ true
for_has_proposals same p (NotarizeVote v) h = refl
for_has_proposals same p (NullifyVote v) h = absurd (cc)
for_has_proposals same p (FinalizeVote v) h = refl

module _ {D K G C : Type 0} (x : Config D K G C) (lawful : HasLaws x) where
  -- a vote is for one proposal at most
  pub for_one : (p q : Proposal D) (v : Vote G D) → is_for x.same_digest p v ≡ true
      → is_for x.same_digest q v ≡ true → p ≡ q
  for_one p q (NotarizeVote v) h k =
      same_proposal-true x.same_digest lawful.digests_equal p v.proposal h ∙ sym (same_proposal-true x.same_digest lawful.digests_equal q v.proposal k)
  for_one p q (NullifyVote v) h k = cc
  for_one p q (FinalizeVote v) h k =
      same_proposal-true x.same_digest lawful.digests_equal p v.proposal h ∙ sym (same_proposal-true x.same_digest lawful.digests_equal q v.proposal k)

  -- the leader's proposal stays
  pub leaders_stays : (past : History D K G C) (event : Event D K G C) (p : Proposal D)
      → leaders_proposal x past ≡ Some p → leaders_proposal x (event ∷ past) ≡ Some p
  leaders_stays past event p h =
      ⊎_elim
      (λ skips. let no : None ≡ Some p = rw skips at h in cc)
      (λ by_new.
      let k : option_and_then (λ v. proposal_in (subject_of v)) (option_and_then (λ i. first_vote x past Notarization i.0) (leader_of past))
      ≡ Some p = rw by_new at h in
      let voted = mapped_some {X = Vote G D} (λ v. proposal_in (subject_of v)) (option_and_then (λ i. first_vote x past Notarization i.0) (leader_of past)) p k
      in
      let named = mapped_some {X = Participant} (λ i. first_vote x past Notarization i.0) (leader_of past) voted.0 voted.1 in
      let still : first_vote x (event ∷ past) Notarization named.0.0 ≡ Some voted.0 = first_stays x past event Notarization named.0.0 voted.0 named.2 in
      rw (by_new, named.1, still) voted.2)
      (cases_Bool (is_skipped x.mode))

  -- what fixing evidence puts in the place of what the leader's vote selected
  abbrev pub replacement_by : Option (Proposal D) → Option (Proposal D) → Option (Proposal D)
      → Option (Proposal D)
  replacement_by fixed leaders evidence = option_and_then (λ p. cond (replaces x.same_digest (selection_by fixed leaders) p) (Some p) None) evidence

  pub record ReplacedBy (f e l l' : Option (Proposal D)) : Type 0 where
    pub earlier : Proposal D
    pub later : Proposal D
    pub unfixed : f ≡ None
    pub was : l ≡ Some earlier
    pub differs : same_proposal x.same_digest earlier later ≡ false
    pub becomes : proposal_of (selection_by (option_or f e) l') ≡ Some later
    pub replaced : replacement_by f l e ≡ Some later

  abbrev pub GoesOnBy : Option (Proposal D) → Option (Proposal D) → Option (Proposal D)
      → Option (Proposal D) → Type 0
  GoesOnBy f e l l' =
      ((proposal_of (selection_by f l) ≡ None) × (replacement_by f l e ≡ None))
      ⊎ (((proposal_of (selection_by (option_or f e) l') ≡ proposal_of (selection_by f l)) × (replacement_by f l e ≡ None))
      ⊎ ReplacedBy f e l l')

  goes_on_by : (f e l l' : Option (Proposal D)) → ((p : Proposal D) → l ≡ Some p → l' ≡ Some p)
      → GoesOnBy f e l l'
  goes_on_by (Some f) None l l' stays = inr (inl (refl, refl))
  goes_on_by (Some f) (Some e) l l' stays = inr (inl (refl, refl))
  goes_on_by None None None l' stays = inl (refl, refl)
  goes_on_by None None (Some p) l' stays = let e : l' ≡ Some p = stays p refl in inr (inl (rw e refl, refl))
  goes_on_by None (Some q) None l' stays = inl (refl, refl)
  goes_on_by None (Some q) (Some p) l' stays =
      ⊎_elim
      (λ same. inr (inl (ap Some (sym (same_proposal-true x.same_digest lawful.digests_equal p q same)), rw same refl)))
      (λ differs. inr (inr (record { earlier = p; later = q; unfixed = refl; was = refl; differs = differs; becomes = refl; replaced = rw differs refl })))
      (cases_Bool (same_proposal x.same_digest p q))

  -- A replacement at an event, in full.
  abbrev pub Replaced : History D K G C → Event D K G C → Type 0
  Replaced past event = ReplacedBy (fixed_proposal past) (fixing_evidence event) (leaders_proposal x past) (leaders_proposal x (event ∷ past))

  -- Nothing is selected, or the selected proposal stays, or it is replaced.
  pub goes_on : (past : History D K G C) (event : Event D K G C) →
      GoesOnBy (fixed_proposal past) (fixing_evidence event) (leaders_proposal x past)
      (leaders_proposal x (event ∷ past))
  goes_on past event = goes_on_by _ _ _ _ (leaders_stays past event)

  -- What is restored is for the new proposal, and was for no other before.
  pub record IsRestored (past : History D K G C) (event : Event D K G C) (v : Vote G D) : Type 0
    where
      pub replaced : Replaced past event
      pub is_new : is_for x.same_digest replaced.later v ≡ true
      pub still : is_certified (event ∷ past) (kind_of v) ≡ false

  pub is_restored_by : (past : History D K G C) (event : Event D K G C) (v : Vote G D)
      → is_restored x past event v ≡ true → IsRestored past event v
  is_restored_by past event v h =
      ⊎_elim
      (λ unknown. let no : false ≡ true = sym (unreplaced x past event v unknown.1) ∙ h in cc)
      (⊎_elim
      (λ same. let no : false ≡ true = sym (unreplaced x past event v same.1) ∙ h in cc)
      (λ (r : Replaced past event).
      let k : (is_for x.same_digest r.later v && not (is_certified (event ∷ past) (kind_of v)))
      ≡ true = subst (λ (o : Option (Proposal D)). (is_some_and o (λ p. is_for x.same_digest p v) && not (is_certified (event ∷ past) (kind_of v))) ≡ true)
      r.replaced h in
      let parts = and_parts (is_for x.same_digest r.later v) (not (is_certified (event ∷ past) (kind_of v))) k in
      record {
        replaced = r;
        is_new = parts.0;
        still = not-true
            (is_certified (event ∷ past) (kind_of v)) parts.1;
      }))
      (goes_on past event)

  pub back_eligible_after : (past : History D K G C) (event : Event D K G C) (v : Vote G D)
      → is_restored x past event v ≡ true
      → is_eligible x.same_digest (selected_proposal x (event ∷ past)) v ≡ true
  back_eligible_after past event v h =
      let c = is_restored_by past event v h in
      ap (λ o. is_eligible x.same_digest o v) c.replaced.becomes ∙ or_right (not (has_proposals (kind_of v))) (is_for x.same_digest c.replaced.later v) c.is_new

  not_for_both : (p q : Proposal D) (v : Vote G D) → same_proposal x.same_digest p q ≡ false
      → is_for x.same_digest q v ≡ true → is_for x.same_digest p v ≡ false
  not_for_both p q v differs for_q =
      false_from_ne_true _ (λ for_p.
      let e : p ≡ q = for_one p q v for_p for_q in
      let same : same_proposal x.same_digest p q ≡ true = subst (λ (r : Proposal D). same_proposal x.same_digest p r ≡ true) e
      (same_proposal-refl x.same_digest lawful.digests_same p) in
      let no : false ≡ true = sym differs ∙ same in cc)

  -- nor is it counted for the earlier proposal
  pub back_not_counted : (past : History D K G C) (event : Event D K G C) (v : Vote G D)
      → is_restored x past event v ≡ true → is_counted x (leaders_proposal x past) v ≡ false
  back_not_counted past event v h =
      let c = is_restored_by past event v h in
      let has : has_proposals (kind_of v) ≡ true = for_has_proposals x.same_digest c.replaced.later v c.is_new in
      let other : is_for x.same_digest c.replaced.earlier v ≡ false = not_for_both c.replaced.earlier c.replaced.later v c.replaced.differs c.is_new in
      ap (λ o. is_counted x o v) c.replaced.was ∙ rw (has, other) refl

  pub back_eligible_before : (past : History D K G C) (event : Event D K G C) (v : Vote G D)
      → is_restored x past event v ≡ true → is_eligible x.same_digest (selected_proposal x past) v
      ≡ false
  back_eligible_before past event v h =
      let c = is_restored_by past event v h in
      ap (λ f. is_eligible x.same_digest (proposal_of (selection_by f (leaders_proposal x past))) v) c.replaced.unfixed
      ∙ (ap (λ l. is_eligible x.same_digest (proposal_of (selection_by None l)) v) c.replaced.was
      ∙ (ap (λ o. is_counted x o v) (sym c.replaced.was) ∙ back_not_counted past event v h))

  forced : (h f g : Bool) → (h || f) ≡ true → f ≡ false → (h || g) ≡ true
  forced true f g h k = refl
  forced false f g h k = let no : true ≡ false = sym h ∙ k in cc

  -- what waits after an event did before it, or is restored
  pub waited_before : (past : History D K G C) (event : Event D K G C) (v : Vote G D)
      → is_certified (event ∷ past) (kind_of v) ≡ false → is_restored x past event v ≡ false →
      is_eligible x.same_digest (selected_proposal x (event ∷ past)) v ≡ true
      → is_eligible x.same_digest (selected_proposal x past) v ≡ true
  waited_before past event v still not_back h =
      ⊎_elim
      (λ unknown. ap (λ o. is_eligible x.same_digest o v) unknown.0)
      (⊎_elim
      (λ same. ap (λ o. is_eligible x.same_digest o v) (sym same.0) ∙ h)
      (λ (r : Replaced past event).
      let k : (is_for x.same_digest r.later v && not (is_certified (event ∷ past) (kind_of v)))
      ≡ false = subst (λ (o : Option (Proposal D)). (is_some_and o (λ p. is_for x.same_digest p v) && not (is_certified (event ∷ past) (kind_of v)))
      ≡ false) r.replaced not_back in
      let other : is_for x.same_digest r.later v ≡ false = sym (and-true (is_for x.same_digest r.later v))
      ∙ (ap (λ b. is_for x.same_digest r.later v && not b) (sym still) ∙ k) in
      let l : (not (has_proposals (kind_of v)) || is_for x.same_digest r.later v) ≡ true = ap (λ o. is_eligible x.same_digest o v) (sym r.becomes) ∙ h in
      ap (λ f. is_eligible x.same_digest (proposal_of (selection_by f (leaders_proposal x past))) v) r.unfixed
      ∙ (ap (λ m. is_eligible x.same_digest (proposal_of (selection_by None m)) v) r.was
      ∙ forced (not (has_proposals (kind_of v))) (is_for x.same_digest r.later v) (is_for x.same_digest r.earlier v) l other)))
      (goes_on past event)
