-- A node's next view, and what is known of its round.
use Rattle.batcher_verdicts.proofs.Words.{◌≡◌, ◌∙◌, ℕ, true, List, take, Option, Some, None, IfSome, is_some, refl, sym, ap, subst, option_map, true≢false}
use Rattle.batcher_verdicts.proofs.Words.{same_Some, Attestation, Subject, PerKind, RoundView, Config, subject_next, pending_next, IsNext, slot_at}
use Rattle.batcher_verdicts.proofs.Words.{LooksAtThere, Slot, one_next, Recorded, IsKnown, recorded_of, AreComplete, AreCompleteThere, KnownThere}
use Rattle.batcher_verdicts.proofs.Completing.{looks_at_all, asks_nothing}

module _ {S D K G C : Type 0} (round_config : RoundView S G D → Config D K G C)
    (rounds : List (ℕ × Slot (RoundView S G D))) (all : PerKind (Recorded G D)) where
  abbrev IsLent : RoundView S G D → ℕ → Type 0
  IsLent round view = Some round ≡ option_map (λ slot. slot.round) (slot_at rounds view)

  -- the round that is lent of a view is that of its slot
  lent_there : (view : ℕ) (round : RoundView S G D) (o : Option (Slot (RoundView S G D)))
      → slot_at rounds view ≡ o → Some round ≡ option_map (λ slot. slot.round) o
      → (slot : Slot (RoundView S G D)) × ((slot_at rounds view ≡ Some slot) × (slot.round ≡ round))
  lent_there view round (Some slot) at is = (slot, (at, sym (same_Some _ _ is)))
  lent_there view round None at is = absurd (true≢false (ap is_some is))

  pub known_there : (view : ℕ) (round : RoundView S G D) (known : Option (Subject D × ℕ))
      → IsNext rounds view → IsLent round view
      → option_map (λ k. k.0) known ≡ subject_next (round_config round) round.holds
      → IfSome known (λ k. IsKnown (recorded_of all k.0) k.0
      (pending_next (round_config round) round.holds) k.1)
      → IfSome known (λ k. KnownThere round_config rounds all k.0 k.1)
  known_there view round (Some k) next lent about known =
      let t = lent_there view round (slot_at rounds view) refl lent in
      record {
        view = view;
        next = next;
        slot = t.0;
        there = t.1.0;
        about = subst (λ r. subject_next (round_config r) r.holds ≡ Some k.0) (sym t.1.1) (sym about);
        known = subst (λ r. IsKnown (recorded_of all k.0) k.0 (pending_next (round_config r) r.holds) k.1)
            (sym t.1.1) known;
      }
  known_there view round None next lent about known = tt

  pub is_known : (view : ℕ) (round : RoundView S G D) (known : Option (Subject D × ℕ))
      → IsNext rounds view → IsLent round view
      → option_map (λ k. k.0) known ≡ subject_next (round_config round) round.holds
      → (other : ℕ) (subject : Subject D) → IsNext rounds other
      → AreCompleteThere round_config (slot_at rounds other) all subject → is_some known ≡ true
  is_known view round (Some k) next lent about other subject after there = refl
  is_known view round None next lent about other subject after there =
      let t = lent_there view round (slot_at rounds view) refl lent in
      let same : there.slot ≡ t.0 = same_Some _ _
      (sym there.there ∙ ap (slot_at rounds) (one_next rounds other view after next) ∙ t.1.0) in
      let ready = subst (λ r. subject_next (round_config r) r.holds ≡ Some subject)
      (ap (λ s. s.round) same ∙ t.1.1) there.complete.next in
      absurd (true≢false (ap is_some (sym ready ∙ sym about)))

  module _ (subject : Subject D) (n : ℕ) (list : List (Attestation G))
      (k : KnownThere round_config rounds all subject n)
      (list_is : list ≡ take n (recorded_of all subject).list) (view : ℕ)
      (next : IsNext rounds view) where
    at_view : slot_at rounds view ≡ Some k.slot
    at_view = ap (slot_at rounds) (one_next rounds view k.view next k.next) ∙ k.there

    pub looks_there : (asked : Subject D)
        → AreCompleteThere round_config (slot_at rounds view) all asked
        → LooksAtThere round_config (slot_at rounds view) subject list
    looks_there asked there =
        let same : there.slot ≡ k.slot = same_Some _ _ (sym there.there ∙ at_view) in
        record {
          slot = k.slot;
          there = at_view;
          looks = looks_at_all (round_config k.slot.round) k.slot.round.holds all subject n list
              k.known list_is asked k.about
              (subst (λ s. AreComplete (round_config s.round) s.round.holds all asked) same
              there.complete);
        }

    pub complete_there : LooksAtThere round_config (slot_at rounds view) subject list
        → AreCompleteThere round_config (slot_at rounds view) all subject
    complete_there looks =
        let same : looks.slot ≡ k.slot = same_Some _ _ (sym looks.there ∙ at_view) in
        record {
          slot = looks.slot;
          there = looks.there;
          complete = asks_nothing (round_config looks.slot.round) looks.slot.round.holds all subject n
              list
              (subst (λ s. IsKnown (recorded_of all subject) subject
              (pending_next (round_config s.round) s.round.holds) n) (sym same) k.known)
              list_is looks.looks;
        }
