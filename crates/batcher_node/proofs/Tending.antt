-- Rounds stay tended where one of them was called.
use Rattle.batcher_node.proofs.Words.{◌≡◌, ◌≢◌, ◌⊎◌, inl, inr, ⊎_elim, ℕ, Bool, true, List, sym, ◌∙◌, subst, IfSome, cases_eq, Call, Answer, Epoch, Config}
use Rattle.batcher_node.proofs.Words.{RoundView, Slot, Window, contains, numbered, IsTended, slot_at, fresh_round, MakesCall, MakesCallThere, MakesCallFresh}
use Rattle.batcher_node.proofs.Calling.{if_some}

module _ {S D K G C : Type 0} (round_config : RoundView S G D → Config D K G C) (participants : ℕ)
    (scheme : S) (epoch : Epoch) (window : Window) (old new : List (ℕ × Slot (RoundView S G D)))
    (tended : IsTended participants scheme epoch window old) where
  -- what is so of the round of a view
  abbrev Own : ℕ → Slot (RoundView S G D) → Type 0
  Own view slot =
      (slot.round.scheme ≡ scheme)
      × ((slot.round.number ≡ numbered epoch view) × (contains window view ≡ true))

  module _ (call : Call K G C D) (answer : Answer G C D) (retains : Bool) (view : ℕ)
      (within : contains window view ≡ true) where
    own_there : MakesCallThere round_config (slot_at old) (slot_at new) view call answer
        → IfSome (slot_at new view) (Own view)
    own_there t =
        let own = if_some (Own view) (slot_at old view) t.slot t.there (tended.own view) in
        subst (λ o. IfSome o (Own view)) (sym t.goes_on.here)
        (t.goes_on.same.0 ∙ own.0, (t.goes_on.same.1 ∙ own.1.0, within))

    own_fresh : MakesCallFresh round_config (slot_at old) (slot_at new) view
        (fresh_round scheme epoch retains window view) call answer
        → IfSome (slot_at new view) (Own view)
    own_fresh t =
        subst (λ o. IfSome o (Own view)) (sym t.goes_on.here)
        (t.goes_on.same.0, (t.goes_on.same.1, within))

    others : MakesCall round_config (slot_at old) (slot_at new) view
        (fresh_round scheme epoch retains window view) call answer → (other : ℕ) → other ≢ view
        → slot_at new other ≡ slot_at old other
    others (inl t) other apart = t.goes_on.others other apart
    others (inr t) other apart = t.goes_on.others other apart

    own_at : MakesCall round_config (slot_at old) (slot_at new) view
        (fresh_round scheme epoch retains window view) call answer → (other : ℕ)
        → (other ≡ view) ⊎ (other ≢ view) → IfSome (slot_at new other) (Own other)
    own_at t other (inl is) =
        subst (λ v. IfSome (slot_at new v) (Own v)) (sym is) (⊎_elim own_there own_fresh t)
    own_at t other (inr apart) =
        subst (λ o. IfSome o (Own other)) (sym (others t other apart)) (tended.own other)

    pub still_tended : MakesCall round_config (slot_at old) (slot_at new) view
        (fresh_round scheme epoch retains window view) call answer
        → IsTended participants scheme epoch window new
    still_tended t =
        record {
          some = tended.some;
          ordered = tended.ordered;
          own = λ other. own_at t other (cases_eq other view);
        }
