-- The entries of a map from a number on.
use Rattle.batcher_node.proofs.Words.{◌≡◌, ◌≤◌, ◌<◌, ℕ, Bool, true, false, cond, List, [], ◌∷◌, Some, None, refl, sym, ap, ◌∙◌, arith, nat_le, filter, nat_cmp}
use Rattle.batcher_node.proofs.Words.{is_at, slot_at}
use Rattle.batcher_node.proofs.Calling.{not_at}

-- an entry that is dropped is at no view from there on
not_there : (from view key : ℕ) → from ≤ view → nat_le from key ≡ false
    → is_at (nat_cmp view) key ≡ false
not_there from view key within dropped =
    not_at view key (λ same. grind (arith, within, dropped, same))

-- nor is one that is kept at a view before it
not_before : (from view key : ℕ) → view < from → nat_le from key ≡ true
    → is_at (nat_cmp view) key ≡ false
not_before from view key before kept =
    not_at view key (λ same. grind (arith, before, kept, same))

module _ {X : Type 0} (from : ℕ) where
  abbrev pub is_kept : ℕ × X → Bool
  is_kept e = nat_le from e.0

  kept_more : (d : ℕ × X) (es : List (ℕ × X)) (view : ℕ) → from ≤ view
      → slot_at (filter is_kept es) view ≡ slot_at es view → (b : Bool) → nat_le from d.0 ≡ b
      → slot_at (cond b (d ∷ filter is_kept es) (filter is_kept es)) view ≡ slot_at (d ∷ es) view
  kept_more d es view within rest true is =
      ap (λ r. cond (is_at (nat_cmp view) d.0) (Some d.1) r) rest
  kept_more d es view within rest false is =
      rest ∙ sym (ap (λ t. cond t (Some d.1) (slot_at es view)) (not_there from view d.0 within is))

  pub kept_from : (es : List (ℕ × X)) (view : ℕ) → from ≤ view
      → slot_at (filter is_kept es) view ≡ slot_at es view
  kept_from [] view within = refl
  kept_from (d ∷ es) view within =
      kept_more d es view within (kept_from es view within) (nat_le from d.0) refl

  dropped_more : (d : ℕ × X) (es : List (ℕ × X)) (view : ℕ) → view < from
      → slot_at (filter is_kept es) view ≡ None → (b : Bool) → nat_le from d.0 ≡ b
      → slot_at (cond b (d ∷ filter is_kept es) (filter is_kept es)) view ≡ None
  dropped_more d es view before rest true is =
      ap (λ t. cond t (Some d.1) (slot_at (filter is_kept es) view))
      (not_before from view d.0 before is) ∙ rest
  dropped_more d es view before rest false is = rest

  pub none_before : (es : List (ℕ × X)) (view : ℕ) → view < from
      → slot_at (filter is_kept es) view ≡ None
  none_before [] view before = refl
  none_before (d ∷ es) view before =
      dropped_more d es view before (none_before es view before) (nat_le from d.0) refl
