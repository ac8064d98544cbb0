-- What is found among certificates that are kept.
use Rattle.batcher_validator.proofs.Words.{◌≡◌, ◌⊎◌, ◌+◌, ◌<◌, ◌≤◌, ◌∙◌, ℕ, true, false, List, [], ◌∷◌, Option, Some, None, ap, arith, get_or, inl, inr, length}
use Rattle.batcher_validator.proofs.Words.{subst, sym, take, Contains, IfSome, unwrap_or, slice_get, take_all, Contains-append_cases, slice_get-get_or}
use Rattle.batcher_validator.proofs.Words.{subject_certified, Certificate, Proposal, Subject, Finalize, Notarize, Nullify, Round, IsAtRest, IsNext, NodeView}
use Rattle.batcher_validator.proofs.Words.{◌++◌, ◌-◌, Bool, filter, max, cases_lt, slice_get_within, AreShelved, HasKey, HaveNoFinal, IsFinalAt, kind_and_round}
use Rattle.batcher_validator.proofs.Words.{Contains-permutation, IsPermutation, IsPermutation-sym, kind_certified, round_in, last_of, refl, IsLowestFinal}
use Rattle.batcher_validator.proofs.Words.{Kind, Finalization, Notarization, Nullification, FinalizationCertificate, NotarizationCertificate}
use Rattle.batcher_validator.proofs.Words.{NullificationCertificate}
use Rattle.batcher_validator.proofs.Parting.{distinct_moved}
use Rattle.batcher_validator.proofs.Queueing.{contains_one, distinct_behind, distinct_left, left_are, one_more}

module _ {X : Type 0} where
  pub read_at : (xs : List X) (i : ℕ) (x : X) → i < length xs → x ≡ get_or xs i x
      → slice_get xs i ≡ Some x
  read_at xs i x lt is = slice_get-get_or xs i x lt ∙ ap Some (sym is)

  pub one_at : (xs : List X) (i : ℕ) (x y : X) → slice_get xs i ≡ Some x
      → slice_get xs i ≡ Some y → x ≡ y
  one_at xs i x y a b = ap (λ o. unwrap_or o x) (sym a ∙ b)

-- None of the last ones has the key.
module _ {X Y : Type 0} (key : X → Y) (xs : List X) (y : Y) where
  abbrev NoneFrom : ℕ → Type 0
  NoneFrom i =
      (k : ℕ) → length xs ≤ k + i → (x : X) → slice_get xs k ≡ Some x → key x ≡ y → ⊥

  pub none_at_end : NoneFrom 0
  none_at_end k behind x there is_of = absurd (omega (arith, behind, slice_get_within xs k x there))

  pub none_before :
      (i : ℕ) → i < length xs → NoneFrom i
      → ((x : X) → slice_get xs (length xs - 1 - i) ≡ Some x → key x ≡ y → ⊥) → NoneFrom (i + 1)
  none_before i lt behind here k from x there is_of =
      elim (cases_lt (length xs - 1 - i) k) [
        | inl later ↦ behind k (omega (arith, lt, later)) x there is_of
        | inr up_to ↦ here x (subst (λ n. slice_get xs n ≡ Some x) (same up_to) there) is_of
      ]
    where
      same : k ≤ length xs - 1 - i → k ≡ length xs - 1 - i
      same up_to = omega (arith, lt, up_to, from)

  pub none_at_all : (i : ℕ) → length xs ≤ i → NoneFrom i → HasKey key xs y → ⊥
  none_at_all i all behind has =
      behind has.there.0 (omega (arith, all)) has.item
      (slice_get-get_or xs has.there.0 has.item has.there.1 ∙ ap Some has.there.2) has.is_of

module _ {D : Type 0} where
  abbrev proposal_or : Subject D → Proposal D → Proposal D
  proposal_or (Finalize p) default = p
  proposal_or (Notarize p) default = default
  proposal_or (Nullify number) default = default

  pub not_after :
      (view : ℕ) (p q : Proposal D) (s : Subject D) → s ≡ Finalize q → q.round.view.0 ≤ view
      → s ≡ Finalize p → p.round.view.0 ≤ view
  not_after view p q s is le other =
      subst (λ (it : Proposal D). it.round.view.0 ≤ view) (ap (λ t. proposal_or t q) (sym is ∙ other)) le

  -- and of one that isn't before a view
  not_before :
      (view : ℕ) (p q : Proposal D) (s : Subject D) → s ≡ Finalize p → view ≤ p.round.view.0
      → s ≡ Finalize q → view ≤ q.round.view.0
  not_before view p q s is le other =
      subst (λ (it : Proposal D). view ≤ it.round.view.0) (ap (λ t. proposal_or t q) (sym is ∙ other)) le

pub not_notarize : {D : Type 0} (q p : Proposal D) → Notarize q ≡ Finalize p → ⊥
not_notarize q p e = absurd cc

pub not_nullify : {D : Type 0} (number : Round) (p : Proposal D) → Nullify number ≡ Finalize p → ⊥
not_nullify number p e = absurd cc

module _ {C D : Type 0} (view : ℕ) (kept : List (Certificate C D)) (i : ℕ) (lt : i < length kept) where
  -- none of the first is one, and nor is the next
  pub none_after_more :
      HaveNoFinal view (take i kept)
      → ((c : Certificate C D) → slice_get kept i ≡ Some c → (p : Proposal D)
      → subject_certified c ≡ Finalize p → p.round.view.0 ≤ view)
      → HaveNoFinal view (take (i + 1) kept)
  none_after_more none next c there p is_of =
      let at : slice_get kept i ≡ Some (get_or kept i c) = slice_get-get_or kept i c lt in
      of_cases (get_or kept i c) at (Contains-append_cases (take i kept) (get_or kept i c ∷ []) c
      (subst (λ cs. Contains cs c) (one_more kept i (get_or kept i c) at) there))
    where
      of_cases : (d : Certificate C D) → slice_get kept i ≡ Some d
          → Contains (take i kept) c ⊎ Contains (d ∷ []) c
          → p.round.view.0 ≤ view
      of_cases d at (inl before) = none c before p is_of
      of_cases d at (inr last) = next d at p (ap subject_certified (contains_one d c last) ∙ is_of)

pub none_after_all :
    {C D : Type 0} (view : ℕ) (kept : List (Certificate C D)) (i : ℕ) → length kept ≤ i
    → HaveNoFinal view (take i kept) → HaveNoFinal view kept
none_after_all view kept i le none = subst (HaveNoFinal view) (take_all i kept le) none

-- What comes behind them is of a view up to this one, or isn't a finalization.
none_after_with :
    {C D : Type 0} (last view : ℕ) (kept : List (Certificate C D)) (it : Certificate C D)
    → HaveNoFinal last kept
    → ((p : Proposal D) → subject_certified it ≡ Finalize p → p.round.view.0 ≤ view)
    → HaveNoFinal (max last view) (kept ++ it ∷ [])
none_after_with last view kept it none next c there p is_of =
    elim (Contains-append_cases kept (it ∷ []) c there) [
      | inl before ↦ omega (arith, none c before p is_of)
      | inr one ↦ omega (arith, next p (ap subject_certified (contains_one it c one) ∙ is_of))
    ]

abbrev Up : {C D : Type 0} → (Kind → ℕ) → Certificate C D → Type 0
Up last c = (round_in (subject_certified c)).view.0 ≤ last (kind_certified c)

-- each is up to the last of its kind, where this one is, and none of the last got less
up_to_with :
    {C D : Type 0} (last now : Kind → ℕ) (kept : List (Certificate C D)) (it : Certificate C D)
    → ((kind : Kind) → last kind ≤ now kind)
    → ((c : Certificate C D) → Contains kept c → Up last c) → Up now it
    → (c : Certificate C D) → Contains (kept ++ it ∷ []) c → Up now c
up_to_with last now kept it more up one c there =
    elim (Contains-append_cases kept (it ∷ []) c there) [
      | inl before ↦ omega (arith, up c before, more (kind_certified c))
      | inr last_one ↦ subst (λ d. Up now d) (contains_one it c last_one) one
    ]

pub shelved_with :
    {C D : Type 0} (last view : ℕ) (lasts now : Kind → ℕ) (kept : List (Certificate C D))
    (it : Certificate C D)
    → AreShelved last lasts kept → (HasKey kind_and_round kept (kind_and_round it) → ⊥)
    → ((p : Proposal D) → subject_certified it ≡ Finalize p → p.round.view.0 ≤ view)
    → ((kind : Kind) → lasts kind ≤ now kind)
    → (round_in (subject_certified it)).view.0 ≤ now (kind_certified it)
    → AreShelved (max last view) now (kept ++ it ∷ [])
shelved_with last view lasts now kept it are other next more up =
    record {
      distinct = distinct_behind kind_and_round kept it are.distinct other;
      no_later = none_after_with last view kept it are.no_later next;
      up_to = up_to_with lasts now kept it more are.up_to up;
    }

-- Of each kind the last is the view of one, or what it was, whichever is higher.
module _ {C D : Type 0} (it : Certificate C D) (final notarized nullified as_final as_notarized as_nullified : ℕ)
    (finalizes : (p : Proposal D) → subject_certified it ≡ Finalize p → p.round.view.0 ≤ as_final)
    (notarizes : kind_certified it ≡ Notarization → (round_in (subject_certified it)).view.0 ≤ as_notarized)
    (nullifies : kind_certified it ≡ Nullification → (round_in (subject_certified it)).view.0 ≤ as_nullified)
  where
    abbrev Now : Kind → ℕ
    Now = last_of (max final as_final) (max notarized as_notarized) (max nullified as_nullified)

    pub last_no_less : (kind : Kind) → last_of final notarized nullified kind ≤ Now kind
    last_no_less Finalization = omega arith
    last_no_less Notarization = omega arith
    last_no_less Nullification = omega arith

    pub last_up : Up Now it
    last_up = of_certificate it refl
      where
        of_certificate : (c : Certificate C D) → it ≡ c → Up Now it
        of_certificate (FinalizationCertificate f) is =
            subst (Up Now) (sym is) (omega (arith, finalizes f.proposal (ap subject_certified is)))
        of_certificate (NotarizationCertificate n) is =
            subst (Up Now) (sym is)
            (omega (
              arith,
              subst (λ (c : Certificate C D). (round_in (subject_certified c)).view.0 ≤ as_notarized) is
                  (notarizes (ap kind_certified is)),
            ))
        of_certificate (NullificationCertificate n) is =
            subst (Up Now) (sym is)
            (omega (
              arith,
              subst (λ (c : Certificate C D). (round_in (subject_certified c)).view.0 ≤ as_nullified) is
                  (nullifies (ap kind_certified is)),
            ))

-- Where they are in another order, it is so too.
pub shelved_moved :
    {C D : Type 0} (last : ℕ) (lasts : Kind → ℕ) (old new : List (Certificate C D))
    → IsPermutation old new → AreShelved last lasts old → AreShelved last lasts new
shelved_moved last lasts old new moves are =
    record {
      distinct = distinct_moved kind_and_round old new moves are.distinct;
      no_later = λ c there. are.no_later c (back c there);
      up_to = λ c there. are.up_to c (back c there);
    }
  where
    back : (c : Certificate _ _) → Contains new c → Contains old c
    back c there = Contains-permutation new old c (IsPermutation-sym old new moves) there

-- and so it is of those that are left
pub shelved_left :
    {C D : Type 0} (last : ℕ) (lasts : Kind → ℕ) (is_left : Certificate C D → Bool)
    (kept : List (Certificate C D))
    → AreShelved last lasts kept → AreShelved last lasts (filter is_left kept)
shelved_left last lasts is_left kept are =
    record {
      distinct = distinct_left kind_and_round is_left kept are.distinct;
      no_later = λ c there. are.no_later c (left_are is_left kept c there);
      up_to = λ c there. are.up_to c (left_are is_left kept c there);
    }

pub none_after_first :
    {C D : Type 0} (view : ℕ) (kept : List (Certificate C D)) → HaveNoFinal view (take 0 kept)
none_after_first view [] c there p is_of = absurd (nothing there)
  where
    nothing : Contains [] c → ⊥
    nothing (i, lt, is) = absurd (omega arith)
none_after_first view (d ∷ kept) c there p is_of = absurd (nothing there)
  where
    nothing : Contains [] c → ⊥
    nothing (i, lt, is) = absurd (omega arith)

-- what is found goes on
pub found_more :
    {C D : Type 0} (view : ℕ) (kept : List (Certificate C D)) (i : ℕ)
    (found new : Option (ℕ × Proposal D)) (at : Option (Proposal D))
    → IfSome found (λ it. IsFinalAt view kept it.0 it.1)
    → IfSome at (λ p. IsFinalAt view kept i p)
    → IfSome new (λ it. (found ≡ Some it) ⊎ ((it.0 ≡ i) × (at ≡ Some it.1)))
    → IfSome new (λ it. IsFinalAt view kept it.0 it.1)
found_more view kept i found None at before here from = tt
found_more view kept i found (Some it) at before here from = of_cases from
  where
    of_cases : (found ≡ Some it) ⊎ ((it.0 ≡ i) × (at ≡ Some it.1)) → IsFinalAt view kept it.0 it.1
    of_cases (inl same) = subst (λ o. IfSome o (λ w. IsFinalAt view kept w.0 w.1)) same before
    of_cases (inr now) =
        subst (λ n. IsFinalAt view kept n it.1) (sym now.0)
        (subst (λ o. IfSome o (λ p. IsFinalAt view kept i p)) now.1 here)

-- The lower of what was found among the first and of the next is the lowest of both.
module _ {C D : Type 0} (view : ℕ) (kept : List (Certificate C D)) (i : ℕ) (lt : i < length kept)
    (found : Option (ℕ × Proposal D)) (at : Option (Proposal D)) where
  lowest_one :
      (it : ℕ × Proposal D)
      → (found ≡ None → HaveNoFinal view (take i kept))
      → IfSome found (λ other. IsLowestFinal view (take i kept) other.1)
      → (at ≡ None → (c : Certificate C D) → slice_get kept i ≡ Some c → (p : Proposal D)
      → subject_certified c ≡ Finalize p → p.round.view.0 ≤ view)
      → IfSome at (λ p. IsFinalAt view kept i p)
      → IfSome found (λ other. it.1.round.view.0 ≤ other.1.round.view.0)
      → IfSome at (λ other. it.1.round.view.0 ≤ other.round.view.0)
      → IsLowestFinal view (take (i + 1) kept) it.1
  lowest_one it none before nothing here below_found below_here c there q of_q after =
      let next : slice_get kept i ≡ Some (get_or kept i c) = slice_get-get_or kept i c lt in
      of_cases (get_or kept i c) next (Contains-append_cases (take i kept) (get_or kept i c ∷ []) c
      (subst (λ cs. Contains cs c) (one_more kept i (get_or kept i c) next) there))
    where
      of_found :
          (o : Option (ℕ × Proposal D)) → (o ≡ None → HaveNoFinal view (take i kept))
          → IfSome o (λ w. IsLowestFinal view (take i kept) w.1)
          → IfSome o (λ other. it.1.round.view.0 ≤ other.1.round.view.0)
          → Contains (take i kept) c → it.1.round.view.0 ≤ q.round.view.0
      of_found None none before below first = absurd (omega (arith, after, none refl c first q of_q))
      of_found (Some w) none before below first = omega (arith, below, before c first q of_q after)

      of_here :
          (o : Option (Proposal D))
          → (o ≡ None → (c : Certificate C D) → slice_get kept i ≡ Some c → (p : Proposal D)
          → subject_certified c ≡ Finalize p → p.round.view.0 ≤ view)
          → IfSome o (λ p. IsFinalAt view kept i p)
          → IfSome o (λ other. it.1.round.view.0 ≤ other.round.view.0)
          → slice_get kept i ≡ Some c → it.1.round.view.0 ≤ q.round.view.0
      of_here None nothing here below is = absurd (omega (arith, after, nothing refl c is q of_q))
      of_here (Some p) nothing here below is =
          not_before it.1.round.view.0 p q (subject_certified here.certificate) here.is_of below
          (ap subject_certified (one_at kept i here.certificate c here.there is) ∙ of_q)

      of_cases :
          (d : Certificate C D) → slice_get kept i ≡ Some d
          → Contains (take i kept) c ⊎ Contains (d ∷ []) c → it.1.round.view.0 ≤ q.round.view.0
      of_cases d next (inl first) = of_found found none before below_found first
      of_cases d next (inr last) =
          of_here at nothing here below_here (next ∙ ap Some (contains_one d c last))

  pub lowest_more :
      (new : Option (ℕ × Proposal D))
      → (found ≡ None → HaveNoFinal view (take i kept))
      → IfSome found (λ it. IsLowestFinal view (take i kept) it.1)
      → (at ≡ None → (c : Certificate C D) → slice_get kept i ≡ Some c → (p : Proposal D)
      → subject_certified c ≡ Finalize p → p.round.view.0 ≤ view)
      → IfSome at (λ p. IsFinalAt view kept i p)
      → IfSome new (λ it. IfSome found (λ other. it.1.round.view.0 ≤ other.1.round.view.0))
      → IfSome new (λ it. IfSome at (λ other. it.1.round.view.0 ≤ other.round.view.0))
      → IfSome new (λ it. IsLowestFinal view (take (i + 1) kept) it.1)
  lowest_more None none before nothing here below_found below_here = tt
  lowest_more (Some it) none before nothing here below_found below_here =
      lowest_one it none before nothing here below_found below_here

pub lowest_of_all :
    {C D : Type 0} (view : ℕ) (kept : List (Certificate C D)) (i : ℕ) (o : Option (ℕ × Proposal D))
    → length kept ≤ i → IfSome o (λ it. IsLowestFinal view (take i kept) it.1)
    → IfSome o (λ it. IsLowestFinal view kept it.1)
lowest_of_all view kept i o le lowest =
    subst (λ cs. IfSome o (λ it. IsLowestFinal view cs it.1)) (take_all i kept le) lowest

-- Where a view is the next one, not all rest.
pub not_at_rest :
    {S G D : Type 0} (node : NodeView S G D) (view : ℕ) → IsNext node.rounds view
    → IsAtRest node → ⊥
not_at_rest node view next rests =
    let still : next.changed.slot.changed ≡ false =
    subst (λ at. IfSome at (λ slot. slot.changed ≡ false)) next.changed.there (rests view) in
    let changed : next.changed.slot.changed ≡ true = next.changed.changed in
    absurd cc
