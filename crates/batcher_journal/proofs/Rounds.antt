-- Votes of a round that is over, and votes that aren't.
use Rattle.batcher_journal.proofs.Words.{◌≡◌, ◌⊎◌, ◌&&◌, ◌||◌, ◌∙◌, ◌<◌, Bool, true, false, arith, eqb, inl, inr, ltb, refl, sym, cases_eq, cases_lt, eq-eqb, ℕ}
use Rattle.batcher_journal.proofs.Words.{eqb-true, ltb-true, lt-ltb, subjects_contradict, is_below, round_in, same_proposal, same_round, same_subject, Proposal}
use Rattle.batcher_journal.proofs.Words.{Subject, Notarize, Nullify, Finalize, Round}

both : (a b : Bool) → (a && b) ≡ true → (a ≡ true) × (b ≡ true)
both true b e = (refl, e)
both false b e = absurd cc

-- rounds that are the same are on one side of a floor
pub same_side : (floor a b : Round) → same_round a b ≡ true → is_below floor a ≡ is_below floor b
same_side floor a b same =
    let parts = both (eqb a.epoch.0 b.epoch.0) (eqb a.view.0 b.view.0) same in
    rw (eqb-true a.epoch.0 b.epoch.0 parts.0, eqb-true a.view.0 b.view.0 parts.1) refl

module _ {D : Type 0} (same : D → D → Bool) where
  proposals_round : (p q : Proposal D) → same_proposal same p q ≡ true
      → same_round p.round q.round ≡ true
  proposals_round p q e = (both (same_round p.round q.round) _ e).0

  subjects_round : (s t : Subject D) → same_subject same s t ≡ true
      → same_round (round_in s) (round_in t) ≡ true
  subjects_round (Notarize p) (Notarize q) e = proposals_round p q e
  subjects_round (Notarize p) (Nullify r) e = absurd cc
  subjects_round (Notarize p) (Finalize q) e = absurd cc
  subjects_round (Nullify r) (Notarize q) e = absurd cc
  subjects_round (Nullify r) (Nullify s) e = e
  subjects_round (Nullify r) (Finalize q) e = absurd cc
  subjects_round (Finalize p) (Notarize q) e = absurd cc
  subjects_round (Finalize p) (Nullify r) e = absurd cc
  subjects_round (Finalize p) (Finalize q) e = proposals_round p q e

  contradicting_round : (s t : Subject D) → subjects_contradict same s t ≡ true
      → same_round (round_in s) (round_in t) ≡ true
  contradicting_round (Notarize p) (Notarize q) e = (both (same_round p.round q.round) _ e).0
  contradicting_round (Notarize p) (Nullify r) e = absurd cc
  contradicting_round (Notarize p) (Finalize q) e = absurd cc
  contradicting_round (Nullify r) (Notarize q) e = absurd cc
  contradicting_round (Nullify r) (Nullify s) e = absurd cc
  contradicting_round (Nullify r) (Finalize q) e = e
  contradicting_round (Finalize p) (Notarize q) e = absurd cc
  contradicting_round (Finalize p) (Nullify r) e = e
  contradicting_round (Finalize p) (Finalize q) e = (both (same_round p.round q.round) _ e).0

  -- so a vote of a round that is over is apart from one of a round that isn't
  module _ (floor : Round) (s t : Subject D) (over : is_below floor (round_in s) ≡ true)
      (above : is_below floor (round_in t) ≡ false) where
    apart : same_round (round_in s) (round_in t) ≡ true → ⊥
    apart e = wrong (sym over ∙ same_side floor (round_in s) (round_in t) e ∙ above)
      where
        wrong : true ≡ false → ⊥
        wrong w = absurd cc

    pub other_subject : same_subject same s t ≡ false
    other_subject = of_bool (same_subject same s t) refl
      where
        of_bool : (b : Bool) → same_subject same s t ≡ b → b ≡ false
        of_bool true e = absurd (apart (subjects_round s t e))
        of_bool false e = refl

    pub no_contradiction : subjects_contradict same s t ≡ false
    no_contradiction = of_bool (subjects_contradict same s t) refl
      where
        of_bool : (b : Bool) → subjects_contradict same s t ≡ b → b ≡ false
        of_bool true e = absurd (apart (contradicting_round s t e))
        of_bool false e = refl

-- A round is before a floor by its epoch, or by its view in the same one.
abbrev IsBefore : Round → Round → Type 0
IsBefore floor round = (round.epoch.0 < floor.epoch.0)
    ⊎ ((round.epoch.0 ≡ floor.epoch.0) × (round.view.0 < floor.view.0))

before : (floor round : Round) → is_below floor round ≡ true → IsBefore floor round
before floor round e = of_bool (ltb round.epoch.0 floor.epoch.0) refl e
  where
    of_bool : (b : Bool) → ltb round.epoch.0 floor.epoch.0 ≡ b
        → (b || (eqb round.epoch.0 floor.epoch.0 && ltb round.view.0 floor.view.0)) ≡ true
        → IsBefore floor round
    of_bool true lt e = inl (ltb-true _ _ lt)
    of_bool false ge e =
        let parts = both (eqb round.epoch.0 floor.epoch.0) (ltb round.view.0 floor.view.0) e in
        inr (eqb-true _ _ parts.0, ltb-true _ _ parts.1)

is_before : (floor round : Round) → IsBefore floor round → is_below floor round ≡ true
is_before floor round (inl lt) = rw (lt-ltb round.epoch.0 floor.epoch.0 lt) refl
is_before floor round (inr same) =
    rw (eq-eqb round.epoch.0 floor.epoch.0 same.0, lt-ltb round.view.0 floor.view.0 same.1)
    (or_true (ltb round.epoch.0 floor.epoch.0))
  where
    or_true : (b : Bool) → (b || true) ≡ true
    or_true true = refl
    or_true false = refl

-- No round is before itself, and of two one at most is before the other.
pub not_itself : (round : Round) → is_below round round ≡ false
not_itself round = of_bool (is_below round round) refl
  where
    of_parts : IsBefore round round → ⊥
    of_parts (inl lt) = absurd (omega arith)
    of_parts (inr same) = absurd (omega (arith, same.1))

    of_bool : (b : Bool) → is_below round round ≡ b → b ≡ false
    of_bool true e = absurd (of_parts (before round round e))
    of_bool false e = refl

pub not_reversed : (a b : Round) → is_below a b ≡ true → is_below b a ≡ false
not_reversed a b below = of_bool (is_below b a) refl
  where
    both_so : IsBefore a b → IsBefore b a → ⊥
    both_so (inl x) (inl y) = absurd (omega arith)
    both_so (inl x) (inr y) = absurd (omega (arith, y.0))
    both_so (inr x) (inl y) = absurd (omega (arith, x.0))
    both_so (inr x) (inr y) = absurd (omega (arith, x.1, y.1))

    of_bool : (c : Bool) → is_below b a ≡ c → c ≡ false
    of_bool true e = absurd (both_so (before a b below) (before b a e))
    of_bool false e = refl

-- What isn't behind a round that is before a floor is before it too.
pub earlier_below : (floor later earlier : Round) → is_below floor later ≡ true
    → is_below earlier later ≡ false → is_below floor earlier ≡ true
earlier_below floor later earlier below up = is_before floor earlier (of_parts (before floor later below))
  where
    not_before : IsBefore earlier later → ⊥
    not_before it = wrong (sym (is_before earlier later it) ∙ up)
      where
        wrong : true ≡ false → ⊥
        wrong w = absurd cc

    of_parts : IsBefore floor later → IsBefore floor earlier
    of_parts (inl lt) = elim (cases_lt later.epoch.0 earlier.epoch.0) [
      | inl lower ↦ absurd (not_before (inl lower))
      | inr le ↦ inl (omega arith)
    ]
    of_parts (inr same) = elim (cases_lt later.epoch.0 earlier.epoch.0) [
      | inl lower ↦ absurd (not_before (inl lower))
      | inr le ↦ elim (cases_eq later.epoch.0 earlier.epoch.0) [
        | inl equal ↦ elim (cases_lt later.view.0 earlier.view.0) [
          | inl lower ↦ absurd (not_before (inr (equal, lower)))
          | inr views ↦ inr (omega (arith, same.0, equal), omega (arith, same.1))
        ]
        | inr other ↦ inl (omega (arith, same.0, other))
      ]
    ]

-- A floor that isn't lower leaves no round that was over.
pub still_over : (old new round : Round) → is_below old new ≡ false → is_below old round ≡ true
    → is_below new round ≡ true
still_over old new round up over = is_before new round (of_parts (before old round over))
  where
    not_before : IsBefore old new → ⊥
    not_before it = wrong (sym (is_before old new it) ∙ up)
      where
        wrong : true ≡ false → ⊥
        wrong w = absurd cc

    of_parts : IsBefore old round → IsBefore new round
    of_parts (inl lt) = elim (cases_lt new.epoch.0 old.epoch.0) [
      | inl lower ↦ absurd (not_before (inl lower))
      | inr le ↦ inl (omega arith)
    ]
    of_parts (inr same) = elim (cases_lt new.epoch.0 old.epoch.0) [
      | inl lower ↦ absurd (not_before (inl lower))
      | inr le ↦ elim (cases_eq new.epoch.0 old.epoch.0) [
        | inl equal ↦ elim (cases_lt new.view.0 old.view.0) [
          | inl lower ↦ absurd (not_before (inr (equal, lower)))
          | inr views ↦ inr (omega (arith, same.0, equal), omega (arith, same.1))
        ]
        | inr other ↦ inl (omega (arith, same.0, other))
      ]
    ]

-- A round that is before another is another.
pub below_other : (floor round : Round) → is_below floor round ≡ true
    → same_round round floor ≡ false
below_other floor round below = of_bool (same_round round floor) refl
  where
    wrong : true ≡ false → ⊥
    wrong w = absurd cc

    of_bool : (b : Bool) → same_round round floor ≡ b → b ≡ false
    of_bool true e = absurd (wrong (sym below ∙ same_side floor round floor e ∙ not_itself floor))
    of_bool false e = refl

-- Of two rounds that aren't the same one is before the other.
pub neither_same : (a b : Round) → is_below a b ≡ false → is_below b a ≡ false
    → same_round b a ≡ true
neither_same a b not_b not_a = of_cases (cases_eq b.epoch.0 a.epoch.0) (cases_eq b.view.0 a.view.0)
  where
    wrong : true ≡ false → ⊥
    wrong w = absurd cc

    apart : IsBefore a b ⊎ IsBefore b a → ⊥
    apart (inl lower) = wrong (sym (is_before a b lower) ∙ not_b)
    apart (inr lower) = wrong (sym (is_before b a lower) ∙ not_a)

    ordered : (m n : ℕ) → (m ≡ n → ⊥) → (m < n) ⊎ (n < m)
    ordered m n other = elim (cases_lt m n) [ inl lt ↦ inl lt | inr ge ↦ inr (omega (arith, other)) ]

    of_epochs : (b.epoch.0 < a.epoch.0) ⊎ (a.epoch.0 < b.epoch.0) → ⊥
    of_epochs (inl lt) = apart (inl (inl lt))
    of_epochs (inr lt) = apart (inr (inl lt))

    of_views : b.epoch.0 ≡ a.epoch.0 → (b.view.0 < a.view.0) ⊎ (a.view.0 < b.view.0) → ⊥
    of_views e (inl lt) = apart (inl (inr (e, lt)))
    of_views e (inr lt) = apart (inr (inr (sym e, lt)))

    of_cases : (b.epoch.0 ≡ a.epoch.0) ⊎ (b.epoch.0 ≡ a.epoch.0 → ⊥)
        → (b.view.0 ≡ a.view.0) ⊎ (b.view.0 ≡ a.view.0 → ⊥) → same_round b a ≡ true
    of_cases (inl epochs) (inl views) = rw (eq-eqb b.epoch.0 a.epoch.0 epochs, eq-eqb b.view.0 a.view.0 views) refl
    of_cases (inl epochs) (inr other) = absurd (of_views epochs (ordered b.view.0 a.view.0 other))
    of_cases (inr other) views = absurd (of_epochs (ordered b.epoch.0 a.epoch.0 other))

-- Behind a later round than this one no round is this one.
pub later_other : (round later behind : Round) → is_below round later ≡ false
    → same_round later round ≡ false → is_below later behind ≡ false
    → same_round behind round ≡ false
later_other round later behind from other up = of_bool (same_round behind round) refl
  where
    wrong : true ≡ false → ⊥
    wrong w = absurd cc

    of_bool : (b : Bool) → same_round behind round ≡ b → b ≡ false
    of_bool true e =
        absurd (wrong (sym (neither_same round later from (sym (same_side later behind round e) ∙ up)) ∙ other))
    of_bool false e = refl
