-- Each certificate comes again, within a quarter as many times as there are views behind the final one.
use Rattle.batcher_validator.proofs.Words.{◌≡◌, ◌⊎◌, ◌+◌, ◌-◌, ◌*◌, ◌<◌, ◌≤◌, ◌||◌, ◌++◌, ◌∙◌, ℕ, zero, suc, Bool, true, false, [], ◌∷◌, ap}
use Rattle.batcher_validator.proofs.Words.{arith, inl, inr, refl, subst, sym, Contains, cases_lt, le-leb, lt-ltb, le-ltb, nat_le, Kind, Round, Window}
use Rattle.batcher_validator.proofs.Words.{agains, StaysFinal, HasHanded, ValidatorEvent, ValidatorHistory, again, gave, turn_at, turn_in, window_by}
use Rattle.batcher_validator.proofs.Words.{is_again, is_due_again, is_finalization_of, below_turn, SendCertificate}

wrong : true ≡ false → ⊥
wrong e = absurd cc

-- how many fours of views come before that of a view, by how far it is behind another
abbrev Fours : ℕ → ℕ → Type 0
Fours n fours = (fours * 4 < n) × (n ≤ fours * 4 + 4)

fours_of : (n : ℕ) → 0 < n → (fours : ℕ) × Fours n fours
fours_of zero some = absurd (omega (arith, some))
fours_of (suc zero) some = (0, (omega arith, omega arith))
fours_of (suc (suc n)) some =
    let it = fours_of (suc n) (omega arith) in
    elim (cases_lt (suc n) (it.0 * 4 + 4)) [
      | inl below ↦ (it.0, (omega (arith, it.1.0), omega (arith, below)))
      | inr up ↦ (it.0 + 1, (omega (arith, it.1.1, up), omega (arith, it.1.1)))
    ]

or_true : (b : Bool) → b || true ≡ true
or_true true = refl
or_true false = refl

-- a view of the two newest, or of the four whose turn it is, is given again
due_newest : (w : Window) (below view : ℕ) → w.current - 1 ≤ view
    → is_due_again w below view ≡ true
due_newest w below view le = rw (le-leb (w.current - 1) view le) refl

due_turn : (w : Window) (below view : ℕ) → below < view → view - below ≤ 4
    → is_due_again w below view ≡ true
due_turn w below view lt le =
    rw (lt-ltb below view lt, le-leb (view - below) 4 le) (or_true (nat_le (w.current - 1) view))

due_again : (w : Window) (turn : ℕ) (key : Kind × Round)
    → is_due_again w (below_turn w turn) key.1.view.0 ≡ true → is_again w turn key ≡ true
due_again w turn key due = rw (due) (or_true (is_finalization_of w.finalized key))

still_turn : (w : Window) (turn : ℕ) → turn * 4 < w.current - w.finalized → turn_at w turn ≡ turn
still_turn w turn lt = rw (lt-ltb (turn * 4) (w.current - w.finalized) lt) refl

first_turn : (w : Window) (turn : ℕ) → w.current - w.finalized ≤ turn * 4 → turn_at w turn ≡ 0
first_turn w turn le = rw (le-ltb (turn * 4) (w.current - w.finalized) le) refl

-- The final view stays, and all views are up to the highest, of which there are no more than four
-- times as many as something is to be given again.
module _ (final highest all : ℕ) (enough : highest ≤ final + all * 4) (key : Kind × Round)
    (above : final < key.1.view.0) (within : key.1.view.0 ≤ highest) (fours : ℕ)
    (are : Fours (key.1.view.0 - final) fours) where
  -- how often it was, and whose turn it is, where the certificate didn't come again so far
  abbrev MayCome : ℕ → ℕ → Type 0
  MayCome times turn =
      ((times + fours + 1 ≤ all) × (times + fours + 1 ≤ turn))
      ⊎ ((turn ≤ fours) × (times + fours + 1 ≤ turn + all))

  at_first : (turn : ℕ) → MayCome 0 turn
  at_first turn = elim (cases_lt fours turn) [
    | inl later ↦ inl (omega (arith, enough, within, are.0), omega (arith, later))
    | inr up ↦ inr (up, omega (arith, enough, within, are.0))
  ]

  at_last : (turn : ℕ) → MayCome all turn → ⊥
  at_last turn (inl it) = absurd (omega (arith, it.0))
  at_last turn (inr it) = absurd (omega (arith, it.0, it.1))

  module _ (w : Window) (stays : w.finalized ≡ final) (up : w.current ≤ highest) (times turn : ℕ)
      (may : MayCome times turn) where
    abbrev Goes : Type 0
    Goes = (is_again w turn key ≡ true) ⊎ MayCome (times + 1) (turn_at w turn + 1)

    its_turn : turn_at w turn ≡ fours → is_again w turn key ≡ true
    its_turn e =
        due_again w turn key
        (due_turn w (below_turn w turn) key.1.view.0 (omega (arith, e, stays, are.0))
        (omega (arith, e, stays, are.1)))

    in_turn : key.1.view.0 < w.current - 1 → turn * 4 < w.current - w.finalized → Goes
    in_turn before lt =
        elim (cases_lt turn fours) [
          | inl early ↦ inr (subst (λ n. MayCome (times + 1) (n + 1)) (sym (still_turn w turn lt)) (earlier early may))
          | inr from ↦ elim (cases_lt fours turn) [
            | inl late ↦ inr (subst (λ n. MayCome (times + 1) (n + 1)) (sym (still_turn w turn lt)) (later late may))
            | inr here ↦ inl (its_turn (still_turn w turn lt ∙ omega (arith, from, here)))
          ]
        ]
      where
        earlier : turn < fours → MayCome times turn → MayCome (times + 1) (turn + 1)
        earlier early (inl it) = absurd (omega (arith, early, it.1))
        earlier early (inr it) = inr (omega (arith, early), omega (arith, it.1))

        later : fours < turn → MayCome times turn → MayCome (times + 1) (turn + 1)
        later late (inl it) =
            inl (omega (arith, it.1, lt, stays, up, enough), omega (arith, it.1))
        later late (inr it) = absurd (omega (arith, late, it.0))

    anew : key.1.view.0 < w.current - 1 → w.current - w.finalized ≤ turn * 4 → Goes
    anew before le =
        elim (cases_lt 0 fours) [
          | inl some ↦ inr (subst (λ n. MayCome (times + 1) (n + 1)) (sym (first_turn w turn le)) (from_first some may))
          | inr none ↦ inl (its_turn (first_turn w turn le ∙ omega (arith, none)))
        ]
      where
        from_first : 0 < fours → MayCome times turn → MayCome (times + 1) 1
        from_first some (inl it) = inr (omega (arith, some), omega (arith, it.0))
        from_first some (inr it) = absurd (omega (arith, it.0, le, stays, before, are.0))

    goes : Goes
    goes = elim (cases_lt key.1.view.0 (w.current - 1)) [
      | inl before ↦ elim (cases_lt (turn * 4) (w.current - w.finalized)) [
        | inl lt ↦ in_turn before lt
        | inr le ↦ anew before le
      ]
      | inr newest ↦ inl (due_again w turn key (due_newest w (below_turn w turn) key.1.view.0 newest))
    ]

  module _ {D K G C : Type 0} (past : ValidatorHistory D K G C) where
    abbrev IsGiven : ValidatorHistory D K G C → Type 0
    IsGiven more = Contains more (gave (SendCertificate key.0 key.1))

    behind : (event : ValidatorEvent D K G C) (more : ValidatorHistory D K G C) → IsGiven more
        → IsGiven (event ∷ more)
    behind event more (i, lt, is) = (suc i, omega (arith, lt), is)

    comes : (more : ValidatorHistory D K G C) → StaysFinal final highest past more
        → (HasHanded (more ++ past) key → IsGiven more)
        ⊎ MayCome (agains more) (turn_in (more ++ past))
    comes [] stays = inr (at_first (turn_in past))
    comes (again ∷ more) stays = elim (comes more stays.1) [
      | inl given ↦ inl (λ handed. behind again more (given handed.1))
      | inr may ↦ elim (goes (window_by (more ++ past)) stays.0.0 stays.0.1 (agains more) (turn_in (more ++ past)) may) [
        | inl due ↦ inl (λ handed. absurd (wrong (sym due ∙ handed.0)))
        | inr later ↦ inr later
      ]
    ]
    comes (gave (SendCertificate kind number) ∷ more) stays = elim (comes more stays) [
      | inl given ↦ inl (λ handed. elim handed [
        | inl same ↦ (0, omega arith, ap (λ (k : Kind × Round). gave (SendCertificate k.0 k.1)) same)
        | inr before ↦ behind (gave (SendCertificate kind number)) more (given before)
      ])
      | inr may ↦ inr may
    ]
    comes (gave task ∷ more) stays = elim (comes more stays) [
      | inl given ↦ inl (λ handed. behind (gave task) more (given handed))
      | inr may ↦ inr may
    ]
    comes (event ∷ more) stays = elim (comes more stays) [
      | inl given ↦ inl (λ handed. behind event more (given handed))
      | inr may ↦ inr may
    ]

pub comes_again :
    {D K G C : Type 0} (past more : ValidatorHistory D K G C) (final highest : ℕ)
    (key : Kind × Round)
    → StaysFinal final highest past more → highest ≤ final + agains more * 4
    → final < key.1.view.0 → key.1.view.0 ≤ highest → HasHanded (more ++ past) key
    → Contains more (gave (SendCertificate key.0 key.1))
comes_again past more final highest key stays enough above within handed =
    let fours = fours_of (key.1.view.0 - final) (omega (arith, above)) in
    elim (comes final highest (agains more) enough key above within fours.0 fours.1 past more stays) [
      | inl given ↦ given handed
      | inr may ↦ absurd (at_last final highest (agains more) enough key above within fours.0 fours.1
          (turn_in (more ++ past)) may)
    ]
