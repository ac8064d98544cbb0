-- What two files that take turns hold, also after a crash.
use Rattle.batcher_file.proofs.Words.{◌≡◌, ◌≢◌, ◌⊎◌, ◌+◌, ◌^◌, ◌<◌, ◌≤◌, ◌++◌, ◌∙◌, ℕ, List, [], ◌∷◌, ap, append_assoc, arith, inl, inr, length, refl, subst}
use Rattle.batcher_file.proofs.Words.{sym, cases_eq, append-nil, length-append, length_push, concat, ok_is, IsBlank, MayBe, MayHave, MayRetire, AreFrames}
use Rattle.batcher_file.proofs.Words.{AreTwoFrames, HasFrames, frame, frame_format, frames, header, AreCurrent, Hold, HoldNone, HoldOne, IsOlder, IsOther}
use Rattle.batcher_file.proofs.Words.{IsTornIntoTwo, CanBeOpened, w64, number_bytes, checksum, sealed}
use Rattle.batcher_file.proofs.Distance.{number_len}
use Rattle.batcher_file.proofs.Exact.{frame_read}
use Rattle.batcher_file.proofs.OneReading.{IsShut, one_reading}
use Rattle.batcher_file.proofs.SoFar.{HasFirst, concat_push, first_in, frames_push, has_first, values_push}

abbrev Never : ℕ → ℕ → Type 0
Never was is = ⊥

never_differs : (was is : ℕ) → Never was is → was ≢ is
never_differs was is never = absurd never

not_open : (gate : ℕ) → gate ≢ 255 → IsShut Never never_differs gate
not_open gate shut = record { shut = shut; not_from = λ n. n; not_to = λ n. n }

closed : IsShut Never never_differs 0
closed = not_open 0 (λ e. absurd (omega (arith, e)))

-- a file is read in one way
pub one_list : (m n : ℕ) (xs ys : List (List ℕ)) (g : ℕ) (s file : List ℕ) → AreFrames m xs
    → g ≢ 255
    → file ≡ frames m xs ++ g ∷ s → HasFrames n ys file → ys ≡ xs
one_list m n xs ys g s file values shut parts has =
    sym (one_reading Never never_differs m n xs ys g 0 s has.rest values has.values
    (not_open g shut) closed (inl (sym parts ∙ has.parts)))

tails : (r s : List ℕ) → 255 ∷ r ≡ 255 ∷ s → r ≡ s
tails r s e = cc

-- and its frames have one first number
pub one_first : (m n : ℕ) (file : List ℕ) → HasFirst m file → HasFirst n file → m ≡ n
one_first m n file a b =
    let rests : a.rest ≡ b.rest = tails a.rest b.rest (sym a.parts ∙ b.parts) in
    let read_a = frame_read a.rest m a.inside a.after a.framed in
    let read_b = frame_read b.rest n b.inside b.after b.framed in
    let both : ((m, a.inside), a.after) ≡ ((n, b.inside), b.after) =
    ok_is ((m, a.inside), a.after) ((n, b.inside), b.after) (sym read_a ∙ ap frame_format.decoding rests ∙ read_b) in
    ap (λ (p : (ℕ × List ℕ) × List ℕ). p.0.0) both

pub one_number : (m n : ℕ) (xs ys : List (List ℕ)) (file : List ℕ) → HasFrames m xs file
    → HasFrames n ys file → m ≡ n
one_number m n xs ys file x y = one_first m n file (has_first m xs file x) (has_first n ys file y)

pub same_list : (m n : ℕ) (xs ys : List (List ℕ)) (file : List ℕ) → HasFrames m xs file
    → HasFrames n ys file
    → ys ≡ xs
same_list m n xs ys file x y = one_list m n xs ys 0 x.rest file x.values (λ e. absurd (omega (arith, e))) x.parts y

frame_long : (number : ℕ) (bytes : List ℕ) → 0 < length (frame number bytes)
frame_long number bytes =
    omega (
      arith,
      length-append (sealed (header number (length bytes))) (sealed bytes),
      length-append (header number (length bytes)) (number_bytes w64 (checksum (header number (length bytes)))),
      number_len (checksum (header number (length bytes))),
    )

-- a file that begins with a frame isn't blank
pub first_not_blank : (n : ℕ) (file : List ℕ) → HasFirst n file → IsBlank file → ⊥
first_not_blank n file it blank =
    elim blank [
      | inl short ↦
          absurd (omega (arith, ap length it.parts, ap length it.framed.parts, length-append (frame n it.inside) it.after, frame_long n it.inside, short))
      | inr unused ↦ gates it.rest unused.rest (sym it.parts ∙ unused.parts)
    ]
  where
    gates : (r s : List ℕ) → 255 ∷ r ≡ 15 ∷ s → ⊥
    gates r s e = absurd cc

pub not_blank : (n : ℕ) (ys : List (List ℕ)) (file : List ℕ) → HasFrames n ys file → IsBlank file
    → ⊥
not_blank n ys file has blank = first_not_blank n file (has_first n ys file has) blank

pub none_in_nothing : (n : ℕ) → AreTwoFrames n [] → ⊥
none_in_nothing n two =
    absurd (omega (arith, ap length two.one.parts, length-append (frame n two.first) (two.gate ∷ two.middle)))

-- The file in use, by what can be read in it.
module _ (first : ℕ) (current other : List ℕ) (IsOne : List (List ℕ) → Type 0)
    (reads : (n : ℕ) (ys : List (List ℕ)) → HasFrames n ys current → (n ≡ first) × IsOne ys)
    (used : IsBlank current → ⊥) (other_is : IsOther first other) where
  pub record IsHeld (bytes : List ℕ) : Type 0 where
    pub all : List (List ℕ)
    pub one : IsOne all
    pub bytes_are : bytes ≡ concat all

  -- The other isn't the one in use.
  pub not_other : (bytes : List ℕ) → AreCurrent other current bytes → ⊥
  not_other bytes it =
      elim it.other_is [
        | inl blank ↦ used blank
        | inr older ↦ elim other_is [
          | inl blank ↦ not_blank it.first it.all other it.has blank
          | inr before ↦
              let start : older.number ≡ first = (reads older.number older.all older.has).0 in
              let same : it.first ≡ before.number = one_number it.first before.number it.all before.all other it.has before.has in
              absurd (omega (arith, start, same, older.next, before.next, older.has.some, before.has.some))
        ]
      ]

  pub held : (bytes : List ℕ) → Hold current other bytes → IsHeld bytes
  held bytes (inl it) = record {
    all = it.all;
    one = (reads it.first it.all it.has).1;
    bytes_are = it.bytes_are;
  }
  held bytes (inr it) = absurd (not_other bytes it)

-- what is found where nothing is under way
module _ (first : ℕ) (all : List (List ℕ)) (current other : List ℕ) (has : HasFrames first all current) (other_is : IsOther first other) where
  pub at_rest : (bytes : List ℕ) → Hold current other bytes → bytes ≡ concat all
  at_rest bytes hold =
      let it = held first current other (λ ys. ys ≡ all)
      (λ n ys h. (one_number n first ys all current h has, same_list first n all ys current has h))
      (not_blank first all current has) other_is bytes hold in
      it.bytes_are ∙ ap concat it.one

-- two files hold one thing
pub turned : (a b bytes : List ℕ) → Hold a b bytes → Hold b a bytes
turned a b bytes (inl it) = inr it
turned a b bytes (inr it) = inl it

pub none_turned : (a b : List ℕ) → HoldNone a b → HoldNone b a
none_turned a b none bytes hold = none bytes (turned b a bytes hold)

pub hold_one : HoldOne
hold_one a b x y (inl it) other =
    it.bytes_are ∙ sym (at_rest it.first it.all a b it.has it.other_is y other)
hold_one a b x y (inr it) other =
    it.bytes_are ∙ sym (at_rest it.first it.all b a it.has it.other_is y (turned a b y other))

-- a file that has one frame more
pub has_all : (first : ℕ) (all : List (List ℕ)) (new : List ℕ) → 0 < length all
    → first + length all + 1 < 2 ^ 63 → AreFrames first all → length new < 2 ^ 64 → (file : List ℕ)
    → file ≡ frames first (all ++ new ∷ []) ++ 0 ∷ [] → HasFrames first (all ++ new ∷ []) file
has_all first all new some few values len file parts = record {
  some = omega (arith, length_push all new);
  few = omega (arith, length_push all new);
  values = values_push first all new values (omega arith, len);
  rest = [];
  parts = parts;
  alone = none_in_nothing (first + length (all ++ new ∷ []));
}

-- a file that has just one
pub has_just : (next : ℕ) (new : List ℕ) → next + 1 < 2 ^ 63 → length new < 2 ^ 64 → (file : List ℕ)
    → file ≡ frames next (new ∷ []) ++ 0 ∷ [] → HasFrames next (new ∷ []) file
has_just next new few len file parts = record {
  some = omega arith;
  few = omega arith;
  values = ((omega arith, len), tt);
  rest = [];
  parts = parts;
  alone = none_in_nothing (next + 1);
}

-- while a frame is added
module _ (Whole : Type 0) (first : ℕ) (all : List (List ℕ)) (new current other : List ℕ)
    (some : 0 < length all) (few : first + length all + 1 < 2 ^ 63) (values : AreFrames first all) (new_len : length new < 2 ^ 64)
    (may : MayHave Whole (frames first all) 0 (frame (first + length all) new ++ 0 ∷ []) current) (other_is : IsOther first other) where
  abbrev More : List (List ℕ)
  More = all ++ new ∷ []

  pub more_values : AreFrames first More
  more_values = values_push first all new values (omega arith, new_len)

  pub more_is : frames first all ++ 255 ∷ (frame
      (first + length all) new ++ 0 ∷ []) ≡ frames first More ++ 0 ∷ []
  more_is =
      sym (append_assoc (frames first all) (255 ∷ frame (first + length all) new) (0 ∷ []))
      ∙ ap (λ t. t ++ 0 ∷ []) (sym (frames_push first all new))

  abbrev IsEither : List (List ℕ) → Type 0
  IsEither ys = (ys ≡ all) ⊎ (ys ≡ More)

  starts : HasFirst first current
  starts = elim may [
    | inl before ↦ first_in first all 0 before.rest current some values before.parts
    | inr gate ↦ first_in first all gate.now _ current some values gate.parts
  ]

  reads : (n : ℕ) (ys : List (List ℕ)) → HasFrames n ys current → (n ≡ first) × IsEither ys
  reads n ys has = (
    one_first n first current (has_first n ys current has) starts,
    elim may [
      | inl before ↦ inl (one_list first n all ys 0 before.rest current values (λ e. absurd (omega (arith, e))) before.parts has)
      | inr gate ↦ elim (cases_eq gate.now 255) [
        | inl is ↦
            inr (one_list first n More ys 0 [] current more_values (λ e. absurd (omega (arith, e)))
            (gate.parts ∙ ap (λ (g : ℕ). frames first all ++ g ∷ (frame (first + length all) new ++ 0 ∷ [])) is ∙ more_is) has)
        | inr shut ↦ inl (one_list first n all ys gate.now _ current values shut gate.parts has)
      ]
    ],
  )

  -- the bytes from before it, or with these behind them
  pub added_leaves : (bytes : List ℕ) → Hold current other bytes
      → (bytes ≡ concat all) ⊎ (bytes ≡ concat all ++ new)
  added_leaves bytes hold =
      let it = held first current other IsEither reads (first_not_blank first current starts) other_is bytes hold in
      elim it.one [
        | inl old ↦ inl (it.bytes_are ∙ ap concat old)
        | inr more ↦ inr (it.bytes_are ∙ ap concat more ∙ concat_push all new)
      ]

  has_old : (rest : List ℕ) → current ≡ frames first all ++ 0 ∷ rest
      → (IsTornIntoTwo (first + length all) current → ⊥) → HasFrames first all current
  has_old rest parts whole = record {
    some = some;
    few = omega arith;
    values = values;
    rest = rest;
    parts = parts;
    alone = λ two. whole (record { front = frames first all; rest = rest; parts = parts; two = two });
  }

  has_more : current ≡ frames first More ++ 0 ∷ [] → HasFrames first More current
  has_more parts = has_all first all new some few values new_len current parts

  pub added_opens : Whole → (IsTornIntoTwo (first + length all) current → ⊥)
      → CanBeOpened current other
  added_opens finishes whole = elim may [
    | inl before ↦ opened all (has_old before.rest before.parts whole)
    | inr gate ↦ elim (gate.either finishes) [
      | inl old ↦ opened all (has_old _ (gate.parts ∙ ap (λ (g : ℕ). frames first all ++ g ∷ (frame (first + length all) new ++ 0 ∷ [])) old) whole)
      | inr is ↦ opened More (has_more (gate.parts ∙ ap (λ (g : ℕ). frames first all ++ g ∷ (frame (first + length all) new ++ 0 ∷ [])) is ∙ more_is))
    ]
  ] where
    opened : (ys : List (List ℕ)) → HasFrames first ys current → CanBeOpened current other
    opened ys has = record {
      bytes = concat ys;
      hold = inl (record { first = first; all = ys; has = has; other_is = other_is; bytes_are = refl });
    }

-- while the other file is made anew
module _ (Whole : Type 0) (first : ℕ) (all : List (List ℕ)) (new current old other : List ℕ)
    (few : first + length all + 1 < 2 ^ 63) (new_len : length new < 2 ^ 64) (has : HasFrames first all current)
    (short : (length old ≤ 1) ⊎ IsOlder first old)
    (may : MayBe Whole old (frame (first + length all) new ++ 0 ∷ []) other) where
  abbrev next : ℕ
  next = first + length all

  one_is : 255 ∷ (frame next new ++ 0 ∷ []) ≡ frames next (new ∷ []) ++ 0 ∷ []
  one_is = ap (λ t. 255 ∷ (t ++ 0 ∷ [])) (sym (append-nil (frame next new)))

  has_one : (file : List ℕ) → file ≡ 255 ∷ (frame next new ++ 0 ∷ [])
      → HasFrames next (new ∷ []) file
  has_one file parts = has_just next new few new_len file (parts ∙ one_is)

  pub is_older : IsOlder next current
  is_older = record { number = first; all = all; has = has; next = refl }

  -- what the other has, if that is in use
  renewed : (bytes : List ℕ) → AreCurrent other current bytes → bytes ≡ new
  renewed bytes it =
      elim it.other_is [
        | inl blank ↦ absurd (not_blank first all current has blank)
        | inr older ↦
            let start : older.number ≡ first = one_number older.number first older.all all current older.has has in
            let same : older.all ≡ all = same_list first older.number all older.all current has older.has in
            let due : it.first ≡ next = omega (arith, older.next, start, ap length same) in
            of_may due may
      ]
    where
      begins : HasFirst it.first other
      begins = has_first it.first it.all other it.has

      gate_is : (now : ℕ) (rest : List ℕ) → other ≡ now ∷ rest → now ≡ 255
      gate_is now rest parts = head now begins.rest rest (sym parts ∙ begins.parts)
        where
          head : (g : ℕ) (r s : List ℕ) → g ∷ s ≡ 255 ∷ r → g ≡ 255
          head g r s e = cc

      of_may : it.first ≡ next → MayBe Whole old (frame next new ++ 0 ∷ []) other → bytes ≡ new
      of_may due (inl blank) = absurd (not_blank it.first it.all other it.has blank)
      of_may due (inr (inl shutting)) =
          elim short [
            | inl le ↦ absurd (not_blank it.first it.all other it.has (inl (omega (arith, ap length shutting.now.parts, ap length shutting.old_is, le))))
            | inr before ↦
                let was = has_first before.number before.all old before.has in
                let gate : shutting.gate ≡ 255 = of_gate shutting.gate shutting.rest was.rest (sym shutting.old_is ∙ was.parts) in
                let same : other ≡ old =
                shutting.now.parts ∙ ap (λ (g : ℕ). g ∷ shutting.rest) (gate_is shutting.now.now shutting.rest shutting.now.parts ∙ sym gate)
                ∙ sym shutting.old_is in
                let number : it.first ≡ before.number =
                one_number it.first before.number it.all before.all old (subst (HasFrames it.first it.all) same it.has) before.has in
                absurd (omega (arith, number, before.next, due, has.some, before.has.some))
          ]
        where
          of_gate : (g : ℕ) (r s : List ℕ) → g ∷ r ≡ 255 ∷ s → g ≡ 255
          of_gate g r s e = cc
      of_may due (inr (inr gate)) =
          let parts : other ≡ 255 ∷ (frame next new ++ 0 ∷ []) =
          gate.parts ∙ ap (λ (g : ℕ). g ∷ (frame next new ++ 0 ∷ [])) (gate_is gate.now _ gate.parts) in
          let same : it.all ≡ new ∷ [] = same_list next it.first (new ∷ []) it.all other (has_one other parts) it.has in
          it.bytes_are ∙ ap concat same ∙ append-nil new

  pub renewed_leaves : (bytes : List ℕ) → Hold current other bytes → (bytes ≡ concat all)
      ⊎ (bytes ≡ new)
  renewed_leaves bytes (inl it) = inl (it.bytes_are ∙ ap concat (same_list first it.first all it.all current has it.has))
  renewed_leaves bytes (inr it) = inr (renewed bytes it)

  pub renewed_opens : Whole → CanBeOpened current other
  renewed_opens finishes = of_may may
    where
      with_other : IsOther first other → CanBeOpened current other
      with_other is = record { bytes = concat all; hold = inl (record { first = first; all = all; has = has; other_is = is; bytes_are = refl }) }

      of_may : MayBe Whole old (frame next new ++ 0 ∷ []) other → CanBeOpened current other
      of_may (inl blank) = with_other (inl blank)
      of_may (inr (inl shutting)) = elim (shutting.now.either finishes) [
        | inl stays ↦
            let same : other ≡ old = shutting.now.parts ∙ ap (λ (g : ℕ). g ∷ shutting.rest) stays ∙ sym shutting.old_is in
            elim short [
              | inl le ↦ with_other (inl (inl (omega (arith, ap length same, le))))
              | inr before ↦ with_other (inr (subst (IsOlder first) (sym same) before))
            ]
        | inr unused ↦ with_other (inl (inr (record { rest = shutting.rest; parts = shutting.now.parts ∙ ap (λ (g : ℕ). g ∷ shutting.rest) unused })))
      ]
      of_may (inr (inr gate)) = elim (gate.either finishes) [
        | inl unused ↦ with_other (inl (inr (record { rest = _; parts = gate.parts ∙ ap (λ (g : ℕ). g ∷ (frame next new ++ 0 ∷ [])) unused })))
        | inr is ↦
            let parts : other ≡ 255 ∷ (frame next new ++ 0 ∷ []) = gate.parts ∙ ap (λ (g : ℕ). g ∷ (frame next new ++ 0 ∷ [])) is in
            record {
              bytes = concat (new ∷ []);
              hold = inr
                  (record { first = next; all = new ∷ []; has = has_one other parts; other_is = inr is_older; bytes_are = refl });
            }
      ]

-- while the file that was in use before is emptied
module _ (Whole : Type 0) (first : ℕ) (all : List (List ℕ)) (current old other : List ℕ)
    (has : HasFrames first all current) (before : IsOlder first old) (may : MayRetire Whole old other) where
  abbrev Reads : Type 0
  Reads = (n : ℕ) (ys : List (List ℕ)) → HasFrames n ys other → n ≡ before.number

  -- if anything is read there, it is what was there
  reads_old : Reads
  reads_old n ys there = elim may [
    | inl blank ↦ absurd (not_blank n ys other there blank)
    | inr shutting ↦
        let now = has_first n ys other there in
        let was = has_first before.number before.all old before.has in
        let gate_now : shutting.now.now ≡ 255 =
        head shutting.now.now shutting.rest now.rest (sym shutting.now.parts ∙ now.parts) in
        let gate_was : shutting.gate ≡ 255 =
        head shutting.gate shutting.rest was.rest (sym shutting.old_is ∙ was.parts) in
        let same : other ≡ old =
        shutting.now.parts ∙ ap (λ (g : ℕ). g ∷ shutting.rest) (gate_now ∙ sym gate_was)
        ∙ sym shutting.old_is in
        one_number n before.number ys before.all old (subst (HasFrames n ys) same there) before.has
  ] where
    head : (g : ℕ) (r s : List ℕ) → g ∷ r ≡ 255 ∷ s → g ≡ 255
    head g r s e = cc

  pub retired_leaves : (bytes : List ℕ) → Hold current other bytes → bytes ≡ concat all
  retired_leaves bytes (inl it) =
      it.bytes_are ∙ ap concat (same_list first it.first all it.all current has it.has)
  retired_leaves bytes (inr it) = elim it.other_is [
    | inl blank ↦ absurd (not_blank first all current has blank)
    | inr older ↦
        let number : older.number ≡ first =
        one_number older.number first older.all all current older.has has in
        let start : it.first ≡ before.number = reads_old it.first it.all it.has in
        absurd (omega (
          arith,
          number,
          start,
          older.next,
          before.next,
          older.has.some,
          before.has.some,
        ))
  ]

  pub retired_opens : Whole → CanBeOpened current other
  retired_opens finishes = elim may [
    | inl blank ↦ with_other (inl blank)
    | inr shutting ↦ elim (shutting.now.either finishes) [
      | inl stays ↦
          let same : other ≡ old =
          shutting.now.parts ∙ ap (λ (g : ℕ). g ∷ shutting.rest) stays ∙ sym shutting.old_is in
          with_other (inr (subst (IsOlder first) (sym same) before))
      | inr unused ↦
          with_other (inl (inr (record {
            rest = shutting.rest;
            parts = shutting.now.parts ∙ ap (λ (g : ℕ). g ∷ shutting.rest) unused;
          })))
    ]
  ] where
    with_other : IsOther first other → CanBeOpened current other
    with_other is = record {
      bytes = concat all;
      hold = inl (record {
        first = first;
        all = all;
        has = has;
        other_is = is;
        bytes_are = refl;
      });
    }
