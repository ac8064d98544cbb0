-- Two files that are being opened, or made.
use Rattle.batcher_file.proofs.Words.{◌≡◌, ◌+◌, ◌≤◌, ◌++◌, ◌∙◌, ℕ, List, [], ◌∷◌, ap, append_assoc, arith, drop, inl, inr, length, min, refl, subst, sym, take}
use Rattle.batcher_file.proofs.Words.{append-nil, drop_all, length-append, take_all, take_at, concat, IsBlank, HasFrames, frames, Hold, IsOlder, IsOther}
use Rattle.batcher_file.proofs.Words.{IsTidied, IsTornIntoTwo, CanBeOpened}
use Rattle.batcher_file.proofs.SoFar.{HasFirst, first_in, has_first}
use Rattle.batcher_file.proofs.Turns.{first_not_blank, held, one_first, one_list}

-- what is left of a file that is cut to so many bytes, or that is being cut
pub record IsCut (len : ℕ) (old file : List ℕ) : Type 0 where
  pub parts : file ≡ take len old ++ drop len file
  pub within : length file ≤ length old

pub still_blank : (len : ℕ) (old file : List ℕ) → IsBlank old → len ≡ min 1 (length old)
    → IsCut len old file → IsBlank file
still_blank len old file (inl short) len_is cut = inl (omega (arith, cut.within, short))
still_blank len old file (inr unused) len_is cut =
    let one : len ≡ 1 = omega (arith, len_is, ap length unused.parts) in
    inr (record {
      rest = drop len file;
      parts = cut.parts ∙ ap (λ n. take n old ++ drop len file) one
          ∙ ap (λ t. take 1 t ++ drop len file) unused.parts;
    })

module _ (first next end len : ℕ) (bytes a b : List ℕ) (it : IsTidied a b first next end bytes len)
    (file other : List ℕ) (cut : IsCut (end + 1) a file) (cut_other : IsCut len b other) where
  abbrev front : List ℕ
  front = frames first it.contents.all ++ 0 ∷ []

  -- The one in use has all its frames.
  parts : file ≡ frames first it.contents.all ++ 0 ∷ drop (end + 1) file
  parts =
      let has = it.contents.has in
      let front_len : length front ≡ end + 1 =
      omega (arith, length-append (frames first it.contents.all) (0 ∷ []), it.contents.end_is) in
      let whole : a ≡ front ++ has.rest =
      has.parts ∙ sym (append_assoc (frames first it.contents.all) (0 ∷ []) has.rest) in
      cut.parts
      ∙ ap (λ t. t ++ drop (end + 1) file) (ap (take (end + 1)) whole ∙ take_at front has.rest (end + 1) front_len)
      ∙ append_assoc (frames first it.contents.all) (0 ∷ []) (drop (end + 1) file)

  -- and the other is what it was
  other_is : IsOther first other
  other_is = elim it.either [
    | inl blank ↦ inl (still_blank len b other blank.0 blank.1 cut_other)
    | inr older ↦
        let same = whole_other (subst (λ n. IsCut n b other) older.1 cut_other) in
        inr (subst (IsOlder first) (sym same) older.0)
  ] where
    whole_other : IsCut (length b) b other → other ≡ b
    whole_other cut =
        let none : drop (length b) other ≡ [] = drop_all (length b) other cut.within in
        cut.parts ∙ ap (λ t. take (length b) b ++ t) none ∙ append-nil (take (length b) b)
        ∙ take_all (length b) b (omega arith)

  starts : HasFirst first file
  starts = first_in first it.contents.all 0 (drop (end + 1) file) file it.contents.has.some it.contents.has.values parts

  abbrev IsThat : List (List ℕ) → Type 0
  IsThat ys = ys ≡ it.contents.all

  reads : (n : ℕ) (ys : List (List ℕ)) → HasFrames n ys file → (n ≡ first) × IsThat ys
  reads n ys has = (
    one_first n first file (has_first n ys file has) starts,
    one_list first n it.contents.all ys 0 (drop (end + 1) file) file it.contents.has.values
        (λ e. absurd (omega (arith, e))) parts has,
  )

  -- So a crash leaves what was found,
  pub tidy_finds : (found : List ℕ) → Hold file other found → found ≡ bytes
  tidy_finds found hold =
      let here = held first file other IsThat reads (first_not_blank first file starts) other_is found hold in
      here.bytes_are ∙ ap concat here.one ∙ sym it.contents.bytes_are

  -- and it can be found again.
  pub tidy_opens : (IsTornIntoTwo next file → ⊥) → CanBeOpened file other
  tidy_opens whole =
      let has : HasFrames first it.contents.all file = record {
        some = it.contents.has.some;
        few = it.contents.has.few;
        values = it.contents.has.values;
        rest = drop (end + 1) file;
        parts = parts;
        alone = λ two. whole (record {
          front = frames first it.contents.all;
          rest = drop (end + 1) file;
          parts = parts;
          two = rw (it.contents.next_is) two;
        });
      } in
      record {
        bytes = concat it.contents.all;
        hold = inl (record {
          first = first;
          all = it.contents.all;
          has = has;
          other_is = other_is;
          bytes_are = refl;
        });
      }

-- what two files hold that are opened
pub tidied_hold : (first next end len : ℕ) (bytes a b : List ℕ)
    → IsTidied a b first next end bytes len → Hold a b bytes
tidied_hold first next end len bytes a b it = inl (record {
  first = first;
  all = it.contents.all;
  has = it.contents.has;
  other_is = elim it.either [ inl blank ↦ inl blank.0 | inr older ↦ inr older.0 ];
  bytes_are = it.contents.bytes_are;
})
