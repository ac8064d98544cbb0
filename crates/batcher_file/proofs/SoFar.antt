-- Frames that are read one after the other, as a loop does.
use Rattle.batcher_file.proofs.Words.{◌≡◌, ◌+◌, ◌-◌, ◌^◌, ◌<◌, ◌≤◌, ◌++◌, ◌∙◌, ℕ, List, [], ◌∷◌, Result, Err, ap, append_assoc, arith, inl, inr, length, refl}
use Rattle.batcher_file.proofs.Words.{subst, sym, append-nil, length-append, length_push, concat, AreFrames, AreTwoFrames, HasFrames, IsFrame, IsReadTo, frame}
use Rattle.batcher_file.proofs.Words.{frame_format, frames, Contents, Unreadable, IsClosed, IsOpenGate}
use Rattle.batcher_file.specs.declared.contents.Unreadable.TheVariants.{Damaged}
use Rattle.batcher_file.proofs.OneReading.{one_frame}

pub frames_push : (number : ℕ) (all : List (List ℕ)) (bytes : List ℕ)
    → frames number (all ++ bytes ∷ [])
    ≡ frames number all ++ 255 ∷ frame (number + length all) bytes
frames_push number [] bytes =
    ap (λ t. 255 ∷ t) (append-nil (frame number bytes))
    ∙ ap (λ n. 255 ∷ frame n bytes) (omega arith)
frames_push number (x ∷ all) bytes =
    let more : frames (number + 1) (all ++ bytes ∷ []) ≡ frames (number + 1) all ++ 255 ∷ frame (number + 1 + length all) bytes =
    frames_push (number + 1) all bytes in
    let count : number + 1 + length all ≡ number + length (x ∷ all) = omega arith in
    ap (λ t. 255 ∷ (frame number x ++ t)) (more ∙ ap (λ n. frames (number + 1) all ++ 255 ∷ frame n bytes) count)
    ∙ ap (λ t. 255 ∷ t) (sym (append_assoc (frame number x) (frames (number + 1) all) (255 ∷ frame (number + length (x ∷ all)) bytes)))

pub values_push : (number : ℕ) (all : List (List ℕ)) (bytes : List ℕ) → AreFrames number all
    → frame_format.IsValue (number + length all, bytes) → AreFrames number (all ++ bytes ∷ [])
values_push number [] bytes values value =
    (subst (λ n. frame_format.IsValue (n, bytes)) (omega arith) value, tt)
values_push number (x ∷ all) bytes values value =
    let count : number + length (x ∷ all) ≡ number + 1 + length all = omega arith in
    (values.0, values_push (number + 1) all bytes values.1 (subst (λ n. frame_format.IsValue (n, bytes)) count value))

pub concat_push : (all : List (List ℕ)) (bytes : List ℕ)
    → concat (all ++ bytes ∷ []) ≡ concat all ++ bytes
concat_push [] bytes = append-nil bytes
concat_push (x ∷ all) bytes =
    ap (λ t. x ++ t) (concat_push all bytes) ∙ sym (append_assoc x (concat all) bytes)

-- the frames that were read so far, and what is left
pub record IsSoFar (file : List ℕ) (first next : ℕ) (bytes left : List ℕ) : Type 0 where
  pub all : List (List ℕ)
  pub values : AreFrames first all
  pub parts : file ≡ frames first all ++ left
  pub next_is : next ≡ first + length all
  pub bytes_are : bytes ≡ concat all

module _ (file : List ℕ) (first next : ℕ) (bytes left : List ℕ) (so_far : IsSoFar file first next bytes left) where
  pub one_more : (inside after more : List ℕ) → IsOpenGate next left inside after
      → more ≡ bytes ++ inside
      → IsSoFar file first (next + 1) more after
  one_more inside after more gate is =
      let framed : IsFrame (first + length so_far.all) inside after gate.rest =
      subst (λ n. IsFrame n inside after gate.rest) so_far.next_is gate.framed in
      record {
        all = so_far.all ++ inside ∷ [];
        values = values_push first so_far.all inside so_far.values framed.value;
        parts = so_far.parts ∙ ap (λ t. frames first so_far.all ++ t) (gate.parts ∙ ap (λ t. 255 ∷ t) framed.parts)
            ∙ sym (append_assoc (frames first so_far.all) (255 ∷ frame (first + length so_far.all) inside) after)
            ∙ ap (λ t. t ++ after) (sym (frames_push first so_far.all inside));
        next_is = omega (arith, so_far.next_is, length_push so_far.all inside);
        bytes_are = is ∙ ap (λ t. t ++ inside) so_far.bytes_are ∙ sym (concat_push so_far.all inside);
      }

  pub read_to : (end at : ℕ) → end ≡ length file - length left → end ≡ at
      → ((number gate : ℕ) (inside after rest : List ℕ) → file ≡ gate ∷ rest
      → IsFrame number inside after rest → first ≡ number)
      → (next < 2 ^ 63 → (inside after : List ℕ) → IsOpenGate next left inside after → ⊥)
      → IsReadTo file at
  read_to end at is same found stops = record {
    first = first;
    all = so_far.all;
    rest = left;
    values = so_far.values;
    parts = so_far.parts;
    end = omega (
      arith,
      is,
      same,
      ap length so_far.parts,
      length-append (frames first so_far.all) left,
    );
    starts = λ number inside after more. found number 255 inside after more;
    stops = λ few inside after more parts framed.
        stops (omega (arith, few, so_far.next_is)) inside after (record {
          rest = more;
          parts = parts;
          framed = subst (λ n. IsFrame n inside after more) (sym so_far.next_is) framed;
        });
  }

-- a list that goes on
record GoesOn (number : ℕ) (xs ys : List (List ℕ)) (left tail : List ℕ) : Type 0 where
  more : List (List ℕ)
  all : ys ≡ xs ++ more
  values : AreFrames (number + length xs) more
  parts : left ≡ frames (number + length xs) more ++ tail

abbrev Never : ℕ → ℕ → Type 0
Never was is = ⊥

goes_on : (number : ℕ) (xs ys : List (List ℕ)) (left tail : List ℕ) → AreFrames number xs
    → AreFrames number ys → frames number xs ++ left ≡ frames number ys ++ 0 ∷ tail
    → GoesOn number xs ys left (0 ∷ tail)
goes_on number [] ys left tail vx vy same =
    let count : number ≡ number + 0 = omega arith in
    record {
      more = ys;
      all = refl;
      values = subst (λ n. AreFrames n ys) count vy;
      parts = same ∙ ap (λ n. frames n ys ++ 0 ∷ tail) count;
    }
goes_on number (x ∷ xs) [] left tail vx vy same = absurd (wrong (frame number x ++ frames (number + 1) xs ++ left) tail same)
  where
    wrong : (a b : List ℕ) → 255 ∷ a ≡ 0 ∷ b → ⊥
    wrong a b e = absurd cc
goes_on number (x ∷ xs) (y ∷ ys) left tail vx vy same =
    let behind : (frame number x ++ frames (number + 1) xs) ++ left ≡ (frame number y ++ frames (number + 1) ys) ++ 0 ∷ tail = cc in
    let grouped : frame number x ++ (frames (number + 1) xs ++ left) ≡ frame number y ++ (frames (number + 1) ys ++ 0 ∷ tail) =
    sym (append_assoc (frame number x) (frames (number + 1) xs) left) ∙ behind
    ∙ append_assoc (frame number y) (frames (number + 1) ys) (0 ∷ tail) in
    let here = one_frame Never (λ was is never. absurd never) number number x y _ _ vx.0.0 vy.0.0 vx.0.1 vy.0.1 (inl grouped) in
    elim here.2 [
      | inl rest ↦
          let on = goes_on (number + 1) xs ys left tail vx.1 vy.1 rest in
          let count : number + 1 + length xs ≡ number + length (x ∷ xs) = omega arith in
          record {
            more = on.more;
            all = ap (λ z. z ∷ ys) (sym here.1) ∙ ap (λ zs. x ∷ zs) on.all;
            values = subst (λ n. AreFrames n on.more) count on.values;
            parts = on.parts ∙ ap (λ n. frames n on.more ++ 0 ∷ tail) count;
          }
      | inr it ↦ absurd it.by
    ]

-- Where the next frame isn't there, and no closed gate that ends some, the file has none that end.
module _ (file : List ℕ) (first next : ℕ) (bytes left : List ℕ) (so_far : IsSoFar file first next bytes left)
    (number : ℕ) (all : List (List ℕ)) (has : HasFrames number all file) (same : first ≡ number) where
  on : GoesOn first so_far.all all left (0 ∷ has.rest)
  on = goes_on first so_far.all all left has.rest so_far.values
      (subst (λ n. AreFrames n all) (sym same) has.values)
      (sym so_far.parts ∙ has.parts ∙ ap (λ n. frames n all ++ 0 ∷ has.rest) (sym same))

  pub too_many : 2 ^ 63 ≤ next → ⊥
  too_many most =
      absurd (omega (arith, so_far.next_is, has.few, same, ap length on.all, length-append so_far.all on.more))

  pub neither : ((inside after : List ℕ) → IsOpenGate next left inside after → ⊥)
      → (IsClosed next left → next ≡ first) → ⊥
  neither not_open not_closed = of_more on.more on.all on.values on.parts
    where
      of_more : (more : List (List ℕ)) → all ≡ so_far.all ++ more
          → AreFrames (first + length so_far.all) more
          → left ≡ frames (first + length so_far.all) more ++ 0 ∷ has.rest → ⊥
      of_more [] is values parts =
          let count : length so_far.all ≡ length all =
          omega (arith, ap length is, length-append so_far.all []) in
          let due : number + length all ≡ next = omega (arith, so_far.next_is, same) in
          let start : next ≡ first = not_closed (record {
            rest = has.rest;
            parts = parts;
            alone = subst (λ n. AreTwoFrames n has.rest → ⊥) due has.alone;
          }) in
          absurd (omega (arith, so_far.next_is, has.some))
      of_more (x ∷ more) is values parts =
          let rest = frames (first + length so_far.all + 1) more ++ 0 ∷ has.rest in
          not_open x rest (record {
            rest = frame (first + length so_far.all) x ++ rest;
            parts = parts ∙ ap (λ t. 255 ∷ t) (append_assoc (frame (first + length so_far.all) x) (frames (first + length so_far.all + 1) more) (0 ∷ has.rest));
            framed = subst (λ n. IsFrame n x rest (frame (first + length so_far.all) x ++ rest)) (sym so_far.next_is)
                (record { value = values.0; parts = refl });
          })

-- the first frame of a file that has some
pub record HasFirst (number : ℕ) (file : List ℕ) : Type 0 where
  pub inside : List ℕ
  pub after : List ℕ
  pub rest : List ℕ
  pub parts : file ≡ 255 ∷ rest
  pub framed : IsFrame number inside after rest

pub first_in : (number : ℕ) (all : List (List ℕ)) (gate : ℕ) (rest file : List ℕ) → 0 < length all
    → AreFrames number all → file ≡ frames number all ++ gate ∷ rest → HasFirst number file
first_in number [] gate rest file some values parts = absurd (omega (arith, some))
first_in number (x ∷ all) gate rest file some values parts =
    let after = frames (number + 1) all ++ gate ∷ rest in
    record {
      inside = x;
      after = after;
      rest = frame number x ++ after;
      parts = parts ∙ ap (λ t. 255 ∷ t) (append_assoc (frame number x) (frames (number + 1) all) (gate ∷ rest));
      framed = record { value = values.0; parts = refl };
    }

pub has_first : (number : ℕ) (all : List (List ℕ)) (file : List ℕ) → HasFrames number all file
    → HasFirst number file
has_first number all file has = first_in number all 0 has.rest file has.some has.values has.parts

-- So a file that is refused has no frames that end.
module _ (file : List ℕ) (first next : ℕ) (bytes left : List ℕ) (so_far : IsSoFar file first next bytes left)
    (found : (number gate : ℕ) (inside after rest : List ℕ) → file ≡ gate ∷ rest → IsFrame number inside after rest → first ≡ number)
    (number : ℕ) (all : List (List ℕ)) (has : HasFrames number all file) where
  same_first : first ≡ number
  same_first =
      let it = has_first number all file has in
      found number 255 it.inside it.after it.rest it.parts it.framed

  pub not_too_many : 2 ^ 63 ≤ next → ⊥
  not_too_many = too_many file first next bytes left so_far number all has same_first

  pub not_damaged : ((inside after : List ℕ) → IsOpenGate next left inside after → ⊥)
      × (IsClosed next left → ⊥) → ⊥
  not_damaged none = neither file first next bytes left so_far number all has same_first none.0 (λ is. absurd (none.1 is))

  pub not_empty : IsClosed next left → next ≡ first → ⊥
  not_empty closed start =
      neither file first next bytes left so_far number all has same_first
      (λ inside after is. shut (is.rest) closed.rest (sym is.parts ∙ closed.parts)) (λ is. start)
    where
      shut : (a b : List ℕ) → 255 ∷ a ≡ 0 ∷ b → ⊥
      shut a b e = absurd cc

-- a gate that is closed isn't open
pub closed_not_open : (next : ℕ) (left inside after : List ℕ) → IsClosed next left
    → IsOpenGate next left inside after → ⊥
closed_not_open next left inside after closed is = gates is.rest closed.rest (sym is.parts ∙ closed.parts)
  where
    gates : (a b : List ℕ) → 255 ∷ a ≡ 0 ∷ b → ⊥
    gates a b e = absurd cc

-- what a reader answers of damage has one place
abbrev damaged : ℕ → Result Contents Unreadable
damaged at = Err (Damaged at)

pub same_place : (m n : ℕ) → damaged m ≡ damaged n → m ≡ n
same_place m n e = cc
