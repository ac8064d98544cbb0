-- No change of one bit goes unseen.
use Rattle.batcher_file.proofs.Words.{◌≡◌, ◌≢◌, ◌∙◌, ℕ, List, ◌∷◌, ap, arith, inl, inr, length, refl, subst, sym, length-append, xor_self, concat, bit_xor}
use Rattle.batcher_file.proofs.Words.{count_ones, IsBlank, HasFrames, IsChanged, AreCurrent, Hold, IsOneBit, NoBitIsMissed}
use Rattle.batcher_file.proofs.OneReading.{IsShut, heads, one_frame, one_reading}
use Rattle.batcher_file.proofs.SoFar.{has_first}
use Rattle.batcher_file.proofs.Turns.{not_blank, one_number, same_list}

differ : (was is : ℕ) → IsOneBit was is → was ≢ is
unfolding lib.Count.ones
differ was is one same =
    let none : count_ones (bit_xor was is) ≡ 0 =
    ap (λ n. count_ones (bit_xor was n)) (sym same) ∙ ap count_ones (xor_self was) in
    absurd (omega (arith, one, none))

-- the gates, by how many bits they differ
module _ where
  closed_open : count_ones (bit_xor 0 255) ≡ 8
  unfolding lib.Count.ones
  closed_open = refl

  open_closed : count_ones (bit_xor 255 0) ≡ 8
  unfolding lib.Count.ones
  open_closed = refl

  open_unused : count_ones (bit_xor 255 15) ≡ 4
  unfolding lib.Count.ones
  open_unused = refl

  unused_open : count_ones (bit_xor 15 255) ≡ 4
  unfolding lib.Count.ones
  unused_open = refl

-- a closed gate isn't one bit from an open one
closed : IsShut IsOneBit differ 0
closed = record {
  shut = λ e. absurd (omega (arith, e));
  not_from = λ e. absurd (omega (arith, e, closed_open));
  not_to = λ e. absurd (omega (arith, e, open_closed));
}

changed_length : (a c : List ℕ) → IsChanged IsOneBit a c → length a ≡ length c
changed_length a c it =
    omega (arith, ap length it.before, ap length it.after, length-append it.front (it.was ∷ it.back), length-append it.front (it.is ∷ it.back))

module _ (a c : List ℕ) (it : IsChanged IsOneBit a c) where
  same_frames : (m n : ℕ) (xs ys : List (List ℕ)) → HasFrames m xs a → HasFrames n ys c → xs ≡ ys
  same_frames m n xs ys x y =
      one_reading IsOneBit differ m n xs ys 0 0 x.rest y.rest x.values y.values closed closed
      (inr (rw (← x.parts, ← y.parts) it))

  same_number : (m n : ℕ) (xs ys : List (List ℕ)) → HasFrames m xs a → HasFrames n ys c → m ≡ n
  same_number m n xs ys x y =
      let f = has_first m xs a x in
      let g = has_first n ys c y in
      elim (heads IsOneBit differ 255 255 f.rest g.rest (inr (rw (← f.parts, ← g.parts) it))) [
        | inl rests ↦
            (one_frame IsOneBit differ m n f.inside g.inside f.after g.after f.framed.value.0 g.framed.value.0
            f.framed.value.1 g.framed.value.1 (rw (← f.framed.parts, ← g.framed.parts) rests.1)).0
        | inr wrong ↦ absurd (differ 255 255 wrong.0 refl)
      ]

  -- a file that has frames doesn't become a blank one
  no_blank : (m : ℕ) (xs : List (List ℕ)) → HasFrames m xs a → IsBlank c → ⊥
  no_blank m xs x (inl short) = not_blank m xs a x (inl (omega (arith, changed_length a c it, short)))
  no_blank m xs x (inr unused) =
      let f = has_first m xs a x in
      elim (heads IsOneBit differ 255 15 f.rest unused.rest (inr (rw (← f.parts, ← unused.parts) it))) [
        | inl same ↦ absurd (omega (arith, same.0))
        | inr wrong ↦ absurd (omega (arith, wrong.0, open_unused))
      ]

  blank_stays : (k : ℕ) (zs : List (List ℕ)) → HasFrames k zs c → IsBlank a → ⊥
  blank_stays k zs h (inl short) = not_blank k zs c h (inl (omega (arith, changed_length a c it, short)))
  blank_stays k zs h (inr unused) =
      let f = has_first k zs c h in
      elim (heads IsOneBit differ 15 255 unused.rest f.rest (inr (rw (← f.parts, ← unused.parts) it))) [
        | inl same ↦ absurd (omega (arith, same.0))
        | inr wrong ↦ absurd (omega (arith, wrong.0, unused_open))
      ]

  second_first : (b bytes found : List ℕ) → AreCurrent b a bytes → AreCurrent c b found → ⊥
  second_first b bytes found x y =
      elim y.other_is [
        | inl blank ↦ absurd (not_blank x.first x.all b x.has blank)
        | inr before ↦ elim x.other_is [
          | inl blank ↦ absurd (blank_stays y.first y.all y.has blank)
          | inr after ↦
              let one : before.number ≡ x.first = one_number before.number x.first before.all x.all b before.has x.has in
              let two : after.number ≡ y.first = same_number after.number y.first after.all y.all after.has y.has in
              absurd (omega (arith, one, two, before.next, after.next, before.has.some, after.has.some))
        ]
      ]

  -- the first of two files has changed
  first_changed : (b bytes found : List ℕ) → Hold a b bytes → Hold c b found → found ≡ bytes
  first_changed b bytes found (inl x) (inl y) =
      y.bytes_are ∙ ap concat (sym (same_frames x.first y.first x.all y.all x.has y.has)) ∙ sym x.bytes_are
  first_changed b bytes found (inr x) (inr y) =
      y.bytes_are ∙ ap concat (same_list x.first y.first x.all y.all b x.has y.has) ∙ sym x.bytes_are
  first_changed b bytes found (inl x) (inr y) =
      elim y.other_is [
        | inl blank ↦ absurd (no_blank x.first x.all x.has blank)
        | inr after ↦ elim x.other_is [
          | inl blank ↦ absurd (not_blank y.first y.all b y.has blank)
          | inr before ↦
              let one : before.number ≡ y.first = one_number before.number y.first before.all y.all b before.has y.has in
              let two : x.first ≡ after.number = same_number x.first after.number x.all after.all x.has after.has in
              absurd (omega (arith, one, two, before.next, after.next, before.has.some, after.has.some))
        ]
      ]
  first_changed b bytes found (inr x) (inl y) = absurd (second_first b bytes found x y)

swapped : (a b bytes : List ℕ) → Hold a b bytes → Hold b a bytes
swapped a b bytes (inl it) = inr it
swapped a b bytes (inr it) = inl it

pub no_bit_is_missed : NoBitIsMissed
no_bit_is_missed a b c d bytes found (inl rot) hold now =
    first_changed a c rot.0 b bytes found hold (subst (λ f. Hold c f found) (sym rot.1) now)
no_bit_is_missed a b c d bytes found (inr rot) hold now =
    first_changed b d rot.1 a bytes found (swapped a b bytes hold)
    (swapped a d found (subst (λ f. Hold f d found) (sym rot.0) now))
