-- A file is read in one way at most, also where one bit of it has changed.
use Rattle.batcher_file.proofs.Words.{◌≡◌, ◌≢◌, ◌⊎◌, ◌+◌, ◌^◌, ◌<◌, ◌++◌, ◌∙◌, ℕ, List, [], ◌∷◌, ap, append_assoc, inl, inr, length, refl, sym, length-append}
use Rattle.batcher_file.proofs.Words.{w64, number_bytes, sealed, AreFrames, frame, frames, header, IsNear}
use Rattle.batcher_file.proofs.Distance.{near_parts, number_len, parts_same, same_number, sealed_apart}

pub header_len : (number count : ℕ) → length (header number count) ≡ 16
header_len number count =
    length-append (number_bytes w64 number) (number_bytes w64 count)
    ∙ rw (number_len number, number_len count) refl

-- a header has one number and one count
pub one_header : (m n j k : ℕ) → m < 2 ^ 64 → n < 2 ^ 64 → j < 2 ^ 64 → k < 2 ^ 64
    → header m j ≡ header n k → (m ≡ n) × (j ≡ k)
one_header m n j k m_lt n_lt j_lt k_lt same =
    let p = parts_same (number_bytes w64 m) (number_bytes w64 j) (number_bytes w64 n) (number_bytes w64 k)
    (number_len m ∙ sym (number_len n)) same in
    (same_number m n m_lt n_lt p.0, same_number j k j_lt k_lt p.1)

-- the bytes from a frame on, by their parts
pub frame_first : (number : ℕ) (bytes rest : List ℕ)
    → frame number bytes ++ rest ≡ sealed (header number (length bytes)) ++ (sealed bytes ++ rest)
frame_first number bytes rest = append_assoc (sealed (header number (length bytes))) (sealed bytes) rest

module _ (By : ℕ → ℕ → Type 0) (differ : (was is : ℕ) → By was is → was ≢ is) where
  pub heads : (x y : ℕ) (a b : List ℕ) → IsNear By (x ∷ a) (y ∷ b)
      → ((x ≡ y) × IsNear By a b) ⊎ (By x y × (a ≡ b))
  heads x y a b near =
      elim (near_parts By (x ∷ []) a (y ∷ []) b refl near) [
        | inl it ↦ inl (cc, it.1)
        | inr it ↦ inr (one it.0.front it.0.back it.0.was it.0.is it.0.before it.0.after it.0.by, it.1)
      ]
    where
      one : (front back : List ℕ) (was is : ℕ) → x ∷ [] ≡ front ++ was ∷ back
          → y ∷ [] ≡ front ++ is ∷ back → By was is → By x y
      one [] back was is before after by =
          let first : x ≡ was = cc in
          let second : y ≡ is = cc in
          rw (first, second) by
      one (z ∷ []) back was is before after by = absurd cc
      one (z ∷ w ∷ front) back was is before after by = absurd cc

  -- Frames that are near each other are one, and so is what follows them.
  pub one_frame : (m n : ℕ) (x y r s : List ℕ) → m < 2 ^ 64 → n < 2 ^ 64 → length x < 2 ^ 64
      → length y < 2 ^ 64 → IsNear By (frame m x ++ r) (frame n y ++ s) → (m ≡ n) × (x ≡ y)
      × IsNear By r s
  one_frame m n x y r s m_lt n_lt x_lt y_lt near =
      let head_x : List ℕ = header m (length x) in
      let head_y : List ℕ = header n (length y) in
      let first = sealed_apart By differ head_x head_y (sealed x ++ r) (sealed y ++ s)
      (header_len m (length x) ∙ sym (header_len n (length y)))
      (rw (← frame_first m x r, ← frame_first n y s) near) in
      let numbers = one_header m n (length x) (length y) m_lt n_lt x_lt y_lt first.0 in
      let second = sealed_apart By differ x y r s numbers.1 first.1 in
      (numbers.0, second.0, second.1)

  -- a gate that isn't open, and isn't near one that is
  pub record IsShut (gate : ℕ) : Type 0 where
    pub shut : gate ≢ 255
    pub not_from : By gate 255 → ⊥
    pub not_to : By 255 gate → ⊥

  pub one_reading : (m n : ℕ) (xs ys : List (List ℕ)) (g h : ℕ) (s t : List ℕ) → AreFrames m xs
      → AreFrames n ys → IsShut g → IsShut h
      → IsNear By (frames m xs ++ g ∷ s) (frames n ys ++ h ∷ t)
      → xs ≡ ys
  one_reading m n [] [] g h s t vx vy gs hs near = refl
  one_reading m n [] (y ∷ ys) g h s t vx vy gs hs near =
      elim (heads _ _ _ _ near) [
        | inl it ↦ absurd (gs.shut it.0)
        | inr it ↦ absurd (gs.not_from it.0)
      ]
  one_reading m n (x ∷ xs) [] g h s t vx vy gs hs near =
      elim (heads _ _ _ _ near) [
        | inl it ↦ absurd (hs.shut (sym it.0))
        | inr it ↦ absurd (hs.not_to it.0)
      ]
  one_reading m n (x ∷ xs) (y ∷ ys) g h s t vx vy gs hs near =
      let more_x : List ℕ = frames (m + 1) xs in
      let more_y : List ℕ = frames (n + 1) ys in
      let from_x : (frame m x ++ more_x) ++ g ∷ s ≡ frame m x ++ (more_x ++ g ∷ s) = append_assoc (frame m x) more_x (g ∷ s) in
      let from_y : (frame n y ++ more_y) ++ h ∷ t ≡ frame n y ++ (more_y ++ h ∷ t) = append_assoc (frame n y) more_y (h ∷ t) in
      elim (heads _ _ _ _ near) [
        | inr it ↦ absurd (differ 255 255 it.0 refl)
        | inl it ↦
            let here = one_frame m n x y (more_x ++ g ∷ s) (more_y ++ h ∷ t) vx.0.0 vy.0.0 vx.0.1 vy.0.1
            (rw (← from_x, ← from_y) it.1) in
            let rest = one_reading (m + 1) (n + 1) xs ys g h s t vx.1 vy.1 gs hs here.2 in
            ap (λ z. z ∷ xs) here.1 ∙ ap (λ zs. y ∷ zs) rest
      ]
