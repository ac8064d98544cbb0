-- Reading values one after the other, as a loop does.
use Rattle.batcher_bytes.proofs.Words.{◌≡◌, ◌-◌, ◌+◌, ◌≤◌, ◌<◌, ◌++◌, ◌∙◌, ℕ, suc, List, [], ◌∷◌, Result, Ok, Err, ap, append_assoc, arith, refl, sym}
use Rattle.batcher_bytes.proofs.Words.{append-nil, DecodeFault, ◌>>=◌, Format}
use Rattle.batcher_bytes.specs.Lists.{items_at}

module _ {A : Type 0} (f : Format A) where
  abbrev Items : Type 0
  Items = Result (List A × List ℕ) DecodeFault

  -- what was read before, and what is still read
  abbrev pub with_front : List A → Items → Items
  with_front front read = read >>= λ x. Ok (front ++ x.0, x.1)

  regroup : (front : List A) (n : A) (read : Items)
      → with_front front (read >>= λ x. Ok (n ∷ x.0, x.1)) ≡ with_front (front ++ n ∷ []) read
  regroup front n (Ok x) = ap (λ (ns : List A). Ok (ns, x.1)) (simp append_assoc)
  regroup front n (Err e) = refl

  pub goes_on : (front : List A) (count i : ℕ) (bytes : List ℕ) (n : A) (after : List ℕ)
      (total : Items) → i < count → f.decoding bytes ≡ Ok (n, after)
      → with_front front (items_at f (count - i) bytes) ≡ total
      → with_front (front ++ n ∷ []) (items_at f (count - (i + 1)) after) ≡ total
  unfolding items_at
  goes_on front count i bytes n after total lt h so_far =
      let k : count - i ≡ suc (count - (i + 1)) = omega arith in
      let left = items_at f (count - (i + 1)) after in
      let one : with_front front (items_at f (count - i) bytes)
      ≡ with_front (front ++ n ∷ []) left =
      rw (k, h) (regroup front n left) in
      sym one ∙ so_far

  pub ends : (e : DecodeFault) (front : List A) (count i : ℕ) (bytes : List ℕ) (total : Items)
      → i < count → f.decoding bytes ≡ Err e
      → with_front front (items_at f (count - i) bytes) ≡ total → total ≡ Err e
  unfolding items_at
  ends e front count i bytes total lt h so_far =
      let k : count - i ≡ suc (count - (i + 1)) = omega arith in
      let one : with_front front (items_at f (count - i) bytes) ≡ Err e = rw (k, h) refl in
      sym so_far ∙ one

  pub is_done : (front : List A) (count i : ℕ) (bytes : List ℕ) (total : Items) → count ≤ i
      → with_front front (items_at f (count - i) bytes) ≡ total → total ≡ Ok (front, bytes)
  unfolding items_at
  is_done front count i bytes total le so_far =
      let k : count - i ≡ 0 = omega arith in
      let one : with_front front (items_at f (count - i) bytes) ≡ Ok (front, bytes) =
      rw k (ap (λ (ns : List A). Ok (ns, bytes)) (append-nil front)) in
      sym so_far ∙ one
