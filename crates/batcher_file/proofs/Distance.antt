-- What has a checksum behind it is far from all else that has: one byte isn't enough.
use Rattle.batcher_file.proofs.Words.{◌≡◌, ◌≢◌, ◌⊎◌, ◌^◌, ◌<◌, ◌++◌, ◌∙◌, ℕ, List, [], ◌∷◌, ap, append_assoc, arith, drop, inl, inr, length, refl, subst, sym}
use Rattle.batcher_file.proofs.Words.{take, cases_lt, append_cancel_left, drop_at, get_or_append_left, get_or_past, length-append, take_at, w64, AreBytes-rest}
use Rattle.batcher_file.proofs.Words.{exact_is_prefix_free, u64_is_exact, AreBytes, u64_format, checksum, sealed, IsChanged, IsNear}
use Rattle.batcher_bytes.specs.Format.{number_bytes}
use Rattle.batcher_file.proofs.Sums.{checksum_below, no_other}

-- two lists that begin with as many values
pub parts_same : (a b c d : List ℕ) → length a ≡ length c → a ++ b ≡ c ++ d → (a ≡ c) × (b ≡ d)
parts_same a b c d len same = (
  sym (take_at a b (length a) refl) ∙ ap (take (length a)) same ∙ take_at c d (length a) (sym len),
  sym (drop_at a b (length a) refl) ∙ ap (drop (length a)) same ∙ drop_at c d (length a) (sym len),
)

-- Where the front of a list ends, by another front of it.
pub record IsWithin (a b front back : List ℕ) (x : ℕ) : Type 0 where
  pub more : List ℕ
  pub first : a ≡ front ++ x ∷ more
  pub rest : back ≡ more ++ b

pub record IsBehind (a b front back : List ℕ) (x : ℕ) : Type 0 where
  pub more : List ℕ
  pub first : front ≡ a ++ more
  pub rest : b ≡ more ++ x ∷ back

pub where_is : (a b front back : List ℕ) (x : ℕ) → a ++ b ≡ front ++ x ∷ back
    → IsWithin a b front back x ⊎ IsBehind a b front back x
where_is [] b front back x same = inr (record { more = front; first = refl; rest = same })
where_is (y ∷ a) b [] back x same = inl (record {
  more = a;
  first = cc;
  rest = cc;
})
where_is (y ∷ a) b (z ∷ front) back x same =
    let heads : y ≡ z = cc in
    let tails : a ++ b ≡ front ++ x ∷ back = cc in
    elim (where_is a b front back x tails) [
      | inl it ↦ inl (record { more = it.more; first = ap (λ t. y ∷ t) it.first ∙ ap (λ w. w ∷ (front ++ x ∷ it.more)) heads; rest = it.rest })
      | inr it ↦ inr (record { more = it.more; first = ap (λ t. z ∷ t) it.first ∙ ap (λ w. w ∷ (a ++ it.more)) (sym heads); rest = it.rest })
    ]

bytes_before : (a b : List ℕ) → AreBytes (a ++ b) → AreBytes a
bytes_before a b are i =
    elim (cases_lt i (length a)) [
      | inl lt ↦ subst (λ (n : ℕ). n < 256) (get_or_append_left a b 0 i lt) (are i)
      | inr le ↦ rw (get_or_past a i 0 le) (omega arith)
    ]

pub number_len : (n : ℕ) → length (number_bytes w64 n) ≡ 8
unfolding number_bytes
number_len n = refl

pub same_number : (m n : ℕ) → m < 2 ^ 64 → n < 2 ^ 64 → number_bytes w64 m ≡ number_bytes w64 n
    → m ≡ n
same_number m n m_lt n_lt same =
    (exact_is_prefix_free u64_format u64_is_exact m n [] [] m_lt n_lt (ap (λ t. t ++ []) same)).0

module _ (By : ℕ → ℕ → Type 0) where
  pub near_parts : (a b c d : List ℕ) → length a ≡ length c → IsNear By (a ++ b) (c ++ d)
      → ((a ≡ c) × IsNear By b d) ⊎ (IsChanged By a c × (b ≡ d))
  near_parts a b c d len (inl same) =
      let p = parts_same a b c d len same in
      inl (p.0, inl p.1)
  near_parts a b c d len (inr it) =
      elim (where_is a b it.front it.back it.was it.before) [
        | inl w ↦
            let front : List ℕ = it.front ++ it.is ∷ w.more in
            let count : length front ≡ length c =
            omega (arith, length-append it.front (it.is ∷ w.more), length-append it.front (it.was ∷ w.more), ap length w.first, len) in
            let whole : front ++ b ≡ c ++ d =
            append_assoc it.front (it.is ∷ w.more) b ∙ ap (λ t. it.front ++ it.is ∷ t) (sym w.rest) ∙ sym it.after in
            let p = parts_same front b c d count whole in
            let old_bytes : AreBytes a = bytes_before a b it.old_bytes in
            let new_bytes : AreBytes c = bytes_before c d it.new_bytes in
            inr (
              record {
                front = it.front;
                was = it.was;
                is = it.is;
                back = w.more;
                before = w.first;
                after = sym p.0;
                by = it.by;
                old_bytes = old_bytes;
                new_bytes = new_bytes;
              },
              p.1,
            )
        | inr w ↦
            let behind : List ℕ = w.more ++ it.is ∷ it.back in
            let whole : a ++ behind ≡ c ++ d =
            sym (append_assoc a w.more (it.is ∷ it.back)) ∙ ap (λ t. t ++ it.is ∷ it.back) (sym w.first) ∙ sym it.after in
            let p = parts_same a behind c d len whole in
            let old_bytes : AreBytes b = AreBytes-rest (a ++ b) a b it.old_bytes refl in
            let new_bytes : AreBytes d = AreBytes-rest (c ++ d) c d it.new_bytes refl in
            inl (
              p.0,
              inr (record {
                front = w.more;
                was = it.was;
                is = it.is;
                back = it.back;
                before = w.rest;
                after = sym p.1;
                by = it.by;
                old_bytes =
                    old_bytes;
                new_bytes = new_bytes;
              }),
            )
      ]

  module _ (differ : (was is : ℕ) → By was is → was ≢ is) where
    not_itself : (a c : List ℕ) → a ≡ c → IsChanged By a c → ⊥
    not_itself a c same it =
        let both : it.front ++ it.was ∷ it.back ≡ it.front ++ it.is ∷ it.back =
        sym it.before ∙ same ∙ it.after in
        let heads : it.was ∷ it.back ≡ it.is ∷ it.back = append_cancel_left it.front _ _ both in
        differ it.was it.is it.by cc

    same_sums : (a c : List ℕ) → checksum a ≡ checksum c → IsChanged By a c → ⊥
    same_sums a c same it =
        differ it.was it.is it.by
        (no_other it.front it.back it.was it.is (subst AreBytes it.before it.old_bytes) (subst AreBytes it.after it.new_bytes)
        (ap checksum (sym it.before) ∙ same ∙ ap checksum it.after))

    -- Where at most one byte has changed, what has a checksum behind it is the same.
    pub sealed_apart : (a c r s : List ℕ) → length a ≡ length c
        → IsNear By (sealed a ++ r) (sealed c ++ s) → (a ≡ c) × IsNear By r s
    sealed_apart a c r s len near =
        let sum_a : List ℕ = number_bytes w64 (checksum a) in
        let sum_c : List ℕ = number_bytes w64 (checksum c) in
        let eight : length sum_a ≡ length sum_c = number_len (checksum a) ∙ sym (number_len (checksum c)) in
        let regrouped : IsNear By (a ++ (sum_a ++ r)) (c ++ (sum_c ++ s)) =
        rw (← append_assoc a sum_a r, ← append_assoc c sum_c s) near in
        elim (near_parts a (sum_a ++ r) c (sum_c ++ s) len regrouped) [
          | inl front ↦ elim (near_parts sum_a r sum_c s eight front.1) [
            | inl sums ↦ (front.0, sums.1)
            | inr wrong ↦ absurd (not_itself sum_a sum_c (ap (λ t. number_bytes w64 (checksum t)) front.0) wrong.0)
          ]
          | inr front ↦
              let same : checksum a ≡ checksum c =
              same_number (checksum a) (checksum c) (checksum_below a) (checksum_below c)
              (parts_same sum_a r sum_c s eight front.1).0 in
              absurd (same_sums a c same front.0)
        ]
