-- A checksum finds each byte that has changed.
use Rattle.batcher_file.proofs.Words.{◌≡◌, ◌+◌, ◌*◌, ◌%◌, ◌/◌, ◌^◌, ◌<◌, ◌++◌, ◌∙◌, ℕ, suc, List, [], ◌∷◌, ap, arith, refl, sym, bit_xor, fold, bit_at}
use Rattle.batcher_file.proofs.Words.{fold-append, mod_below, mul-mod_first, xor_comm, xor_lt, bit_at_xor, same_from_bits, AreBytes-rest, AreBytes, checksum}
use Rattle.batcher_file.proofs.Words.{summed}

xor_cancel_left : (a b c : ℕ) → bit_xor a b ≡ bit_xor a c → b ≡ c
xor_cancel_left a b c same =
    same_from_bits b c (λ i.
    let both : (bit_at a i + bit_at b i) % 2 ≡ (bit_at a i + bit_at c i) % 2 =
    sym (bit_at_xor a b i) ∙ ap (λ n. bit_at n i) same ∙ bit_at_xor a c i in
    omega (arith, mod_below (a / 2 ^ i) 2 (omega arith)))

abbrev prime : ℕ
prime = 1099511628211

abbrev inverse : ℕ
inverse = 14886173955864302971

undone : (x : ℕ) → x < 2 ^ 64 → ((x * prime) % 2 ^ 64 * inverse) % 2 ^ 64 ≡ x
undone x lt = mul-mod_first (x * prime) inverse (2 ^ 64) ∙ omega arith

multiplied : (x y : ℕ) → x < 2 ^ 64 → y < 2 ^ 64
    → (x * prime) % 2 ^ 64 ≡ (y * prime) % 2 ^ 64 → x ≡ y
multiplied x y x_lt y_lt same =
    sym (undone x x_lt) ∙ ap (λ n. (n * inverse) % 2 ^ 64) same ∙ undone y y_lt

-- What a byte is, and what it is summed to, can be told from what is summed.
same_byte : (sum a b : ℕ) → sum < 2 ^ 64 → a < 256 → b < 256 → summed sum a ≡ summed sum b → a ≡ b
same_byte sum a b lt a_lt b_lt same =
    xor_cancel_left sum a b (multiplied (bit_xor sum a) (bit_xor sum b)
    (xor_lt 64 sum a lt (omega arith)) (xor_lt 64 sum b lt (omega arith)) same)

same_sum : (s t byte : ℕ) → s < 2 ^ 64 → t < 2 ^ 64 → byte < 256 → summed s byte ≡ summed t byte
    → s ≡ t
same_sum s t byte s_lt t_lt lt same =
    xor_cancel_left byte s t (xor_comm byte s ∙ multiplied (bit_xor s byte) (bit_xor t byte)
    (xor_lt 64 s byte s_lt (omega arith)) (xor_lt 64 t byte t_lt (omega arith)) same ∙ xor_comm t byte)

sum_below : (sum byte : ℕ) → summed sum byte < 2 ^ 64
sum_below sum byte = mod_below (bit_xor sum byte * prime) (2 ^ 64) (omega arith)

fold_below : (sum : ℕ) (bytes : List ℕ) → sum < 2 ^ 64 → fold summed sum bytes < 2 ^ 64
fold_below sum [] lt = lt
fold_below sum (byte ∷ bytes) lt = fold_below (summed sum byte) bytes (sum_below sum byte)

pub checksum_below : (bytes : List ℕ) → checksum bytes < 2 ^ 64
checksum_below bytes = fold_below 14695981039346656037 bytes (omega arith)

same_start : (s t : ℕ) (bytes : List ℕ) → s < 2 ^ 64 → t < 2 ^ 64 → AreBytes bytes
    → fold summed s bytes ≡ fold summed t bytes → s ≡ t
same_start s t [] s_lt t_lt are same = same
same_start s t (byte ∷ bytes) s_lt t_lt are same =
    same_sum s t byte s_lt t_lt (are 0)
    (same_start (summed s byte) (summed t byte) bytes (sum_below s byte) (sum_below t byte)
    (λ i. are (suc i)) same)

-- Where one byte has changed, so has the checksum.
pub no_other : (front back : List ℕ) (was is : ℕ) → AreBytes (front ++ was ∷ back)
    → AreBytes (front ++ is ∷ back)
    → checksum (front ++ was ∷ back) ≡ checksum (front ++ is ∷ back) → was ≡ is
no_other front back was is old new same =
    let start : ℕ = fold summed 14695981039346656037 front in
    let below : start < 2 ^ 64 = checksum_below front in
    let was_bytes = AreBytes-rest _ front (was ∷ back) old refl in
    let is_bytes = AreBytes-rest _ front (is ∷ back) new refl in
    same_byte start was is below (was_bytes 0) (is_bytes 0)
    (same_start (summed start was) (summed start is) back (sum_below start was) (sum_below start is)
    (λ i. was_bytes (suc i))
    (sym (fold-append summed 14695981039346656037 front (was ∷ back)) ∙ same
    ∙ fold-append summed 14695981039346656037 front (is ∷ back)))
