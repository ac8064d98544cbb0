-- A file of which one bit has changed.
use Rattle.std.specs.Prelude.{◌≡◌, ◌⊎◌, ℕ, List, bit_xor, count_ones}
use Rattle.batcher_file.specs.Near.{IsChanged}
use Rattle.batcher_file.specs.Pairs.{Hold}

-- two bytes that differ in one bit
abbrev pub IsOneBit : ℕ → ℕ → Type 0
IsOneBit was is = count_ones (bit_xor was is) ≡ 1

-- one bit of one of the two files has changed
abbrev pub IsRotten : List ℕ → List ℕ → List ℕ → List ℕ → Type 0
IsRotten a b c d =
    (IsChanged IsOneBit a c × (b ≡ d)) ⊎ ((a ≡ c) × IsChanged IsOneBit b d)

-- Two files of which one bit has changed hold the same bytes, if they hold any.
abbrev pub NoBitIsMissed : Type 0
NoBitIsMissed = (a b c d bytes found : List ℕ) → IsRotten a b c d → Hold a b bytes
    → Hold c d found → found ≡ bytes
