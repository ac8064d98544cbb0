-- Texts of bytes: each is the same as itself, and none is the same with a bit of its first byte
-- flipped.
use Rattle.batcher_reader.proofs.Words.{◌≡◌, ℕ, true, List, [], ◌∷◌, refl, eq-eqb, same_bytes}

pub same_itself : (xs : List ℕ) → same_bytes xs xs ≡ true
same_itself [] = refl
same_itself (x ∷ xs) = rw (eq-eqb x x refl, same_itself xs) refl
