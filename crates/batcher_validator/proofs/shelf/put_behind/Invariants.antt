use Rattle.batcher_validator.proofs.Words.{◌≡◌, ◌≤◌, ℕ, get_or, length, IsPermutation, AreParted, Certificate, is_again_above, kind_and_round}
use Rattle.batcher_validator.proofs.shelf.put_behind.Given as goal

abbrev pub invariant-loop-i : goal.invariant-loop-i
invariant-loop-i g l = record {
  moves : IsPermutation l.fn.certificates.items l.certificates.items;
  long : length l.certificates.items ≡ length l.fn.certificates.items;
  behind :
      (i : ℕ) (c : Certificate _ _) → l.fn.end ≤ i
      → get_or l.certificates.items i c ≡ get_or l.fn.certificates.items i c;
  parted :
      AreParted (λ c. is_again_above l.fn.window l.fn.below (kind_and_round c))
      l.certificates.items l.i l.stay;
}
