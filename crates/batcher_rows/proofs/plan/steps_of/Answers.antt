use Rattle.batcher_rows.proofs.Words.{◌≡◌, ◌∙◌, ℕ, List, length, range_with_len, IsPermutation, length_permutation, length-range_with_len}
use Rattle.batcher_rows.proofs.plan.steps_of.Goals as goal

as_many : (n : ℕ) (xs : List ℕ) → IsPermutation (range_with_len 0 n) xs → length xs ≡ n
as_many n xs h = length_permutation (range_with_len 0 n) xs h ∙ length-range_with_len 0 n

pub add_kind-requires-clause-signers : goal.add_kind-requires-clause-signers
add_kind-requires-clause-signers g c =
    rw c.as_slice.ensures.value (as_many c.args.row.now.participants c.in_ok-signers.signers.items c.in_ok-signers.ensures)

pub add_kind-requires-2-clause-signers : goal.add_kind-requires-2-clause-signers
add_kind-requires-2-clause-signers g c =
    rw c.as_slice-2.ensures.value (as_many c.args.row.now.participants c.in_ok-signers.signers.items c.in_ok-signers.ensures)
