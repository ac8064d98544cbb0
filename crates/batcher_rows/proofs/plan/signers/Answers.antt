use Rattle.batcher_rows.proofs.Words.{◌≡◌, ◌+◌, ◌++◌, ◌∷◌, [], ℕ, zero, suc, ap, sym, arith, add-zero, add-one, range_with_len}
use Rattle.batcher_rows.proofs.plan.signers.Goals as goal

range_more : (a n : ℕ) → range_with_len a (suc n) ≡ range_with_len a n ++ (a + n) ∷ []
range_more a zero = rw add-zero
range_more a (suc n) =
    let next : a + 1 + n ≡ a + suc n = omega arith in
    ap (λ xs. a ∷ xs) (rw next at (range_more (a + 1) n))

pub loop-signer-preserved : goal.loop-signer-preserved
loop-signer-preserved c =
    let here : 0 + c.loop-signer.signer ≡ c.loop-signer.signer = omega arith in
    rw (c.in_ok-push.ensures.items, c.loop-signer.invariant, add-one) (sym (rw here at (range_more 0 c.loop-signer.signer)))
