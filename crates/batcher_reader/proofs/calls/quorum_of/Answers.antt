use Rattle.batcher_reader.proofs.Words.{◌&&◌, nat_lt, ◌≡◌, ◌<◌, ◌≤◌, ◌+◌, ◌==◌, ◌∙◌, ◌++◌, ◌∷◌, [], ℕ, Bool, true, false, cond, All, List, length, ap, sym}
use Rattle.batcher_reader.proofs.Words.{refl, arith, length-append, nat_tests, All-head, All-tail, All-push, count, EachOnce, index_of_signer, same_bytes}
use Rattle.batcher_reader.proofs.Words.{count-append}
use Rattle.batcher_reader.proofs.Signing.{same_itself}
use Rattle.batcher_reader.proofs.calls.quorum_of.Goals as goal

module _ {X : Type 0} (number : X → ℕ) where
  none_below : (n : ℕ) (xs : List X) → All (λ x. number x < n) xs → count (λ x. number x == n) xs
      ≡ 0
  none_below n [] below = refl
  none_below n (x ∷ xs) below =
      let under = All-head (λ y. number y < n) x xs below in
      let differ : (number x == n) ≡ false = grind (arith, nat_tests) in
      rw differ (omega (arith, none_below n xs (All-tail (λ y. number y < n) x xs below)))

  one_more : (a n i : ℕ) (b : Bool) → (n == i) ≡ b → a ≤ 1 → (n ≡ i → a ≡ 0)
      → a + (cond b 1 0 + 0) ≤ 1
  one_more a n i true e le none = let zero : a ≡ 0 = none (grind (arith, nat_tests)) in omega (arith, zero)
  one_more a n i false e le none = omega (arith, le)

  once_push : (n : ℕ) (xs : List X) (x : X) → All (λ y. number y < n) xs → number x ≡ n
      → EachOnce number xs → EachOnce number (xs ++ x ∷ [])
  once_push n xs x below is once i =
      rw (count-append (λ y. number y == i) xs (x ∷ []), is)
      (one_more (count (λ y. number y == i) xs) n i (n == i) refl (once i) (λ e. ap (λ k. count (λ y. number y == k) xs) (sym e) ∙ none_below n xs below))

rising : {X : Type 0} (number : X → ℕ) (n : ℕ) (xs : List X) → All (λ x. number x < n) xs
    → All (λ x. number x < n + 1) xs
rising number n xs below = λ k d here. let lower = below k d here in omega (arith, lower)

pub loop-index-preserved : goal.loop-index-preserved
loop-index-preserved g c =
    let inv = c.loop-index.invariant in
    let items = c.loop-index.attestations.items in
    let test = c.loop-index-test.true in
    let within : c.loop-index.index < length (g.S.Scheme.meaning c.args.scheme.now).participants = omega (arith, inv.end, test) in
    let own : index_of_signer c.sign.result ≡ c.loop-index.index = ap (λ p. p.0) (c.sign.ensures.signer) ∙ c.new.ensures in
    let below : nat_lt c.new.result.0 (length (g.S.Scheme.meaning c.args.scheme.now).participants) ≡ true =
    rw c.new.ensures (grind (arith, nat_tests, within)) in
    let attested =
    c.sign.ensures.attests c.sign.result c.sign.ensures.signer
    ∙ ap (λ b. b && same_bytes c.sign.result.signature c.sign.result.signature) below
    ∙ same_itself c.sign.result.signature in
    record {
      end = inv.end;
      told = rw c.in_ok-push.ensures.items (omega (arith, length-append items (c.sign.result ∷ []), inv.told));
      attested =
          rw c.in_ok-push.ensures.items (All-push (λ a. (g.S.Scheme.meaning c.args.scheme.now).attests c.args.subject a ≡ true) items c.sign.result
          inv.attested attested);
      below =
          rw c.in_ok-push.ensures.items (All-push (λ a. index_of_signer a < c.loop-index.index + 1) items c.sign.result
          (rising index_of_signer c.loop-index.index items inv.below) (omega (arith, own)));
      once = rw c.in_ok-push.ensures.items (once_push index_of_signer c.loop-index.index items c.sign.result inv.below own inv.once);
    }
