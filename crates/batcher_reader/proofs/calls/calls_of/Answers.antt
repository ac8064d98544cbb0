use Rattle.batcher_reader.proofs.Words.{◌<◌, ℕ, zero, suc, List, [], ◌∷◌, ◌++◌, length, get_or, take, arith, add-one, ◌≡◌, ◌∙◌, ◌+◌, ap, refl, length-append}
use Rattle.batcher_reader.proofs.Words.{common_steps, AllZip, All-push, MayCall, IsCallOf}
use Rattle.batcher_reader.proofs.calls.calls_of.Goals as goal

zip_more : {A B : Type 0} (R : A → B → Type 0) (xs : List A) (ys : List B) (i : ℕ) (x : A) (y : B)
    → i < length xs → AllZip R (take i xs) ys → R (get_or xs i x) y
    → AllZip R (take (suc i) xs) (ys ++ y ∷ [])
zip_more R [] ys i x y below each here = absurd (omega arith)
zip_more R (a ∷ xs) [] zero x y below each here = (here, tt)
zip_more R (a ∷ xs) (b ∷ ys) zero x y below each here = absurd each
zip_more R (a ∷ xs) [] (suc i) x y below each here = absurd each
zip_more R (a ∷ xs) (b ∷ ys) (suc i) x y below each here = (each.0, zip_more R xs ys i x y (omega arith) each.1 here)

pub loop-command-init : goal.loop-command-init
loop-command-init g c = record {
  may = rw c.in_ok-calls.ensures.items (λ k d below. absurd (omega arith));
  each = rw c.in_ok-calls.ensures.items tt;
  told = rw c.in_ok-calls.ensures.items refl;
  room = c.in_ok-calls.ensures.capacity;
}

pub loop-command-preserved : goal.loop-command-preserved
loop-command-preserved g c =
    let pushed = c.push_reserved.ensures.items in
    let inv = c.loop-command.invariant in
    let items = c.loop-command.calls.items in
    record {
      may = rw pushed (All-push (MayCall (g.S.Scheme.meaning c.args.scheme.now) c.args.round) items _ inv.may c.in_ok-call.ensures.may);
      each =
          rw (pushed, add-one) (zip_more (IsCallOf (g.S.Scheme.meaning c.args.scheme.now) c.args.round) c.args.commands.now items c.loop-command.command-index
          _ _ c.loop-command-test.true inv.each c.in_ok-call.ensures.each);
      told = ap length pushed ∙ length-append items (_ ∷ []) ∙ ap (λ n. n + 1) inv.told;
      room = rw c.push_reserved.ensures.capacity inv.room;
    }

pub returns-clause-each : goal.returns-clause-each
returns-clause-each g c =
    let all : take c.loop-command.command-index c.args.commands.now ≡ c.args.commands.now = grind (arith, common_steps) in
    rw all at c.loop-command.invariant.each
