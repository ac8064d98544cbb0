use Rattle.batcher_verdicts.proofs.Words.{◌≡◌, ◌++◌, ◌∙◌, List, length, take, drop, sym, ap, take-append_seam, take-append-drop}
use Rattle.batcher_verdicts.proofs.recorded.begins.Goals as goal

begun : {X : Type 0} (list whole : List X) → take (length list) whole ≡ list
    → (rest : List X) × (whole ≡ list ++ rest)
begun list whole is = (
  drop (length list) whole,
  sym (take-append-drop (length list) whole) ∙ ap (λ l. l ++ drop (length list) whole) is,
)

taken : {X : Type 0} (list whole rest : List X) → whole ≡ list ++ rest
    → list ≡ take (length list) whole
taken list whole rest is =
    sym (take-append_seam list rest) ∙ ap (take (length list)) (sym is)

pub returns-then-list-whole : goal.returns-then-list-whole
returns-then-list-whole g c = (
  λ yes. begun c.args.list.now c.args.whole.now (sym (c.are_identical.ensures.0 yes)),
  λ r. c.are_identical.ensures.1 (taken c.args.list.now c.args.whole.now r.0 r.1),
)
