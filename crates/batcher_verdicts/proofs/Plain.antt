-- What holds of an answer, over plain variables.
use Rattle.batcher_verdicts.proofs.Words.{Result, Ok, Err, Option, Some, None, IfSome, OnErr}

pub on_err : {A E P Q : Type 0} (r : Result A E) → (P → Q) → OnErr r P → OnErr r Q
on_err (Ok a) goes h = tt
on_err (Err e) goes h = goes h

-- It holds of what is refused, whatever is answered.
pub on_any : {A E P : Type 0} (r : Result A E) → P → OnErr r P
on_any (Ok a) h = tt
on_any (Err e) h = h

pub always : {A P : Type 0} (o : Option A) → P → IfSome o (λ _. P)
always (Some a) h = h
always None h = tt
