-- What follows of a call's answer.
use Rattle.batcher_votes.proofs.Words.{Result, Ok, Err, IfOk}

pub if_ok : {A E : Type 0} (r : Result A E) (P Q : A → Type 0) → ((a : A) → P a → Q a)
    → IfOk r P → IfOk r Q
if_ok (Ok a) P Q by h = by a h
if_ok (Err e) P Q by h = tt
