use Rattle.batcher_validator.proofs.Words.{◌≡◌, None, take, IfSome, HaveNoFinal, IsFinalAt, IsLowestFinal}
use Rattle.batcher_validator.proofs.shelf.final_after.Given as goal

abbrev pub invariant-loop-i : goal.invariant-loop-i
invariant-loop-i g l =
    record {
      none : l.found ≡ None → HaveNoFinal l.fn.view (take l.i l.fn.certificates);
      some : IfSome l.found (λ it. IsFinalAt l.fn.view l.fn.certificates it.0 it.1);
      lowest : IfSome l.found (λ it. IsLowestFinal l.fn.view (take l.i l.fn.certificates) it.1);
    }
