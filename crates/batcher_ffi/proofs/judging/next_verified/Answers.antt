use Rattle.batcher_ffi.proofs.Words.{◌≡◌, [], ap, rules, subst, HasUnverified, LooksAtNow}
use Rattle.batcher_ffi.proofs.judging.next_verified.Goals as goal

pub returns-in_err-wanted-clause-none : goal.returns-in_err-wanted-clause-none
returns-in_err-wanted-clause-none c = λ _.
    subst HasUnverified (ap (λ j. j.validator) c.it.view_is)
    (λ view subject next looks. c.next_attempt.ensures.none (search rules) view subject [] next looks)

pub returns-then-are_identical-clause-some : goal.returns-then-are_identical-clause-some
returns-then-are_identical-clause-some c =
    let none : c.in_ok-wanted.wanted.pending.now ≡ [] = search rules in
    subst (λ l. LooksAtNow l c.in_ok-wanted.wanted.subject []) (ap (λ j. j.validator) c.it.view_is)
    (subst (LooksAtNow c.it.inside.validator c.in_ok-wanted.wanted.subject) none c.in_ok-wanted.ensures.looks_at)
