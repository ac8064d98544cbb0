use Rattle.batcher_ffi.proofs.Words.{◌≡◌, rules, subst, sym, IsNotJudged}
use Rattle.batcher_ffi.proofs.Judged.{nothing_judged, other_judged}
use Rattle.batcher_ffi.proofs.judging.next_judged.Goals as goal
use Rattle.batcher_ffi.proofs.judging.next_judged.Goals.{else-is_same-via-then-is_same+else-are_identical, else-is_same-via-else-is_same}

pub returns-in_err-wanted-clause-none : goal.returns-in_err-wanted-clause-none
returns-in_err-wanted-clause-none c = λ _.
    subst IsNotJudged c.it.view_is
    (λ view subject list verdicts next looks there. c.next_attempt.ensures.none (search rules) view subject list next looks)

pub returns-in_err-subject-clause-none : goal.returns-in_err-subject-clause-none
returns-in_err-subject-clause-none c = λ _.
    subst IsNotJudged c.it.view_is
    (nothing_judged (record { validator = c.it.inside.validator; requests = c.it.inside.requests })
    c.in_ok-wanted.wanted.subject c.in_ok-wanted.wanted.pending.now c.in_ok-wanted.ensures.looks_at _
    c.place_of-kind.ensures (c.in_err-subject.ensures.none (search rules)))

pub returns-then-are_identical-clause-some : goal.returns-then-are_identical-clause-some
returns-then-are_identical-clause-some c =
    let subject : c.in_ok-subject.subject.now ≡ c.in_ok-wanted.wanted.subject = search rules in
    let list : c.in_ok-subject.list.now ≡ c.in_ok-wanted.wanted.pending.now = search rules in
    rw (sym c.it.view_is) (record {
      subject = c.in_ok-wanted.wanted.subject;
      list = c.in_ok-wanted.wanted.pending.now;
      verdicts = c.in_ok-subject.field-0-2.now;
      looks_at = c.in_ok-wanted.ensures.looks_at;
      there = rw (sym subject, sym list) c.in_ok-subject.ensures.some;
    })

pub returns-else-is_same-clause-none : goal.returns-else-is_same-clause-none
returns-else-is_same-clause-none c = λ _.
    subst IsNotJudged c.it.view_is
    (other_judged (record { validator = c.it.inside.validator; requests = c.it.inside.requests })
    c.in_ok-wanted.wanted.subject c.in_ok-wanted.wanted.pending.now c.in_ok-wanted.ensures.looks_at _
    c.place_of-kind.ensures c.in_ok-subject.subject.now c.in_ok-subject.list.now c.in_ok-subject.field-0-2.now
    c.in_ok-subject.ensures.some (λ same identical. elim c.else-is_same.branch [
      | else-is_same-via-then-is_same+else-are_identical w ↦ search rules
      | else-is_same-via-else-is_same w ↦ search rules
    ]))
