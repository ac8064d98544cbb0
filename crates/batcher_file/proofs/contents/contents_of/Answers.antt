use Rattle.batcher_file.proofs.Words.{arith, refl}
use Rattle.batcher_file.proofs.SoFar.{closed_not_open, not_damaged, not_empty, not_too_many, one_more, read_to, same_place}
use Rattle.batcher_file.proofs.contents.contents_of.Goals as goal

pub loop-next-preserved : goal.loop-next-preserved
loop-next-preserved c =
    one_more _ _ _ _ _ c.loop-next.invariant c.in-Open.inside.now c.in-Open.after.now _ c.in-Open.ensures
    c.in_ok-extend_from_slice-in-Open.ensures.items

pub returns-then-next-first-clause-damaged : goal.returns-then-next-first-clause-damaged
returns-then-next-first-clause-damaged c =
    λ at is first all has.
    not_empty _ _ _ _ _ c.loop-next.invariant c.first_number-first.ensures first all has c.in-Closed.ensures
    c.if-next-first.true

pub returns-in-Damaged-clause-damaged : goal.returns-in-Damaged-clause-damaged
returns-in-Damaged-clause-damaged c =
    λ at is first all has.
    not_damaged _ _ _ _ _ c.loop-next.invariant c.first_number-first.ensures first all has c.in-Damaged.ensures

pub returns-clause-damaged : goal.returns-clause-damaged
returns-clause-damaged c =
    λ at is first all has.
    not_too_many _ _ _ _ _ c.loop-next.invariant c.first_number-first.ensures first all has
    (omega (arith, c.loop-next-test.false))

pub returns-then-next-first-clause-damage : goal.returns-then-next-first-clause-damage
returns-then-next-first-clause-damage c =
    λ at is.
    read_to _ _ _ _ _ c.loop-next.invariant _ at refl (same_place _ at is) c.first_number-first.ensures
    (λ few inside after. closed_not_open _ _ inside after c.in-Closed.ensures)

pub returns-in-Damaged-clause-damage : goal.returns-in-Damaged-clause-damage
returns-in-Damaged-clause-damage c =
    λ at is.
    read_to _ _ _ _ _ c.loop-next.invariant _ at refl (same_place _ at is) c.first_number-first.ensures
    (λ few. c.in-Damaged.ensures.0)

pub returns-clause-damage : goal.returns-clause-damage
returns-clause-damage c =
    λ at is.
    read_to _ _ _ _ _ c.loop-next.invariant _ at refl (same_place _ at is) c.first_number-first.ensures
    (λ few. absurd (omega (arith, few, c.loop-next-test.false)))
