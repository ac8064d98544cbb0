use Rattle.batcher_evidence.proofs.Words.{◌≡◌, arith, index_of_signer}
use Rattle.batcher_evidence.proofs.Merging.{leaves_left, leaves_right, leaves_both, ends_left, ends_right}
use Rattle.batcher_evidence.proofs.certificates.merge.Goals as goal

pub loop-a-preserved-then-a-b : goal.loop-a-preserved-then-a-b
loop-a-preserved-then-a-b g c =
    let now = c.loop-a.invariant in
    let next =
    leaves_left c.loop-a.found.items c.loop-a.left.now c.loop-a.right.now _ now.found now.left now.right
    c.in-Some-Some.a.now c.in-Some-Some.b.now c.in-Some-Some.lefts.now c.in-Some-Some.rights.now
    c.in-Some-Some.ensures.cases.0 c.in-Some-Some.ensures'.cases.0 c.if-a-b.true in
    record { found = next.all_found; left = next.left_ascends; right = next.right_ascends }

pub loop-a-preserved-then-b-a : goal.loop-a-preserved-then-b-a
loop-a-preserved-then-b-a g c =
    let now = c.loop-a.invariant in
    let next =
    leaves_right c.loop-a.found.items c.loop-a.left.now c.loop-a.right.now _ now.found now.left now.right
    c.in-Some-Some.a.now c.in-Some-Some.b.now c.in-Some-Some.lefts.now c.in-Some-Some.rights.now
    c.in-Some-Some.ensures.cases.0 c.in-Some-Some.ensures'.cases.0 c.if-b-a.true in
    record { found = next.all_found; left = next.left_ascends; right = next.right_ascends }

pub loop-a-preserved : goal.loop-a-preserved
loop-a-preserved g c =
    let now = c.loop-a.invariant in
    let same : index_of_signer c.in-Some-Some.a.now ≡ index_of_signer c.in-Some-Some.b.now = omega (arith, c.if-a-b.false, c.if-b-a.false) in
    let next =
    leaves_both c.loop-a.found.items c.loop-a.left.now c.loop-a.right.now _ now.found now.left now.right
    c.in-Some-Some.a.now c.in-Some-Some.b.now c.in-Some-Some.lefts.now c.in-Some-Some.rights.now
    c.in-Some-Some.ensures.cases.0 c.in-Some-Some.ensures'.cases.0 same in
    record {
      found = rw c.in_ok-push.ensures.items next.all_found;
      left = next.left_ascends;
      right = next.right_ascends;
    }

pub returns : goal.returns
returns g c =
    elim c.match-split_first.branch [
      | goal.in_default w ↦ ends_right c.loop-a.found.items _ _ _ w.in_default.ensures'.cases c.loop-a.invariant.found
      | goal.in_default-2 w ↦ ends_left c.loop-a.found.items _ _ _ w.in_default.ensures.cases c.loop-a.invariant.found
    ]
