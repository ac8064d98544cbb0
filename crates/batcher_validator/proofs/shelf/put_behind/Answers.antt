use Rattle.batcher_validator.proofs.Words.{◌≡◌, ◌<◌, ◌∙◌, ap, arith, length, refl, sym, IsPermutation-swap, IsPermutation-trans, length-swap}
use Rattle.batcher_validator.proofs.Parting.{behind_swapped, part_before, part_behind}
use Rattle.batcher_validator.proofs.shelf.put_behind.Goals as goal
use Rattle.batcher_validator.proofs.shelf.put_behind.Goals.{then-not-is_again_at, else-not-is_again_at}

pub loop-i-preserved : goal.loop-i-preserved
loop-i-preserved g c =
    let at = c.loop-i in
    let within : at.i < length at.certificates.items = omega (arith, c.loop-i-test.true, at.invariant.long, c.requires) in
    let before = at.invariant.parted.within in
    elim c.if-not-is_again_at.branch [
      | then-not-is_again_at w ↦ rw (w.certificates-is, w.stay-is, w.swap.ensures.items) (record {
        moves = IsPermutation-trans _ _ _ at.invariant.moves
            (IsPermutation-swap at.certificates.items _ at.stay at.i (omega (arith, before, within)) within refl);
        long = length-swap at.certificates.items at.stay at.i ∙ at.invariant.long;
        behind = λ k it from. behind_swapped at.certificates.items at.stay at.i c.args.end k it
            (omega (arith, before, c.loop-i-test.true)) c.loop-i-test.true (omega (arith, at.invariant.long, c.requires)) from
            ∙ at.invariant.behind k it from;
        parted = part_before _ at.certificates.items at.i at.stay at.invariant.parted within
            (λ it. rw (sym c.deref.ensures.value) (sym (c.is_again_at.ensures it) ∙ w.if-not-is_again_at.true));
      })
      | else-not-is_again_at w ↦ rw (w.certificates-is, w.stay-is) (record {
        moves = at.invariant.moves;
        long = at.invariant.long;
        behind = at.invariant.behind;
        parted = part_behind _ at.certificates.items at.i at.stay at.invariant.parted
            (λ it. rw (sym c.deref.ensures.value) (sym (c.is_again_at.ensures it) ∙ w.if-not-is_again_at.false));
      })
    ]
