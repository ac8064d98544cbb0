use Rattle.batcher_file.proofs.Words.{ap, refl, subst, IsFound}
use Rattle.batcher_file.proofs.Choosing.{IsLeft, tidies}
use Rattle.batcher_file.proofs.files.TwoFiles.open.Goals as goal
use Rattle.batcher_file.proofs.files.TwoFiles.open.Goals.{else-is_turned, then-is_turned}

pub returns-clause-found : goal.returns-clause-found
returns-clause-found c =
    let left : IsLeft c.left_of.result c.if-is_turned.other.now =
    record { blank = c.left_of.ensures.blank; used = c.left_of.ensures.used } in
    elim c.if-is_turned.branch [
      | then-is_turned w ↦ rw (w.if-is_turned.true) (record {
        first = c.in_ok-contents.contents.first;
        len = c.left_of.result;
        tidied = tidies c.args.second.now c.args.first.now _ _ _ _ c.left_of.result
            (subst (λ turned. IsFound c.args.first.now c.args.second.now turned
            c.in_ok-contents.contents.first c.in_ok-contents.contents.next c.in_ok-contents.contents.end
            c.in_ok-contents.contents.bytes.items) w.if-is_turned.true c.in_ok-contents.ensures.found)
            (subst (IsLeft c.left_of.result) (ap (λ o. o.now) w.other-is) left);
        job = refl;
        next_is = refl;
        end_is = refl;
      })
      | else-is_turned w ↦ rw (w.if-is_turned.false) (record {
        first = c.in_ok-contents.contents.first;
        len = c.left_of.result;
        tidied = tidies c.args.first.now c.args.second.now _ _ _ _ c.left_of.result
            (subst (λ turned. IsFound c.args.first.now c.args.second.now turned
            c.in_ok-contents.contents.first c.in_ok-contents.contents.next c.in_ok-contents.contents.end
            c.in_ok-contents.contents.bytes.items) w.if-is_turned.false c.in_ok-contents.ensures.found)
            (subst (IsLeft c.left_of.result) (ap (λ o. o.now) w.other-is) left);
        job = refl;
        next_is = refl;
        end_is = refl;
      })
    ]
