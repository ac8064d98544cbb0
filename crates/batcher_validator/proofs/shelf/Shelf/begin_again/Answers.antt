use Rattle.std.specs.Vec.{vec_capacity}
use Rattle.batcher_validator.proofs.Words.{◌-◌, arith, length, subst, AreParted, PutsBehind, ShelfView, is_again, is_again_above, kind_and_round, last_of}
use Rattle.batcher_validator.proofs.Looking.{shelved_moved}
use Rattle.batcher_validator.proofs.Parting.{puts_behind}
use Rattle.batcher_validator.proofs.shelf.Shelf.begin_again.Goals as goal

pub invariant_of-self : goal.invariant_of-self
invariant_of-self g c =
    let s = c.self.inside in
    shelved_moved s.last_final (last_of s.last_final s.last_notarized s.last_nullified) s.certificates.items
    c.put_behind-self-inside.new.certificates.items c.put_behind-self-inside.ensures.moves c.self.invariant

pub returns : goal.returns
returns g c =
    let made = c.put_behind-self-inside in
    let new : ShelfView _ _ = record {
      certificates = made.new.certificates.items;
      handed = made.result;
      room = vec_capacity made.new.certificates - length made.new.certificates.items;
    } in
    subst (λ old. PutsBehind (λ it. is_again c.args.window c.args.turn (kind_and_round it)) old new) c.self.view_is
    (puts_behind (λ it. is_again c.args.window c.args.turn (kind_and_round it)) _ new c.min-end.result
    (omega (arith, c.min-end.ensures, c.len.ensures)) c.self.invariant.distinct made.ensures.moves made.ensures.behind
    (subst (λ below. AreParted (λ it. is_again_above c.args.window below (kind_and_round it))
    made.new.certificates.items c.min-end.result made.result) c.below_turn-below.ensures made.ensures.parted))
