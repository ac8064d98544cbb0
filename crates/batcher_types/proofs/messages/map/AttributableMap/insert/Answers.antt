use Rattle.batcher_types.proofs.Words.{◌≡◌, ◌∙◌, ◌<◌, true, false, sym, ap, arith}
use Rattle.batcher_types.proofs.MapLemmas.{is_new-absent, is_new-present}
use Rattle.batcher_types.proofs.AscendingLemmas.{insert_new, All-insert_by}
use Rattle.batcher_types.proofs.messages.map.AttributableMap.insert.Goals as goal

pub returns-in_err-make_room_below-in-Err-clause-no_memory :
    goal.returns-in_err-make_room_below-in-Err-clause-no_memory
returns-in_err-make_room_below-in-Err-clause-no_memory g c = λ refused.
    let below : (g.T.Attributable.signed_by c.args.item).0 < c.args.self.now.participants
    = omega (arith, ap (λ v. v.participants) c.self.view_is, ap (λ p. p.0) c.signer.ensures) in
    let none = rw c.signer-2.ensures at c.in-Err.ensures.absent.1 in
    let yes : true ≡ false = sym (is_new-absent (λ x. (g.T.Attributable.signed_by x).0) c.args.self.now c.args.item below none) ∙ refused in
    absurd (cc)

pub returns-in-Ok-clause-kept : goal.returns-in-Ok-clause-kept
returns-in-Ok-clause-kept g c =
    let below : (g.T.Attributable.signed_by c.args.item).0 < c.args.self.now.participants
    = omega (arith, ap (λ v. v.participants) c.self.view_is, ap (λ p. p.0) c.signer.ensures) in
    let some = rw c.signer-2.ensures at (c.in-Ok.ensures.found.1 c.args.item) in
    sym (is_new-present (λ x. (g.T.Attributable.signed_by x).0) c.args.self.now c.args.item _ below some)

pub invariant_of-self-in-Err : goal.invariant_of-self-in-Err
invariant_of-self-in-Err g c =
    let key = λ (x : g.row.T.Denot). (g.T.Attributable.signed_by x).0 in
    let now = ap (λ v. v.items) c.self.view_is in
    let none = rw (c.signer-2.ensures, ← now) at c.in-Err.ensures.absent.1 in
    let placed = rw (← now) at (c.in-Err.ensures.absent.2 c.args.item (sym (ap (λ p. p.0) c.signer-2.ensures))) in
    rw (c.insert_reserved.ensures.items, c.in_ok-make_room_below-in-Err.ensures.items, placed) (
      insert_new (λ x. (g.T.Attributable.signed_by x).0) c.args.item c.self.inside.items.items c.self.invariant.0 none,
      All-insert_by (λ x. (g.T.Attributable.signed_by x).0) (λ x. (g.T.Attributable.signed_by x).0 < c.self.inside.participants) c.args.item
          c.self.inside.items.items
          (omega (arith, ap (λ p. p.0) c.signer.ensures)) c.self.invariant.1,
    )
