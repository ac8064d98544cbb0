use Rattle.batcher_types.proofs.Words.{◌<◌, ap, arith}
use Rattle.batcher_types.proofs.AscendingLemmas.{insert_new, All-insert_by}
use Rattle.batcher_types.proofs.PlaceLemmas.{place_absent, place_insert, place_within}
use Rattle.batcher_types.proofs.messages.map.AttributableMap.insert_at.Goals as goal

pub insert_reserved-requires-clause-place : goal.insert_reserved-requires-clause-place
insert_reserved-requires-clause-place g c =
    let now = ap (λ v. v.items) c.self.view_is in
    let within = place_within (λ x. (g.T.Attributable.signed_by x).0) c.self.inside.items.items (g.T.Attributable.signed_by c.args.item).0 c.args.place
    (rw (← now) at c.requires.place) in
    omega (arith, within, c.self.inside.items.ok.0)

pub returns-clause-items : goal.returns-clause-items
returns-clause-items g c =
    let now = ap (λ v. v.items) c.self.view_is in
    let placed = place_insert (λ x. (g.T.Attributable.signed_by x).0) c.args.item c.self.inside.items.items c.args.place c.self.invariant.0
    (rw (← now) at c.requires.place) in
    rw (← now, c.insert_reserved.ensures.items) placed

pub invariant_of-self : goal.invariant_of-self
invariant_of-self g c =
    let now = ap (λ v. v.items) c.self.view_is in
    let place = rw (← now) at c.requires.place in
    let none = place_absent (λ x. (g.T.Attributable.signed_by x).0) c.self.inside.items.items (g.T.Attributable.signed_by c.args.item).0 c.args.place place in
    let placed = place_insert (λ x. (g.T.Attributable.signed_by x).0) c.args.item c.self.inside.items.items c.args.place c.self.invariant.0 place in
    rw (c.insert_reserved.ensures.items, placed) (
      insert_new (λ x. (g.T.Attributable.signed_by x).0) c.args.item c.self.inside.items.items c.self.invariant.0 none,
      All-insert_by (λ x. (g.T.Attributable.signed_by x).0) (λ x. (g.T.Attributable.signed_by x).0 < c.self.inside.participants) c.args.item
          c.self.inside.items.items
          (omega (arith, ap (λ v. v.participants) c.self.view_is, c.requires.signer)) c.self.invariant.1,
    )
