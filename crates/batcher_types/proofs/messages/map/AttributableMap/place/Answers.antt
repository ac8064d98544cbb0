use Rattle.batcher_types.proofs.Words.{◌<◌, ap, arith, refl, rec_from_all}
use Rattle.batcher_types.proofs.AscendingLemmas.{find_at, last_absent, last_insert, first_absent, first_insert}
use Rattle.batcher_types.proofs.PlaceLemmas.{item_place, last_place, first_place}
use Rattle.batcher_types.proofs.messages.map.AttributableMap.place.Goals as goal

pub returns-then-is_below-clause-absent : goal.returns-then-is_below-clause-absent
returns-then-is_below-clause-absent g c =
    let now = ap (λ v. v.items) c.self.view_is in
    let below = rw (← now) at (c.if-is_below.ensures.below refl) in
    rw (← now, c.len.ensures, c.self.inside.items.ok.0) (
      omega arith,
      last_absent (λ x. (g.T.Attributable.signed_by x).0) c.self.inside.items.items c.args.signer.0 below,
      λ x e. last_insert (λ x. (g.T.Attributable.signed_by x).0) c.self.inside.items.items c.args.signer.0 x below e,
    )

pub returns-then-is_below-clause-place : goal.returns-then-is_below-clause-place
returns-then-is_below-clause-place g c =
    let now = ap (λ v. v.items) c.self.view_is in
    let below = rw (← now) at (c.if-is_below.ensures.below refl) in
    rw (← now, c.len.ensures, c.self.inside.items.ok.0)
    (last_place (λ x. (g.T.Attributable.signed_by x).0) c.self.inside.items.items c.args.signer.0
    (rec_from_all (λ x. (g.T.Attributable.signed_by x).0 < c.args.signer.0) c.self.inside.items.items below)
    (last_absent (λ x. (g.T.Attributable.signed_by x).0) c.self.inside.items.items c.args.signer.0 below))

pub returns-then-is_at-clause-place : goal.returns-then-is_at-clause-place
returns-then-is_at-clause-place g c =
    let now = ap (λ v. v.items) c.self.view_is in
    let at = rw (← now) at (c.if-is_at.ensures.at refl) in
    rw (← now)
    (item_place (λ x. (g.T.Attributable.signed_by x).0) c.self.inside.items.items c.args.signer.0 c.from-index.result c.self.invariant.0 at.0 at.1)

pub returns-then-is_at-clause-found : goal.returns-then-is_at-clause-found
returns-then-is_at-clause-found g c =
    let now = ap (λ v. v.items) c.self.view_is in
    let at = rw (← now) at (c.if-is_at.ensures.at refl) in
    rw (← now) (
      at.0,
      λ d. find_at (λ x. (g.T.Attributable.signed_by x).0) c.self.inside.items.items c.from-index.result c.args.signer.0 d c.self.invariant.0
          at.0 (at.1 d),
    )

pub returns-then-is_above-clause-absent : goal.returns-then-is_above-clause-absent
returns-then-is_above-clause-absent g c =
    let now = ap (λ v. v.items) c.self.view_is in
    let above = rw (← now) at (c.if-is_above.ensures refl) in
    rw (← now) (
      omega arith,
      first_absent (λ x. (g.T.Attributable.signed_by x).0) c.self.inside.items.items c.args.signer.0 above,
      λ x e. first_insert (λ x. (g.T.Attributable.signed_by x).0) c.self.inside.items.items c.args.signer.0 x above e,
    )

pub returns-then-is_above-clause-place : goal.returns-then-is_above-clause-place
returns-then-is_above-clause-place g c =
    let now = ap (λ v. v.items) c.self.view_is in
    let above = rw (← now) at (c.if-is_above.ensures refl) in
    rw (← now)
    (first_place (λ x. (g.T.Attributable.signed_by x).0) c.self.inside.items.items c.args.signer.0
    (rec_from_all (λ x. c.args.signer.0 < (g.T.Attributable.signed_by x).0) c.self.inside.items.items above)
    (first_absent (λ x. (g.T.Attributable.signed_by x).0) c.self.inside.items.items c.args.signer.0 above))
