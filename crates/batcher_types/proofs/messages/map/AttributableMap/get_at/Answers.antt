use Rattle.batcher_types.proofs.Words.{◌≡◌, ◌∙◌, ap, sym, arith, slice_get, common_steps, gets, option_copied}
use Rattle.batcher_types.proofs.PlaceLemmas.{place_found, place_absent, ascending_few}
use Rattle.batcher_types.proofs.messages.map.AttributableMap.get_at.Goals as goal

pub returns-in-Ok-clause-item : goal.returns-in-Ok-clause-item
returns-in-Ok-clause-item g c = λ i is.
    let now = ap (λ v. v.items) c.self.view_is in
    let found = place_found (λ x. (g.T.Attributable.signed_by x).0) c.self.inside.items.items i c.in-Ok.index c.self.invariant.0
    (rw (← now) at (sym is ∙ c.in-Ok.is)) in
    let got : option_copied c.get.result ≡ slice_get c.self.inside.items.items c.in-Ok.index = grind
    (arith, common_steps, gets, c.get.ensures.lookup, c.deref.ensures.value) in
    rw (← now) (got ∙ found)

pub returns-in-Err-clause-item : goal.returns-in-Err-clause-item
returns-in-Err-clause-item g c =
    λ i is. sym (place_absent (λ x. (g.T.Attributable.signed_by x).0) c.args.self.now.items i c.in-Err.field-0 (sym is ∙ c.in-Err.is))

pub returns-in-Ok-clause-few : goal.returns-in-Ok-clause-few
returns-in-Ok-clause-few g c =
    rw (← c.self.view_is)
    (ascending_few (λ x. (g.T.Attributable.signed_by x).0) c.self.inside.items.items c.self.inside.participants c.self.invariant.0 c.self.invariant.1)

pub returns-in-Err-clause-few : goal.returns-in-Err-clause-few
returns-in-Err-clause-few g c =
    rw (← c.self.view_is)
    (ascending_few (λ x. (g.T.Attributable.signed_by x).0) c.self.inside.items.items c.self.inside.participants c.self.invariant.0 c.self.invariant.1)
