use Rattle.batcher_types.proofs.Words.{ap}
use Rattle.batcher_types.proofs.AscendingLemmas.{all_below_last}
use Rattle.batcher_types.proofs.messages.map.AttributableMap.is_below.Goals as goal

pub returns-in-Some-clause-below : goal.returns-in-Some-clause-below
returns-in-Some-clause-below g c =
    let last = rw c.deref.ensures.value at c.in-Some.ensures.item.3 in
    rw (← ap (λ v. v.items) c.self.view_is)
    (all_below_last (λ x. (g.T.Attributable.signed_by x).0) c.self.inside.items.items c.args.signer.0 c.signer.result.0 c.in-Some.last.now c.self.invariant.0
    last.0 last.1 (ap (λ p. p.0) c.signer.ensures))
