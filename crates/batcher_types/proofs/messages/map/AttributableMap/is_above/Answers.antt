use Rattle.batcher_types.proofs.Words.{ap}
use Rattle.batcher_types.proofs.AscendingLemmas.{all_above_first}
use Rattle.batcher_types.proofs.messages.map.AttributableMap.is_above.Goals as goal

pub returns-in-Some : goal.returns-in-Some
returns-in-Some g c =
    let first = rw c.deref.ensures.value at c.in-Some.ensures.item.3 in
    rw (← ap (λ v. v.items) c.self.view_is)
    (all_above_first (λ x. (g.T.Attributable.signed_by x).0) c.self.inside.items.items c.args.signer.0 c.signer.result.0 c.in-Some.first.now c.self.invariant.0
    first.0 first.1 (ap (λ p. p.0) c.signer.ensures))
