use Rattle.batcher_types.proofs.Words.{rules, ap, answers_always}
use Rattle.batcher_types.proofs.AscendingLemmas.{search_found, search_absent}
use Rattle.batcher_types.proofs.PlaceLemmas.{search_place}
use Rattle.batcher_types.proofs.messages.map.AttributableMap.searched_place.Goals as goal

pub returns-clause-found : goal.returns-clause-found
returns-clause-found g c =
    rw (← ap (λ v. v.items) c.self.view_is)
    (search_found (λ x. (g.T.Attributable.signed_by x).0) c.self.inside.items.items c.args.signer.0 c.binary_search_by_key.result c.self.invariant.0
    (rw c.deref.ensures.value at c.binary_search_by_key.ensures.bound)
    (rw c.deref.ensures.value at (c.binary_search_by_key.ensures.position (λ x. (g.T.Attributable.signed_by x).0)
    (answers_always _ _ _ (λ f a r f' k. search rules)))))

pub returns-clause-absent : goal.returns-clause-absent
returns-clause-absent g c =
    rw (← ap (λ v. v.items) c.self.view_is)
    (search_absent (λ x. (g.T.Attributable.signed_by x).0) c.self.inside.items.items c.args.signer.0 c.binary_search_by_key.result c.self.invariant.0
    (rw c.deref.ensures.value at c.binary_search_by_key.ensures.bound)
    (rw c.deref.ensures.value at (c.binary_search_by_key.ensures.position (λ x. (g.T.Attributable.signed_by x).0)
    (answers_always _ _ _ (λ f a r f' k. search rules)))))

pub returns-clause-place : goal.returns-clause-place
returns-clause-place g c =
    rw (← ap (λ v. v.items) c.self.view_is)
    (search_place (λ x. (g.T.Attributable.signed_by x).0) c.self.inside.items.items c.args.signer.0 c.binary_search_by_key.result c.self.invariant.0
    (rw c.deref.ensures.value at c.binary_search_by_key.ensures.bound)
    (rw c.deref.ensures.value at (c.binary_search_by_key.ensures.position (λ x. (g.T.Attributable.signed_by x).0)
    (answers_always _ _ _ (λ f a r f' k. search rules)))))
