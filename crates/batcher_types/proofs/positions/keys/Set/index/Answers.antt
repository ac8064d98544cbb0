use Rattle.batcher_types.proofs.Words.{◌∙◌, ap, Some, participant}
use Rattle.batcher_types.specs.Keys.{index_of}
use Rattle.batcher_types.proofs.KeyLemmas.{index_found, index_absent}
use Rattle.batcher_types.proofs.positions.keys.Set.index.Goals as goal

pub returns-in-Ok-clause-index : goal.returns-in-Ok-clause-index
unfolding index_of
returns-in-Ok-clause-index g c =
    let up = rw c.self.view_is at c.self.invariant.0 in
    let keys = c.deref.ensures.value ∙ c.self.view_is in
    let below = rw keys at c.in-Ok.ensures.bound in
    let tie = rw keys at (c.in-Ok.ensures.ok c.args.key.now) in
    rw (index_found g.met.P.Ord.total c.args.self.now up c.args.key.now c.in-Ok.index below tie)
    (ap (λ n. Some (participant n)) c.from_usize.ensures)

pub returns-in-Err-clause-index : goal.returns-in-Err-clause-index
unfolding index_of
returns-in-Err-clause-index g c =
    let up = rw c.self.view_is at c.self.invariant.0 in
    let keys = c.deref.ensures.value ∙ c.self.view_is in
    let split = rw keys at c.in-Err.ensures.position in
    rw (index_absent g.met.P.Ord.total c.args.self.now up c.args.key.now c.in-Err.field-0 split)
