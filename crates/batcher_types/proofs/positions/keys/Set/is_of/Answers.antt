use Rattle.batcher_types.proofs.Words.{◌≡◌, ◌∙◌, sym, ap, arith, Some, slice_get, common_steps, gets, slice_get_within, option_copied}
use Rattle.batcher_types.specs.Keys.{index_of}
use Rattle.batcher_types.proofs.KeyLemmas.{index_read}
use Rattle.batcher_types.proofs.positions.keys.Set.is_of.Goals as goal

pub returns-in-Equal-clause-index : goal.returns-in-Equal-clause-index
unfolding index_of
returns-in-Equal-clause-index g c = λ _.
    let up = rw c.self.view_is at c.self.invariant.0 in
    let keys = c.deref.ensures.value ∙ c.self.view_is in
    let got : option_copied c.get.result ≡ slice_get c.deref.result.now c.args.participant.0 = grind (arith, common_steps, gets, c.get.ensures.lookup) in
    let at : slice_get c.args.self.now c.args.participant.0 ≡ Some c.in-Some.other.now = rw keys at (sym got ∙ ap option_copied c.in-Some.is) in
    rw (index_read g.met.P.Ord.total c.args.self.now up c.args.key.now c.args.participant.0 c.in-Some.other.now at (sym c.cmp.ensures ∙ c.in-Equal.is))

pub returns-in-Equal-clause-in_range : goal.returns-in-Equal-clause-in_range
returns-in-Equal-clause-in_range g c = λ _.
    let keys = c.deref.ensures.value ∙ c.self.view_is in
    let got : option_copied c.get.result ≡ slice_get c.deref.result.now c.args.participant.0 = grind (arith, common_steps, gets, c.get.ensures.lookup) in
    let at : slice_get c.args.self.now c.args.participant.0 ≡ Some c.in-Some.other.now = rw keys at (sym got ∙ ap option_copied c.in-Some.is) in
    slice_get_within c.args.self.now c.args.participant.0 c.in-Some.other.now at
