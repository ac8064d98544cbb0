use Rattle.batcher_votes.proofs.Words.{◌≡◌, ◌<◌, ◌∙◌, ap, sym, arith, length, get_or, All-set, entry_key, set_ascending}
use Rattle.batcher_votes.proofs.TrackerLemmas.RecordVote.{key_with}
use Rattle.batcher_votes.proofs.votes.set_at.Goals as goal

pub invariant_of-entries : goal.invariant_of-entries
invariant_of-entries c =
    let es = c.entries.inside.items.items in
    let below : c.args.index < length c.entries.inside.items.items = omega (arith, ap (λ v. length v.items) c.entries.view_is, c.requires) in
    let is : c.index_mut.result.now ≡ get_or c.entries.inside.items.items c.args.index c.index_mut.result.now = c.index_mut.ensures.value in
    let same : entry_key (get_or c.entries.inside.items.items c.args.index c.index_mut.result.now) ≡ entry_key c.set.new.self =
    ap entry_key (sym is) ∙ sym (ap entry_key c.set.ensures ∙ key_with c.args.kind c.args.seen c.index_mut.result.now) in (
      set_ascending entry_key es c.args.index c.set.new.self c.index_mut.result.now c.entries.invariant.0 below same,
      All-set (λ e. entry_key e < c.entries.inside.participants) es c.args.index c.set.new.self
          (omega (arith, same, c.entries.invariant.1 c.args.index c.index_mut.result.now below)) c.entries.invariant.1,
    )
