use Rattle.batcher_votes.proofs.Words.{◌≡◌, ◌∙◌, ap, sym, arith, set, get_or, map_over_more, option_copied, of_kind, entry_released, with_part, seen_released}
use Rattle.batcher_votes.proofs.Words.{votes_in}
use Rattle.batcher_votes.proofs.votes.release_each.Goals as goal

pub loop-index-preserved : goal.loop-index-preserved
loop-index-preserved g c =
    let item = c.item_at.result.now in
    let is : c.item_at.result.now ≡ get_or c.loop-index.entries.items c.loop-index.index c.item_at.result.now = c.item_at.ensures.item c.item_at.result.now in
    let f = entry_released g.D.PartialEq.eq (option_copied c.args.selected) c.args.kind (of_kind (votes_in c.args.kept.now) c.args.kind) in
    let says = c.released.ensures ∙ ap (seen_released g.D.PartialEq.eq (option_copied c.args.selected) (of_kind (votes_in c.args.kept.now) c.args.kind))
    c.seen-seen.ensures in
    record {
      items =
          c.set_at.ensures.items item
          ∙ ap (λ e. set c.loop-index.entries.items c.loop-index.index (with_part c.args.kind c.released.result e)) (sym is)
          ∙ ap (λ s. set c.loop-index.entries.items c.loop-index.index (with_part c.args.kind s item)) says
          ∙ map_over_more f c.args.entries.now.items c.loop-index.entries.items c.loop-index.index item (omega arith) c.loop-index.invariant.items is;
      participants = c.set_at.ensures.participants ∙ c.loop-index.invariant.participants;
    }
