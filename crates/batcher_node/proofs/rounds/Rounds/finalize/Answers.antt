use Rattle.batcher_node.proofs.Words.{◌≡◌, arith, heap_items, times, times_due, slot_at}
use Rattle.batcher_node.proofs.DueRounds.{on_either_side}
use Rattle.batcher_node.proofs.rounds.Rounds.finalize.Goals as goal

pub returns-clause-listed : goal.returns-clause-listed
returns-clause-listed g c =
    let slots = c.drop_before.ensures in
    let views = c.drop_before-2.ensures in
    let lists = c.requires.listed.listed in
    record {
      listed = on_either_side c.finalize.new.self.finalized
          (λ view. times (heap_items c.drop_before-2.new.self.views) view ≡ times_due (slot_at c.drop_before.new.slots.entries view))
          (λ view up. rw (views.kept view up, slots.kept view up) (lists view))
          (λ view below. rw (slots.dropped view below) (views.dropped view below));
      room = let all = c.requires.listed.room in omega (arith, all, slots.fewer, views.room);
    }
