use Rattle.batcher_node.proofs.Words.{◌≡◌, ◌≤◌, ℕ, heap_items, heap_len, heap_capacity, times}
use Rattle.batcher_node.proofs.due.Due.drop_before.Given as goal

abbrev pub invariant-loop-view : goal.invariant-loop-view
invariant-loop-view l = record {
  kept : (view : ℕ) → l.first ≤ view
      → times (heap_items l.self.views) view ≡ times (heap_items l.initial.self.views) view;
  room : heap_capacity l.self.views ≡ heap_capacity l.initial.self.views;
}

abbrev pub decreases-loop-view : goal.decreases-loop-view
decreases-loop-view l = heap_len l.self.views
