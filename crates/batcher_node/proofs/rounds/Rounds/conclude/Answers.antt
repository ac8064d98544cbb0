use Rattle.batcher_node.proofs.Words.{◌∙◌, ◌≡◌, length, sym, ap, Some, Ok, true, rules, set_value_same, heap_items, heap_capacity, length-set_value, slot_at}
use Rattle.batcher_node.proofs.Calling.{if_some, not_at, on_err}
use Rattle.batcher_node.proofs.DueRounds.{as_listed, next_changed}
use Rattle.batcher_node.proofs.rounds.Rounds.conclude.Goals as goal

pub conclude-requires : goal.conclude-requires
conclude-requires g c =
    let own = if_some _ _ c.in-Some.slot.now (sym c.in-Some.ensures.value) (c.requires.tended.own c.args.view) in
    rw own.0 c.requires.verdicts

pub returns-in_err-batch-in-Some-clause-refused : goal.returns-in_err-batch-in-Some-clause-refused
returns-in_err-batch-in-Some-clause-refused g c =
    let slot = c.in-Some.slot.now in
    let same = ap (λ r. Some (record slot { round = r })) (sym c.in_err-batch-in-Some.ensures.refused) in
    on_err _ ((c.get_mut.follows.holds (record slot { round = c.conclude.new.self })).0
    ∙ set_value_same _ _ _ (sym c.in-Some.ensures.value ∙ same))

pub returns-in_default-clause-stale : goal.returns-in_default-clause-stale
returns-in_default-clause-stale g c = λ _.
    let slot = c.in-Some.slot.now in
    let same = ap (λ r. Some (record slot { round = r })) (sym (c.in_ok-batch-in-Some.ensures.stale (ap Ok c.in_default.is))) in
    (c.get_mut.follows.holds (record slot { round = c.conclude.new.self })).0
    ∙ set_value_same _ _ _ (sym c.in-Some.ensures.value ∙ same)

pub returns-in-Some-2-clause-makes_call : goal.returns-in-Some-2-clause-makes_call
returns-in-Some-2-clause-makes_call g c =
    let left = record c.in-Some.slot.now { round = c.conclude.new.self; changed = true } in
    let updates = (c.get_mut.follows.holds left).3 (search rules) in
    record {
      slot = c.in-Some.slot.now;
      there = sym c.in-Some.ensures.value;
      goes_on = record {
        after = c.conclude.new.self;
        same = c.conclude.ensures.same;
        simulates = rw c.in-Some-2.is at c.in_ok-batch-in-Some.ensures.meets;
        here = updates.1;
        others = λ other apart. updates.2 other (not_at c.args.view other apart);
      };
    }

pub returns-in-Some-2-clause-looks_at : goal.returns-in-Some-2-clause-looks_at
returns-in-Some-2-clause-looks_at g c =
    record {
      slot = c.in-Some.slot.now;
      there = sym c.in-Some.ensures.value;
      looks = rw c.in-Some-2.is at c.in_ok-batch-in-Some.ensures.looks_at;
    }

pub returns-in-Some-2-clause-listed : goal.returns-in-Some-2-clause-listed
returns-in-Some-2-clause-listed g c =
    let left = record c.in-Some.slot.now { round = c.conclude.new.self; changed = true } in
    let rounds = c.args.self.now.slots.entries in
    let new = (c.get_mut.follows.lender left).entries in
    let updates = (c.get_mut.follows.holds left).3 (search rules) in
    let as_many : length new ≡ length rounds = rw (c.get_mut.follows.holds left).0 (length-set_value _ rounds left) in
    as_listed (heap_items c.args.self.now.due.views) (heap_capacity c.args.self.now.due.views) rounds new c.args.view
    c.in-Some.slot.now left c.requires.listed (sym c.in-Some.ensures.value) updates.1 (sym (next_changed (slot_at rounds c.args.view)
    c.in-Some.slot.now c.requires.next.changed (sym c.in-Some.ensures.value))) as_many
    (λ other apart. updates.2 other (not_at c.args.view other apart))

pub returns-in-Some-2-clause-assembled : goal.returns-in-Some-2-clause-assembled
returns-in-Some-2-clause-assembled g c =
    let own = if_some _ _ c.in-Some.slot.now (sym c.in-Some.ensures.value) (c.requires.tended.own c.args.view) in
    rw own.0 at (rw c.in-Some-2.is at c.in_ok-batch-in-Some.ensures.assembled)
