use Rattle.batcher_node.proofs.Words.{◌∙◌, ◌≡◌, not, Bool, true, false, length, refl, sym, ap, Some, rules, set_value_same, heap_items, heap_capacity}
use Rattle.batcher_node.proofs.Words.{length-set_value}
use Rattle.batcher_node.proofs.Calling.{not_at, on_err, due_given}
use Rattle.batcher_node.proofs.DueRounds.{next_listed}
use Rattle.batcher_node.proofs.rounds.Rounds.try_construct.Goals as goal

pub returns-in_err-batch-in-Some-clause-refused : goal.returns-in_err-batch-in-Some-clause-refused
returns-in_err-batch-in-Some-clause-refused g c =
    let slot = c.in-Some.slot.now in
    let same = ap (λ r. Some (record slot { round = r })) (sym c.in_err-batch-in-Some.ensures.refused) in
    on_err _ ((c.get_mut.follows.holds (record slot { round = c.try_construct.new.self })).0
    ∙ set_value_same _ _ _ (sym c.in-Some.ensures.value ∙ same))

pub returns-in_ok-batch-in-Some-clause-makes_call :
    goal.returns-in_ok-batch-in-Some-clause-makes_call
returns-in_ok-batch-in-Some-clause-makes_call g c =
    let left = record c.in-Some.slot.now { round = c.try_construct.new.self; changed = c.is_some-slot.result } in
    let updates = (c.get_mut.follows.holds left).3 (search rules) in
    record {
      slot = c.in-Some.slot.now;
      there = sym c.in-Some.ensures.value;
      goes_on = record {
        after = c.try_construct.new.self;
        same = c.try_construct.ensures.same;
        simulates = c.in_ok-batch-in-Some.ensures.meets;
        here = updates.1
            ∙ ap (λ b. Some (record left { changed = b }))
            (c.is_some-slot.ensures ∙ due_given g.row.S-PublicKey.Denot g.row.S-Signature.Denot _ c.in-Some.slot.now.changed);
        others = λ other apart. updates.2 other (not_at c.args.view other apart);
      };
    }

pub returns-in_ok-batch-in-Some-clause-draws : goal.returns-in_ok-batch-in-Some-clause-draws
returns-in_ok-batch-in-Some-clause-draws g c =
    let left = record c.in-Some.slot.now { round = c.try_construct.new.self; changed = c.is_some-slot.result } in
    let updates = (c.get_mut.follows.holds left).3 (search rules) in
    record {
      slot = c.in-Some.slot.now;
      there = sym c.in-Some.ensures.value;
      left = left;
      here = updates.1;
      step = c.in_ok-batch-in-Some.ensures.step;
    }

otherwise : (rests gives some : Bool) → some ≡ not rests → gives ≡ some → rests ≡ not gives
otherwise true gives some e f = rw (f, e) refl
otherwise false gives some e f = rw (f, e) refl

pub returns-in_ok-batch-in-Some-clause-listed : goal.returns-in_ok-batch-in-Some-clause-listed
returns-in_ok-batch-in-Some-clause-listed g c =
    let left = record c.in-Some.slot.now { round = c.try_construct.new.self; changed = c.is_some-slot.result } in
    let rounds = c.args.self.now.slots.entries in
    let new = (c.get_mut.follows.lender left).entries in
    let updates = (c.get_mut.follows.holds left).3 (search rules) in
    let as_many : length new ≡ length rounds = rw (c.get_mut.follows.holds left).0 (length-set_value _ rounds left) in
    let views = c.args.self.now.due.views in
    let rests : c.is_none.result ≡ not c.is_some-slot.result
    = otherwise _ _ _ c.is_none.ensures c.is_some-slot.ensures in
    next_listed (heap_items views) (heap_items c.rest.new.self.views) (heap_capacity views) (heap_capacity c.rest.new.self.views)
    rounds new c.args.view c.in-Some.slot.now left c.is_some-slot.result c.requires.listed c.requires.next
    (sym c.in-Some.ensures.value) updates.1 refl (rw rests at c.rest.ensures.times) c.rest.ensures.kept as_many
    (λ other apart. updates.2 other (not_at c.args.view other apart))
