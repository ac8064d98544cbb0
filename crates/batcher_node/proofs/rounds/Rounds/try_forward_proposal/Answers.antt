use Rattle.batcher_node.proofs.Words.{◌≡◌, length, refl, sym, rules, heap_items, heap_capacity, length-set_value}
use Rattle.batcher_node.proofs.Calling.{not_at}
use Rattle.batcher_node.proofs.DueRounds.{as_listed}
use Rattle.batcher_node.proofs.rounds.Rounds.try_forward_proposal.Goals as goal

pub returns-in-Some-clause-makes_call : goal.returns-in-Some-clause-makes_call
returns-in-Some-clause-makes_call g c =
    let left = record c.in-Some.slot.now { round = c.try_forward_proposal.new.self } in
    let updates = (c.get_mut.follows.holds left).3 (search rules) in
    record {
      slot = c.in-Some.slot.now;
      there = sym c.in-Some.ensures.value;
      goes_on = record {
        after = c.try_forward_proposal.new.self;
        same = c.try_forward_proposal.ensures.same;
        simulates = c.try_forward_proposal.ensures.meets;
        here = updates.1;
        others = λ other apart. updates.2 other (not_at c.args.view other apart);
      };
    }

pub returns-in-Some-clause-listed : goal.returns-in-Some-clause-listed
returns-in-Some-clause-listed g c =
    let left = record c.in-Some.slot.now { round = c.try_forward_proposal.new.self } in
    let rounds = c.args.self.now.slots.entries in
    let new = (c.get_mut.follows.lender left).entries in
    let updates = (c.get_mut.follows.holds left).3 (search rules) in
    let as_many : length new ≡ length rounds = rw (c.get_mut.follows.holds left).0 (length-set_value _ rounds left) in
    as_listed (heap_items c.args.self.now.due.views) (heap_capacity c.args.self.now.due.views) rounds new c.args.view
    c.in-Some.slot.now left c.requires.listed (sym c.in-Some.ensures.value) updates.1 refl as_many
    (λ other apart. updates.2 other (not_at c.args.view other apart))
