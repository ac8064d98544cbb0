use Rattle.batcher_node.proofs.Words.{◌∙◌, ◌≡◌, ◌+◌, ◌&&◌, ◌≤◌, ℕ, Bool, true, false, cond, not, length, is_some, refl, sym, ap, Some, rules, arith, heap_items}
use Rattle.batcher_node.proofs.Words.{heap_capacity, times_due, nat_cmp, get, length-set_value, set_value_same, round_config, due_after, slot_at}
use Rattle.batcher_node.proofs.Calling.{not_at, told_there, told_fresh, refused_fresh, on_err_same}
use Rattle.batcher_node.proofs.DueRounds.{kept_listed, no_more, rested_before, room_for, woken_due, woken_listed}
use Rattle.batcher_node.proofs.rounds.Rounds.call.Goals as goal

pub wake-requires : goal.wake-requires
wake-requires g c = λ wakes.
    let room = room_for (heap_items c.args.self.now.due.views) c.args.self.now.slots.entries c.args.view
    c.in-Some.slot.now c.requires.listed.listed (sym c.in-Some.ensures.value) (rested_before _ _ wakes) in
    let all = c.requires.listed.room in
    omega (arith, room, all, c.args.self.now.due.views.data.ok.0)

pub returns-in-Some-clause-listed : goal.returns-in-Some-clause-listed
returns-in-Some-clause-listed g c =
    let left = c.make-made.new.slot in
    let rounds = c.args.self.now.slots.entries in
    let views = c.args.self.now.due.views in
    let updates = (c.get_mut.follows.holds left).3 (search rules) in
    let there = sym c.in-Some.ensures.value in
    let wakes = not c.in-Some.slot.now.changed && left.changed in
    let as_many : length (c.get_mut.follows.lender left).entries ≡ length rounds
    = rw (c.get_mut.follows.holds left).0 (length-set_value _ rounds left) in
    let all = c.requires.listed.room in
    let kept = c.wake.ensures.kept in
    let here : times_due (slot_at (c.get_mut.follows.lender left).entries c.args.view) ≡ cond wakes 1 0 + times_due (slot_at rounds c.args.view)
    = rw (updates.1, there) (woken_due c.in-Some.slot.now.changed left.changed c.make-made.ensures.stays) in
    woken_listed (heap_items views) (heap_items c.wake.new.self.views) (heap_capacity views) (heap_capacity c.wake.new.self.views)
    rounds (c.get_mut.follows.lender left).entries c.args.view wakes c.requires.listed (omega (arith, as_many, all, kept))
    c.wake.ensures.times here (λ other apart. updates.2 other (not_at c.args.view other apart))

pub returns-in_err-insert-in-Ok-clause-listed : goal.returns-in_err-insert-in-Ok-clause-listed
returns-in_err-insert-in-Ok-clause-listed g c =
    kept_listed _ _ _ _ _ _ c.requires.listed c.in_ok-make_room-in-None.ensures.same c.in_ok-make_room-in-None.ensures.kept
    (c.in_err-insert-in-Ok.ensures.err ∙ ap (λ m. m.entries) c.get_mut.follows.holds-at-none)

pub wake-requires-in-Ok : goal.wake-requires-in-Ok
wake-requires-in-Ok g c = λ _.
    let views = c.make_room.new.self.views in
    let most = no_more (heap_items c.args.self.now.due.views) c.args.self.now.slots.entries c.requires.listed.listed in
    let same : length (heap_items views) ≡ length (heap_items c.args.self.now.due.views)
    = ap length c.in_ok-make_room-in-None.ensures.same in
    let room = c.in_ok-make_room-in-None.ensures.room in
    let before = ap (λ m. length m.entries) c.get_mut.follows.holds-at-none in
    omega (arith, most, same, room, before, c.len-count.ensures.len, views.data.ok.0)

pub returns-in-Err-clause-listed : goal.returns-in-Err-clause-listed
returns-in-Err-clause-listed g c =
    kept_listed _ _ _ _ _ _ c.requires.listed c.in_ok-make_room-in-None.ensures.same c.in_ok-make_room-in-None.ensures.kept
    (ap (λ m. m.entries) c.get_mut.follows.holds-at-none)

at_most_one : (b : Bool) → cond b 0 1 ≤ 1
at_most_one true = omega arith
at_most_one false = omega arith

pub returns-in_ok-insert-in-Ok-clause-listed : goal.returns-in_ok-insert-in-Ok-clause-listed
returns-in_ok-insert-in-Ok-clause-listed g c =
    let old = c.args.self.now.slots.entries in
    let new = c.insert.new.self.entries in
    let left = c.make.new.slot in
    let views = c.make_room.new.self.views in
    let inserted = c.in_ok-insert-in-Ok.ensures in
    let before : c.get_mut.follows.lender-at-none.entries ≡ old = ap (λ m. m.entries) c.get_mut.follows.holds-at-none in
    let one = at_most_one (is_some c.in_ok-insert-in-Ok.field-0) in
    let as_many : length new ≡ length old + cond (is_some c.in_ok-insert-in-Ok.field-0) 0 1
    = rw before at inserted.len in
    let room = c.in_ok-make_room-in-None.ensures.room in
    let kept = c.wake-in-Ok.ensures.kept in
    let here : times_due (slot_at new c.args.view) ≡ cond left.changed 1 0 + times_due (slot_at old c.args.view)
    = rw (inserted.updates.1, sym c.in-None.ensures.value) (let n : ℕ = cond left.changed 1 0 in grind (arith)) in
    let same = c.in_ok-make_room-in-None.ensures.same in
    woken_listed (heap_items views) (heap_items c.wake-in-Ok.new.self.views) (heap_capacity views) (heap_capacity c.wake-in-Ok.new.self.views)
    old new c.args.view left.changed
    (kept_listed _ _ _ _ _ _ c.requires.listed same c.in_ok-make_room-in-None.ensures.kept refl)
    (omega (arith, as_many, one, room, kept, c.len-count.ensures.len, ap length before))
    c.wake-in-Ok.ensures.times here
    (λ other apart. inserted.updates.2 other (not_at c.args.view other apart)
    ∙ ap (λ m. get nat_cmp m other) c.get_mut.follows.holds-at-none)

pub returns-in-Some-clause-makes_call : goal.returns-in-Some-clause-makes_call
returns-in-Some-clause-makes_call g c =
    let updates = (c.get_mut.follows.holds c.make-made.new.slot).3 (search rules) in
    told_there _ (get nat_cmp c.args.self.now.slots)
    (get nat_cmp (c.get_mut.follows.lender c.make-made.new.slot)) c.args.view _
    c.in-Some.slot.now c.make-made.new.slot (sym c.in-Some.ensures.value)
    (g.T.Step.call c.args.step) g.T.Step.answered c.make-made.result updates.1
    (λ other apart. updates.2 other (not_at c.args.view other apart))
    c.make-made.ensures.meets c.make-made.ensures.due c.make-made.ensures.same

pub returns-in-Some-clause-declined : goal.returns-in-Some-clause-declined
returns-in-Some-clause-declined g c =
    on_err_same c.make-made.result c.make-made.new.slot c.in-Some.slot.now _ c.make-made.ensures.refused
    (λ same. (c.get_mut.follows.holds c.make-made.new.slot).0
    ∙ set_value_same _ _ _ (sym c.in-Some.ensures.value ∙ ap Some (sym same)))

pub returns-in_ok-insert-in-Ok-clause-makes_call : goal.returns-in_ok-insert-in-Ok-clause-makes_call
returns-in_ok-insert-in-Ok-clause-makes_call g c =
    let made = c.in_ok-slot-in-None.ensures in
    told_fresh _ c.args.self.now.slots c.get_mut.follows.lender-at-none c.insert.new.self
    c.args.view (search rules) (sym c.in-None.ensures.value)
    _ c.in_ok-slot-in-None.slot.round (g.T.Step.call c.args.step)
    (g.T.Step.answered c.in-Ok.answer) c.make.new.slot.changed
    (ap (λ s. s.round) made.made) made.represents
    c.make.new.slot.round c.in-Ok.ensures.same c.in-Ok.ensures.meets
    c.in_ok-insert-in-Ok.ensures.updates.1
    (c.in-Ok.ensures.due
    ∙ ap (λ s. due_after (g.T.Step.call c.args.step, g.T.Step.answered c.in-Ok.answer) s.changed)
    made.made)
    (λ other apart.
    c.in_ok-insert-in-Ok.ensures.updates.2 other (not_at c.args.view other apart))

pub returns-in-Err-clause-named : goal.returns-in-Err-clause-named
returns-in-Err-clause-named g c =
    let made = c.in_ok-slot-in-None.ensures in
    refused_fresh (round_config g.S.Scheme.meaning g.S.PublicKey.Ord.cmp g.S.Signature.PartialEq.eq
    g.D.PartialEq.eq) _ _ c.in_ok-slot-in-None.slot.round (g.T.Step.refuses c.args.step)
    c.in-Err.fault (sym c.in-None.ensures.value) (ap (λ s. s.round) made.made) made.represents
    c.in-Err.ensures.named
