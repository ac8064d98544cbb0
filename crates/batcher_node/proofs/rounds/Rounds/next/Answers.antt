use Rattle.batcher_node.proofs.Words.{◌≡◌, ◌<◌, ◌≤◌, ◌∙◌, sym, ℕ, false, Option, Some, None, IfSome, IfNone, heap_items, times, HasChanged, slot_at}
use Rattle.batcher_node.proofs.DueRounds.{listed_changed, unlisted_rests}
use Rattle.batcher_node.proofs.rounds.Rounds.next.Goals as goal

some_maps : {P Q : ℕ → Type 0} (o : Option ℕ) → ((view : ℕ) → P view → Q view) → IfSome o P
    → IfSome o Q
some_maps None h is = tt
some_maps (Some view) h is = h view is

none_maps : {P Q : Type 0} (o : Option ℕ) → (P → Q) → IfNone o P → IfNone o Q
none_maps None h is = h is
none_maps (Some view) h is = tt

pub returns-clause-found : goal.returns-clause-found
returns-clause-found g c =
    let changed : (view : ℕ) → 1 ≤ times (heap_items c.args.self.now.due.views) view
    → HasChanged (slot_at c.args.self.now.slots.entries view)
    = λ view some. listed_changed _ _ (c.requires.listed view) some in
    some_maps _ changed c.lowest.ensures.found

pub returns-clause-lowest : goal.returns-clause-lowest
returns-clause-lowest g c =
    let rests : (view : ℕ) → ((lower : ℕ) → lower < view → times (heap_items c.args.self.now.due.views) lower ≡ 0)
    → (lower : ℕ) → lower < view → IfSome (slot_at c.args.self.now.slots.entries lower) (λ slot. slot.changed ≡ false)
    = λ view none lower below. unlisted_rests _ (sym (c.requires.listed lower) ∙ none lower below) in
    some_maps _ rests c.lowest.ensures.lowest

pub returns-clause-none : goal.returns-clause-none
returns-clause-none g c =
    let rests : ((view : ℕ) → times (heap_items c.args.self.now.due.views) view ≡ 0)
    → (view : ℕ) → IfSome (slot_at c.args.self.now.slots.entries view) (λ slot. slot.changed ≡ false)
    = λ none view. unlisted_rests _ (sym (c.requires.listed view) ∙ none view) in
    none_maps _ rests c.lowest.ensures.none
