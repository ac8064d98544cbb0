-- What a map of rounds has once one of them was called.
use Rattle.batcher_node.proofs.Words.{◌≡◌, ◌≢◌, ℕ, Bool, true, false, cond, not, is_some, Option, Some, None, [], Result, Ok, Err, refl, sym, ap, ◌∙◌, subst}
use Rattle.batcher_node.proofs.Words.{inl, inr, OnErr, IfOk, IfErr, IsErrAnd, is_err, ◌==◌, IfSome, MatchOption, true≢false, Participant, Ordering, Less, Equal}
use Rattle.batcher_node.proofs.Words.{Greater, nat_cmp, is_eq, BTreeMap, get, lookup, exact_unsigned, Certificate, Kind, Notarization, Nullification}
use Rattle.batcher_node.proofs.Words.{Finalization, Vote, Batch, LeaderFault, LeaderChanged, Added, Call, ConstructCall, OwnCall, Answer, ConstructAnswer}
use Rattle.batcher_node.proofs.Words.{OwnFault, OutOfMemoryFault, Config, own_answer, is_released, fault_or_memory, unopposed_result, leader_set_answer}
use Rattle.batcher_node.proofs.Words.{kind_of, needs_memory, RoundView, SameRound, SimulatesAlways, SimulatesOnOk, ForEachHistory, Represents, Slot, MakesCall}
use Rattle.batcher_node.proofs.Words.{NeedsThere, Refuses, IsLedByAnother, due_after}

unequal_is : (o : Ordering) → (o ≡ Equal → ⊥) → is_eq o ≡ false
unequal_is Less apart = refl
unequal_is Equal apart = absurd (apart refl)
unequal_is Greater apart = refl

-- a key finds no other number
pub not_at : (key other : ℕ) → other ≢ key → is_eq (nat_cmp key other) ≡ false
not_at key other apart =
    unequal_is (nat_cmp key other) (λ same. apart (sym (exact_unsigned key other same)))

module _ {X : Type 0} where
  -- maps with the same entries have the same at each key
  pub same_get : (m n : BTreeMap ℕ X) → n.entries ≡ m.entries → (key : ℕ)
      → get nat_cmp n key ≡ get nat_cmp m key
  same_get m n same key = ap (λ es. lookup (λ k. is_eq (nat_cmp key k)) es) same

-- what holds at each error
pub on_err : {A E P : Type 0} (r : Result A E) → P → OnErr r P
on_err (Ok a) p = tt
on_err (Err e) p = p

-- what holds of what is there
pub if_some : {T : Type 0} (P : T → Type 0) (o : Option T) (x : T) → o ≡ Some x → IfSome o P → P x
if_some P o x is h = subst (λ o. IfSome o P) is h

pub if_ok : {A E : Type 0} (P : A → Type 0) (r : Result A E) (a : A) → r ≡ Ok a → IfOk r P → P a
if_ok P r a is h = subst (λ r. IfOk r P) is h

-- what holds at an error
pub err_more : {A E : Type 0} (P Q : E → Type 0) → ((e : E) → P e → Q e) → (r : Result A E)
    → IsErrAnd r P → IfErr r Q
err_more P Q more (Ok a) h = absurd h
err_more P Q more (Err e) h = more e h

-- what holds of one that is known
pub err_known : {A E : Type 0} (Q : E → Type 0) (known : E) → Q known → (r : Result A E)
    → IsErrAnd r (λ e. e ≡ known) → IfErr r Q
err_known Q known q r h = err_more (λ e. e ≡ known) Q (λ e is. subst Q (sym is) q) r h

pub err_fact : {A E : Type 0} (Q : E → Type 0) (r : Result A E) → IfErr r Q → (e : E)
    → r ≡ Err e → Q e
err_fact Q r h e is = subst (λ r. IfErr r Q) is h

by_same : (b : Bool) (e : LeaderFault) (done : Unit {0})
    → Err e ≡ cond b (Ok done) (Err LeaderChanged)
    → cond b (Ok done) (Err LeaderChanged) ≡ Err LeaderChanged
by_same true e done is = absurd (true≢false (ap is_err is))
by_same false e done is = refl

-- a leader is refused where another was named
pub is_another : (known : Option Participant) (leader : Participant) (e : LeaderFault)
    → Err e ≡ leader_set_answer known leader → leader_set_answer known leader ≡ Err LeaderChanged
is_another None leader e is = absurd (true≢false (ap is_err is))
is_another (Some known) leader e is = by_same (known.0 == leader.0) e tt is

-- a round that constructs is due where it gives a batch
pub due_given : {D C : Type 0} (K G : Type 0) (given : Option (Batch (Certificate C D)))
    (due : Bool)
    → is_some given ≡ due_after {D = D} {K = K} {G = G} (ConstructCall, ConstructAnswer given) due
due_given K G None due = refl
due_given K G (Some batch) due = refl

-- what holds where an error leaves two values the same
pub on_err_same : {A E X : Type 0} (r : Result A E) (a b : X) (Q : Type 0) → OnErr r (a ≡ b)
    → (a ≡ b → Q) → OnErr r Q
on_err_same (Ok x) a b Q h more = tt
on_err_same (Err e) a b Q h more = more h

-- A vote of the node's own is refused for the fault that its view's history names; where the view
-- has no round, for memory alone.
abbrev pub NamesFault : {S D K G C : Type 0} → (RoundView S G D → Config D K G C)
    → Option (Slot (RoundView S G D)) → Vote G D → OwnFault → Type 0
NamesFault round_config at vote fault =
    MatchOption at (fault ≡ OutOfMemoryFault) (λ slot. ForEachHistory round_config slot.round
    (λ x past. fault ≡ fault_or_memory (own_answer x past vote)))

module _ {S D K G C : Type 0} (round_config : RoundView S G D → Config D K G C) (vote : Vote G D) where
  first_named : (kind : Kind) (released : Bool)
      → fault_or_memory (unopposed_result kind (Added released)) ≡ OutOfMemoryFault
  first_named Notarization released = refl
  first_named Nullification released = refl
  first_named Finalization released = refl

  -- why a vote is refused where there is no memory for its view's round
  pub none_named : (o : Option (Slot (RoundView S G D))) (fault : OwnFault) → o ≡ None
      → fault ≡ OutOfMemoryFault → NamesFault round_config o vote fault
  none_named o fault none is = subst (λ o. NamesFault round_config o vote fault) (sym none) is

  -- why its view's round refuses it: what its history names, and memory only where it may need some
  abbrev RefusesOwn : RoundView S G D → OwnFault → Type 0
  RefusesOwn round fault =
      (ForEachHistory round_config round (λ x past.
      fault ≡ fault_or_memory (own_answer x past vote)))
      × (fault ≡ OutOfMemoryFault → ForEachHistory round_config round (λ x past.
      needs_memory x past (OwnCall vote) ≡ true))

  pub own_refused : (o : Option (Slot (RoundView S G D))) (fresh : RoundView S G D)
      (fault : OwnFault) → Refuses round_config o fresh RefusesOwn fault
      → NamesFault round_config o vote fault
  own_refused None fresh fault h =
      h.1.0 [] h.0
      ∙ first_named (kind_of vote) (not (is_released (round_config fresh) [] (kind_of vote)))
  own_refused (Some slot) fresh fault h = h.0

  -- where that is for memory, it may need some
  pub own_needs : (o : Option (Slot (RoundView S G D))) (fresh : RoundView S G D)
      (fault : OwnFault) → Refuses round_config o fresh RefusesOwn fault
      → fault ≡ OutOfMemoryFault → NeedsThere round_config o (OwnCall vote)
  own_needs None fresh fault h is = tt
  own_needs (Some slot) fresh fault h is = h.1 is

module _ {S D K G C A E : Type 0} (round_config : RoundView S G D → Config D K G C)
    (old new : ℕ → Option (Slot (RoundView S G D))) (view : ℕ) (fresh : RoundView S G D)
    (before after : Slot (RoundView S G D)) (there : old view ≡ Some before) where
  -- a round that was there, and was called
  pub told_there : (call : Call K G C D) (answered : A → Answer G C D) (r : Result A E)
      → new view ≡ Some after → ((other : ℕ) → other ≢ view → new other ≡ old other)
      → SimulatesOnOk round_config before.round call answered r after.round.holds
      → IfOk r (λ answer. after.changed ≡ due_after (call, answered answer) before.changed)
      → SameRound before.round after.round
      → IfOk r (λ answer. MakesCall round_config old new view fresh call (answered answer))
  told_there call answered (Err e) here others simulates due same = tt
  told_there call answered (Ok answer) here others simulates due same =
      inl (record {
        slot = before;
        there = there;
        goes_on = record {
          after = after.round;
          same = same;
          simulates = simulates;
          here = here ∙ ap (λ b. Some (record { round = after.round; changed = b })) due;
          others = others;
        };
      })

-- what is known where a fresh round refuses
pub refused_fresh : {S D K G C F : Type 0} (round_config : RoundView S G D → Config D K G C)
    (o : Option (Slot (RoundView S G D))) (fresh round : RoundView S G D)
    (why : RoundView S G D → F → Type 0) (fault : F) → o ≡ None → round ≡ fresh
    → Represents (round_config round) [] round.holds → why round fault
    → Refuses round_config o fresh why fault
refused_fresh round_config o fresh round why fault none is represents named =
    subst (λ o. Refuses round_config o fresh why fault) (sym none)
    (subst (λ r. Represents (round_config r) [] r.holds × why r fault) is (represents, named))

-- why a leader is refused by a view's round: another is named there, and none is in a fresh one
pub led_refused : {S D K G C : Type 0} (round_config : RoundView S G D → Config D K G C)
    (o : Option (Slot (RoundView S G D))) (fresh : RoundView S G D) (leader : Participant)
    (fault : LeaderFault) → fresh.holds.buffered.leader ≡ None
    → Refuses round_config o fresh
    (λ round fault. Err fault ≡ leader_set_answer round.holds.buffered.leader leader) fault
    → IsLedByAnother o leader
led_refused round_config None fresh leader fault none h =
    absurd (true≢false (ap is_err (h.1 ∙ ap (λ l. leader_set_answer l leader) none)))
led_refused round_config (Some slot) fresh leader fault none h =
    record {
      slot = slot;
      there = refl;
      another = is_another slot.round.holds.buffered.leader leader fault h;
    }

module _ {S D K G C : Type 0} (round_config : RoundView S G D → Config D K G C)
    (m middle n : BTreeMap ℕ (Slot (RoundView S G D))) (view : ℕ)
    (uncalled : middle.entries ≡ m.entries) (absent : get nat_cmp m view ≡ None) where
  -- a fresh round that was called and then kept
  pub told_fresh : (fresh round : RoundView S G D) (call : Call K G C D) (answer : Answer G C D)
      (changed : Bool) → round ≡ fresh → Represents (round_config round) [] round.holds
      → (after : RoundView S G D) → SameRound round after
      → SimulatesAlways round_config round (call, answer) after.holds
      → get nat_cmp n view ≡ Some (record { round = after; changed = changed })
      → changed ≡ due_after (call, answer) false
      → ((other : ℕ) → other ≢ view → get nat_cmp n other ≡ get nat_cmp middle other)
      → MakesCall round_config (get nat_cmp m) (get nat_cmp n) view fresh call answer
  told_fresh fresh round call answer changed is represents after same simulates here due others =
      inr (record {
        absent = absent;
        fresh_represents = subst (λ r. Represents (round_config r) [] r.holds) is represents;
        goes_on = record {
          after = after;
          same = subst (λ r. SameRound r after) is same;
          simulates = subst (λ r. SimulatesAlways round_config r (call, answer) after.holds) is simulates;
          here = here ∙ ap (λ b. Some (record { round = after; changed = b })) due;
          others = λ other apart. others other apart ∙ same_get m middle uncalled other;
        };
      })

-- A call that a round refuses for memory may need some.
pub needs_refused : {S D K G C A F : Type 0} (round_config : RoundView S G D → Config D K G C)
    (call : Call K G C D) (at : Option (Slot (RoundView S G D))) (fresh : RoundView S G D)
    (r : Result A F) → IfErr r (Refuses round_config at fresh (λ round _.
    ForEachHistory round_config round (λ x past. needs_memory x past call ≡ true)))
    → (e : F) → r ≡ Err e → NeedsThere round_config at call
needs_refused {S} {D} {K} {G} {C} {A} {F} round_config call at fresh r named e is =
    by_slot at (err_fact _ r named e is) where
      by_slot : (o : Option (Slot (RoundView S G D)))
          → Refuses round_config o fresh (λ round (_ : F).
          ForEachHistory round_config round (λ x past. needs_memory x past call ≡ true)) e
          → NeedsThere round_config o call
      by_slot None h = tt
      by_slot (Some slot) h = h

-- The error that a result has is the one that is known.
pub known_error : {A E : Type 0} (r : Result A E) (known e : E) → IsErrAnd r (λ x. x ≡ known)
    → r ≡ Err e → known ≡ e
known_error r known e h is = sym (subst (λ r. IsErrAnd r (λ x. x ≡ known)) is h)
