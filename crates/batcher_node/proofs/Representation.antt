-- How a node goes on representing its history: one view's round made a call, or none did.
use Rattle.batcher_node.proofs.Words.{◌≡◌, ◌≢◌, ◌≤◌, ◌<◌, ◌⊎◌, length, inl, inr, ℕ, Bool, false, cond, [], ◌∷◌, ◌++◌, Option, Some, None, refl, sym, ap, ◌∙◌}
use Rattle.batcher_node.proofs.Words.{subst, arith, ⊎_elim, MatchOption, IfSome, option_or, Ordering, cases_eq, Call, Answer, Meaning, Config, config, is_empty}
use Rattle.batcher_node.proofs.Words.{RoundView, History, IsPossible, MayAnswer, round_config, Represents, Slot, mode_now, numbered, NodeEvent, NodeHistory}
use Rattle.batcher_node.proofs.Words.{view_history, view_history_by, window_in, window_after, cause_by, NodeView, NodeConfig, node_config, cause_at, due_after}
use Rattle.batcher_node.proofs.Words.{slot_at, fresh_round, MakesCall, MakesCallThere, MakesCallFresh, ViewGoesOn, mode_of, config_of, is_to_be_tried, IsNamed}
use Rattle.batcher_node.proofs.Words.{ViewRepresents, NodeRepresents}

module _ {D K G C : Type 0} (x : NodeConfig D K G C) where
  -- where nothing was said in a view, its round would be made now
  mode_unsaid : (past : NodeHistory D K G C) (view : ℕ) → view_history view past ≡ []
      → mode_of x past view ≡ mode_now x.retains (window_in past) view
  mode_unsaid [] view none = refl
  mode_unsaid (event ∷ past) view none =
      ap (λ t. cond (is_empty t) (mode_now x.retains (window_in (event ∷ past)) view)
      (mode_of x past view)) none

  -- A view whose round was called keeps its mode.
  mode_stays : (past : NodeHistory D K G C) (event : NodeEvent D K G C) (view : ℕ)
      → is_empty (view_history view (event ∷ past)) ≡ false
      → mode_of x (event ∷ past) view ≡ mode_of x past view
  mode_stays past event view some =
      ap (λ b. cond b (mode_now x.retains (window_in (event ∷ past)) view) (mode_of x past view))
      some

  pub config_stays : (past : NodeHistory D K G C) (event : NodeEvent D K G C) (view : ℕ)
      → is_empty (view_history view (event ∷ past)) ≡ false
      → config_of x (event ∷ past) view ≡ config_of x past view
  config_stays past event view some =
      ap (λ mode. config x.meaning x.compare_keys x.same_signature x.same_digest
      (numbered x.epoch view) mode) (mode_stays past event view some)

  -- A VIEW THAT WAS TOLD NOTHING BY THE LAST EVENT
  module _ (past : NodeHistory D K G C) (event : NodeEvent D K G C) (view : ℕ)
      (none : view_history_by view event ≡ []) where
    told_same : view_history view (event ∷ past) ≡ view_history view past
    told_same = ap (λ t. t ++ view_history view past) none

    begun_same : (b : Bool) → is_empty (view_history view past) ≡ b
        → is_empty (view_history view (event ∷ past)) ≡ b
    begun_same b h = ap is_empty told_same ∙ h

    possible_by : (t : History D K G C) → view_history view past ≡ t
        → IsPossible (config_of x past view) (view_history view past)
        → IsPossible (config_of x (event ∷ past) view) (view_history view (event ∷ past))
    possible_by [] is h =
        subst (IsPossible (config_of x (event ∷ past) view)) (sym (told_same ∙ is)) tt
    possible_by (e ∷ t) is h =
        subst (λ y. IsPossible y (view_history view (event ∷ past)))
        (sym (config_stays past event view (begun_same false (ap is_empty is))))
        (subst (IsPossible (config_of x past view)) (sym told_same) h)

    possible_still : IsPossible (config_of x past view) (view_history view past)
        → IsPossible (config_of x (event ∷ past) view) (view_history view (event ∷ past))
    possible_still h = possible_by (view_history view past) refl h

    view_still : {S : Type 0} (slot : Slot (RoundView S G D)) → ViewRepresents x past view slot
        → ViewRepresents x (event ∷ past) view slot
    view_still slot h =
        let some = begun_same false h.begun in
        record {
          begun = some;
          mode_is = h.mode_is ∙ sym (mode_stays past event view some);
          changed_is = h.changed_is ∙ ap is_to_be_tried (sym told_same);
          represents =
              subst (λ y. Represents y (view_history view (event ∷ past)) slot.round.holds)
              (sym (config_stays past event view some))
              (subst (λ t. Represents (config_of x past view) t slot.round.holds) (sym told_same) h.represents);
        }

    match_still : {S : Type 0} (o : Option (Slot (RoundView S G D)))
        → MatchOption o (view_history view past ≡ []) (ViewRepresents x past view)
        → MatchOption o (view_history view (event ∷ past) ≡ [])
        (ViewRepresents x (event ∷ past) view)
    match_still None h = told_same ∙ h
    match_still (Some slot) h = view_still slot h

  -- NO VIEW WAS TOLD ANYTHING
  module _ {S : Type 0} (past : NodeHistory D K G C) (event : NodeEvent D K G C)
      (old new : NodeView S G D) (none : (view : ℕ) → view_history_by view event ≡ [])
      (window : new.window ≡ window_after old.window event)
      (later : old.window.finalized ≤ new.window.finalized)
      (blocked : (i : ℕ) → i < length x.meaning.participants
      → cause_at new.blocked i ≡ option_or (cause_at old.blocked i) (cause_by x event i))
      (slots : (view : ℕ) → new.window.finalized ≤ view → slot_at new.rounds view ≡ slot_at old.rounds view) where
    pub told_none : IsNamed x past event → NodeRepresents x past old
        → NodeRepresents x (event ∷ past) new
    told_none named h =
        record {
          window_is = window ∙ ap (λ w. window_after w event) h.window_is;
          blocked_are = λ i within.
              blocked i within ∙ ap (λ c. option_or c (cause_by x event i)) (h.blocked_are i within);
          answered = (named, h.answered);
          possible = λ view. possible_still past event view (none view) (h.possible view);
          views = λ view within.
              subst
              (λ o. MatchOption o (view_history view (event ∷ past) ≡ []) (ViewRepresents x (event ∷ past) view))
              (sym (slots view within))
              (match_still past event view (none view) (slot_at old.rounds view)
              (h.views view (omega (arith, later, within))));
        }

-- the configuration of the round of a view
pub config_by : {S D K G C : Type 0} (meaning : S → Meaning D K G C)
    (compare_keys : K → K → Ordering)
    (same_signature : G → G → Bool) (same_digest : D → D → Bool) (past : NodeHistory D K G C)
    (old : NodeView S G D) (view : ℕ) (r : RoundView S G D) → r.scheme ≡ old.scheme
    → r.number ≡ numbered old.epoch view
    → r.mode ≡ mode_of (node_config meaning compare_keys same_signature same_digest old) past view
    → round_config meaning compare_keys same_signature same_digest r
    ≡ config_of (node_config meaning compare_keys same_signature same_digest old) past view
config_by meaning compare_keys same_signature same_digest past old view r scheme number mode =
    ap (λ s. config (meaning s) compare_keys same_signature same_digest r.number r.mode) scheme
    ∙ ap (λ n. config (meaning old.scheme) compare_keys same_signature same_digest n r.mode) number
    ∙ ap (λ m. config (meaning old.scheme) compare_keys same_signature same_digest
    (numbered old.epoch view) m) mode

-- ONE VIEW WAS TOLD SOMETHING
module _ {S D K G C : Type 0} (meaning : S → Meaning D K G C) (compare_keys : K → K → Ordering)
    (same_signature : G → G → Bool) (same_digest : D → D → Bool)
    (past : NodeHistory D K G C) (event : NodeEvent D K G C) (view : ℕ)
    (call : Call K G C D) (answer : Answer G C D)
    (old new : NodeView S G D) where
  abbrev by : RoundView S G D → Config D K G C
  by = round_config meaning compare_keys same_signature same_digest

  abbrev x : NodeConfig D K G C
  x = node_config meaning compare_keys same_signature same_digest old

  -- the round that makes the call, which represents its history
  record Told : Type 0 where
    slot : Slot (RoundView S G D)
    is_by : by slot.round ≡ config_of x past view
    mode_is : slot.round.mode ≡ mode_of x past view
    changed_is : slot.changed ≡ is_to_be_tried (view_history view past)
    represents : Represents (config_of x past view) (view_history view past) slot.round.holds
    goes_on : ViewGoesOn by (slot_at old.rounds) (slot_at new.rounds) view slot call answer

  module _ (h : NodeRepresents x past old) (within : old.window.finalized ≤ view)
      (tended : IfSome (slot_at old.rounds view) (λ slot. (slot.round.scheme ≡ old.scheme)
      × (slot.round.number ≡ numbered old.epoch view))) where
    told_there : MakesCallThere by (slot_at old.rounds) (slot_at new.rounds) view call answer → Told
    told_there t =
        let represents = subst (λ o. MatchOption o (view_history view past ≡ []) (ViewRepresents x past view)) t.there
        (h.views view within) in
        let own = subst (λ o. IfSome o (λ slot. (slot.round.scheme ≡ old.scheme)
        × (slot.round.number ≡ numbered old.epoch view))) t.there tended in
        record {
          slot = t.slot;
          is_by = config_by meaning compare_keys same_signature same_digest past old view t.slot.round
              own.0 own.1 represents.mode_is;
          mode_is = represents.mode_is;
          changed_is = represents.changed_is;
          represents = represents.represents;
          goes_on = t.goes_on;
        }

    told_anew : MakesCallFresh by (slot_at old.rounds) (slot_at new.rounds) view
        (fresh_round old.scheme old.epoch old.retains old.window view) call answer → Told
    told_anew t =
        let fresh = fresh_round {G = G} {D = D} old.scheme old.epoch old.retains old.window view in
        let none = subst (λ o. MatchOption o (view_history view past ≡ []) (ViewRepresents x past view)) t.absent
        (h.views view within) in
        let mode = ap (λ w. mode_now old.retains w view) h.window_is ∙ sym (mode_unsaid x past view none) in
        let is = config_by meaning compare_keys same_signature same_digest past old view fresh refl refl mode in
        record {
          slot = record { round = fresh; changed = false };
          is_by = is;
          mode_is = mode;
          changed_is = sym (ap is_to_be_tried none);
          represents = subst (λ t. Represents (config_of x past view) t fresh.holds) (sym none)
              (subst (λ y. Represents y [] fresh.holds) is t.fresh_represents);
          goes_on = t.goes_on;
        }

    told_either : MakesCall by (slot_at old.rounds) (slot_at new.rounds) view
        (fresh_round old.scheme old.epoch old.retains old.window view) call answer → Told
    told_either t = ⊎_elim told_there told_anew t

  module _ (here : view_history_by view event ≡ (call, answer) ∷ [])
      (elsewhere : (other : ℕ) → other ≢ view → view_history_by other event ≡ []) where
    told_more : view_history view (event ∷ past) ≡ (call, answer) ∷ view_history view past
    told_more = ap (λ t. t ++ view_history view past) here

    begun_now : is_empty (view_history view (event ∷ past)) ≡ false
    begun_now = ap is_empty told_more

    -- what the round holds represents the history with the call too
    represents_after : (t : Told) → Represents (config_of x past view)
        ((call, answer) ∷ view_history view past)
        t.goes_on.after.holds
    represents_after t =
        subst (λ y. Represents y ((call, answer) ∷ view_history view past) t.goes_on.after.holds) t.is_by
        (t.goes_on.simulates (view_history view past)
        (subst (λ y. Represents y (view_history view past) t.slot.round.holds) (sym t.is_by) t.represents)).represents

    represents_now : (t : Told) → Represents (config_of x (event ∷ past) view)
        (view_history view (event ∷ past))
        t.goes_on.after.holds
    represents_now t =
        subst (λ y. Represents y (view_history view (event ∷ past)) t.goes_on.after.holds)
        (sym (config_stays x past event view begun_now))
        (subst (λ h. Represents (config_of x past view) h t.goes_on.after.holds) (sym told_more)
        (represents_after t))

    view_now : (t : Told) → ViewRepresents x (event ∷ past) view
        (record { round = t.goes_on.after; changed = due_after (call, answer) t.slot.changed })
    view_now t =
        record {
          begun = begun_now;
          mode_is = t.goes_on.same.2 ∙ t.mode_is ∙ sym (mode_stays x past event view begun_now);
          changed_is = ap (due_after (call, answer)) t.changed_is ∙ ap is_to_be_tried (sym told_more);
          represents = represents_now t;
        }

    possible_at : (t : Told) (h : NodeRepresents x past old) (other : ℕ)
        → (other ≡ view) ⊎ (other ≢ view)
        → IsPossible (config_of x (event ∷ past) other) (view_history other (event ∷ past))
    possible_at t h other (inl is) =
        subst (λ v. IsPossible (config_of x (event ∷ past) v) (view_history v (event ∷ past))) (sym is)
        (represents_now t).possible
    possible_at t h other (inr apart) =
        possible_still x past event other (elsewhere other apart) (h.possible other)

    views_at : (t : Told) (h : NodeRepresents x past old) (other : ℕ) → old.window.finalized ≤ other
        → (other ≡ view) ⊎ (other ≢ view)
        → MatchOption (slot_at new.rounds other) (view_history other (event ∷ past) ≡ [])
        (ViewRepresents x (event ∷ past) other)
    views_at t h other within (inl is) =
        subst
        (λ v. MatchOption (slot_at new.rounds v) (view_history v (event ∷ past) ≡ []) (ViewRepresents x (event ∷ past) v))
        (sym is)
        (subst
        (λ o. MatchOption o (view_history view (event ∷ past) ≡ []) (ViewRepresents x (event ∷ past) view))
        (sym t.goes_on.here) (view_now t))
    views_at t h other within (inr apart) =
        subst
        (λ o. MatchOption o (view_history other (event ∷ past) ≡ []) (ViewRepresents x (event ∷ past) other))
        (sym (t.goes_on.others other apart))
        (match_still x past event other (elsewhere other apart) (slot_at old.rounds other)
        (h.views other within))

    pub told_one :
        MakesCall by (slot_at old.rounds) (slot_at new.rounds) view
        (fresh_round old.scheme old.epoch old.retains old.window view) call answer
        → IfSome (slot_at old.rounds view) (λ slot. (slot.round.scheme ≡ old.scheme)
        × (slot.round.number ≡ numbered old.epoch view))
        → old.window.finalized ≤ view
        → new.window ≡ window_after old.window event
        → new.window.finalized ≡ old.window.finalized
        → ((i : ℕ) → i < length x.meaning.participants
        → cause_at new.blocked i ≡ option_or (cause_at old.blocked i) (cause_by x event i))
        → (NodeRepresents x past old → MayAnswer (config_of x past view)
        (view_history view past) call answer
        → IsNamed x past event)
        → NodeRepresents x past old → NodeRepresents x (event ∷ past) new
    told_one makes_call tended within window same blocked named h =
        let t = told_either h within tended makes_call in
        record {
          window_is = window ∙ ap (λ w. window_after w event) h.window_is;
          blocked_are = λ i in_range.
              blocked i in_range ∙ ap (λ c. option_or c (cause_by x event i)) (h.blocked_are i in_range);
          answered = (named h (represents_after t).possible.1.1.0, h.answered);
          possible = λ other. possible_at t h other (cases_eq other view);
          views = λ other in_old.
              views_at t h other (subst (λ n. n ≤ other) same in_old) (cases_eq other view);
        }
