-- A node, as contracts see it, its configuration, and what one call of a view's round changes.
use Rattle.std.specs.Prelude.{◌≡◌, ◌≢◌, ◌≤◌, ◌<◌, ◌⊎◌, ◌||◌, ⊤, ℕ, Bool, true, false, List, []}
use Rattle.std.specs.Prelude.{Option, Some, None, Err, IfSome, MatchOption, option_and_then}
use Rattle.std.specs.List.{slice_get}
use Rattle.std.specs.Ordering.{nat_cmp}
use Rattle.std.specs.declared.cmp.Ordering.{Ordering}
use Rattle.rand_core.specs.Stream.{Stream}
use Rattle.std.specs.Map.{lookup}
use Rattle.std.specs.BTreeMap.{is_at}
use Rattle.batcher.specs.positions.Epoch.{Epoch}
use Rattle.batcher.specs.positions.Participant.{Participant}
use Rattle.batcher.specs.verifier.LeaderFault.TheVariants.{LeaderChanged as RoundLeaderChanged}
use Rattle.batcher.specs.calls.Call.{Call}
use Rattle.batcher.specs.calls.Call.TheVariants.{Network as NetworkCall, Construct as ConstructCall}
use Rattle.batcher.specs.calls.Call.TheVariants.{Forward as ForwardCall}
use Rattle.batcher.specs.answers.Answer.{Answer}
use Rattle.batcher.specs.answers.Answer.TheVariants.{Network as NetworkAnswer}
use Rattle.batcher.specs.answers.Answer.TheVariants.{Construct as ConstructAnswer}
use Rattle.batcher.specs.messages.Certificate.{Certificate}
use Rattle.batcher.specs.verifier.Batch.{Batch}
use Rattle.batcher.specs.Meaning.{Meaning}
use Rattle.batcher.specs.Config.{Config}
use Rattle.batcher.specs.RoundState.{RoundView, SameRound}
use Rattle.batcher.specs.Steps.{nothing_held, leader_set_answer, AfterConstruct}
use Rattle.batcher.specs.History.{Event}
use Rattle.batcher.specs.Answers.{needs_memory}
use Rattle.batcher.specs.RoundContracts.{ForEachHistory, SimulatesAlways}
use Rattle.batcher.specs.Represents.{Represents}
use Rattle.batcher_node.specs.declared.answers.EnterFault.{EnterFault}
use Rattle.batcher_node.specs.declared.answers.EnterFault.TheVariants.{LeaderChanged, OutOfMemory}
use Rattle.batcher_node.specs.declared.answers.EnterFault.TheVariants.{Passed}
use Rattle.batcher_node.specs.declared.window.Window.{Window}
use Rattle.batcher_node.specs.declared.answers.Cause.{Cause}
use Rattle.batcher_node.specs.declared.slot.Slot.{Slot}
use Rattle.batcher_node.specs.Windows.{contains, mode_now, numbered}

-- With scheme S, signatures G and digests D. The rounds are kept by their views' numbers,
-- ascending, each with whether it changed since it was found to rest.
pub record NodeView (S G D : Type 0) : Type 0 where
  pub scheme : S
  pub epoch : Epoch
  pub retains : Bool
  pub window : Window
  pub rounds : List (ℕ × Slot (RoundView S G D))
  -- why each participant is blocked, if it is, by its index
  pub blocked : List (Option Cause)

-- The configuration of a node: its scheme, which keys, signatures and digests are the same, its
-- epoch, and whether its rounds retain their votes.
pub record NodeConfig (D K G C : Type 0) : Type 0 where
  pub meaning : Meaning D K G C
  pub compare_keys : K → K → Ordering
  pub same_signature : G → G → Bool
  pub same_digest : D → D → Bool
  pub epoch : Epoch
  pub retains : Bool

-- the configuration of a node, as `round_config` is that of a round
abbrev pub node_config : {S D K G C : Type 0} → (S → Meaning D K G C) → (K → K → Ordering)
    → (G → G → Bool) → (D → D → Bool) → NodeView S G D → NodeConfig D K G C
node_config meaning compare_keys same_signature same_digest node =
    record {
      meaning = meaning node.scheme;
      compare_keys = compare_keys;
      same_signature = same_signature;
      same_digest = same_digest;
      epoch = node.epoch;
      retains = node.retains;
    }

-- why the participant of an index is blocked, if it is
abbrev pub cause_at : List (Option Cause) → ℕ → Option Cause
cause_at blocked i = option_and_then (λ cause. cause) (slice_get blocked i)

-- Whether a round has to be looked at after an event, by whether it had to before: where it may
-- have changed. A peer's vote that isn't added changes nothing, and nor does a proposal that is
-- handed on. A construction without a batch leaves nothing to do.
abbrev pub due_after : {D K G C : Type 0} → Event D K G C → Bool → Bool
due_after (ConstructCall, ConstructAnswer None) due = false
due_after (NetworkCall sender vote, NetworkAnswer admission) due = admission.added || due
due_after (ForwardCall me, answer) due = due
due_after event due = true

-- what is at a view
abbrev pub slot_at : {X : Type 0} → List (ℕ × X) → ℕ → Option X
slot_at rounds view = lookup (is_at (nat_cmp view)) rounds

-- There is a slot, and it changed since it was found to rest.
pub record HasChanged {R : Type 0} (at : Option (Slot R)) : Type 0 where
  pub slot : Slot R
  pub there : at ≡ Some slot
  pub changed : slot.changed ≡ true

-- The view is the lowest that changed since it was found to rest.
pub record IsNext {R : Type 0} (rounds : List (ℕ × Slot R)) (view : ℕ) : Type 0 where
  pub changed : HasChanged (slot_at rounds view)
  pub lowest : (lower : ℕ) → lower < view
      → IfSome (slot_at rounds lower) (λ slot. slot.changed ≡ false)

-- No view changed since it was found to rest.
abbrev pub IsAtRest : {S G D : Type 0} → NodeView S G D → Type 0
IsAtRest node = (view : ℕ) → IfSome (slot_at node.rounds view) (λ slot. slot.changed ≡ false)

-- What a call doesn't change.
abbrev pub SameNode : {S G D : Type 0} → NodeView S G D → NodeView S G D → Type 0
SameNode old new =
    (new.scheme ≡ old.scheme) × (new.epoch ≡ old.epoch) × (new.retains ≡ old.retains)

module _ {S G D : Type 0} where
  -- the round that is made where something is first said in a view
  abbrev pub fresh_round : S → Epoch → Bool → Window → ℕ → RoundView S G D
  fresh_round scheme epoch retains window view =
      let mode = mode_now retains window view in
      record {
        scheme = scheme;
        number = numbered epoch view;
        mode = mode;
        holds = nothing_held mode;
      }

  -- What a node keeps true: somebody takes part, and each view with a round has its own, and is in
  -- the window.
  pub record IsTended (participants : ℕ) (scheme : S) (epoch : Epoch) (window : Window)
      (rounds : List (ℕ × Slot (RoundView S G D))) : Type 0 where
    pub some : 1 ≤ participants
    pub ordered : window.finalized ≤ window.current
    pub own :
        (view : ℕ) → IfSome (slot_at rounds view) (λ slot. (slot.round.scheme ≡ scheme)
        × ((slot.round.number ≡ numbered epoch view) × (contains window view ≡ true)))

-- Another leader of the view was named before.
pub record IsLedByAnother {S G D : Type 0} (at : Option (Slot (RoundView S G D)))
    (leader : Participant) : Type 0 where
  pub slot : Slot (RoundView S G D)
  pub there : at ≡ Some slot
  pub another : leader_set_answer slot.round.holds.buffered.leader leader ≡ Err RoundLeaderChanged

-- Why the round of a view refuses a call, where `why` says that of a round: it is the one that is
-- there, or a fresh one.
abbrev pub Refuses : {S D K G C F : Type 0} → (RoundView S G D → Config D K G C)
    → Option (Slot (RoundView S G D)) → RoundView S G D → (RoundView S G D → F → Type 0) → F
    → Type 0
Refuses round_config at fresh why fault =
    MatchOption at (Represents (round_config fresh) [] fresh.holds × why fresh fault)
    (λ slot. why slot.round fault)

-- A call may need memory by each history of the round that is there, or there is none.
abbrev pub NeedsThere : {S D K G C : Type 0} → (RoundView S G D → Config D K G C)
    → Option (Slot (RoundView S G D)) → Call K G C D → Type 0
NeedsThere round_config at call =
    MatchOption at ⊤ (λ slot. ForEachHistory round_config slot.round
    (λ x past. needs_memory x past call ≡ true))

module _ {S D K G C : Type 0} (round_config : RoundView S G D → Config D K G C)
    (old new : ℕ → Option (Slot (RoundView S G D))) (view : ℕ) where
  -- A round was called: it goes on as its history says, and no other view has changed.
  pub record ViewGoesOn (before : Slot (RoundView S G D)) (call : Call K G C D)
      (answer : Answer G C D)
      : Type 0 where
    pub after : RoundView S G D
    pub same : SameRound before.round after
    pub simulates : SimulatesAlways round_config before.round (call, answer) after.holds
    pub here : new view
        ≡ Some (record { round = after; changed = due_after (call, answer) before.changed })
    pub others : (other : ℕ) → other ≢ view → new other ≡ old other

  -- The round of the view was called. It is one that was there,
  pub record MakesCallThere (call : Call K G C D) (answer : Answer G C D) : Type 0 where
    pub slot : Slot (RoundView S G D)
    pub there : old view ≡ Some slot
    pub goes_on : ViewGoesOn slot call answer

  -- or there was none, and it is a fresh one.
  pub record MakesCallFresh (fresh : RoundView S G D) (call : Call K G C D) (answer : Answer G C D)
      : Type 0 where
    pub absent : old view ≡ None
    pub fresh_represents : Represents (round_config fresh) [] fresh.holds
    pub goes_on : ViewGoesOn (record { round = fresh; changed = false }) call answer

  abbrev pub MakesCall : RoundView S G D → Call K G C D → Answer G C D → Type 0
  MakesCall fresh call answer = MakesCallThere call answer ⊎ MakesCallFresh fresh call answer

  -- The round of the view made a construction, by the step of a round: what is drawn from the
  -- generator, and what it gives for that, is up to the round.
  pub record Draws (before : Stream) (given : Option (Batch (Certificate C D))) (after : Stream)
      : Type 0 where
    pub slot : Slot (RoundView S G D)
    pub there : old view ≡ Some slot
    pub left : Slot (RoundView S G D)
    pub here : new view ≡ Some left
    pub step :
        AfterConstruct (round_config slot.round) slot.round.holds before given left.round.holds
        after

-- Why a view isn't entered. Where it has no round, there may be no memory for one.
abbrev pub WhyNotEntered : {S G D : Type 0} → NodeView S G D → ℕ → Participant → EnterFault
    → Type 0
WhyNotEntered node view leader Passed = view < node.window.finalized
WhyNotEntered node view leader LeaderChanged =
    IsLedByAnother (slot_at node.rounds view) leader
WhyNotEntered node view leader OutOfMemory = slot_at node.rounds view ≡ None
