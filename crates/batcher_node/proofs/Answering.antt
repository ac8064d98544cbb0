-- Each sort of event, as a call of its view's round.
use Rattle.batcher_node.proofs.Words.{◌≡◌, ◌≢◌, ◌≤◌, ◌<◌, ℕ, Bool, true, false, not, cond, ◌&&◌, ◌==◌, List, [], ◌∷◌, Option, Some, None, Ok, refl, sym, ap}
use Rattle.batcher_node.proofs.Words.{◌∙◌, subst, arith, eqb, is_some, inl, inr, length, MatchOption, IfSome, list_any, option_map, option_or, is_some_and}
use Rattle.batcher_node.proofs.Words.{is_empty, OwnFault, kind_certified, fault_or_memory, unopposed_result, is_certified, is_released, Kind, Notarization}
use Rattle.batcher_node.proofs.Words.{Nullification, Finalization, Added, OutOfMemoryFault, needs_memory, own_answer, Call, ForEachHistory, Ordering, eq-eqb}
use Rattle.batcher_node.proofs.Words.{false≢true, Vote, Certificate, Admission, NetworkCall, CertificateCall, OwnCall, LeaderCall, ConstructCall, ForwardCall}
use Rattle.batcher_node.proofs.Words.{NetworkAnswer, CertificateAnswer, OwnAnswer, LeaderAnswer, ConstructAnswer, ForwardAnswer, Round, Meaning, subject_of}
use Rattle.batcher_node.proofs.Words.{subject_certified, round_in, kind_of, Represents, RoundView, Event, Activity, Proposal, Outcome, Batch, Participant}
use Rattle.batcher_node.proofs.Words.{round_config, Answered, Outside, Dropped, Cause, ForVote, ForCertificate, ForSignature, Recorded, Forged, Known, Cast}
use Rattle.batcher_node.proofs.Words.{certifies_itself, certificate_answer, Window, contains, numbered, is_of, entered, finalized, Slot, Epoch, NodeEvent}
use Rattle.batcher_node.proofs.Words.{vote_came, certificate_came, vote_cast, view_entered, view_finalized, constructed, proposal_forwarded, NodeHistory}
use Rattle.batcher_node.proofs.Words.{view_history, at_view, peer_in, is_peer, cause_by, invalid_in, NodeView, NodeConfig, node_config, cause_at, slot_at}
use Rattle.batcher_node.proofs.Words.{fresh_round, MakesCall, MakesCallThere, NeedsThere, IsNext, IsTended, HasChanged, NodeRepresents, receipt, receipt_from}
use Rattle.batcher_node.proofs.Words.{is_within, config_of, is_to_be_tried, ViewRepresents, NodeMeets, SimulatesCast, SimulatesForward, MayNeedIn, NextMayNeed}
use Rattle.batcher_node.proofs.Words.{cast_by, forgery_came, is_ahead, is_unblocked, is_none}
use Rattle.batcher_node.proofs.Calling.{NamesFault}
use Rattle.batcher_node.proofs.Representation.{told_one, told_none, config_by}

-- a test that fails
not_eqb : (a b : ℕ) → a ≢ b → eqb a b ≡ false
not_eqb a b apart = grind (arith, apart)

-- a view in the window isn't before the finalized one
pub above_finalized : (epoch : Epoch) (w : Window) (number : Round) → is_of epoch w number ≡ true
    → w.finalized ≤ number.view.0
above_finalized epoch w number within = grind (arith, within)

-- it is in the window
pub not_far : (epoch : Epoch) (w : Window) (number : Round) → is_of epoch w number ≡ true
    → contains w number.view.0 ≡ true
not_far epoch w number within = and_right (number.epoch.0 == epoch.0) within where
  and_right : {b : Bool} (a : Bool) → (a && b) ≡ true → b ≡ true
  and_right true h = h
  and_right false h = absurd (false≢true h)

at_most : {a b : ℕ} → a ≡ b → b ≤ a
at_most is = grind (arith, is)

-- the round of a view is its own
pub own_round : {S G D : Type 0} (participants : ℕ) (scheme : S) (epoch : Epoch) (window : Window)
    (rounds : List (ℕ × Slot (RoundView S G D))) → IsTended participants scheme epoch window rounds
    → (view : ℕ) → IfSome (slot_at rounds view) (λ slot. (slot.round.scheme ≡ scheme)
    × (slot.round.number ≡ numbered epoch view))
own_round {S = S} {G = G} {D = D} participants scheme epoch window rounds tended view =
    by_case (slot_at rounds view) (tended.own view) where
      by_case : (o : Option (Slot (RoundView S G D)))
          → IfSome o (λ slot. (slot.round.scheme ≡ scheme)
          × ((slot.round.number ≡ numbered epoch view) × (contains window view ≡ true)))
          → IfSome o (λ slot. (slot.round.scheme ≡ scheme)
          × (slot.round.number ≡ numbered epoch view))
      by_case None h = tt
      by_case (Some slot) h = (h.0, h.1.0)

not_before : (w : Window) (view : ℕ) → contains w view ≡ true → w.finalized ≤ view
not_before w view within = grind (arith, within)

-- a view with a round is in the window
in_window : {S G D : Type 0} (participants : ℕ) (scheme : S) (epoch : Epoch) (window : Window)
    (rounds : List (ℕ × Slot (RoundView S G D))) → IsTended participants scheme epoch window rounds
    → (view : ℕ) → HasChanged (slot_at rounds view) → window.finalized ≤ view
in_window {S = S} {G = G} {D = D} participants scheme epoch window rounds tended view t =
    let own = subst (λ o. IfSome o (λ slot. (slot.round.scheme ≡ scheme)
    × ((slot.round.number ≡ numbered epoch view) × (contains window view ≡ true)))) t.there
    (tended.own view) in
    not_before window view own.1.1

-- the finalized view never goes back
finalized_later : (w v : Window) (view : ℕ) → v ≡ finalized w view → w.finalized ≤ v.finalized
finalized_later w v view is = let h = ap (λ v. v.finalized) is in grind (arith, h)

module _ {D K G C : Type 0} where
  pub at_here : (view : ℕ) (event : Event D K G C) → at_view view view event ≡ event ∷ []
  at_here view event = ap (λ b. cond b (event ∷ []) []) (eq-eqb view view refl)

  pub at_other : (other view : ℕ) (event : Event D K G C) → other ≢ view
      → at_view other view event ≡ []
  at_other other view event apart =
      ap (λ b. cond b (event ∷ []) []) (not_eqb view other (λ same. apart (sym same)))

-- what blocks nobody more
pub or_none : {X : Type 0} (c : Option X) → c ≡ option_or c None
or_none None = refl
or_none (Some a) = refl

module _ {S D K G C : Type 0} (meaning : S → Meaning D K G C) (compare_keys : K → K → Ordering)
    (same_signature : G → G → Bool) (same_digest : D → D → Bool)
    (past : NodeHistory D K G C) (old new : NodeView S G D) where
  abbrev x : NodeConfig D K G C
  x = node_config meaning compare_keys same_signature same_digest old

  -- Nobody more is blocked.
  none_more : (event : NodeEvent D K G C) → ((i : ℕ) → cause_by x event i ≡ None)
      → new.blocked ≡ old.blocked → (i : ℕ) → i < length x.meaning.participants
      → cause_at new.blocked i ≡ option_or (cause_at old.blocked i) (cause_by x event i)
  none_more event none same i within =
      ap (λ b. cause_at b i) same ∙ or_none (cause_at old.blocked i)
      ∙ ap (option_or (cause_at old.blocked i)) (sym (none i))

  -- Where a peer is blocked, that is the participant with its key.
  peer_blocked : (peer : K) (p : Participant) (why : Option Cause) → peer_in x peer ≡ Some p
      → (i : ℕ) → cond (p.0 == i) why None ≡ cond (is_peer x peer i) why None
  peer_blocked peer p why sender i =
      ap (λ s. cond (is_some_and s (λ p. p.0 == i)) why None) (sym sender)

  -- a message that isn't dropped, and is of the window, is answered
  routed : (h : NodeRepresents x past old) (peer : K) (p : Participant)
      (number : Round) {A : Type 0}
      (answer : A) → peer_in x peer ≡ Some p → p.0 < length x.meaning.participants
      → is_some (cause_at old.blocked p.0) ≡ false → is_of old.epoch old.window number ≡ true
      → Answered answer ≡ receipt x past peer number answer
  routed h peer p number answer sender in_range free within =
      sym (ap (λ s. receipt_from x past s number answer) sender
      ∙ ap (λ c. cond (is_some c) Dropped (cond (is_within x past number) (Answered answer) Outside))
      (sym (h.blocked_are p.0 in_range))
      ∙ ap (λ b. cond b Dropped (cond (is_within x past number) (Answered answer) Outside)) free
      ∙ ap (λ w. cond (is_of old.epoch w number) (Answered answer) Outside) (sym h.window_is)
      ∙ ap (λ b. cond b (Answered answer) Outside) within)

  pub vote_told : (peer : K) (vote : Vote G D) (admission : Admission G D) (participants : ℕ)
      (p : Participant)
      → let number = round_in (subject_of vote) in let view = number.view.0 in
      IsTended participants old.scheme old.epoch old.window old.rounds
      → peer_in x peer ≡ Some p → p.0 < length x.meaning.participants
      → is_some (cause_at old.blocked p.0) ≡ false → is_of old.epoch old.window number ≡ true
      → MakesCall (round_config meaning compare_keys same_signature same_digest)
      (slot_at old.rounds) (slot_at new.rounds) view
      (fresh_round old.scheme old.epoch old.retains old.window view)
      (NetworkCall peer vote) (NetworkAnswer admission)
      → new.window ≡ old.window
      → ((i : ℕ) → i < length x.meaning.participants → cause_at new.blocked i
      ≡ option_or (cause_at old.blocked i)
      (cond (p.0 == i) (option_map ForVote admission.block) None))
      → NodeRepresents x past old → NodeRepresents x
      (vote_came peer vote (Answered admission) ∷ past) new
  vote_told peer vote admission participants p tended sender in_range free within makes_call window blocked h =
      let number = round_in (subject_of vote) in
      let view = number.view.0 in
      let event : Event D K G C = (NetworkCall peer vote, NetworkAnswer admission) in
      told_one meaning compare_keys same_signature same_digest past
      (vote_came peer vote (Answered admission)) view event.0 event.1 old new
      (at_here view event) (λ other apart. at_other other view event apart)
      makes_call (own_round participants old.scheme old.epoch old.window old.rounds tended view)
      (above_finalized old.epoch old.window number within) window (ap (λ w. w.finalized) window)
      (λ i ranged. blocked i ranged ∙ ap (option_or (cause_at old.blocked i))
      (peer_blocked peer p (option_map ForVote admission.block) sender i))
      (λ h may. routed h peer p number admission sender in_range free within
      ∙ ap (λ a. receipt x past peer number a) may)
      h

  -- what a view's round has is what its history says
  pub certified_there : (view : ℕ) (kind : Kind) (there : Bool) (participants : ℕ)
      → IsTended participants old.scheme old.epoch old.window old.rounds
      → contains old.window view ≡ true
      → MatchOption (slot_at old.rounds view) (there ≡ false) (λ slot.
      ForEachHistory (round_config meaning compare_keys same_signature same_digest) slot.round
      (λ _ past. there ≡ is_certified past kind))
      → NodeRepresents x past old → there ≡ is_certified (view_history view past) kind
  certified_there view kind there participants tended within is h =
      by_slot (slot_at old.rounds view)
      (own_round participants old.scheme old.epoch old.window old.rounds tended view)
      is (h.views view (not_before old.window view within)) where
        by_slot : (o : Option (Slot (RoundView S G D)))
            → IfSome o (λ slot. (slot.round.scheme ≡ old.scheme)
            × (slot.round.number ≡ numbered old.epoch view))
            → MatchOption o (there ≡ false) (λ slot.
            ForEachHistory (round_config meaning compare_keys same_signature same_digest) slot.round
            (λ _ past. there ≡ is_certified past kind))
            → MatchOption o (view_history view past ≡ []) (ViewRepresents x past view)
            → there ≡ is_certified (view_history view past) kind
        by_slot None own is none = is ∙ sym (ap (λ t. is_certified t kind) none)
        by_slot (Some slot) own is represents =
            is (view_history view past)
            (subst (λ y. Represents y (view_history view past) slot.round.holds)
            (sym (config_by meaning compare_keys same_signature same_digest past old view slot.round
            own.0 own.1 represents.mode_is)) represents.represents)

  pub certificate_told : (peer : K) (certificate : Certificate C D) (changed : Bool)
      (participants : ℕ) (p : Participant)
      → let number = round_in (subject_certified certificate) in let view = number.view.0 in
      IsTended participants old.scheme old.epoch old.window old.rounds
      → peer_in x peer ≡ Some p → p.0 < length x.meaning.participants
      → is_some (cause_at old.blocked p.0) ≡ false → is_of old.epoch old.window number ≡ true
      → (NodeRepresents x past old → false ≡ is_certified (view_history view past)
      (kind_certified certificate))
      → certifies_itself (meaning old.scheme) certificate ≡ true
      → MakesCall (round_config meaning compare_keys same_signature same_digest)
      (slot_at old.rounds) (slot_at new.rounds) view
      (fresh_round old.scheme old.epoch old.retains old.window view)
      (CertificateCall certificate) (CertificateAnswer changed)
      → new.window ≡ old.window → new.blocked ≡ old.blocked
      → NodeRepresents x past old
      → NodeRepresents x (certificate_came peer certificate (Answered (Recorded changed)) ∷ past)
      new
  certificate_told peer certificate changed participants p tended sender in_range free within absent good makes_call window blocked h =
      let number = round_in (subject_certified certificate) in
      let view = number.view.0 in
      let event : Event D K G C = (CertificateCall certificate, CertificateAnswer changed) in
      let name = certificate_came peer certificate (Answered (Recorded changed)) in
      told_one meaning compare_keys same_signature same_digest past
      name view event.0 event.1
      old new (at_here view event) (λ other apart. at_other other view event apart)
      makes_call (own_round participants old.scheme old.epoch old.window old.rounds tended view)
      (above_finalized old.epoch old.window number within) window (ap (λ w. w.finalized) window)
      (none_more name (λ i. refl) blocked)
      (λ h may. routed h peer p number (Recorded changed) sender in_range free within
      ∙ ap (λ a. receipt x past peer number a) (ap Recorded may
      ∙ sym (ap (λ b. cond b (Recorded (certificate_answer (config_of x past view) (view_history view past) certificate)) Forged) good)
      ∙ ap (λ b. cond b Known (cond (certifies_itself (meaning old.scheme) certificate)
      (Recorded (certificate_answer (config_of x past view) (view_history view past) certificate)) Forged)) (absent h)))
      h

  pub certificate_forged : (peer : K) (certificate : Certificate C D) (p : Participant)
      → let number = round_in (subject_certified certificate) in let view = number.view.0 in
      peer_in x peer ≡ Some p → p.0 < length x.meaning.participants
      → is_some (cause_at old.blocked p.0) ≡ false → is_of old.epoch old.window number ≡ true
      → (NodeRepresents x past old → false ≡ is_certified (view_history view past)
      (kind_certified certificate))
      → certifies_itself (meaning old.scheme) certificate ≡ false
      → new.window ≡ old.window → new.rounds ≡ old.rounds
      → ((i : ℕ) → i < length x.meaning.participants → cause_at new.blocked i
      ≡ option_or (cause_at old.blocked i) (cond (p.0 == i) (Some ForCertificate) None))
      → NodeRepresents x past old
      → NodeRepresents x (certificate_came peer certificate (Answered Forged) ∷ past) new
  certificate_forged peer certificate p sender in_range free within absent bad window rounds blocked h =
      let number = round_in (subject_certified certificate) in
      let view = number.view.0 in
      told_none x past (certificate_came peer certificate (Answered Forged)) old new (λ view. refl)
      window (at_most (ap (λ w. w.finalized) window))
      (λ i ranged. blocked i ranged ∙ ap (option_or (cause_at old.blocked i))
      (peer_blocked peer p (Some ForCertificate) sender i))
      (λ view within. ap (λ r. slot_at r view) rounds)
      (routed h peer p number Forged sender in_range free within
      ∙ ap (λ a. receipt x past peer number a)
      (sym (ap (λ b. cond b (Recorded (certificate_answer (config_of x past view) (view_history view past) certificate)) Forged) bad)
      ∙ ap (λ b. cond b Known (cond (certifies_itself (meaning old.scheme) certificate)
      (Recorded (certificate_answer (config_of x past view) (view_history view past) certificate)) Forged)) (absent h)))
      h

  -- what isn't blocked has no cause
  uncaused : (o : Option Cause) → is_some o ≡ false → is_none o ≡ true
  uncaused None free = refl
  uncaused (Some cause) free = absurd (false≢true (sym free))

  pub forged_ahead : (peer : K) (certificate : Certificate C D) (p : Participant)
      → let number = round_in (subject_certified certificate) in
      peer_in x peer ≡ Some p → p.0 < length x.meaning.participants
      → is_some (cause_at old.blocked p.0) ≡ false
      → is_ahead old.epoch old.window number ≡ true
      → certifies_itself (meaning old.scheme) certificate ≡ false
      → new.window ≡ old.window → new.rounds ≡ old.rounds
      → ((i : ℕ) → i < length x.meaning.participants → cause_at new.blocked i
      ≡ option_or (cause_at old.blocked i) (cond (p.0 == i) (Some ForCertificate) None))
      → NodeRepresents x past old → NodeRepresents x (forgery_came peer certificate ∷ past) new
  forged_ahead peer certificate p sender in_range free ahead bad window rounds blocked h =
      told_none x past (forgery_came peer certificate) old new (λ view. refl)
      window (at_most (ap (λ w. w.finalized) window))
      (λ i ranged. blocked i ranged ∙ ap (option_or (cause_at old.blocked i))
      (peer_blocked peer p (Some ForCertificate) sender i))
      (λ view within. ap (λ r. slot_at r view) rounds)
      (record {
        free =
            ap (is_unblocked x past) sender ∙ ap is_none (sym (h.blocked_are p.0 in_range))
            ∙ uncaused (cause_at old.blocked p.0) free;
        ahead =
            ap (λ w. is_ahead old.epoch w (round_in (subject_certified certificate)))
            (sym h.window_is) ∙ ahead;
        forged = bad;
      })
      h

  pub own_told : (vote : Vote G D) (outcome : Outcome) (report : Option (Activity G D))
      (participants : ℕ)
      → let number = round_in (subject_of vote) in let view = number.view.0 in
      IsTended participants old.scheme old.epoch old.window old.rounds
      → is_of old.epoch old.window number ≡ true
      → MakesCall (round_config meaning compare_keys same_signature same_digest)
      (slot_at old.rounds) (slot_at new.rounds) view
      (fresh_round old.scheme old.epoch old.retains old.window view)
      (OwnCall vote) (OwnAnswer outcome report)
      → new.window ≡ old.window → new.blocked ≡ old.blocked
      → NodeRepresents x past old → NodeRepresents x (vote_cast vote outcome report ∷ past) new
  own_told vote outcome report participants tended within makes_call window blocked h =
      let number = round_in (subject_of vote) in
      let view = number.view.0 in
      let event : Event D K G C = (OwnCall vote, OwnAnswer outcome report) in
      told_one meaning compare_keys same_signature same_digest past
      (vote_cast vote outcome report) view event.0 event.1 old new
      (at_here view event) (λ other apart. at_other other view event apart)
      makes_call (own_round participants old.scheme old.epoch old.window old.rounds tended view)
      (above_finalized old.epoch old.window number within) window (ap (λ w. w.finalized) window)
      (none_more (vote_cast vote outcome report) (λ i. refl) blocked)
      (λ h may. (ap (λ w. is_of old.epoch w number) (sym h.window_is) ∙ within, (may.0, may.1)))
      h

  -- a fault of an own vote is the one that the history of its view names
  pub own_named : (vote : Vote G D) (fault : OwnFault) (participants : ℕ)
      → let number = round_in (subject_of vote) in let view = number.view.0 in
      IsTended participants old.scheme old.epoch old.window old.rounds
      → is_of old.epoch old.window number ≡ true
      → NamesFault (round_config meaning compare_keys same_signature same_digest)
      (slot_at old.rounds view) vote fault
      → NodeRepresents x past old
      → fault ≡ fault_or_memory (own_answer (config_of x past view) (view_history view past) vote)
  own_named vote fault participants tended within named h =
      let number = round_in (subject_of vote) in
      let view = number.view.0 in
      by_slot (slot_at old.rounds view)
      (own_round participants old.scheme old.epoch old.window old.rounds tended view)
      named (h.views view (above_finalized old.epoch old.window number within)) where
        first : (kind : Kind) (released : Bool)
            → OutOfMemoryFault ≡ fault_or_memory (unopposed_result kind (Added released))
        first Notarization released = refl
        first Nullification released = refl
        first Finalization released = refl

        by_slot : (o : Option (Slot (RoundView S G D)))
            → IfSome o (λ slot. (slot.round.scheme ≡ old.scheme)
            × (slot.round.number ≡ numbered old.epoch (round_in (subject_of vote)).view.0))
            → NamesFault (round_config meaning compare_keys same_signature same_digest) o vote fault
            → MatchOption o (view_history (round_in (subject_of vote)).view.0 past ≡ [])
            (ViewRepresents x past (round_in (subject_of vote)).view.0)
            → fault ≡ fault_or_memory (own_answer
            (config_of x past (round_in (subject_of vote)).view.0)
            (view_history (round_in (subject_of vote)).view.0 past) vote)
        by_slot None own is none =
            is ∙ first (kind_of vote) (not (is_released (config_of x past (round_in (subject_of vote)).view.0) [] (kind_of vote)))
            ∙ sym (ap (λ t. fault_or_memory (own_answer (config_of x past (round_in (subject_of vote)).view.0) t vote)) none)
        by_slot (Some slot) own is represents =
            let same = config_by meaning compare_keys same_signature same_digest past old (round_in (subject_of vote)).view.0 slot.round
            own.0 own.1 represents.mode_is in
            is (view_history (round_in (subject_of vote)).view.0 past)
            (subst (λ y. Represents y (view_history (round_in (subject_of vote)).view.0 past) slot.round.holds) (sym same) represents.represents)
            ∙ ap (λ y. fault_or_memory (own_answer y (view_history (round_in (subject_of vote)).view.0 past) vote)) same

  pub entered_told : (view : ℕ) (leader : Participant) (participants : ℕ)
      → IsTended participants old.scheme old.epoch old.window old.rounds
      → old.window.finalized ≤ view
      → MakesCall (round_config meaning compare_keys same_signature same_digest)
      (slot_at old.rounds) (slot_at new.rounds) view
      (fresh_round old.scheme old.epoch old.retains old.window view)
      (LeaderCall leader) (LeaderAnswer (Ok tt))
      → new.window ≡ entered old.window view → new.blocked ≡ old.blocked
      → NodeRepresents x past old → NodeRepresents x (view_entered view leader ∷ past) new
  entered_told view leader participants tended within makes_call window blocked h =
      let event : Event D K G C = (LeaderCall leader, LeaderAnswer (Ok tt)) in
      told_one meaning compare_keys same_signature same_digest past
      (view_entered view leader) view event.0 event.1 old new
      (at_here view event) (λ other apart. at_other other view event apart)
      makes_call (own_round participants old.scheme old.epoch old.window old.rounds tended view)
      within window (ap (λ w. w.finalized) window)
      (none_more (view_entered view leader) (λ i. refl) blocked)
      (λ h may. (subst (λ w. w.finalized ≤ view) h.window_is within, sym may)) h

  -- the round of a view that has changed is due
  due_if_changed : (h : NodeRepresents x past old) (view : ℕ) → old.window.finalized ≤ view
      → (t : HasChanged (slot_at old.rounds view)) → is_to_be_tried (view_history view past) ≡ true
  due_if_changed h view within t =
      sym (subst (λ o. MatchOption o (view_history view past ≡ []) (ViewRepresents x past view)) t.there
      (h.views view within)).changed_is ∙ t.changed

  -- one that hasn't isn't
  pub rests_if_unchanged : (h : NodeRepresents x past old) (view : ℕ) → old.window.finalized ≤ view
      → IfSome (slot_at old.rounds view) (λ slot. slot.changed ≡ false)
      → is_to_be_tried (view_history view past) ≡ false
  rests_if_unchanged h view within unchanged =
      by_slot (slot_at old.rounds view) unchanged (h.views view within) where
        by_slot : (o : Option (Slot (RoundView S G D))) → IfSome o (λ slot. slot.changed ≡ false)
            → MatchOption o (view_history view past ≡ []) (ViewRepresents x past view)
            → is_to_be_tried (view_history view past) ≡ false
        by_slot None unchanged none = ap is_to_be_tried none
        by_slot (Some slot) unchanged represents = sym represents.changed_is ∙ unchanged

  pub construction_told : (view : ℕ) (given : Option (Batch (Certificate C D))) (participants : ℕ)
      → IsTended participants old.scheme old.epoch old.window old.rounds
      → (t : HasChanged (slot_at old.rounds view))
      → ((lower : ℕ) → lower < view
      → IfSome (slot_at old.rounds lower) (λ slot. slot.changed ≡ false))
      → MakesCallThere (round_config meaning compare_keys same_signature same_digest)
      (slot_at old.rounds) (slot_at new.rounds) view
      ConstructCall (ConstructAnswer given)
      → new.window ≡ old.window
      → ((i : ℕ) → i < length x.meaning.participants → cause_at new.blocked i
      ≡ option_or (cause_at old.blocked i)
      (cond (list_any (λ p. p.0 == i) (invalid_in given)) (Some ForSignature) None))
      → NodeRepresents x past old → NodeRepresents x (constructed view given ∷ past) new
  construction_told view given participants tended t lowest makes_call window blocked h =
      let event : Event D K G C = (ConstructCall, ConstructAnswer given) in
      let within = in_window participants old.scheme old.epoch old.window old.rounds tended view t in
      told_one meaning compare_keys same_signature same_digest past
      (constructed view given) view event.0 event.1 old new
      (at_here view event) (λ other apart. at_other other view event apart)
      (inl makes_call) (own_round participants old.scheme old.epoch old.window old.rounds tended view)
      within window (ap (λ w. w.finalized) window) blocked
      (λ h may. (
        due_if_changed h view within t,
        λ lower above below. rests_if_unchanged h lower
            (subst (λ w. w.finalized ≤ lower) (sym h.window_is) above) (lowest lower below),
      )) h

  -- a round that is there is one of the window
  slot_within : (view : ℕ) (participants : ℕ)
      → IsTended participants old.scheme old.epoch old.window old.rounds
      → (slot : Slot (RoundView S G D)) → slot_at old.rounds view ≡ Some slot
      → old.window.finalized ≤ view
  slot_within view participants tended slot there =
      let own = subst (λ o. IfSome o (λ slot. (slot.round.scheme ≡ old.scheme)
      × ((slot.round.number ≡ numbered old.epoch view)
      × (contains old.window view ≡ true)))) there (tended.own view) in
      not_before old.window view own.1.1

  -- something was said in a view with a round
  begun_there : (h : NodeRepresents x past old) (view : ℕ) (slot : Slot (RoundView S G D))
      → slot_at old.rounds view ≡ Some slot → old.window.finalized ≤ view
      → is_empty (view_history view past) ≡ false
  begun_there h view slot there within =
      (subst (λ o. MatchOption o (view_history view past ≡ []) (ViewRepresents x past view)) there
      (h.views view within)).begun

  pub forwarded_told : (view : ℕ) (me : Participant) (given : Option (Proposal D))
      (participants : ℕ) → IsTended participants old.scheme old.epoch old.window old.rounds
      → MakesCallThere (round_config meaning compare_keys same_signature same_digest)
      (slot_at old.rounds) (slot_at new.rounds) view (ForwardCall me) (ForwardAnswer given)
      → new.window ≡ old.window → new.blocked ≡ old.blocked
      → NodeRepresents x past old → NodeRepresents x (proposal_forwarded view me given ∷ past) new
  forwarded_told view me given participants tended makes_call window blocked h =
      let event : Event D K G C = (ForwardCall me, ForwardAnswer given) in
      let within = slot_within view participants tended makes_call.slot makes_call.there in
      told_one meaning compare_keys same_signature same_digest past
      (proposal_forwarded view me given) view event.0 event.1 old new
      (at_here view event) (λ other apart. at_other other view event apart)
      (inl makes_call) (own_round participants old.scheme old.epoch old.window old.rounds tended view)
      within window (ap (λ w. w.finalized) window)
      (none_more (proposal_forwarded view me given) (λ i. refl) blocked)
      (λ h may. begun_there h view makes_call.slot makes_call.there within) h

  pub finalized_told : (view : ℕ)
      → new.window ≡ finalized old.window view → new.blocked ≡ old.blocked
      → ((other : ℕ) → new.window.finalized ≤ other
      → slot_at new.rounds other ≡ slot_at old.rounds other)
      → NodeRepresents x past old → NodeRepresents x (view_finalized view ∷ past) new
  finalized_told view window blocked rounds h =
      told_none x past (view_finalized view) old new (λ view. refl) window
      (finalized_later old.window new.window view window)
      (none_more (view_finalized view) (λ i. refl) blocked) rounds tt h

module _ {S D K G C : Type 0} (x : NodeConfig D K G C) (old new : NodeView S G D) where
  -- an own vote is to be sent exactly where it is reported
  pub cast_told : (vote : Vote G D) (outcome : Outcome) (report : Option (Activity G D))
      (cast : Cast G D) → cast ≡ cast_by report
      → ((past : NodeHistory D K G C) → NodeRepresents x past old
      → NodeRepresents x (vote_cast vote outcome report ∷ past) new)
      → SimulatesCast x old vote cast new
  cast_told vote outcome None cast is meets =
      subst (λ c. SimulatesCast x old vote c new) (sym is) (outcome, meets)
  cast_told vote outcome (Some report) cast is meets =
      subst (λ c. SimulatesCast x old vote c new) (sym is) (outcome, meets)

module _ {S D K G C : Type 0} (meaning : S → Meaning D K G C) (compare_keys : K → K → Ordering)
    (same_signature : G → G → Bool) (same_digest : D → D → Bool)
    (old : NodeView S G D) (view : ℕ) (me : Participant) where
  abbrev y : NodeConfig D K G C
  y = node_config meaning compare_keys same_signature same_digest old

  -- what a view's round hands on
  pub forwards_there : (given answer : Option (Proposal D)) → given ≡ answer
      → (new : NodeView S G D) (participants : ℕ)
      → IsTended participants old.scheme old.epoch old.window old.rounds
      → MakesCallThere (round_config meaning compare_keys same_signature same_digest)
      (slot_at old.rounds) (slot_at new.rounds) view (ForwardCall me) (ForwardAnswer answer)
      → new.window ≡ old.window → new.blocked ≡ old.blocked
      → SimulatesForward y old view me given new
  forwards_there given answer is new participants tended makes_call window blocked =
      subst (λ g. SimulatesForward y old view me g new) (sym is)
      (subst (λ o. MatchOption o ((answer ≡ None) × (new ≡ old))
      (λ slot. NodeMeets y old (proposal_forwarded view me answer) new)) (sym makes_call.there)
      (λ past. forwarded_told meaning compare_keys same_signature same_digest past old new view me
      answer participants tended makes_call window blocked))

  -- a view without a round hands on nothing
  pub forwards_nothing : (given : Option (Proposal D)) → given ≡ None
      → slot_at old.rounds view ≡ None → (new : NodeView S G D)
      → (rounds : List (ℕ × Slot (RoundView S G D))) → new ≡ record old { rounds = rounds }
      → rounds ≡ old.rounds → SimulatesForward y old view me given new
  forwards_nothing given is absent new rounds left same =
      subst (λ o. MatchOption o ((given ≡ None) × (new ≡ old))
      (λ slot. NodeMeets y old (proposal_forwarded view me given) new))
      (sym absent) (is, left ∙ ap (λ r. record old { rounds = r }) same)

-- What a round may need by its history, its view needs by that of the node.
pub needed_there : {S D K G C : Type 0} (meaning : S → Meaning D K G C)
    (compare_keys : K → K → Ordering) (same_signature : G → G → Bool) (same_digest : D → D → Bool)
    (old : NodeView S G D) (view : ℕ) (call : Call K G C D) (participants : ℕ)
    → IsTended participants old.scheme old.epoch old.window old.rounds
    → NeedsThere (round_config meaning compare_keys same_signature same_digest)
    (slot_at old.rounds view) call
    → MayNeedIn (node_config meaning compare_keys same_signature same_digest old) old view call
needed_there {S} {D} {K} {G} {C} meaning compare_keys same_signature same_digest old view call participants tended needs =
    by_slot (slot_at old.rounds view) refl (tended.own view) needs where
      by_slot : (o : Option (Slot (RoundView S G D))) → slot_at old.rounds view ≡ o
          → IfSome o (λ slot. (slot.round.scheme ≡ old.scheme)
          × ((slot.round.number ≡ numbered old.epoch view) × (contains old.window view ≡ true)))
          → NeedsThere (round_config meaning compare_keys same_signature same_digest) o call
          → MayNeedIn (node_config meaning compare_keys same_signature same_digest old) old view
          call
      by_slot None at own needs = inl at
      by_slot (Some slot) at own needs = inr (λ past h.
          let y = node_config meaning compare_keys same_signature same_digest old in
          let shows = subst (λ o. MatchOption o (view_history view past ≡ []) (ViewRepresents y past view)) at
          (h.views view (not_before old.window view own.1.1)) in
          let same = config_by meaning compare_keys same_signature same_digest past old view slot.round
          own.0 own.1.0 shows.mode_is in
          subst (λ z. needs_memory z (view_history view past) call ≡ true) same
          (needs (view_history view past)
          (subst (λ z. Represents z (view_history view past) slot.round.holds) (sym same) shows.represents)))

pub next_needed : {S D K G C : Type 0} (meaning : S → Meaning D K G C)
    (compare_keys : K → K → Ordering) (same_signature : G → G → Bool) (same_digest : D → D → Bool)
    (old : NodeView S G D) (view : ℕ) (participants : ℕ)
    → IsTended participants old.scheme old.epoch old.window old.rounds → IsNext old.rounds view
    → NeedsThere (round_config meaning compare_keys same_signature same_digest)
    (slot_at old.rounds view) ConstructCall
    → NextMayNeed (node_config meaning compare_keys same_signature same_digest old) old
next_needed meaning compare_keys same_signature same_digest old view participants tended next needs =
    record {
      view = view;
      next = next;
      needs = needed_there meaning compare_keys same_signature same_digest old view ConstructCall
          participants tended needs;
    }
