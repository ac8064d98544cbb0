-- The certificates that a node recorded or gave certify what they name.
use Rattle.batcher_node.proofs.Words.{◌≡◌, ℕ, Bool, true, false, cond, [], ◌∷◌, ◌++◌, Option, Some, None, is_some, refl, sym, ap, subst, All, AllByRecursion}
use Rattle.batcher_node.proofs.Words.{false≢true, All-from_recursion, Participant, Round, ConstructCall, ConstructAnswer, Config, Event, History, AtEachEvent}
use Rattle.batcher_node.proofs.Words.{GivesVerified, Receipt, Answered, Outside, Dropped, Verdict, Recorded, Forged, Known, NodeEvent, certificate_came}
use Rattle.batcher_node.proofs.Words.{constructed, NodeHistory, view_history, view_history_by, peer_in, cause_in, NodeConfig, config_of, receipt_from}
use Rattle.batcher_node.proofs.Words.{is_within, IsNamed, AreNamed, HoldsCertified}
use Rattle.batcher_node.proofs.Answering.{at_here}

abbrev is_recorded : Receipt Verdict → Bool
is_recorded (Answered (Recorded changed)) = true
is_recorded receipt = false

module _ {D K G C : Type 0} (x : NodeConfig D K G C) where
  -- A certificate that is answered as recorded certifies.
  recorded_is : (changed known c : Bool)
      → is_recorded (Answered (cond known Known (cond c (Recorded changed) Forged))) ≡ true
      → c ≡ true
  recorded_is changed true c is = absurd (false≢true is)
  recorded_is changed false true is = refl
  recorded_is changed false false is = absurd (false≢true is)

  recorded_from : (past : NodeHistory D K G C) (sender : Option Participant) (number : Round)
      (changed : Bool) (answer : Verdict)
      → Answered (Recorded changed) ≡ receipt_from x past sender number answer
      → is_recorded (Answered answer) ≡ true
  recorded_from past None number changed answer is = absurd (false≢true (sym (ap is_recorded is)))
  recorded_from past (Some i) number changed answer is =
      routed (is_some (cause_in x past i.0)) (is_within x past number) (ap is_recorded is) where
        routed : (dropped within : Bool)
            → true ≡ is_recorded (cond dropped Dropped (cond within (Answered answer) Outside))
            → is_recorded (Answered answer) ≡ true
        routed true within is = absurd (false≢true (sym is))
        routed false true is = sym is
        routed false false is = absurd (false≢true (sym is))

  verified_before : (y : Config D K G C) (more past : History D K G C)
      → AtEachEvent (GivesVerified y) (more ++ past) → AtEachEvent (GivesVerified y) past
  verified_before y [] past h = h
  verified_before y (event ∷ more) past h = verified_before y more past h.1

  module _ (all : NodeHistory D K G C) where
    abbrev Verified : NodeHistory D K G C → Type 0
    Verified past =
        (view : ℕ) → AtEachEvent (GivesVerified (config_of x all view)) (view_history view past)

    held_by : (past : NodeHistory D K G C) (event : NodeEvent D K G C) → IsNamed x past event
        → Verified (event ∷ past) → HoldsCertified x event
    held_by past (certificate_came peer certificate (Answered (Recorded changed))) named verified =
        recorded_is _ _ _ (recorded_from past (peer_in x peer) _ changed _ named)
    held_by past (constructed view (Some batch)) named verified =
        let one : Event D K G C = (ConstructCall, ConstructAnswer (Some batch)) in
        let more = ap (λ t. t ++ view_history view past) (at_here view one) in
        let each = subst (AtEachEvent (GivesVerified (config_of x all view))) more (verified view) in
        each.0
    held_by past event named verified = tt

    each_held : (past : NodeHistory D K G C) → AreNamed x past → Verified past
        → AllByRecursion (HoldsCertified x) past
    each_held [] named verified = tt
    each_held (event ∷ past) named verified = (
      held_by past event named.0 verified,
      each_held past named.1
          (λ view. verified_before (config_of x all view) (view_history_by view event) (view_history view past) (verified view)),
    )

    pub held_certify : (past : NodeHistory D K G C) → AreNamed x past → Verified past
        → All (HoldsCertified x) past
    held_certify past named verified =
        All-from_recursion (HoldsCertified x) past (each_held past named verified)
