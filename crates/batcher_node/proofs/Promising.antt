-- From a node that represents a history to what is promised of it.
use Rattle.batcher_node.proofs.Words.{◌≡◌, ◌≤◌, ◌==◌, ℕ, Bool, true, false, cond, [], ◌∷◌, ◌++◌, refl, sym, ap, ◌∙◌, subst, length, is_some, Option, Some, None}
use Rattle.batcher_node.proofs.Words.{false≢true, eqb-true, Kind, is_due, Call, Answer, NetworkCall, ConstructCall, NetworkAnswer, ConstructAnswer, Round}
use Rattle.batcher_node.proofs.Words.{AllPass, is_some_and, ready_kind, sent_bad_vote, NamesForOwnVotes, Participant, Config, is_empty, subject_of, round_in}
use Rattle.batcher_node.proofs.Words.{Event, History, IsPossible, AtEachVote, AtEachEvent, IsBlockedForCause, gave_cause, ends_in_constructions, IsPromised}
use Rattle.batcher_node.proofs.Words.{Receipt, Answered, Outside, Dropped, Unknown, Verdict, Recorded, Forged, Known, NodeEvent, started, vote_came}
use Rattle.batcher_node.proofs.Words.{forgery_came, certificate_came, vote_cast, view_entered, view_finalized, constructed, proposal_forwarded}
use Rattle.batcher_node.proofs.Words.{NodeHistory, at_view}
use Rattle.batcher_node.proofs.Words.{view_history, view_history_by, peer_in, cause_in, NodeConfig, config_of, is_to_be_tried, receipt_from, is_within, IsNamed}
use Rattle.batcher_node.proofs.Words.{AreNamed, IsForCause, AreForCause, IsNodePromised}
use Rattle.batcher_node.proofs.Rested.{rested, few_before}
use Rattle.batcher_node.proofs.Representation.{config_stays}
use Rattle.batcher_node.proofs.Agreed.{sent_agree}
use Rattle.batcher_node.proofs.Answering.{at_here}

-- what was possible before
possible_rest : {D K G C : Type 0} (y : Config D K G C) (more past : History D K G C)
    → IsPossible y (more ++ past) → IsPossible y past
possible_rest y [] past h = h
possible_rest y (e ∷ more) past h = possible_rest y more past h.1.1.1

abbrev is_forged : Receipt Verdict → Bool
is_forged (Answered Forged) = true
is_forged (Answered (Recorded changed)) = false
is_forged Outside = false
is_forged (Answered Known) = false
is_forged Dropped = false
is_forged Unknown = false

module _ {D K G C : Type 0} (x : NodeConfig D K G C)
    (promised : (past : NodeHistory D K G C) (view : ℕ)
    → IsPossible (config_of x past view) (view_history view past)
    → IsPromised (config_of x past view) (view_history view past)) where
  possible_by : (past : NodeHistory D K G C) (event : NodeEvent D K G C) (view : ℕ)
      → (t : History D K G C) → view_history view past ≡ t
      → IsPossible (config_of x (event ∷ past) view) (view_history view (event ∷ past))
      → IsPossible (config_of x past view) (view_history view past)
  possible_by past event view [] is h = subst (IsPossible (config_of x past view)) (sym is) tt
  possible_by past event view (e ∷ t) is h =
      subst (λ y. IsPossible y (view_history view past))
      (config_stays x past event view (still_begun (view_history_by view event) (ap is_empty is)))
      (possible_rest (config_of x (event ∷ past) view) (view_history_by view event) (view_history view past) h) where
        still_begun : (more : History D K G C) → is_empty (view_history view past) ≡ false
            → is_empty (more ++ view_history view past) ≡ false
        still_begun [] some = some
        still_begun (e ∷ more) some = refl

  -- A certificate that is answered as forged doesn't certify.
  forged_is : (recorded : Verdict) (known c : Bool) → is_forged (Answered recorded) ≡ false
      → is_forged (Answered (cond known Known (cond c recorded Forged))) ≡ true → c ≡ false
  forged_is recorded true c good is = absurd (false≢true is)
  forged_is recorded false true good is = absurd (false≢true (sym good ∙ is))
  forged_is recorded false false good is = refl

  forged_from : (past : NodeHistory D K G C) (sender : Option Participant) (number : Round)
      (answer : Verdict) → Answered Forged ≡ receipt_from x past sender number answer
      → is_forged (Answered answer) ≡ true
  forged_from past None number answer is = absurd (false≢true (sym (ap is_forged is)))
  forged_from past (Some i) number answer is =
      routed (is_some (cause_in x past i.0)) (is_within x past number) (ap is_forged is) where
        routed : (dropped within : Bool)
            → true ≡ is_forged (cond dropped Dropped (cond within (Answered answer) Outside))
            → is_forged (Answered answer) ≡ true
        routed true within is = absurd (false≢true (sym is))
        routed false true is = sym is
        routed false false is = absurd (false≢true (sym is))

  for_cause : (past : NodeHistory D K G C) (event : NodeEvent D K G C) → IsNamed x past event
      → ((view : ℕ) → IsPossible (config_of x (event ∷ past) view)
      (view_history view (event ∷ past)))
      → IsForCause x past event
  for_cause past (vote_came peer vote (Answered admission)) named possible =
      let view = (round_in (subject_of vote)).view.0 in
      let event : NodeEvent D K G C = vote_came peer vote (Answered admission) in
      let one : Event D K G C = (NetworkCall peer vote, NetworkAnswer admission) in
      let y = config_of x (event ∷ past) view in
      let more = ap (λ t. t ++ view_history view past) (at_here view one) in
      let each = subst (AtEachVote (IsBlockedForCause y)) more
      (promised (event ∷ past) view (possible view)).promises.honest_are_never_blocked in
      λ block i sender. ap (λ t. gave_cause y t i.0) more ∙ each.0 block i sender
  for_cause past (certificate_came peer certificate (Answered Forged)) named possible =
      forged_is _ _ _ refl (forged_from past (peer_in x peer) _ _ named)
  for_cause past (forgery_came peer certificate) named possible = named.forged
  for_cause past (started window) named possible = tt
  for_cause past (vote_came peer vote Outside) named possible = tt
  for_cause past (vote_came peer vote Dropped) named possible = tt
  for_cause past (vote_came peer vote Unknown) named possible = tt
  for_cause past (certificate_came peer certificate (Answered Known)) named possible = tt
  for_cause past (certificate_came peer certificate Unknown) named possible = tt
  for_cause past (certificate_came peer certificate (Answered (Recorded changed))) named possible = tt
  for_cause past (certificate_came peer certificate Outside) named possible = tt
  for_cause past (certificate_came peer certificate Dropped) named possible = tt
  for_cause past (vote_cast vote outcome report) named possible = tt
  for_cause past (view_entered view leader) named possible = tt
  for_cause past (view_finalized view) named possible = tt
  for_cause past (proposal_forwarded view me given) named possible = tt
  for_cause past (constructed view None) named possible = tt
  for_cause past (constructed view (Some batch)) named possible =
      let event : NodeEvent D K G C = constructed view (Some batch) in
      let one : Event D K G C = (ConstructCall, ConstructAnswer (Some batch)) in
      let y = config_of x (event ∷ past) view in
      let more = ap (λ t. t ++ view_history view past) (at_here view one) in
      let each = subst (AtEachEvent (NamesForOwnVotes y)) more
      (promised (event ∷ past) view (possible view)).takes_in_honest.named_for_its_own_vote in
      subst (λ y. AllPass (λ i. is_some_and (ready_kind y (view_history view past))
      (λ kind. sent_bad_vote y (view_history view past) kind i.0)) batch.invalid)
      (config_stays x past event view (ap is_empty more)) each.0

  each_for_cause : (past : NodeHistory D K G C) → AreNamed x past
      → ((view : ℕ) → IsPossible (config_of x past view) (view_history view past))
      → AreForCause x past
  each_for_cause [] named possible = tt
  each_for_cause (event ∷ past) named possible = (
    for_cause past event named.0 possible,
    each_for_cause past named.1 (λ view. possible_by past event view (view_history view past) refl (possible view)),
  )

  -- the promises of the views before the last event
  promised_before : (past : NodeHistory D K G C) (event : NodeEvent D K G C)
      → ((view : ℕ) → IsPossible (config_of x (event ∷ past) view)
      (view_history view (event ∷ past)))
      → (view : ℕ) → IsPossible (config_of x past view) (view_history view past)
  promised_before past event possible view =
      possible_by past event view (view_history view past) refl (possible view)

  few_at : (number view : ℕ) (call : Call K G C D) (answer : Answer G C D) (past : History D K G C)
      → ends_in_constructions 5 past ≡ false
      → ((number == view) ≡ true → ends_in_constructions 5 ((call, answer) ∷ past) ≡ false)
      → ends_in_constructions 5 (at_view view number (call, answer) ++ past) ≡ false
  few_at number view call answer past before here = by_same (number == view) refl where
    by_same : (b : Bool) → (number == view) ≡ b
        → ends_in_constructions 5 (cond b ((call, answer) ∷ []) [] ++ past) ≡ false
    by_same true same = here same
    by_same false same = before

  few_after : (past : NodeHistory D K G C) (event : NodeEvent D K G C) → IsNamed x past event
      → ((view : ℕ) → IsPossible (config_of x past view) (view_history view past)) → (view : ℕ)
      → ends_in_constructions 5 (view_history view past) ≡ false
      → ends_in_constructions 5 (view_history view (event ∷ past)) ≡ false
  few_after past (vote_came peer vote (Answered admission)) named possible view before =
      few_at _ view _ _ (view_history view past) before (λ same. refl)
  few_after past (certificate_came peer certificate (Answered (Recorded changed))) named possible view before =
      few_at _ view _ _ (view_history view past) before (λ same. refl)
  few_after past (vote_cast vote outcome report) named possible view before =
      few_at _ view _ _ (view_history view past) before (λ same. refl)
  few_after past (view_entered number leader) named possible view before =
      few_at number view _ _ (view_history view past) before (λ same. refl)
  few_after past (proposal_forwarded number me given) named possible view before =
      few_at number view _ _ (view_history view past) before (λ same. refl)
  few_after past (constructed number given) named possible view before =
      few_at number view _ _ (view_history view past) before
      (λ same. few_before (view_history view past)
      (promised past view (possible view)).promises.constructions_rest
      (ap (λ v. is_to_be_tried (view_history v past)) (sym (eqb-true number view same)) ∙ named.0))
  few_after past (started window) named possible view before = before
  few_after past (view_finalized number) named possible view before = before
  few_after past (vote_came peer vote Outside) named possible view before = before
  few_after past (vote_came peer vote Dropped) named possible view before = before
  few_after past (vote_came peer vote Unknown) named possible view before = before
  few_after past (certificate_came peer certificate (Answered Forged)) named possible view before = before
  few_after past (certificate_came peer certificate (Answered Known)) named possible view before = before
  few_after past (certificate_came peer certificate Outside) named possible view before = before
  few_after past (certificate_came peer certificate Dropped) named possible view before = before
  few_after past (certificate_came peer certificate Unknown) named possible view before = before
  few_after past (forgery_came peer certificate) named possible view before = before

  few_rows : (past : NodeHistory D K G C) → AreNamed x past
      → ((view : ℕ) → IsPossible (config_of x past view) (view_history view past)) → (view : ℕ)
      → ends_in_constructions 5 (view_history view past) ≡ false
  few_rows [] named possible view = refl
  few_rows (event ∷ past) named possible view =
      let before = promised_before past event possible in
      few_after past event named.0 before view (few_rows past named.1 before view)

  -- a view at rest is complete
  rested_there : 1 ≤ length x.meaning.participants → (past : NodeHistory D K G C) (view : ℕ)
      → IsPossible (config_of x past view) (view_history view past)
      → is_to_be_tried (view_history view past) ≡ false
      → (kind : Kind) → is_due (config_of x past view) (view_history view past) kind ≡ false
  rested_there some past view possible rests kind =
      let p = promised past view possible in
      rested (config_of x past view) (view_history view past) kind some possible
      p.promises.acceptance_is_exact p.gives_promptly.none_left_due rests

  pub node_promised : 1 ≤ length x.meaning.participants → (past : NodeHistory D K G C)
      → AreNamed x past
      → ((view : ℕ) → IsPossible (config_of x past view) (view_history view past))
      → IsNodePromised x past
  node_promised some past named possible =
      record {
        each_view = λ view. promised past view (possible view);
        blocked_for_cause = each_for_cause past named possible;
        rested_are_complete = λ view. rested_there some past view (possible view);
        few_in_a_row = few_rows past named possible;
        to_send_agree = sent_agree x past named
            (λ view. (promised past view (possible view)).takes_in_honest.own_added_agree);
      }
