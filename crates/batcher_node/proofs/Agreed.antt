-- Votes of one view that are to be sent don't exclude each other.
use Rattle.batcher_node.proofs.Words.{◌≡◌, ◌==◌, ◌≤◌, ◌∙◌, ℕ, Bool, true, false, cond, ◌&&◌, [], ◌∷◌, ◌++◌, Option, Some, ap, append_assoc, arith, refl, sym}
use Rattle.batcher_node.proofs.Words.{count-append, OwnAddedAgree, own_added_by, own_votes_added, Event, History, count, is_added, excludes, Activity, Vote}
use Rattle.batcher_node.proofs.Words.{Outcome, NodeEvent, NodeHistory, view_history, view_history_by, vote_cast, NodeConfig, AreNamed, IsNamed, ToSendAgree}
use Rattle.batcher_node.proofs.Words.{to_send_by, view_of, votes_to_send}
use Rattle.batcher_node.proofs.SendingViews.{cast_event, in_view, reported_is_added}

module _ {D K G C : Type 0} where
  added_append : (more past : History D K G C)
      → own_votes_added (more ++ past) ≡ own_votes_added more ++ own_votes_added past
  added_append [] past = refl
  added_append (event ∷ more) past =
      ap (λ t. own_added_by event ++ t) (added_append more past)
      ∙ sym (append_assoc (own_added_by event) (own_votes_added more) (own_votes_added past))

  module _ (x : NodeConfig D K G C) (view : ℕ) (test : Vote G D → Bool) where
    abbrev only : Bool → Event D K G C → History D K G C
    only here event = cond here (event ∷ []) []

    -- a vote that is to be sent, in its view and elsewhere
    count_cast : (vote : Vote G D) (outcome : Outcome) (report : Option (Activity G D))
        (here : Bool)
        → is_added outcome ≡ true
        → count (λ v. here && test v) (vote ∷ [])
        ≤ count test (own_votes_added (only here (cast_event vote outcome report)))
    count_cast vote outcome report false added = omega arith
    count_cast vote outcome report true added =
        omega (arith, ap (λ b. count test (cond b (vote ∷ []) [] ++ [])) added)

    count_by : (past : NodeHistory D K G C) (event : NodeEvent D K G C) → IsNamed x past event
        → count (in_view view test) (to_send_by event)
        ≤ count test (own_votes_added (view_history_by view event))
    count_by past (vote_cast vote outcome (Some report)) named =
        count_cast vote outcome (Some report) (view_of vote == view)
        (reported_is_added vote report outcome named.1.1)
    count_by past event named = omega arith

    -- Of a view as many are to be sent as were added there, at most.
    pub count_sent : (past : NodeHistory D K G C) → AreNamed x past
        → count (in_view view test) (votes_to_send past)
        ≤ count test (own_votes_added (view_history view past))
    count_sent [] named = omega arith
    count_sent (event ∷ past) named =
        omega (
          arith,
          count_by past event named.0,
          count_sent past named.1,
          count-append (in_view view test) (to_send_by event) (votes_to_send past),
          count-append test (own_votes_added (view_history_by view event)) (own_votes_added (view_history view past)),
          ap (count test) (added_append (view_history_by view event) (view_history view past)),
        )

  pub sent_agree : (x : NodeConfig D K G C) (past : NodeHistory D K G C) → AreNamed x past
      → ((view : ℕ) → OwnAddedAgree (view_history view past)) → ToSendAgree past
  sent_agree x past named agree v =
      omega (arith, count_sent x (view_of v) (excludes v) past named, agree (view_of v) v)
