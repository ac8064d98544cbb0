-- Calls that cast no vote and bring no certificate: a leader, a proposal that is handed on, and a
-- question.
use Rattle.batcher_histories.proofs.Words.{◌≡◌, Bool, true, false, cond, ◌&&◌, ◌||◌, List, [], ◌∷◌, ◌++◌, Option, Some, None, refl, ap, sym, ◌∙◌, subst}
use Rattle.batcher_histories.proofs.Words.{option_map, option_or, Err, Result, OnOk, OnErr, filter, find, is_some, IfSome, option_and_then, Ok, MatchBool}
use Rattle.batcher_histories.proofs.Words.{append-nil, or_right, Notarize, NotarizeVote, LeaderFault, VerifierState, TrackerState, of_kind, RoundState}
use Rattle.batcher_histories.proofs.Words.{Participant, Proposal, Vote, Kind, Notarization, Certificate, Batch, Call, LeaderCall, ForwardCall, MissingCall}
use Rattle.batcher_histories.proofs.Words.{Answer, LeaderAnswer, ForwardAnswer, MissingAnswer, Config, participants_in, is_some_and, is_kind, subject_of}
use Rattle.batcher_histories.proofs.Words.{proposal_in, is_vote_of, either_same, filter_none, first_only, proposal_of, selects, is_skipped, kept_vote}
use Rattle.batcher_histories.proofs.Words.{SetsLeader, option_proposal, forward_answer, leader_set_answer, missing_in, AfterLeader, MayCall, Event, History}
use Rattle.batcher_histories.proofs.Words.{is_made, own_votes, sent_votes, cast_votes, batch_given, first_vote, selection_by, selection, leader_of}
use Rattle.batcher_histories.proofs.Words.{is_certified, certificate_of, finalized_by, fixed_proposal, leaders_proposal, was_forwarded, is_restored}
use Rattle.batcher_histories.proofs.Words.{eligible_among, ready_kind, Attempt, left_verified, MayAnswer, Meets, Represents, Simulates, TriesBuffers, arrivals}
use Rattle.batcher_histories.proofs.Words.{pending_after, verified_after}
use Rattle.batcher_histories.proofs.KnownLemmas.Observed.{kept_is_first}
use Rattle.batcher_histories.proofs.KnownLemmas.Named.{forward_same, missing_same, certified_fixes, released_where}
use Rattle.batcher_histories.proofs.History.Laws.{HasLaws}
use Rattle.batcher_histories.proofs.Simulation.Frame.{or_nothing, pending_wait, verified_wait, closed_pending, closed_verified, certified_same, no_evidence}
use Rattle.batcher_histories.proofs.Simulation.Frame.{none_back, MovesKind, followed, leaders_same, still_waits, fixed_eligible, none_kept, no_firsts}
use Rattle.batcher_histories.proofs.Simulation.Released.{TracksKind, tracks_stay, moves_tracked}
use Rattle.batcher_histories.proofs.History.Selection.{selection_fixes}

module _ {D K G C : Type 0} (x : Config D K G C) where
  -- A call that casts no vote, and brings no evidence and no batch.
  pub record IsQuiet (event : Event D K G C) : Type 0 where
    pub casts : cast_votes x event.0 ≡ []
    pub sends : sent_votes x event.0 ≡ []
    pub owns : own_votes event.0 ≡ []
    pub certificate : certificate_of event ≡ None
    pub finalized : finalized_by event.0 ≡ None
    pub batch : batch_given event.1 ≡ None

  module _ (past : History D K G C) (event : Event D K G C) (q : IsQuiet event) where
    pub quiet_pending : (old : RoundState G D) (kind : Kind) → pending_after x past old event kind
        ≡ eligible_among x (event ∷ past) kind (of_kind old.buffered.pending kind)
    quiet_pending old kind =
        ap (eligible_among x (event ∷ past) kind)
        (ap (λ (b : Option (Batch (Certificate C D))). cond (is_some b && is_some_and (ready_kind x past) (λ k. is_kind k kind)) []
        (of_kind old.buffered.pending kind) ++ filter (is_restored x past event) (of_kind old.tracked.kept kind)
        ++ arrivals x past kind (sent_votes x event.0)) q.batch
        ∙ (ap (λ votes. of_kind old.buffered.pending kind ++ filter (is_restored x past event) (of_kind old.tracked.kept kind) ++ arrivals x past kind votes)
        q.sends
        ∙ first_only (of_kind old.buffered.pending kind) _
        (filter_none (is_restored x past event) (of_kind old.tracked.kept kind)
        (none_back x past event (no_evidence x past event q.finalized q.certificate)))))

    pub quiet_verified : (old : RoundState G D) (kind : Kind) → verified_after x past old event kind
        ≡ eligible_among x (event ∷ past) kind (of_kind old.buffered.verified kind)
    quiet_verified old kind =
        ap (eligible_among x (event ∷ past) kind)
        (ap (λ (b : Option (Batch (Certificate C D))). cond (is_some b && is_some_and (ready_kind x past) (λ k. is_kind k kind))
        (left_verified x (of_kind old.buffered.verified kind) (of_kind old.buffered.pending kind)) (of_kind old.buffered.verified kind)
        ++ arrivals x past kind (own_votes event.0)) q.batch
        ∙ (ap (λ votes. of_kind old.buffered.verified kind ++ arrivals x past kind votes) q.owns ∙ append-nil (of_kind old.buffered.verified kind)))

    -- what is tracked is right for the longer history too
    pub quiet_kind : (old new : RoundState G D) (kind : Kind) → Represents x past old → new.tracked
        ≡ old.tracked → of_kind new.buffered.certified kind ≡ of_kind old.buffered.certified kind
        → MovesKind x past event new kind
    quiet_kind old new kind represents tracked certified =
        moves_tracked x past event new kind (certified ∙ ((represents.each_kind kind).certified_is ∙ sym (certified_same x past event q.certificate kind)))
        (subst (λ (t : TrackerState G D). TracksKind x past event t kind) (sym tracked)
        (tracks_stay x past event q.casts old represents kind (certified_same x past event q.certificate kind)))

    no_attempt : (old : RoundState G D) → TriesBuffers x past old event
    no_attempt old =
        subst (λ (o : Option (Batch (Certificate C D))). IfSome o
        (λ batch. (k : Kind) × ((ready_kind x past ≡ Some k) × Attempt x (of_kind old.buffered.verified k) (of_kind old.buffered.pending k) batch)))
        (sym q.batch) tt

    -- where no leader is named, the selection stays too
    pub quiet_selection : leader_of (event ∷ past) ≡ leader_of past → selection x (event ∷ past)
        ≡ selection x past
    quiet_selection leader =
        selection_fixes x past event None (leaders_same x past event (no_firsts x past event q.casts) leader)
        (no_evidence x past event q.finalized q.certificate)

module _ {D K G C : Type 0} (x : Config D K G C) (lawful : HasLaws x) where
  -- the buffers of a call that changes none of the selection, the marks and the buffers
  rests_pending : (past : History D K G C) (event : Event D K G C) (old new : RoundState G D)
      (kind : Kind) → IsQuiet x event → leader_of (event ∷ past) ≡ leader_of past
      → Represents x past old →
      of_kind new.buffered.pending kind ≡ of_kind old.buffered.pending kind
      → of_kind new.buffered.pending kind ≡ pending_after x past old event kind
  rests_pending past event old new kind q leader represents same =
      same ∙ sym (quiet_pending x past event q old kind
      ∙ still_waits x past event kind (of_kind old.buffered.pending kind) (certified_same x past event q.certificate kind)
      (ap proposal_of (quiet_selection x past event q leader)) (pending_wait x past old kind represents))

  rests_verified : (past : History D K G C) (event : Event D K G C) (old new : RoundState G D)
      (kind : Kind) → IsQuiet x event → leader_of (event ∷ past) ≡ leader_of past
      → Represents x past old →
      of_kind new.buffered.verified kind ≡ of_kind old.buffered.verified kind
      → of_kind new.buffered.verified kind ≡ verified_after x past old event kind
  rests_verified past event old new kind q leader represents same =
      same ∙ sym (quiet_verified x past event q old kind
      ∙ still_waits x past event kind (of_kind old.buffered.verified kind) (certified_same x past event q.certificate kind)
      (ap proposal_of (quiet_selection x past event q leader)) (verified_wait x past old kind represents))

  -- Such a call, which names no leader either, moves nothing but the mark of a proposal that was
  -- handed on.
  rests : (past : History D K G C) (old : RoundState G D) (call : Call K G C D)
      (answer : Answer G C D)
      (new : RoundState G D) → Represents x past old →
      IsQuiet x (call, answer) → leader_of ((call, answer) ∷ past) ≡ leader_of past
      → MayCall x.meaning x.number call → is_made answer ≡ true → MayAnswer x past call answer →
      new.tracked ≡ old.tracked → new.buffered ≡ old.buffered → new.forwarded
      ≡ was_forwarded ((call, answer) ∷ past) → Simulates x past old (call, answer) new
  rests past old call answer new represents q leader allowed made may tracked buffered forwarded =
      followed x lawful past old call answer new represents
      (record {
        allowed = allowed;
        made = made;
        answered = may;
        leader_is = ap (λ b. b.leader) buffered ∙ (represents.leader_is ∙ sym leader);
        selection_is = ap (λ b. b.selection) buffered ∙ (represents.selection_is ∙ sym (quiet_selection x past (call, answer) q leader));
        forwarded_is = forwarded;
        kinds = λ kind. quiet_kind x past (call, answer) q old new kind represents tracked (ap (λ b. of_kind b.certified kind) buffered);
        pending_are = λ kind. rests_pending past (call, answer) old new kind q leader represents (ap (λ b. of_kind b.pending kind) buffered);
        verified_are = λ kind. rests_verified past (call, answer) old new kind q leader represents (ap (λ b. of_kind b.verified kind) buffered);
        attempt = no_attempt x past (call, answer) q old;
      })

  -- FORWARD
  pub forward_simulates : (past : History D K G C) (old new : RoundState G D) (me : Participant)
      (answer : Option (Proposal D)) → Represents x past old → answer ≡ forward_answer old me →
      new ≡ record old { forwarded = is_some answer || old.forwarded }
      → Simulates x past old (ForwardCall me, ForwardAnswer answer) new
  forward_simulates past old new me answer represents named held =
      rests past old (ForwardCall me) (ForwardAnswer answer) new represents
      (record { casts = refl; sends = refl; owns = refl; certificate = refl; finalized = refl; batch = refl })
      (or_nothing (leader_of past)) tt refl (named ∙ forward_same x past old me represents)
      (ap (λ h. h.tracked) held) (ap (λ h. h.buffered) held) (ap (λ h. h.forwarded) held ∙ ap (λ f. is_some answer || f) represents.forwarded_is)

  -- MISSING
  pub missing_simulates : (past : History D K G C) (old new : RoundState G D) (p : Proposal D)
      (answer : List Participant) → Represents x past old → answer
      ≡ missing_in x.same_digest old p (participants_in x) →
      new ≡ old → Simulates x past old (MissingCall p, MissingAnswer answer) new
  missing_simulates past old new p answer represents named held =
      rests past old (MissingCall p) (MissingAnswer answer) new represents
      (record { casts = refl; sends = refl; owns = refl; certificate = refl; finalized = refl; batch = refl })
      (or_nothing (leader_of past)) tt refl (named ∙ missing_same x past old p represents)
      (ap (λ h. h.tracked) held) (ap (λ h. h.buffered) held) (ap (λ h. h.forwarded) held ∙ represents.forwarded_is)

  -- LEADER
  proposal_kept : (o : Option (Vote G D)) → option_proposal o
      ≡ option_and_then (λ v. proposal_in (subject_of v)) o
  proposal_kept None = refl
  proposal_kept (Some v) = refl

  selects_by : (fixed o : Option (Proposal D)) → selects (selection_by fixed None) o
      ≡ selection_by fixed o
  selects_by (Some f) None = refl
  selects_by (Some f) (Some p) = refl
  selects_by None (Some p) = refl
  selects_by None None = refl

  same_selection : (fixed kept first : Option (Proposal D)) (skips : Bool)
      → (fixed ≡ None → skips ≡ false → kept ≡ first) → (fixed ≡ None → skips ≡ true → kept ≡ None)
      →
      selection_by fixed kept ≡ selection_by fixed (cond skips None first)
  same_selection (Some f) kept first skips same none = refl
  same_selection None kept first true same none = ap (selection_by None) (none refl refl)
  same_selection None kept first false same none = ap (selection_by None) (same refl refl)

  -- what the first leader's call selects
  leader_selects : (past : History D K G C) (held : RoundState G D) (leader : Participant)
      → Represents x past held → leader_of past ≡ None →
      selects held.buffered.selection (option_proposal
      (kept_vote held.tracked Notarization leader.0))
      ≡ selection x ((LeaderCall leader, LeaderAnswer (Ok tt)) ∷ past)
  leader_selects past held leader represents none =
      ap (λ s. selects s (option_proposal (kept_vote held.tracked Notarization leader.0)))
      (represents.selection_is ∙ ap (selection_by (fixed_proposal past)) no_leaders)
      ∙ (selects_by (fixed_proposal past) (option_proposal (kept_vote held.tracked Notarization leader.0))
      ∙ (same_selection (fixed_proposal past) (option_proposal (kept_vote held.tracked Notarization leader.0))
      (option_and_then (λ v. proposal_in (subject_of v)) (first_vote x past Notarization leader.0)) (is_skipped x.mode)
      (λ unfixed still.
      ap option_proposal (kept_is_first x past held Notarization leader.0 represents
      (released_where x.mode (is_certified past Notarization) still (certified_fixes x past Notarization unfixed refl)))
      ∙ proposal_kept (first_vote x past Notarization leader.0))
      (λ unfixed skips.
      ap (λ votes. option_proposal (find (is_vote_of Notarization leader.0) votes)) (none_kept x past held Notarization represents skips))
      ∙ (ap (λ l. selection_by (fixed_proposal past) (cond (is_skipped x.mode) None
      (option_and_then (λ v. proposal_in (subject_of v)) (option_and_then (λ i. first_vote x past Notarization i.0) l))))
      (sym (ap (λ l. option_or l (Some leader)) none))
      ∙ ap (λ f. selection_by f (leaders_proposal x ((LeaderCall leader, LeaderAnswer (Ok tt)) ∷ past))) (sym (or_nothing (fixed_proposal past))))))
    where
      no_leaders : leaders_proposal x past ≡ None
      no_leaders =
          ap (λ l. cond (is_skipped x.mode) None (option_and_then (λ v. proposal_in (subject_of v))
          (option_and_then (λ i. first_vote x past Notarization i.0) l))) none ∙ either_same (is_skipped x.mode) None

  pub leader_simulates : (past : History D K G C) (old new : RoundState G D) (leader : Participant)
      → Represents x past old → Ok tt ≡ leader_set_answer old.buffered.leader leader →
      AfterLeader x old leader new → Simulates x past old (LeaderCall leader, LeaderAnswer (Ok tt))
      new
  leader_simulates past old new leader represents named step = by_known old.buffered.leader refl
    where
      quiet : IsQuiet x (LeaderCall leader, LeaderAnswer (Ok tt))
      quiet = record { casts = refl; sends = refl; owns = refl; certificate = refl; finalized = refl; batch = refl }

      may : Ok tt ≡ leader_set_answer (leader_of past) leader
      may = named ∙ ap (λ l. leader_set_answer l leader) represents.leader_is

      by_known : (known : Option Participant) → old.buffered.leader ≡ known
          → Simulates x past old (LeaderCall leader, LeaderAnswer (Ok tt)) new
      by_known (Some i) is =
          rests past old (LeaderCall leader) (LeaderAnswer (Ok tt)) new represents quiet
          (ap (λ l. option_or l (Some leader)) (sym represents.leader_is ∙ is) ∙ sym (sym represents.leader_is ∙ is)) tt refl may step.tracked
          (subst (λ l. MatchBool (is_some l) (new.buffered ≡ old.buffered)
          (SetsLeader x.same_digest old.buffered leader (option_proposal (kept_vote old.tracked Notarization leader.0)) new.buffered)) is step.buffered)
          (step.forwarded ∙ represents.forwarded_is)
      by_known None is =
          sets (subst (λ l. MatchBool (is_some l) (new.buffered ≡ old.buffered)
          (SetsLeader x.same_digest old.buffered leader (option_proposal (kept_vote old.tracked Notarization leader.0)) new.buffered)) is step.buffered)
        where
          none : leader_of past ≡ None
          none = sym represents.leader_is ∙ is

          sets : SetsLeader x.same_digest old.buffered leader
              (option_proposal (kept_vote old.tracked Notarization leader.0)) new.buffered
              → Simulates x past old (LeaderCall leader, LeaderAnswer (Ok tt)) new
          sets s =
              followed x lawful past old (LeaderCall leader) (LeaderAnswer (Ok tt)) new represents
              (record {
                allowed = tt;
                made = refl;
                answered = may;
                leader_is = s.leader_is ∙ sym (ap (λ l. option_or l (Some leader)) none);
                selection_is = selected;
                forwarded_is = step.forwarded ∙ represents.forwarded_is;
                kinds = λ kind. quiet_kind x past (LeaderCall leader, LeaderAnswer (Ok tt)) quiet old new kind represents step.tracked
                    (s.buffers kind).certified;
                pending_are = λ kind.
                    (s.buffers kind).pending
                    ∙ (fixed_eligible x ((LeaderCall leader, LeaderAnswer (Ok tt)) ∷ past) new.buffered kind (of_kind old.buffered.pending kind)
                    (certified kind)
                    (ap proposal_of selected) (λ skips. closed_pending x past old kind represents (or_right (is_certified past kind) _ skips))
                    ∙ sym (quiet_pending x past (LeaderCall leader, LeaderAnswer (Ok tt)) quiet old kind));
                verified_are = λ kind.
                    (s.buffers kind).verified
                    ∙ (fixed_eligible x ((LeaderCall leader, LeaderAnswer (Ok tt)) ∷ past) new.buffered kind (of_kind old.buffered.verified kind)
                    (certified kind)
                    (ap proposal_of selected) (λ skips. closed_verified x past old kind represents (or_right (is_certified past kind) _ skips))
                    ∙ sym (quiet_verified x past (LeaderCall leader, LeaderAnswer (Ok tt)) quiet old kind));
                attempt = no_attempt x past (LeaderCall leader, LeaderAnswer (Ok tt)) quiet old;
              })
            where
              selected : new.buffered.selection
                  ≡ selection x ((LeaderCall leader, LeaderAnswer (Ok tt)) ∷ past)
              selected = s.selection ∙ leader_selects past old leader represents none

              certified : (kind : Kind) → of_kind new.buffered.certified kind
                  ≡ is_certified ((LeaderCall leader, LeaderAnswer (Ok tt)) ∷ past) kind
              certified kind = (s.buffers kind).certified ∙ (represents.each_kind kind).certified_is

  -- A leader that is refused changes nothing.
  pub leader_meets : (past : History D K G C) (old : RoundState G D) (leader : Participant)
      (result : Result (Unit {0}) LeaderFault) (new : VerifierState G D) → Represents x past old →
      result ≡ leader_set_answer old.buffered.leader leader
      → OnOk result (AfterLeader x old leader (record old { buffered = new }))
      → OnErr result (new ≡ old.buffered)
      → Meets x past old (LeaderCall leader, LeaderAnswer result) (record old { buffered = new })
  leader_meets past old leader (Ok done) new represents named step refused =
      leader_simulates past old (record old { buffered = new }) leader represents named step
  leader_meets past old leader (Err fault) new represents named step refused = ap (λ b. record old { buffered = b }) refused

-- what setting a leader changes, by what its kept notarize is
pub leader_step : {D K G C : Type 0} (x : Config D K G C) (held : RoundState G D)
    (leader : Participant)
    (kept : Option (Notarize G D)) (result : Result (Unit {0}) LeaderFault)
    (new : VerifierState G D) →
    option_map NotarizeVote kept ≡ kept_vote held.tracked Notarization leader.0
    → (is_some held.buffered.leader ≡ true → new ≡ held.buffered)
    → (is_some held.buffered.leader ≡ false
    → OnOk result (SetsLeader x.same_digest held.buffered leader
    (option_map (λ vote. vote.proposal) kept) new))
    → OnOk result (AfterLeader x held leader
    (record { tracked = held.tracked; buffered = new; forwarded = held.forwarded }))
leader_step x held leader kept (Err fault) new is again sets = tt
leader_step {D = D} {G = G} x held leader kept (Ok done) new is again sets =
    record {
      tracked = refl;
      forwarded = refl;
      buffered = by_known (is_some held.buffered.leader)
          refl;
    }
  where
    proposals : (o : Option (Notarize G D)) → option_map (λ vote. vote.proposal) o
        ≡ option_proposal (option_map NotarizeVote o)
    proposals None = refl
    proposals (Some vote) = refl

    by_known : (known : Bool) → is_some held.buffered.leader ≡ known
        → MatchBool known (new ≡ held.buffered)
        (SetsLeader x.same_digest held.buffered leader
        (option_proposal (kept_vote held.tracked Notarization leader.0)) new)
    by_known true e = again e
    by_known false e = subst (λ p. SetsLeader x.same_digest held.buffered leader p new) (proposals kept ∙ ap option_proposal is) (sets e)
