-- How what a history names goes on with one more event, piece by piece, and that a call which moves
-- what is held so is followed.
use Rattle.batcher_histories.proofs.Words.{◌≡◌, ℕ, Bool, true, false, not, cond, ◌&&◌, ◌||◌, List, [], ◌∷◌, ◌++◌, length, map, Option, Some, None, refl, ap}
use Rattle.batcher_histories.proofs.Words.{sym, ◌∙◌, ⊎_elim, filter, option_and_then, find, list_any, option_or, cases_Bool, and_parts, filter-append}
use Rattle.batcher_histories.proofs.Words.{nil_from_length, append-nil, Proposal, Vote, Kind, Call, Answer, Config, count, SameElements, is_some_and, is_empty}
use Rattle.batcher_histories.proofs.Words.{is_kind, kind_of, signer_of, has_proposals, kind_certified, subject_certified, proposal_in, is_of_kind, is_vote_of}
use Rattle.batcher_histories.proofs.Words.{is_for, is_eligible, subject_of, proposal_of, of_kind, RoundState, VerifierState, is_skipped, is_released_in}
use Rattle.batcher_histories.proofs.Words.{MayCall, Event, History, is_made, cast_votes, is_free, first_votes, first_vote, selection_by, selection}
use Rattle.batcher_histories.proofs.Words.{selected_proposal, leader_of, leader_named, is_certified, certificate_of, finalized_by, fixed_proposal}
use Rattle.batcher_histories.proofs.Words.{fixing_evidence, leaders_proposal, was_forwarded, is_restored, is_released, compared_votes, compared_votes_of}
use Rattle.batcher_histories.proofs.Words.{is_compared, is_compared_at_release, is_matched, facts_of, eligible_among, is_trusted, was_eligible, was_invalid}
use Rattle.batcher_histories.proofs.Words.{trials, fresh_votes, proven_votes, MayAnswer, Represents, Simulates, TriesBuffers, first_by_signer, pending_after}
use Rattle.batcher_histories.proofs.Words.{verified_after, still_eligible, ordered_by, Notarization, count-false, count_same, filter_all, length_same}
use Rattle.batcher_histories.proofs.Words.{none_both, open_or_closed, filter_behind, is_kind-true}
use Rattle.batcher_histories.proofs.History.Distinct.{option_cases}
use Rattle.batcher_histories.proofs.KnownLemmas.Named.{compared_if_fixed, always_released}
use Rattle.batcher_histories.proofs.History.Past.{count_fresh, count_proven, closed_is_empty, nothing_eligible, open_eligible}
use Rattle.batcher_histories.proofs.History.Laws.{HasLaws}
use Rattle.batcher_histories.proofs.Simulation.Buffers.{pending_follow, verified_follow}

pub or_nothing : {X : Type 0} (o : Option X) → option_or o None ≡ o
or_nothing None = refl
or_nothing (Some v) = refl

never_eligible : (k w n : Bool) → (k && (w && (n && not w))) ≡ false
never_eligible true true true = refl
never_eligible true true false = refl
never_eligible true false n = refl
never_eligible false w n = refl

no_change : (h r s : Bool) → s ≡ r → (h && (not r && s)) ≡ false
no_change true true s e = refl
no_change true false s e = e
no_change false r s e = refl

same_where_none : {X : Type 0} (o o' : Option X) → is_some_and o (λ v. false)
    ≡ is_some_and o' (λ v. false)
same_where_none None None = refl
same_where_none None (Some b) = refl
same_where_none (Some a) None = refl
same_where_none (Some a) (Some b) = refl

module _ {D K G C : Type 0} (x : Config D K G C) where
  -- WHAT IS BUFFERED WAITS
  eligible_buffer : (past : History D K G C) (kind : Kind) (votes model : List (Vote G D))
      → SameElements votes model →
      ((is_certified past kind || is_skipped x.mode) ≡ true → model ≡ [])
      → ((is_certified past kind || is_skipped x.mode) ≡ false
      → count (λ v. not (is_eligible x.same_digest (selected_proposal x past) v)) model ≡ 0)
      → eligible_among x past kind votes ≡ votes
  eligible_buffer past kind votes model same closed_is open_is =
      ⊎_elim
      (λ closed. nothing_eligible x past kind votes closed ∙ sym (nil_from_length votes (length_same votes model same ∙ ap length (closed_is closed))))
      (λ still.
      open_eligible x past kind votes still
      ∙ filter_all (is_eligible x.same_digest (selected_proposal x past)) votes
      (same (λ v. not (is_eligible x.same_digest (selected_proposal x past) v)) ∙ open_is still))
      (cases_Bool (is_certified past kind || is_skipped x.mode))

  pub pending_wait : (past : History D K G C) (held : RoundState G D) (kind : Kind)
      → Represents x past held
      → eligible_among x past kind (of_kind held.buffered.pending kind)
      ≡ of_kind held.buffered.pending kind
  pending_wait past held kind represents =
      eligible_buffer past kind (of_kind held.buffered.pending kind) (fresh_votes x past kind) (represents.each_kind kind).pending_are
      (λ closed. (closed_is_empty x past kind closed).0)
      (λ still. count_fresh x past kind (λ v. not (is_eligible x.same_digest (selected_proposal x past) v)) still
      ∙ (count_same _ (λ v. false) (first_votes x past)
      (λ v. never_eligible (is_of_kind kind v) (is_eligible x.same_digest (selected_proposal x past) v)
      (not (is_trusted x past v || was_eligible (trials x past) v))) ∙ count-false (first_votes x past)))

  pub verified_wait : (past : History D K G C) (held : RoundState G D) (kind : Kind)
      → Represents x past held
      → eligible_among x past kind (of_kind held.buffered.verified kind)
      ≡ of_kind held.buffered.verified kind
  verified_wait past held kind represents =
      eligible_buffer past kind (of_kind held.buffered.verified kind) (proven_votes x past kind) (represents.each_kind kind).verified_are
      (λ closed. (closed_is_empty x past kind closed).1)
      (λ still. count_proven x past kind (λ v. not (is_eligible x.same_digest (selected_proposal x past) v)) still
      ∙ (count_same _ (λ v. false) (first_votes x past)
      (λ v. never_eligible (is_of_kind kind v) (is_eligible x.same_digest (selected_proposal x past) v)
      ((is_trusted x past v || was_eligible (trials x past) v) && not (was_invalid (trials x past) v))) ∙ count-false (first_votes x past)))

  -- of a kind that is closed nothing is held
  pub closed_pending : (past : History D K G C) (held : RoundState G D) (kind : Kind)
      → Represents x past held
      → (is_certified past kind || is_skipped x.mode) ≡ true → of_kind held.buffered.pending kind
      ≡ []
  closed_pending past held kind represents closed =
      nil_from_length _ (length_same _ (fresh_votes x past kind) (represents.each_kind kind).pending_are ∙ ap length (closed_is_empty x past kind closed).0)

  pub closed_verified : (past : History D K G C) (held : RoundState G D) (kind : Kind)
      → Represents x past held → (is_certified past kind || is_skipped x.mode) ≡ true
      → of_kind held.buffered.verified kind ≡ []
  closed_verified past held kind represents closed =
      nil_from_length _ (length_same _ (proven_votes x past kind) (represents.each_kind kind).verified_are ∙ ap length (closed_is_empty x past kind closed).1)

  -- in a skipped round nothing is kept
  pub none_kept : (past : History D K G C) (held : RoundState G D) (kind : Kind)
      → Represents x past held
      → is_skipped x.mode ≡ true → of_kind held.tracked.kept kind ≡ []
  none_kept past held kind represents skips =
      (represents.each_kind kind).kept_are ∙ ap (λ r. cond r [] (first_by_signer x past kind)) (always_released x.mode (is_certified past kind) skips)

  -- what waits does so after an event that changes nothing of it
  pub still_waits : (past : History D K G C) (event : Event D K G C) (kind : Kind)
      (votes : List (Vote G D)) → is_certified (event ∷ past) kind ≡ is_certified past kind
      → selected_proposal x (event ∷ past) ≡ selected_proposal x past →
      eligible_among x past kind votes ≡ votes → eligible_among x (event ∷ past) kind votes ≡ votes
  still_waits past event kind votes certified selected h =
      ap (λ c. cond (c || is_skipped x.mode) [] (filter (is_eligible x.same_digest (selected_proposal x (event ∷ past))) votes)) certified
      ∙ (ap (λ o. cond (is_certified past kind || is_skipped x.mode) [] (filter (is_eligible x.same_digest o) votes)) selected ∙ h)

  -- votes behind others, of which the same wait
  pub eligible_behind : (now : History D K G C) (kind : Kind)
      (votes more others : List (Vote G D)) →
      filter (is_eligible x.same_digest (selected_proposal x now)) more
      ≡ filter (is_eligible x.same_digest (selected_proposal x now)) others
      → eligible_among x now kind (votes ++ more) ≡ eligible_among x now kind (votes ++ others)
  eligible_behind now kind votes more others same =
      ap (cond (is_certified now kind || is_skipped x.mode) []) (filter_behind (is_eligible x.same_digest (selected_proposal x now)) votes more others same)

  -- What still waits by what is held is what waits by the history, where they agree; in a skipped
  -- round nothing does.
  pub still_is_eligible : (now : History D K G C) (held : VerifierState G D) (kind : Kind)
      (votes : List (Vote G D)) →
      of_kind held.certified kind ≡ is_certified now kind → proposal_of held.selection
      ≡ selected_proposal x now → (is_skipped x.mode ≡ true → votes ≡ [])
      → still_eligible x.same_digest held kind votes ≡ eligible_among x now kind votes
  still_is_eligible now held kind votes certified selected none =
      ap (λ b. cond b [] (filter (is_eligible x.same_digest (proposal_of held.selection)) votes)) certified
      ∙ (ap (λ o. cond (is_certified now kind) [] (filter (is_eligible x.same_digest o) votes)) selected
      ∙ open_or_closed (is_eligible x.same_digest (selected_proposal x now)) (is_certified now kind) (is_skipped x.mode) votes votes none
      (λ by_new still. refl))

  -- the same of a buffer that no vote joins
  pub fixed_eligible : (now : History D K G C) (held : VerifierState G D) (kind : Kind)
      (votes : List (Vote G D)) →
      of_kind held.certified kind ≡ is_certified now kind → proposal_of held.selection
      ≡ selected_proposal x now → (is_skipped x.mode ≡ true → votes ≡ [])
      → still_eligible x.same_digest held kind (votes ++ []) ≡ eligible_among x now kind votes
  fixed_eligible now held kind votes certified selected none =
      ap (still_eligible x.same_digest held kind) (append-nil votes) ∙ still_is_eligible now held kind votes certified selected none

  module _ (past : History D K G C) (event : Event D K G C) where
    -- WHAT GOES ON
    pub certified_same : certificate_of event ≡ None → (kind : Kind)
        → is_certified (event ∷ past) kind ≡ is_certified past kind
    certified_same none kind = ap (λ o. is_some_and o (λ c. is_kind (kind_certified c) kind) || is_certified past kind) none

    pub released_same : (kind : Kind) → is_certified (event ∷ past) kind ≡ is_certified past kind
        → is_released x (event ∷ past) kind ≡ is_released x past kind
    released_same kind same = ap (is_released_in x.mode) same

    pub no_evidence : finalized_by event.0 ≡ None → certificate_of event ≡ None
        → fixing_evidence event ≡ None
    no_evidence finalized none =
        ap (λ o. option_or o (option_and_then (λ c. proposal_in (subject_certified c)) (certificate_of event))) finalized
        ∙ ap (λ o. option_and_then (λ c. proposal_in (subject_certified c)) o) none

    pub leader_same : leader_named event.0 ≡ None → leader_of (event ∷ past) ≡ leader_of past
    leader_same none = ap (option_or (leader_of past)) none ∙ or_nothing (leader_of past)

    pub none_back : fixing_evidence event ≡ None → (v : Vote G D) → is_restored x past event v
        ≡ false
    none_back none v = rw none refl

    pub no_firsts : cast_votes x event.0 ≡ [] → first_votes x (event ∷ past) ≡ first_votes x past
    no_firsts casts = ap (λ votes. filter (is_free (first_votes x past)) votes ++ first_votes x past) casts

    pub first_by_same : cast_votes x event.0 ≡ [] → (kind : Kind)
        → first_by_signer x (event ∷ past) kind ≡ first_by_signer x past kind
    first_by_same casts kind = ap (λ votes. ordered_by signer_of (filter (is_of_kind kind) votes)) (no_firsts casts)

    pub leaders_same : first_votes x (event ∷ past) ≡ first_votes x past → leader_of (event ∷ past)
        ≡ leader_of past → leaders_proposal x (event ∷ past) ≡ leaders_proposal x past
    leaders_same firsts leader =
        ap (λ votes. cond (is_skipped x.mode) None (option_and_then (λ v. proposal_in (subject_of v))
        (option_and_then (λ i. find (is_vote_of Notarization i.0) votes) (leader_of (event ∷ past))))) firsts
        ∙ ap (λ l. cond (is_skipped x.mode) None (option_and_then (λ v. proposal_in (subject_of v))
        (option_and_then (λ i. first_vote x past Notarization i.0) l))) leader

    -- Where a proposal was fixed before, it stays the selected one.
    pub fixed_stays : (p : Proposal D) → fixed_proposal past ≡ Some p → selection x (event ∷ past)
        ≡ selection x past
    fixed_stays p fixed =
        ap (λ f. selection_by (option_or f (fixing_evidence event)) (leaders_proposal x (event ∷ past))) fixed
        ∙ ap (λ f. selection_by f (leaders_proposal x past)) (sym fixed)

    pub nothing_released : (kind : Kind) (i : ℕ) → is_released x (event ∷ past) kind
        ≡ is_released x past kind → filter (is_vote_of kind i)
        (filter (is_compared_at_release x past event) (first_votes x past)) ≡ []
    nothing_released kind i same =
        none_both (is_vote_of kind i) (is_compared_at_release x past event) (first_votes x past)
        (λ v of.
        let k : kind_of v ≡ kind = is_kind-true _ _ (and_parts _ _ of).0 in
        no_change (has_proposals (kind_of v)) (is_released x past (kind_of v)) (is_released x (event ∷ past) (kind_of v))
        (ap (is_released x (event ∷ past)) k ∙ (same ∙ ap (is_released x past) (sym k))))

    -- the compared votes of a kind and signer: of the call, of those that it releases, and those
    -- from before
    pub compared_parts : (kind : Kind) (i : ℕ) → compared_votes_of x (event ∷ past) kind i
        ≡ filter (is_vote_of kind i) (filter (is_compared x past event) (cast_votes x event.0))
        ++ (filter (is_vote_of kind i) (filter (is_compared_at_release x past event)
        (first_votes x past)) ++ compared_votes_of x past kind i)
    compared_parts kind i =
        filter-append (is_vote_of kind i) (filter (is_compared x past event) (cast_votes x event.0))
        (filter (is_compared_at_release x past event) (first_votes x past) ++ compared_votes x past)
        ∙ ap (λ vs. filter (is_vote_of kind i) (filter (is_compared x past event) (cast_votes x event.0)) ++ vs)
        (filter-append (is_vote_of kind i) (filter (is_compared_at_release x past event) (first_votes x past)) (compared_votes x past))

    -- where the kind isn't released now, those of the call are all that is new
    pub compared_goes : (kind : Kind) (i : ℕ) → is_released x (event ∷ past) kind
        ≡ is_released x past kind →
        compared_votes_of x (event ∷ past) kind i
        ≡ filter (is_vote_of kind i) (filter (is_compared x past event) (cast_votes x event.0))
        ++ compared_votes_of x past kind i
    compared_goes kind i same =
        compared_parts kind i
        ∙ ap (λ vs. filter (is_vote_of kind i) (filter (is_compared x past event) (cast_votes x event.0)) ++ (vs ++ compared_votes_of x past kind i))
        (nothing_released kind i same)

    -- whether one of the votes compared before is for the selected proposal stays
    pub matched_stays : (kind : Kind) (i : ℕ)
        → is_some_and (selected_proposal x (event ∷ past))
        (λ p. list_any (is_for x.same_digest p) (compared_votes_of x past kind i))
        ≡ is_matched x past kind i
    matched_stays kind i =
        ⊎_elim
        (λ unfixed.
        ap (λ votes. is_some_and (selected_proposal x (event ∷ past)) (λ p. list_any (is_for x.same_digest p) (filter (is_vote_of kind i) votes)))
        (compared_if_fixed x past unfixed)
        ∙ (same_where_none (selected_proposal x (event ∷ past)) (selected_proposal x past)
        ∙ ap (λ votes. is_some_and (selected_proposal x past) (λ p. list_any (is_for x.same_digest p) (filter (is_vote_of kind i) votes)))
        (sym (compared_if_fixed x past unfixed))))
        (λ (fixed : (p : Proposal D) × (fixed_proposal past ≡ Some p)).
        ap (λ s. is_some_and (proposal_of s) (λ p. list_any (is_for x.same_digest p) (compared_votes_of x past kind i))) (fixed_stays fixed.0 fixed.1))
        (option_cases (fixed_proposal past))

    -- facts stay where the compared votes do, whatever the event selects
    pub facts_stay : (kind : Kind) (i : ℕ) → compared_votes_of x (event ∷ past) kind i
        ≡ compared_votes_of x past kind i → facts_of x (event ∷ past) kind i
        ≡ facts_of x past kind i
    facts_stay kind i same =
        ap (λ votes. record {
          signer = i;
          has_compared = not (is_empty votes);
          has_matched = is_some_and (selected_proposal x (event ∷ past))
              (λ p. list_any (is_for x.same_digest p) votes);
        }) same
        ∙ ap (λ m. record { signer = i; has_compared = not (is_empty (compared_votes_of x past kind i)); has_matched = m }) (matched_stays kind i)

    -- as they do where no vote is cast
    pub facts_same : cast_votes x event.0 ≡ [] → (kind : Kind) (i : ℕ)
        → is_released x (event ∷ past) kind ≡ is_released x past kind
        → facts_of x (event ∷ past) kind i ≡ facts_of x past kind i
    facts_same casts kind i same =
        facts_stay kind i (compared_goes kind i same ∙ ap
        (λ vs. filter (is_vote_of kind i) (filter (is_compared x past event) vs) ++ compared_votes_of x past kind i) casts)

-- WHAT A CALL MOVES
module _ {D K G C : Type 0} (x : Config D K G C) where
  -- of a kind, beside its buffers
  pub record MovesKind (past : History D K G C) (event : Event D K G C) (new : RoundState G D)
      (kind : Kind) : Type 0 where
    pub certified_is : of_kind new.buffered.certified kind ≡ is_certified (event ∷ past) kind
    pub compacted_is : of_kind new.tracked.compacted kind ≡ is_released x (event ∷ past) kind
    pub kept_are : of_kind new.tracked.kept kind
        ≡ cond (is_released x (event ∷ past) kind) [] (first_by_signer x (event ∷ past) kind)
    pub facts_are :
        of_kind new.tracked.facts kind
        ≡ cond (is_released x (event ∷ past) kind)
        (map (λ v. facts_of x (event ∷ past) kind (signer_of v))
        (first_by_signer x (event ∷ past) kind)) []

  -- What is held after a call, by what the history with it names, and the buffers by those before.
  pub record Moves (past : History D K G C) (old : RoundState G D) (call : Call K G C D)
      (answer : Answer G C D) (new : RoundState G D) : Type 0 where
    pub allowed : MayCall x.meaning x.number call
    pub made : is_made answer ≡ true
    pub answered : MayAnswer x past call answer
    pub leader_is : new.buffered.leader ≡ leader_of ((call, answer) ∷ past)
    pub selection_is : new.buffered.selection ≡ selection x ((call, answer) ∷ past)
    pub forwarded_is : new.forwarded ≡ was_forwarded ((call, answer) ∷ past)
    pub kinds : (kind : Kind) → MovesKind past (call, answer) new kind
    pub pending_are : (kind : Kind) → of_kind new.buffered.pending kind
        ≡ pending_after x past old (call, answer) kind
    pub verified_are : (kind : Kind) → of_kind new.buffered.verified kind
        ≡ verified_after x past old (call, answer) kind
    pub attempt : TriesBuffers x past old (call, answer)

  -- Such a call is followed: the buffers hold the fresh and the proven votes of the longer history.
  pub followed : HasLaws x → (past : History D K G C) (old : RoundState G D) (call : Call K G C D)
      (answer : Answer G C D) (new : RoundState G D) → Represents x past old
      → Moves past old call answer new
      →
      Simulates x past old (call, answer) new
  followed lawful past old call answer new represents m =
      record {
        represents = record {
          possible = (m.allowed, (m.made, (m.answered, represents.possible)));
          leader_is = m.leader_is;
          selection_is = m.selection_is;
          forwarded_is = m.forwarded_is;
          each_kind = λ kind. record {
            certified_is = (m.kinds kind).certified_is;
            compacted_is = (m.kinds kind).compacted_is;
            kept_are = (m.kinds kind).kept_are;
            facts_are = (m.kinds kind).facts_are;
            pending_are = λ test. ap (count test) (m.pending_are kind) ∙ pending_follow x lawful past old call answer kind represents m.answered test;
            verified_are = λ test. ap (count test) (m.verified_are kind)
                ∙ verified_follow x lawful past old call answer kind represents m.answered m.attempt test;
          };
        };
        pending_are = m.pending_are;
        verified_are = m.verified_are;
        attempt = m.attempt;
      }
