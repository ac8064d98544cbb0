-- What a vote that a call casts selects, and what waits after it.
use Rattle.batcher_histories.proofs.Words.{◌≡◌, Bool, true, false, not, cond, ◌&&◌, ◌||◌, List, [], ◌∷◌, ◌++◌, Option, Some, None, refl, ap, sym, ◌∙◌, ⊎_elim}
use Rattle.batcher_histories.proofs.Words.{eqb, filter, find, option_and_then, MatchBool, option_or, cases_Bool, and_parts, and_right, eqb-true, eq-eqb}
use Rattle.batcher_histories.proofs.Words.{eqb-false, ne_eqb, not-true, false_from_ne_true, filter-append, append-nil, Proposal, Vote, NotarizeVote}
use Rattle.batcher_histories.proofs.Words.{NullifyVote, FinalizeVote, Kind, Notarization, Participant, ProposalState, Unknown, LeadersProposal, FixedProposal}
use Rattle.batcher_histories.proofs.Words.{Mode, Retaining, Releasing, Skipped, Config, is_some_and, kind_of, signer_of, subject_of, proposal_in, has_proposals}
use Rattle.batcher_histories.proofs.Words.{is_of_kind, is_vote_of, is_eligible, filter_again, either_same, filter_none, is_kind-true, proposal_of, selects}
use Rattle.batcher_histories.proofs.Words.{fixes, of_kind, VerifierState, RoundState, is_skipped, is_released_in, RecordsKind, leaders_vote, AddsVote, Event}
use Rattle.batcher_histories.proofs.Words.{History, first_votes, first_vote, leader_of, leader_named, selection_by, selection, selected_proposal}
use Rattle.batcher_histories.proofs.Words.{fixed_proposal, fixing_evidence, leaders_proposal, certificate_of, is_certified, is_released, is_restored}
use Rattle.batcher_histories.proofs.Words.{eligible_among, Represents}
use Rattle.batcher_histories.proofs.History.Distinct.{free_is_new}
use Rattle.batcher_histories.proofs.KnownLemmas.Named.{always_released, or_none, released_where, certified_fixes}
use Rattle.batcher_histories.proofs.Simulation.Frame.{MovesKind, or_nothing, certified_same, released_same, leader_same, none_back, pending_wait, verified_wait}
use Rattle.batcher_histories.proofs.Simulation.Frame.{leaders_same}
use Rattle.batcher_histories.proofs.Simulation.FirstVotes.{Casts, is_new, is_taken, firsts_are, kept_taken, facts_taken, never_chosen}

-- TABLES
-- a vote that isn't added is of a released kind, or old
dropped_table : (k n r t : Bool) → (n && not r) ≡ false → (k ≡ true → r ≡ false) → (k && (n && t))
    ≡ false
dropped_table false n r t none still = refl
dropped_table true false r t none still = refl
dropped_table true true r t none still = let no : true ≡ false = ap not (sym (still refl)) ∙ none in absurd (cc)

-- nothing joins the other buffer
pub none_joins : (k n : Bool) → (k && (n && false)) ≡ false
none_joins true n = and_right n false refl
none_joins false n = refl

-- THE SELECTED PROPOSAL
-- the proposal of a notarize of the leader
abbrev pub leaders_vote_by : {G D : Type 0} → Option Participant → Vote G D → Option (Proposal D)
leaders_vote_by leader (NotarizeVote vote) = cond (is_some_and leader (λ i. eqb i.0 vote.attestation.signer.0)) (Some vote.proposal) None
leaders_vote_by leader (NullifyVote vote) = None
leaders_vote_by leader (FinalizeVote vote) = None

no_leaders_vote : {G D : Type 0} (leader : Option Participant) (vote : Vote G D)
    → has_proposals (kind_of vote) ≡ false → leaders_vote_by leader vote ≡ None
no_leaders_vote leader (NotarizeVote vote) h = absurd (cc)
no_leaders_vote leader (NullifyVote vote) h = refl
no_leaders_vote leader (FinalizeVote vote) h = absurd (cc)

-- evidence goes before the leader's vote, and that selects where nothing is selected
selects_by : {D : Type 0} (f e l m lv : Option (Proposal D)) (b : Bool)
    → (option_or f e ≡ None → m ≡ cond b (option_or l lv) l) →
    selection_by (option_or f e) m ≡ cond b (selects (fixes (selection_by f l) e) lv)
    (fixes (selection_by f l) e)
selects_by (Some f) None l m None b h = sym (either_same b _)
selects_by (Some f) None l m (Some q) b h = sym (either_same b _)
selects_by (Some f) (Some p) l m None b h = sym (either_same b _)
selects_by (Some f) (Some p) l m (Some q) b h = sym (either_same b _)
selects_by None (Some p) None m None b h = sym (either_same b _)
selects_by None (Some p) None m (Some q) b h = sym (either_same b _)
selects_by None (Some p) (Some l) m None b h = sym (either_same b _)
selects_by None (Some p) (Some l) m (Some q) b h = sym (either_same b _)
selects_by None None None m None true h = ap (selection_by None) (h refl)
selects_by None None None m (Some q) true h = ap (selection_by None) (h refl)
selects_by None None (Some l) m None true h = ap (selection_by None) (h refl)
selects_by None None (Some l) m (Some q) true h = ap (selection_by None) (h refl)
selects_by None None l m lv false h = ap (selection_by None) (h refl)

-- WAITING
-- what waits once the leader's vote has selected waited before
waited_by : {G D : Type 0} (same : D → D → Bool) (state : ProposalState D)
    (lv : Option (Proposal D)) (v : Vote G D) → is_eligible same (proposal_of (selects state lv)) v
    ≡ true
    → is_eligible same (proposal_of state) v ≡ true
waited_by same Unknown lv v h = refl
waited_by same (LeadersProposal p) None v h = h
waited_by same (LeadersProposal p) (Some q) v h = h
waited_by same (FixedProposal p) None v h = h
waited_by same (FixedProposal p) (Some q) v h = h

-- the votes that wait, by whether the kind is closed and by what is selected
abbrev pub eligible_by : {G D : Type 0} → (D → D → Bool) → Bool → Option (Proposal D)
    → List (Vote G D) → List (Vote G D)
eligible_by same closed selected votes = cond closed [] (filter (is_eligible same selected) votes)

eligible_again : {G D : Type 0} (same : D → D → Bool) (c s : Bool) (state : ProposalState D)
    (lv : Option (Proposal D)) (votes more : List (Vote G D)) → s ≡ false →
    eligible_by same c (proposal_of (selects state lv))
    (eligible_by same (c || s) (proposal_of state) votes ++ more)
    ≡ eligible_by same (c || s) (proposal_of (selects state lv)) (votes ++ more)
eligible_again same true s state lv votes more e = refl
eligible_again same false s state lv votes more e =
    ap (λ b. filter (is_eligible same (proposal_of (selects state lv))) (eligible_by same b (proposal_of state) votes ++ more)) e
    ∙ (filter-append (is_eligible same (proposal_of (selects state lv))) (filter (is_eligible same (proposal_of state)) votes) more
    ∙ (ap (λ vs. vs ++ filter (is_eligible same (proposal_of (selects state lv))) more)
    (filter_again (is_eligible same (proposal_of (selects state lv))) (is_eligible same (proposal_of state)) votes (waited_by same state lv))
    ∙ (sym (filter-append (is_eligible same (proposal_of (selects state lv))) votes more)
    ∙ ap (λ b. eligible_by same b (proposal_of (selects state lv)) (votes ++ more)) (sym e))))

released_closed : (mode : Mode) (certified : Bool) → is_released_in mode certified ≡ true
    → (certified || is_skipped mode) ≡ true
released_closed Retaining certified h = absurd (cc)
released_closed Releasing certified h = ap (λ c. c || false) h
released_closed Skipped true h = refl
released_closed Skipped false h = refl

leaders_vote_is : {G D : Type 0} (same : D → D → Bool) (held : VerifierState G D) (vote : Vote G D)
    → leaders_vote same held vote ≡ leaders_vote_by held.leader vote
leaders_vote_is same held (NotarizeVote vote) = refl
leaders_vote_is same held (NullifyVote vote) = refl
leaders_vote_is same held (FinalizeVote vote) = refl

-- WHAT THE HISTORY NAMES
module _ {D K G C : Type 0} (x : Config D K G C) (past : History D K G C) where
  -- where votes of a kind aren't released the mode isn't skipped
  unreleased_by_new : (kind : Kind) → is_released x past kind ≡ false → is_skipped x.mode ≡ false
  unreleased_by_new kind unreleased =
      false_from_ne_true _ (λ skips. let no : false ≡ true = sym unreleased ∙ always_released x.mode (is_certified past kind) skips in cc)

  module _ (event : Event D K G C) where
    -- whether votes of the kind no longer wait
    abbrev pub is_closed : Kind → Bool
    is_closed kind = is_certified (event ∷ past) kind || is_skipped x.mode

    -- what is selected once the evidence of the call is taken in
    abbrev pub state_fixed : ProposalState D
    state_fixed = fixes (selection x past) (fixing_evidence event)

    -- What is buffered once the evidence of the call is taken in, and before its vote: of these
    -- votes those that still wait.
    pub record WaitsFixed (fixed : VerifierState G D) (pending verified : Kind → List (Vote G D)) : Type
        0 where
      pub leader_is : fixed.leader ≡ leader_of past
      pub selection_is : fixed.selection ≡ state_fixed
      pub certified_is : (kind : Kind) → of_kind fixed.certified kind ≡ is_certified past kind
      pub pending_are : (kind : Kind) → of_kind fixed.pending kind
          ≡ eligible_by x.same_digest (is_closed kind) (proposal_of state_fixed) (pending kind)
      pub verified_are : (kind : Kind) → of_kind fixed.verified kind
          ≡ eligible_by x.same_digest (is_closed kind) (proposal_of state_fixed) (verified kind)

    -- the pending votes with those that are restored
    abbrev pub with_restored : RoundState G D → Kind → List (Vote G D)
    with_restored old kind = of_kind old.buffered.pending kind ++ filter (is_restored x past event) (of_kind old.tracked.kept kind)

    none_restored : (old : RoundState G D) → fixing_evidence event ≡ None → (kind : Kind)
        → with_restored old kind ≡ of_kind old.buffered.pending kind
    none_restored old unfixing kind =
        ap (λ vs. of_kind old.buffered.pending kind ++ vs)
        (filter_none (is_restored x past event) (of_kind old.tracked.kept kind) (none_back x past event unfixing))
        ∙ append-nil (of_kind old.buffered.pending kind)

    unfixed_eligible : (kind : Kind) (votes : List (Vote G D)) → certificate_of event ≡ None
        → fixing_evidence event ≡ None → eligible_among x past kind votes ≡ votes →
        eligible_by x.same_digest (is_closed kind) (proposal_of state_fixed) votes ≡ votes
    unfixed_eligible kind votes uncertified unfixing waiting =
        ap (λ c. eligible_by x.same_digest (c || is_skipped x.mode) (proposal_of state_fixed) votes) (certified_same x past event uncertified kind)
        ∙ (ap (λ e. eligible_by x.same_digest (is_certified past kind || is_skipped x.mode) (proposal_of (fixes (selection x past) e)) votes) unfixing
        ∙ waiting)

    -- With no evidence what is buffered stays.
    pub eligible_unfixed : (old : RoundState G D) (fixed : VerifierState G D)
        → Represents x past old
        → certificate_of event ≡ None → fixing_evidence event ≡ None → fixed ≡ old.buffered →
        WaitsFixed fixed (with_restored old) (of_kind old.buffered.verified)
    eligible_unfixed old fixed represents uncertified unfixing same =
        record {
          leader_is = ap (λ b. b.leader) same ∙ represents.leader_is;
          selection_is = ap (λ b. b.selection) same ∙ (represents.selection_is ∙ ap (fixes (selection x past)) (sym unfixing));
          certified_is = λ kind. ap (λ b. of_kind b.certified kind) same ∙ (represents.each_kind kind).certified_is;
          pending_are = λ kind.
              ap (λ b. of_kind b.pending kind) same
              ∙ sym (ap (eligible_by x.same_digest (is_closed kind) (proposal_of state_fixed)) (none_restored old unfixing kind)
              ∙ unfixed_eligible kind (of_kind old.buffered.pending kind) uncertified unfixing (pending_wait x past old kind represents));
          verified_are = λ kind.
              ap (λ b. of_kind b.verified kind) same
              ∙ sym (unfixed_eligible kind (of_kind old.buffered.verified kind) uncertified unfixing (verified_wait x past old kind represents));
        }

    -- A CALL THAT MAY CAST ONE VOTE
    module _ (vote : Vote G D) (named : Bool) where
      -- the call casts the vote where it is named, and no other
      abbrev CastsOne : Type 0
      CastsOne = Casts x past event vote named

      -- whether the vote is a first one
      abbrev is_first : Bool
      is_first = is_new x past event vote named

      -- THE SELECTION
      leaders_with : (leader : Option Participant) (w : Vote G D)
          → first_vote x past (kind_of w) (signer_of w) ≡ None →
          option_and_then (λ v. proposal_in (subject_of v))
          (option_and_then (λ i. cond (is_vote_of Notarization i.0 w) (Some w)
          (first_vote x past Notarization i.0)) leader)
          ≡ option_or (option_and_then (λ v. proposal_in (subject_of v))
          (option_and_then (λ i. first_vote x past Notarization i.0) leader))
          (leaders_vote_by leader w)
      leaders_with None (NotarizeVote v) free = refl
      leaders_with None (NullifyVote v) free = refl
      leaders_with None (FinalizeVote v) free = refl
      leaders_with (Some i) (NullifyVote v) free = sym (or_nothing _)
      leaders_with (Some i) (FinalizeVote v) free = sym (or_nothing _)
      leaders_with (Some i) (NotarizeVote v) free =
          ⊎_elim
          (λ here.
          let it : v.attestation.signer.0 ≡ i.0 = eqb-true _ _ here in
          let none : first_vote x past Notarization i.0 ≡ None = ap (first_vote x past Notarization) (sym it) ∙ free in
          ap (λ b. option_and_then (λ u. proposal_in (subject_of u)) (cond b (Some (NotarizeVote v)) (first_vote x past Notarization i.0))) here
          ∙ (ap (λ b. cond b (Some v.proposal) None) (sym (eq-eqb i.0 v.attestation.signer.0 (sym it)))
          ∙ ap (λ o. option_or (option_and_then (λ u. proposal_in (subject_of u)) o) (cond (eqb i.0 v.attestation.signer.0) (Some v.proposal) None))
          (sym none)))
          (λ other.
          ap (λ b. option_and_then (λ u. proposal_in (subject_of u)) (cond b (Some (NotarizeVote v)) (first_vote x past Notarization i.0))) other
          ∙ (sym (or_nothing (option_and_then (λ u. proposal_in (subject_of u)) (first_vote x past Notarization i.0)))
          ∙ ap (λ b. option_or (option_and_then (λ u. proposal_in (subject_of u)) (first_vote x past Notarization i.0)) (cond b (Some v.proposal) None))
          (sym (ne_eqb i.0 v.attestation.signer.0 (λ e. eqb-false v.attestation.signer.0 i.0 other (sym e))))))
          (cases_Bool (eqb v.attestation.signer.0 i.0))

      leaders_by : Option Participant → List (Vote G D) → Option (Proposal D)
      leaders_by leader votes = option_and_then (λ v. proposal_in (subject_of v)) (option_and_then (λ i. find (is_vote_of Notarization i.0) votes) leader)

      -- the leader's proposal: that of a new vote, where it is the leader's first notarize
      leaders_go : CastsOne → leader_named event.0 ≡ None → is_skipped x.mode ≡ false → is_first
          ≡ true →
          leaders_proposal x (event ∷ past)
          ≡ option_or (leaders_proposal x past) (leaders_vote_by (leader_of past) vote)
      unfolding leaders_by
      leaders_go casts unnamed by_new new =
          ap (λ s. cond s None (leaders_by (leader_of (event ∷ past)) (first_votes x (event ∷ past)))) by_new
          ∙ (ap (λ l. leaders_by l (first_votes x (event ∷ past))) (leader_same x past event unnamed)
          ∙ (ap (leaders_by (leader_of past)) (firsts_are x past event vote named casts ∙ ap (λ b. cond b (vote ∷ []) [] ++ first_votes x past) new)
          ∙ (leaders_with (leader_of past) vote (free_is_new (first_votes x past) vote (and_parts _ _ new).1)
          ∙ ap (λ s. option_or (cond s None (leaders_by (leader_of past) (first_votes x past))) (leaders_vote_by (leader_of past) vote)) (sym by_new))))

      leaders_stay : CastsOne → leader_named event.0 ≡ None → is_first ≡ false
          → leaders_proposal x (event ∷ past) ≡ leaders_proposal x past
      leaders_stay casts unnamed old =
          leaders_same x past event (firsts_are x past event vote named casts ∙ ap (λ b. cond b (vote ∷ []) [] ++ first_votes x past) old)
          (leader_same x past event unnamed)

      -- Until a proposal is fixed, votes of a released kind carry none, or the mode is skipped.
      unfixed_leaders : CastsOne → leader_named event.0 ≡ None → fixed_proposal past ≡ None →
          leaders_proposal x (event ∷ past)
          ≡ cond (is_first && not (is_released x past (kind_of vote)))
          (option_or (leaders_proposal x past) (leaders_vote_by (leader_of past) vote))
          (leaders_proposal x past)
      unfixed_leaders casts unnamed unfixed =
          ⊎_elim
          (λ skips.
          ap (λ s. cond s None (option_and_then (λ v. proposal_in (subject_of v))
          (option_and_then (λ i. first_vote x (event ∷ past) Notarization i.0) (leader_of (event ∷ past))))) skips
          ∙ (ap (λ s. cond s None (option_and_then (λ v. proposal_in (subject_of v))
          (option_and_then (λ i. first_vote x past Notarization i.0) (leader_of past)))) (sym skips)
          ∙ (sym (never_chosen is_first (option_or (leaders_proposal x past) (leaders_vote_by (leader_of past) vote)) (leaders_proposal x past))
          ∙ ap (λ r. cond (is_first && not r) (option_or (leaders_proposal x past) (leaders_vote_by (leader_of past) vote)) (leaders_proposal x past))
          (sym (always_released x.mode (is_certified past (kind_of vote)) skips)))))
          (λ by_new.
          ⊎_elim
          (λ new.
          leaders_go casts unnamed by_new new
          ∙ (⊎_elim
          (λ released.
          let carries_none : has_proposals (kind_of vote)
          ≡ false = false_from_ne_true _ (λ has. let no : true ≡ false = sym released
          ∙ released_where x.mode (is_certified past (kind_of vote)) by_new (certified_fixes x past (kind_of vote) unfixed has) in cc) in
          ap (option_or (leaders_proposal x past)) (no_leaders_vote (leader_of past) vote carries_none)
          ∙ (or_nothing (leaders_proposal x past)
          ∙ (sym (never_chosen is_first (option_or (leaders_proposal x past) (leaders_vote_by (leader_of past) vote)) (leaders_proposal x past))
          ∙ ap (λ r. cond (is_first && not r) (option_or (leaders_proposal x past) (leaders_vote_by (leader_of past) vote)) (leaders_proposal x past))
          (sym released))))
          (λ unreleased.
          ap (λ r. cond (true && not r) (option_or (leaders_proposal x past) (leaders_vote_by (leader_of past) vote)) (leaders_proposal x past))
          (sym unreleased)
          ∙ ap (λ n. cond (n && not (is_released x past (kind_of vote))) (option_or (leaders_proposal x past) (leaders_vote_by (leader_of past) vote))
          (leaders_proposal x past)) (sym new))
          (cases_Bool (is_released x past (kind_of vote)))))
          (λ old.
          leaders_stay casts unnamed old
          ∙ ap (λ n. cond (n && not (is_released x past (kind_of vote))) (option_or (leaders_proposal x past) (leaders_vote_by (leader_of past) vote))
          (leaders_proposal x past)) (sym old))
          (cases_Bool is_first))
          (cases_Bool (is_skipped x.mode))

      -- whether the vote is added, and kept in full
      abbrev pub is_kept_new : Bool
      is_kept_new = is_first && not (is_released x past (kind_of vote))

      -- What is selected after the call: by its evidence, and by a vote of the leader that is kept
      -- in full.
      pub selection_taken : CastsOne → leader_named event.0 ≡ None →
          selection x (event ∷ past)
          ≡ cond is_kept_new (selects state_fixed (leaders_vote_by (leader_of past) vote))
          state_fixed
      selection_taken casts unnamed =
          selects_by (fixed_proposal past) (fixing_evidence event) (leaders_proposal x past) (leaders_proposal x (event ∷ past))
          (leaders_vote_by (leader_of past) vote) is_kept_new
          (λ none. unfixed_leaders casts unnamed (or_none (fixed_proposal past) (fixing_evidence event) none).0)

      -- a vote of a released kind selects nothing
      pub released_selects : CastsOne → leader_named event.0 ≡ None
          → is_released x past (kind_of vote) ≡ true →
          proposal_of state_fixed ≡ selected_proposal x (event ∷ past)
      released_selects casts unnamed released =
          sym (ap proposal_of (selection_taken casts unnamed
          ∙ (ap (λ r. cond (is_first && not r) (selects state_fixed (leaders_vote_by (leader_of past) vote)) state_fixed) released
          ∙ never_chosen is_first (selects state_fixed (leaders_vote_by (leader_of past) vote)) state_fixed)))

      -- What is buffered after the call.
      pub record WaitsAfter (new : VerifierState G D) (is_verified : Bool)
          (pending verified : Kind → List (Vote G D)) : Type 0 where
        pub leader_is : new.leader ≡ leader_of past
        pub selection_is : new.selection ≡ selection x (event ∷ past)
        pub certified_is : (kind : Kind) → of_kind new.certified kind
            ≡ is_certified (event ∷ past) kind
        pub pending_are : (kind : Kind) → of_kind new.pending kind
            ≡ eligible_among x (event ∷ past) kind
            (pending kind ++ cond (is_of_kind kind vote && (is_first && not is_verified))
            (vote ∷ []) [])
        pub verified_are : (kind : Kind) → of_kind new.verified kind
            ≡ eligible_among x (event ∷ past) kind
            (verified kind ++ cond (is_of_kind kind vote && (is_first && is_verified)) (vote ∷ [])
            [])

      -- a buffer to which a vote is added that is kept in full
      buffer_joined : (kind : Kind) (to : Bool) (votes held : List (Vote G D)) → is_kept_new ≡ true
          → selection x (event ∷ past) ≡ selects state_fixed (leaders_vote_by (leader_of past) vote)
          →
          held ≡ eligible_by x.same_digest (is_closed kind) (proposal_of state_fixed) votes →
          eligible_by x.same_digest (is_certified (event ∷ past) kind)
          (selected_proposal x (event ∷ past))
          (held ++ cond (is_of_kind kind vote && to) (vote ∷ []) [])
          ≡ eligible_among x (event ∷ past) kind
          (votes ++ cond (is_of_kind kind vote && (is_first && to)) (vote ∷ []) [])
      buffer_joined kind to votes held kept selected eligible_so =
          let both = and_parts is_first (not (is_released x past (kind_of vote))) kept in
          ap (λ s. eligible_by x.same_digest (is_certified (event ∷ past) kind) (proposal_of s) (held ++ cond (is_of_kind kind vote && to) (vote ∷ []) []))
          selected
          ∙ (ap (λ vs. eligible_by x.same_digest (is_certified (event ∷ past) kind) (proposal_of (selects state_fixed (leaders_vote_by (leader_of past) vote)))
          (vs ++ cond (is_of_kind kind vote && to) (vote ∷ []) [])) eligible_so
          ∙ (eligible_again x.same_digest (is_certified (event ∷ past) kind) (is_skipped x.mode) state_fixed (leaders_vote_by (leader_of past) vote) votes
          (cond (is_of_kind kind vote && to) (vote ∷ []) [])
          (unreleased_by_new (kind_of vote) (not-true (is_released x past (kind_of vote)) both.1))
          ∙ (ap (λ s. eligible_by x.same_digest (is_closed kind) (proposal_of s) (votes ++ cond (is_of_kind kind vote && to) (vote ∷ []) [])) (sym selected)
          ∙ ap (λ n. eligible_by x.same_digest (is_closed kind) (selected_proposal x (event ∷ past))
          (votes ++ cond (is_of_kind kind vote && (n && to)) (vote ∷ []) [])) (sym both.0))))

      -- a buffer to which none is added
      buffer_left : (kind : Kind) (to : Bool) (votes held : List (Vote G D)) → certificate_of event
          ≡ None → is_kept_new ≡ false → selection x (event ∷ past) ≡ state_fixed →
          held ≡ eligible_by x.same_digest (is_closed kind) (proposal_of state_fixed) votes →
          held ≡ eligible_among x (event ∷ past) kind
          (votes ++ cond (is_of_kind kind vote && (is_first && to)) (vote ∷ []) [])
      buffer_left kind to votes held none unkept selected eligible_so =
          eligible_so
          ∙ ⊎_elim
          (λ closed.
          ap (λ c. eligible_by x.same_digest c (proposal_of state_fixed) votes) closed
          ∙ ap (λ c. eligible_by x.same_digest c (selected_proposal x (event ∷ past)) (votes ++ cond (is_of_kind kind vote && (is_first && to)) (vote ∷ []) []))
          (sym closed))
          (λ still.
          let unreleased : is_of_kind kind vote ≡ true → is_released x past (kind_of vote) ≡ false
          = λ of. ap (is_released x past) (is_kind-true _ _ of) ∙ false_from_ne_true _ (λ released.
          let no : false ≡ true = sym still ∙ (ap (λ c. c || is_skipped x.mode) (certified_same x past event none kind)
          ∙ released_closed x.mode (is_certified past kind) released) in cc) in
          ap (λ vs. eligible_by x.same_digest (is_closed kind) (proposal_of state_fixed) vs) (sym (append-nil votes))
          ∙ (ap (λ b. eligible_by x.same_digest (is_closed kind) (proposal_of state_fixed) (votes ++ cond b (vote ∷ []) []))
          (sym (dropped_table (is_of_kind kind vote) is_first (is_released x past (kind_of vote)) to unkept unreleased))
          ∙ ap (λ s. eligible_by x.same_digest (is_closed kind) (proposal_of s) (votes ++ cond (is_of_kind kind vote && (is_first && to)) (vote ∷ []) []))
          (sym selected)))
          (cases_Bool (is_closed kind))

      -- The vote is added to what is buffered where it is new and its kind isn't released.
      pub eligible_after : (fixed new : VerifierState G D) (is_verified kept : Bool)
          (pending verified : Kind → List (Vote G D)) →
          CastsOne → leader_named event.0 ≡ None → certificate_of event ≡ None → kept ≡ is_kept_new
          →
          WaitsFixed fixed pending verified
          → MatchBool kept (AddsVote x.same_digest fixed vote is_verified new) (new ≡ fixed)
          → WaitsAfter new is_verified pending verified
      eligible_after fixed new is_verified true pending verified casts unnamed none kept eligible_so adds =
          let selected : selection x (event ∷ past) ≡ selects state_fixed (leaders_vote_by (leader_of past) vote)
          = selection_taken casts unnamed ∙ ap (λ b. cond b (selects state_fixed (leaders_vote_by (leader_of past) vote)) state_fixed) (sym kept) in
          let selection_goes : new.selection ≡ selection x (event ∷ past)
          = adds.selection
          ∙ (ap (λ s. selects s (leaders_vote x.same_digest fixed vote)) eligible_so.selection_is
          ∙ (ap (selects state_fixed) (leaders_vote_is x.same_digest fixed vote ∙ ap (λ l. leaders_vote_by l vote) eligible_so.leader_is) ∙ sym selected)) in
          let certified_goes : (kind : Kind) → of_kind new.certified kind ≡ is_certified (event ∷ past) kind
          = λ kind. (adds.buffers kind).certified ∙ (eligible_so.certified_is kind ∙ sym (certified_same x past event none kind)) in
          record {
            leader_is = adds.leader ∙ eligible_so.leader_is;
            selection_is = selection_goes;
            certified_is = certified_goes;
            pending_are = λ kind.
                (adds.buffers kind).pending
                ∙ (ap (λ c. eligible_by x.same_digest c (proposal_of new.selection)
                (of_kind fixed.pending kind ++ cond (is_of_kind kind vote && not is_verified) (vote ∷ []) [])) (certified_goes kind)
                ∙ (ap (λ s. eligible_by x.same_digest (is_certified (event ∷ past) kind) (proposal_of s)
                (of_kind fixed.pending kind ++ cond (is_of_kind kind vote && not is_verified) (vote ∷ []) [])) selection_goes
                ∙ buffer_joined kind (not is_verified) (pending kind) (of_kind fixed.pending kind) (sym kept) selected (eligible_so.pending_are kind)));
            verified_are = λ kind.
                (adds.buffers kind).verified
                ∙ (ap (λ c. eligible_by x.same_digest c (proposal_of new.selection)
                (of_kind fixed.verified kind ++ cond (is_of_kind kind vote && is_verified) (vote ∷ []) [])) (certified_goes kind)
                ∙ (ap (λ s. eligible_by x.same_digest (is_certified (event ∷ past) kind) (proposal_of s)
                (of_kind fixed.verified kind ++ cond (is_of_kind kind vote && is_verified) (vote ∷ []) [])) selection_goes
                ∙ buffer_joined kind is_verified (verified kind) (of_kind fixed.verified kind) (sym kept) selected (eligible_so.verified_are kind)));
          }
      eligible_after fixed new is_verified false pending verified casts unnamed none kept eligible_so same =
          let selected : selection x (event ∷ past) ≡ state_fixed
          = selection_taken casts unnamed ∙ ap (λ b. cond b (selects state_fixed (leaders_vote_by (leader_of past) vote)) state_fixed) (sym kept) in
          record {
            leader_is = ap (λ b. b.leader) same ∙ eligible_so.leader_is;
            selection_is = ap (λ b. b.selection) same ∙ (eligible_so.selection_is ∙ sym selected);
            certified_is = λ kind. ap (λ b. of_kind b.certified kind) same ∙ (eligible_so.certified_is kind ∙ sym (certified_same x past event none kind));
            pending_are =
                λ kind. ap (λ b. of_kind b.pending kind) same
                ∙ buffer_left kind (not is_verified) (pending kind) (of_kind fixed.pending kind) none (sym kept) selected (eligible_so.pending_are kind);
            verified_are =
                λ kind. ap (λ b. of_kind b.verified kind) same
                ∙ buffer_left kind is_verified (verified kind) (of_kind fixed.verified kind) none (sym kept) selected (eligible_so.verified_are kind);
          }

      -- What is held of a kind after the call.
      pub moves_kind : (old new : RoundState G D) (selected : Option (Proposal D))
          (is_verified : Bool)
          (pending verified : Kind → List (Vote G D)) → Represents x past old →
          CastsOne → certificate_of event ≡ None
          → (is_released x past (kind_of vote) ≡ true → selected
          ≡ selected_proposal x (event ∷ past)) →
          WaitsAfter new.buffered is_verified pending verified
          → ((kind : Kind) → RecordsKind x.same_digest old.tracked new.tracked selected
          (is_taken x past event vote named) vote kind) → (kind : Kind)
          → MovesKind x past event new kind
      moves_kind old new selected is_verified pending verified represents casts none goes eligible_so records kind =
          let same : is_released x (event ∷ past) kind ≡ is_released x past kind = released_same x past event kind (certified_same x past event none kind) in
          record {
            certified_is = eligible_so.certified_is kind;
            compacted_is = (records kind).compacted ∙ ((represents.each_kind kind).compacted_is ∙ sym same);
            kept_are = kept_taken x past event vote named old new.tracked selected kind represents casts same (records kind);
            facts_are = facts_taken x past event vote named old new.tracked selected kind represents casts same goes (records kind);
          }
