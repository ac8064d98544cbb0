-- What a construction leaves: no vote is restored, a kind that it doesn't try has no more fresh and
-- proven votes than before, and
-- one that it tries is certified, or has no fresh votes and too few proven ones.
use Rattle.batcher_histories.proofs.Words.{subst, inl, inr, ◌≡◌, ◌≤◌, ◌<◌, ◌+◌, ℕ, Bool, true, false, not, cond, ◌&&◌, ◌||◌, ◌⊎◌, nat_le, List, [], ◌∷◌, ◌++◌}
use Rattle.batcher_histories.proofs.Words.{length, Option, Some, None, is_some, refl, ap, sym, ◌∙◌, arith, ⊎_elim, length-append, filter, option_and_then}
use Rattle.batcher_histories.proofs.Words.{option_or, cond_both, false_from_ne_true, leb-false, true≢false, and-not_self, Kind, Proposal, Vote, Subject}
use Rattle.batcher_histories.proofs.Words.{FinalizeVote, NotarizeVote, NullifyVote, Certificate, Batch, ConstructCall, ConstructAnswer, MayAnswer, of_kind}
use Rattle.batcher_histories.proofs.Words.{RoundState, Event, History, count, is_restored, fixing_evidence, is_certified, selected_proposal, Config, quorum_in}
use Rattle.batcher_histories.proofs.Words.{fresh_votes, is_trusted, is_valid, proven_votes, eligible_votes, was_eligible, trials, eligible_among, was_invalid}
use Rattle.batcher_histories.proofs.Words.{tries_kind, is_skipped, Attempt, AttemptAfter, left_verified, votes_checked, is_of_kind, proposal_in}
use Rattle.batcher_histories.proofs.Words.{subject_certified, subject_of, is_eligible, same_subject-true, same_proposal-true, count-append, count-false}
use Rattle.batcher_histories.proofs.Words.{count-filter_le, count-true, count_same, keeps_all, length_same, count-filter, first_votes}
use Rattle.batcher_histories.proofs.History.Distinct.{option_cases}
use Rattle.batcher_histories.proofs.History.Attempts.{given_certified, witnessed}
use Rattle.batcher_histories.proofs.Simulation.Buffers.{open_trial, pending_follow, verified_follow}
use Rattle.batcher_histories.proofs.Simulation.Evidence.{IsEvidence, none_is_restored}
use Rattle.batcher_histories.proofs.Simulation.Frame.{no_evidence, none_back}
use Rattle.batcher_histories.proofs.Quorums.Buffers.{Holds}
use Rattle.batcher_histories.proofs.History.Laws.{HasLaws}
use Rattle.batcher_histories.proofs.Simulation.Settled.{constructed}
use Rattle.batcher_histories.proofs.Simulation.Staying.{pending_left, verified_left}

at_most : {a b c d : ℕ} → a ≡ b → b ≤ c → c ≡ d → a ≤ d
at_most p q r = omega (arith, p, q, r)

-- those of a list that pass are no more
filter_shorter : {X : Type 0} (p : X → Bool) (xs : List X) → length (filter p xs) ≤ length xs
filter_shorter p xs = omega (arith, count-true xs, count-true (filter p xs), count-filter_le (λ _. true) p xs)

module _ {D K G C : Type 0} (x : Config D K G C) where
  -- WHAT IS RESTORED
  -- no eligible vote fails to wait
  unwaiting_none : (past : History D K G C) (kind : Kind)
      → count (λ v. not (is_eligible x.same_digest (selected_proposal x past) v))
      (eligible_votes x past kind) ≡ 0
  unwaiting_none past kind =
      cond_both (is_certified past kind || is_skipped x.mode) [] (filter w (filter (is_of_kind kind) (first_votes x past)))
      (λ votes. count (λ v. not (w v)) votes ≡ 0)
      (λ _. refl)
      (λ _. count-filter (λ v. not (w v)) w (filter (is_of_kind kind) (first_votes x past))
      ∙ (count_same _ (λ _. false) (filter (is_of_kind kind) (first_votes x past)) (λ v. and-not_self (w v))
      ∙ count-false (filter (is_of_kind kind) (first_votes x past))))
    where
      w : Vote G D → Bool
      w v = is_eligible x.same_digest (selected_proposal x past) v

  -- each vote that an attempt looks at waits
  pub looked_wait : (past : History D K G C) (kind : Kind) (batch : Batch (Certificate C D))
      (after : AttemptAfter x past kind batch) →
      count (λ v. not (is_eligible x.same_digest (selected_proposal x past) v))
      (after.verified ++ votes_checked (quorum_in x) after.verified after.pending) ≡ 0
  looked_wait past kind batch after =
      none_more (count-append t after.verified (votes_checked (quorum_in x) after.verified after.pending))
      (after.verified_are t) (count-filter_le t (λ v. (is_trusted x past v || was_eligible (trials x past) v) && not (was_invalid (trials x past) v))
      (eligible_votes x past kind))
      (cond_both (nat_le (quorum_in x) (length after.verified)) [] after.pending (λ votes. count t votes ≤ count t after.pending) (λ _. omega arith)
      (λ _. omega arith))
      (after.pending_are t) (count-filter_le t (λ v. not (is_trusted x past v || was_eligible (trials x past) v)) (eligible_votes x past kind))
      (unwaiting_none past kind)
    where
      t : Vote G D → Bool
      t v = not (is_eligible x.same_digest (selected_proposal x past) v)

      none_more : {all v c p n f s : ℕ} → all ≡ v + c → v ≡ n → n ≤ s → c ≤ p → p ≡ f → f ≤ s → s
          ≡ 0 → all ≡ 0
      none_more a b d e g h i = omega (arith, a, b, d, e, g, h, i)

  -- what a waiting vote carries is the selected proposal, where one is selected
  pub eligible_evidence : HasLaws x → (past : History D K G C) (v : Vote G D)
      → is_eligible x.same_digest (selected_proposal x past) v ≡ true
      → IsEvidence x past (proposal_in (subject_of v))
  eligible_evidence lawful past v = by_selected (selected_proposal x past) v
    where
      by_selected : (o : Option (Proposal D)) (u : Vote G D) → is_eligible x.same_digest o u
          ≡ true →
          (proposal_in (subject_of u) ≡ None)
          ⊎ ((p : Proposal D) × ((proposal_in (subject_of u) ≡ Some p)
          × ((o ≡ None) ⊎ (o ≡ Some p))))
      by_selected o (NullifyVote u) h = inl refl
      by_selected None (NotarizeVote u) h = inr (u.proposal, (refl, inl refl))
      by_selected None (FinalizeVote u) h = inr (u.proposal, (refl, inl refl))
      by_selected (Some p) (NotarizeVote u) h = inr (u.proposal, (refl, inr (ap Some (same_proposal-true x.same_digest lawful.digests_equal p u.proposal h))))
      by_selected (Some p) (FinalizeVote u) h = inr (u.proposal, (refl, inr (ap Some (same_proposal-true x.same_digest lawful.digests_equal p u.proposal h))))

  -- What a given certificate carries is the selected proposal, where one is selected,
  pub given_evidence : HasLaws x → (past : History D K G C) (kind : Kind)
      (batch : Batch (Certificate C D)) (c : Certificate C D)
      → AttemptAfter x past kind batch → batch.certificate ≡ Some c
      → IsEvidence x past (proposal_in (subject_certified c))
  given_evidence lawful past kind batch c after given =
      let w = witnessed x lawful past kind after.verified after.pending batch c after.attempt after.verified_are after.pending_are given in
      let first_eligible : is_eligible x.same_digest (selected_proposal x past) w.vote ≡ true =
      (keeps_all (is_eligible x.same_digest (selected_proposal x past) w.vote)
      (count (λ u. not (is_eligible x.same_digest (selected_proposal x past) u)) w.rest)
      (sym (ap (count (λ u. not (is_eligible x.same_digest (selected_proposal x past) u))) w.looked_at) ∙ looked_wait past kind batch after)).0 in
      let same : subject_of w.vote ≡ subject_certified c =
      sym (same_subject-true x.same_digest lawful.digests_equal w.subject (subject_of w.vote) w.of_vote)
      ∙ same_subject-true x.same_digest lawful.digests_equal w.subject (subject_certified c) w.of_certificate in
      subst (λ (s : Subject D). IsEvidence x past (proposal_in s)) same (eligible_evidence lawful past w.vote first_eligible)

  -- so it brings no vote back.
  given_back : HasLaws x → (past : History D K G C) (kind : Kind)
      (batch : Batch (Certificate C D)) (c : Certificate C D)
      → AttemptAfter x past kind batch → batch.certificate ≡ Some c
      → (v : Vote G D) → is_restored x past (constructed x past (Some batch)) v ≡ false
  given_back lawful past kind batch c after given v =
      let is : fixing_evidence (constructed x past (Some batch)) ≡ proposal_in (subject_certified c) =
      ap (λ o. option_or None (option_and_then (λ d. proposal_in (subject_certified d)) (option_or None o))) given in
      none_is_restored x lawful past (constructed x past (Some batch)) (proposal_in (subject_certified c)) is
      (given_evidence lawful past kind batch c after given) v

  -- No vote is restored at a construction.
  none_returns : HasLaws x → (past : History D K G C) (answer : Option (Batch (Certificate C D)))
      → MayAnswer x past ConstructCall (ConstructAnswer answer) →
      (v : Vote G D) → is_restored x past (constructed x past answer) v ≡ false
  none_returns lawful past None may v = none_back x past (constructed x past None) refl v
  none_returns lawful past (Some batch) may v =
      ⊎_elim
      (λ none. none_back x past (constructed x past (Some batch)) (no_evidence x past (constructed x past (Some batch)) refl (ap (option_or None) none)) v)
      (λ (some : (c : Certificate C D) × (batch.certificate ≡ Some c)). given_back lawful past may.0 batch some.0 may.1.1 some.1 v)
      (option_cases batch.certificate)

  -- WHAT IS LEFT
  -- Without a certificate the votes that stay verified are no quorum.
  left_short : (verified pending : List (Vote G D)) (batch : Batch (Certificate C D))
      → Attempt x verified pending batch → is_some batch.certificate ≡ false
      → length (left_verified x verified pending) < quorum_in x
  left_short verified pending batch a none =
      ⊎_elim
      (λ given. absurd (true≢false (sym given.certificate ∙ none)))
      (⊎_elim
      (λ fell. leb-false (quorum_in x) (length (left_verified x verified pending)) (sym fell.certificate ∙ none))
      (λ only. omega (
        arith,
        only.unreached,
        length-append verified (filter (is_valid x) (votes_checked (quorum_in x) verified pending)),
        filter_shorter
            (is_valid x) (votes_checked (quorum_in x) verified pending),
      )))
      a.way

  -- no more than those of a list wait
  eligible_fewer : (now : History D K G C) (kind : Kind) (votes : List (Vote G D))
      → length (eligible_among x now kind votes) ≤ length votes
  eligible_fewer now kind votes =
      cond_both (is_certified now kind || is_skipped x.mode) [] (filter (is_eligible x.same_digest (selected_proposal x now)) votes)
      (λ left. length left ≤ length votes)
      (λ _. omega arith) (λ _. filter_shorter (is_eligible x.same_digest (selected_proposal x now)) votes)

module _ {D K G C : Type 0} (x : Config D K G C) (lawful : HasLaws x) (past : History D K G C)
    (answer : Option (Batch (Certificate C D)))
    (may : MayAnswer x past ConstructCall (ConstructAnswer answer)) (holds : Holds x past answer)
  where
    abbrev event : Event D K G C
    event = constructed x past answer

    abbrev then : History D K G C
    then = event ∷ past

    abbrev held : RoundState G D
    held = holds.held

    -- what is fresh and proven then is of what is left in the buffers
    fresh_left : (kind : Kind) (b : Bool) → tries_kind x past event.1 kind ≡ b
        → length (fresh_votes x then kind) ≤ length (cond b [] (of_kind held.buffered.pending kind))
    fresh_left kind b tries =
        at_most
        (sym (length_same _ _ (pending_follow x lawful past held ConstructCall (ConstructAnswer answer) kind holds.represents may))
        ∙ ap length (pending_left x past held answer (none_returns x lawful past answer may) kind))
        (eligible_fewer x then kind (cond (tries_kind x past event.1 kind) [] (of_kind held.buffered.pending kind)))
        (ap (λ t. length (cond t [] (of_kind held.buffered.pending kind))) tries)

    proven_left : (kind : Kind) (b : Bool) → tries_kind x past event.1 kind ≡ b →
        length (proven_votes x then kind)
        ≤ length (cond b (left_verified x (of_kind held.buffered.verified kind)
        (of_kind held.buffered.pending kind)) (of_kind held.buffered.verified kind))
    proven_left kind b tries =
        at_most
        (sym (length_same _ _ (verified_follow x lawful past held ConstructCall (ConstructAnswer answer) kind holds.represents may holds.buffers))
        ∙ ap length (verified_left x past held answer (none_returns x lawful past answer may) kind))
        (eligible_fewer x then kind (cond (tries_kind x past event.1 kind)
        (left_verified x (of_kind held.buffered.verified kind) (of_kind held.buffered.pending kind)) (of_kind held.buffered.verified kind)))
        (ap (λ t. length (cond t (left_verified x (of_kind held.buffered.verified kind) (of_kind held.buffered.pending kind))
        (of_kind held.buffered.verified kind))) tries)

    -- A kind that isn't tried has no more fresh and proven votes than before.
    pub untried_fresh : (kind : Kind) → tries_kind x past event.1 kind ≡ false
        → length (fresh_votes x then kind) ≤ length (fresh_votes x past kind)
    untried_fresh kind none = omega (arith, fresh_left kind false none, length_same _ _ (holds.represents.each_kind kind).pending_are)

    pub untried_proven : (kind : Kind) → tries_kind x past event.1 kind ≡ false
        → length (proven_votes x then kind) ≤ length (proven_votes x past kind)
    untried_proven kind none = omega (arith, proven_left kind false none, length_same _ _ (holds.represents.each_kind kind).verified_are)

    -- One that is tried, and isn't certified then, has no fresh votes and too few proven ones.
    pub tried_fresh : (kind : Kind) → tries_kind x past event.1 kind ≡ true
        → length (fresh_votes x then kind) ≤ 0
    tried_fresh kind tries = fresh_left kind true tries

    pub tried_proven : (kind : Kind) → tries_kind x past event.1 kind ≡ true
        → is_certified then kind
        ≡ false → length (proven_votes x then kind) < quorum_in x
    tried_proven kind tries still =
        let o = open_trial x lawful past held event kind holds.represents may holds.buffers tries still in
        let none : is_some o.batch.certificate ≡ false = false_from_ne_true _ (λ some. true≢false
        (sym (given_certified x lawful past ConstructCall (ConstructAnswer answer) kind (of_kind held.buffered.verified kind)
        (of_kind held.buffered.pending kind)
        o.batch may o.given o.tried (holds.represents.each_kind kind).verified_are (holds.represents.each_kind kind).pending_are some)
        ∙ still)) in
        let short : length (left_verified x (of_kind held.buffered.verified kind) (of_kind held.buffered.pending kind))
        < quorum_in x = left_short x (of_kind held.buffered.verified kind) (of_kind held.buffered.pending kind) o.batch o.tried none in
        omega (arith, proven_left kind true tries, short)
