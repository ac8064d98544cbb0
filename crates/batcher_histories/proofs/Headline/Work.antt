-- No double work: batches process each accepted vote once at most, an own one only after it was
-- restored, and in a skipped round none.
use Rattle.batcher_histories.proofs.Words.{inl, inr, ◌⊎◌, ◌≡◌, ◌≤◌, ◌+◌, ℕ, Bool, true, false, not, cond, ◌&&◌, ◌||◌, List, [], ◌∷◌, length, map, Some, None}
use Rattle.batcher_histories.proofs.Words.{refl, ap, sym, ◌∙◌, arith, ⊎_elim, leb, subst, length-append, filter, is_some, is_none, nat_le, append-nil}
use Rattle.batcher_histories.proofs.Words.{list_any-append, list_any, option_map_or, option_or, cases_Bool, and_parts, and_from, or_cases, cond_both}
use Rattle.batcher_histories.proofs.Words.{false_from_ne_true, true≢false, false≢true, or_left, or_right, or_parts, not-true, and_right, nat_tests, Vote}
use Rattle.batcher_histories.proofs.Words.{NotarizeVote, NullifyVote, FinalizeVote, Proposal, Kind, Notarization, Finalization, Certificate, Batch, Skipped}
use Rattle.batcher_histories.proofs.Words.{Answer, Call, NetworkCall, OwnCall, CertificateCall, LeaderCall, ConstructCall, ForwardCall, MissingCall, Config}
use Rattle.batcher_histories.proofs.Words.{quorum_in, count, is_some_and, has_proposals, is_kind, kind_of, signer_of, is_of_kind, is_vote_of, is_eligible}
use Rattle.batcher_histories.proofs.Words.{count-append, count-false, count-true, count_same, length_same, count-filter, any_filter, is_kind-refl, is_kind-true}
use Rattle.batcher_histories.proofs.Words.{is_skipped, Event, History, batch_given, own_votes, sent_votes, cast_votes, first_vote, first_votes, own_first_votes}
use Rattle.batcher_histories.proofs.Words.{is_free, is_restored, fixed_proposal, fixing_evidence, is_certified, restored_votes, selected_proposal}
use Rattle.batcher_histories.proofs.Words.{votes_restored_by, fresh_votes, holds_vote, is_among, is_ready_by, is_trusted, ready_kind, eligible_votes}
use Rattle.batcher_histories.proofs.Words.{was_eligible, trials, tries_kind, votes_checked, IsPossible, MayAnswer, GivesNone, IsWorkBounded, processed_by}
use Rattle.batcher_histories.proofs.Words.{processed_total, votes_accepted_open}
use Rattle.batcher_histories.proofs.History.Distinct.{AreApart, IsAt, firsts_apart, found_behind, found_here, free_is_new, is_itself, new_votes, option_cases}
use Rattle.batcher_histories.proofs.History.Distinct.{some_of}
use Rattle.batcher_histories.proofs.History.Attempts.{MadeBatch, batch_made, ready_is, quorum_positive}
use Rattle.batcher_histories.proofs.Simulation.Buffers.{is_fresh, new_not_tried, no_batch, no_trial, not_restored}
use Rattle.batcher_histories.proofs.History.Laws.{HasLaws}
use Rattle.batcher_histories.proofs.Memory.Spared.{counted}
use Rattle.batcher_histories.proofs.History.Past.{among_eligible, closed_is_empty, count_fresh, own_stays, restored_after, tried_after}
use Rattle.batcher_histories.proofs.History.Selection.{certified_before, is_restored_by}

-- Counts over votes apart compare as they do at each vote that is found.
pub counts_within : {G D : Type 0} (p q r s : Vote G D → Bool) (vs : List (Vote G D)) → AreApart vs
    →
    ((v : Vote G D) → IsAt vs v → cond (p v) 1 0 + cond (q v) 1 0 ≤ cond (r v) 1 0 + cond (s v) 1 0)
    → count p vs + count q vs ≤ count r vs + count s vs
counts_within p q r s [] apart within = omega arith
counts_within p q r s (v ∷ vs) apart within =
    let here : cond (p v) 1 0 + cond (q v) 1 0 ≤ cond (r v) 1 0 + cond (s v) 1 0 = within v (found_here v vs) in
    let rest : count p vs + count q vs ≤ count r vs + count s vs = counts_within p q r s vs apart.1 (λ w found. within w (found_behind v vs w apart.0 found)) in
    omega (arith, here, rest)

one_within : (a b : Bool) → (a ≡ true → b ≡ true) → cond a 1 0 ≤ cond b 1 0
one_within true true h = omega arith
one_within true false h = absurd (true≢false (sym (h refl)))
one_within false b h = omega arith

-- a test that is weaker at each vote that is found
pub count_weaker : {G D : Type 0} (p q : Vote G D → Bool) (vs : List (Vote G D)) → AreApart vs
    → ((v : Vote G D) → IsAt vs v → p v ≡ true → q v ≡ true) → count p vs ≤ count q vs
count_weaker p q vs apart weaker =
    let none : count (λ _. false) vs ≡ 0 = count-false vs in
    let both : count p vs + count (λ _. false) vs ≤ count q vs + count (λ _. false) vs =
    counts_within p (λ _. false) q (λ _. false) vs apart
    (λ v found. let one : cond (p v) 1 0 ≤ cond (q v) 1 0 = one_within (p v) (q v) (weaker v found) in omega (arith, one)) in
    omega (arith, none, both)

-- and one that is at every element
pub count_implied : {X : Type 0} (p q : X → Bool) (xs : List X)
    → ((v : X) → p v ≡ true → q v ≡ true) → count p xs ≤ count q xs
count_implied p q [] weaker = omega arith
count_implied p q (v ∷ vs) weaker =
    let here : cond (p v) 1 0 ≤ cond (q v) 1 0 = one_within (p v) (q v) (weaker v) in
    let rest : count p vs ≤ count q vs = count_implied p q vs weaker in
    omega (arith, here, rest)

-- What was worked on and what is worked on now, by whether a vote is tried now, was eligible before, is
-- own, was restored, and is so again.
worked_table : (t s o r b : Bool) → cond (s && not (o && not r)) 1 0 + cond
    (t && not ((o && not r) || s)) 1 0 ≤ cond ((t || s) && not (o && not (b || r))) 1 0 + 0
worked_table t s o r b = grind arith

-- What was worked on isn't own, or was restored.
worked_by : (s o r n : Bool) → cond (s && not (o && not r)) 1 0 + 0
    ≤ cond (not o && (s || n)) 1 0 + cond (o && r) 1 0
worked_by s o r n = grind arith

either_within : (a b c : Bool) → (a ≡ true → (b ≡ true) ⊎ (c ≡ true)) → cond a 1 0 + 0
    ≤ cond b 1 0 + cond c 1 0
either_within false b c h = omega arith
either_within true true c h = omega arith
either_within true false true h = omega arith
either_within true false false h = absurd (⊎_elim false≢true false≢true (h refl))

-- without a batch nothing is processed
processed_none : {G C D : Type 0} (answer : Answer G C D) → batch_given answer ≡ None
    → processed_by answer ≡ 0
processed_none {C = C} {D = D} answer none = ap (λ o. option_map_or (λ (b : Batch (Certificate C D)). b.processed) o 0) none

module _ {D K G C : Type 0} (x : Config D K G C) where
  -- WHAT WAS WORKED ON
  -- A vote was worked on if it was eligible before and isn't trusted.
  abbrev pub is_worked : History D K G C → Vote G D → Bool
  is_worked past v = was_eligible (trials x past) v && not (is_trusted x past v)

  -- whether an event tries the vote
  abbrev is_tried : History D K G C → Event D K G C → Vote G D → Bool
  is_tried past event v = tries_kind x past event.1 (kind_of v) && is_among (signer_of v) (map signer_of (eligible_votes x past (kind_of v)))

  -- and is the first to work on it
  abbrev is_worked_at : History D K G C → Event D K G C → Vote G D → Bool
  is_worked_at past event v = is_tried past event v && not (is_trusted x past v || was_eligible (trials x past) v)

  -- A batch works on the fresh votes of its kind,
  fresh_worked : (past : History D K G C) (event : Event D K G C) (batch : Batch (Certificate C D))
      (kind : Kind) → batch_given event.1 ≡ Some batch → ready_kind x past ≡ Some kind →
      (is_certified past kind || is_skipped x.mode) ≡ false → (v : Vote G D)
      → IsAt (first_votes x past) v → is_fresh x past kind (λ _. true) v ≡ true
      → is_worked_at past event v ≡ true
  fresh_worked past event batch kind given ready still v found fresh =
      let parts = and_parts (is_of_kind kind v) _ fresh in
      let more = and_parts (is_eligible x.same_digest (selected_proposal x past) v) _ parts.1 in
      let new = and_parts (not (is_trusted x past v || was_eligible (trials x past) v)) true more.1 in
      let same : kind_of v ≡ kind = is_kind-true (kind_of v) kind parts.0 in
      let tries : tries_kind x past event.1 (kind_of v) ≡ true =
      ap (λ o. is_some o && is_some_and (ready_kind x past) (λ k. is_kind k (kind_of v))) given
      ∙ (ap (λ o. is_some_and o (λ k. is_kind k (kind_of v))) ready ∙ (ap (λ k. is_kind k (kind_of v)) (sym same) ∙ is_kind-refl (kind_of v))) in
      let open_now : (is_certified past (kind_of v) || is_skipped x.mode) ≡ false = ap (λ k. is_certified past k || is_skipped x.mode) same ∙ still in
      let among : is_among (signer_of v) (map signer_of (eligible_votes x past (kind_of v))) ≡ true =
      among_eligible x past (kind_of v) (signer_of v) ∙ and_from _ _ (ap not open_now)
      (ap (λ o. is_some_and o (is_eligible x.same_digest (selected_proposal x past))) found ∙ more.0) in
      and_from (is_tried past event v) _ (and_from _ _ tries among) new.0

  fresh_within : (past : History D K G C) (event : Event D K G C) (batch : Batch (Certificate C D))
      (kind : Kind) → batch_given event.1 ≡ Some batch → ready_kind x past ≡ Some kind →
      length (fresh_votes x past kind) ≤ count (is_worked_at past event) (first_votes x past)
  fresh_within past event batch kind given ready =
      ⊎_elim
      (λ closed. let none : length (fresh_votes x past kind) ≡ 0 = ap length (closed_is_empty x past kind closed).0 in omega (arith, none))
      (λ still.
      let all : count (λ _. true) (fresh_votes x past kind) ≡ length (fresh_votes x past kind) = count-true (fresh_votes x past kind) in
      let counted : count (λ _. true) (fresh_votes x past kind)
      ≡ count (is_fresh x past kind (λ _. true)) (first_votes x past) = count_fresh x past kind (λ _. true) still in
      let within : count (is_fresh x past kind (λ _. true)) (first_votes x past) ≤ count (is_worked_at past event) (first_votes x past) =
      count_weaker _ _ (first_votes x past) (firsts_apart x past) (fresh_worked past event batch kind given ready still) in
      omega (arith, all, counted, within))
      (cases_Bool (is_certified past kind || is_skipped x.mode))

  -- and processes no others.
  processes_fresh : (past : History D K G C) (event : Event D K G C)
      (batch : Batch (Certificate C D)) → batch_given event.1 ≡ Some batch
      → (made : MadeBatch x past event.0 event.1 batch) →
      processed_by event.1 ≤ length (fresh_votes x past made.kind)
  processes_fresh past event batch given made =
      let processed : processed_by event.1 ≡ batch.processed = ap (λ o. option_map_or (λ (b : Batch (Certificate C D)). b.processed) o 0) given in
      let looked : batch.processed ≡ length (votes_checked (quorum_in x) made.after.verified made.after.pending) = made.after.attempt.processed in
      let some : length (votes_checked (quorum_in x) made.after.verified made.after.pending)
      ≤ length made.after.pending = checked_within made.after.verified made.after.pending in
      let fresh : length made.after.pending ≡ length (fresh_votes x past made.kind) = length_same _ _ made.after.pending_are in
      omega (arith, processed, looked, some, fresh)
    where
      checked_within : (verified pending : List (Vote G D))
          → length (votes_checked (quorum_in x) verified pending) ≤ length pending
      checked_within verified pending =
          cond_both (leb (quorum_in x) (length verified)) [] pending (λ (vs : List (Vote G D)). length vs ≤ length pending) (λ _. omega arith)
          (λ _. omega arith)

  processed_at : (past : History D K G C) (event : Event D K G C) → MayAnswer x past event.0 event.1
      → processed_by event.1 ≤ count (is_worked_at past event) (first_votes x past)
  processed_at past event may =
      ⊎_elim
      (λ none. let zero : processed_by event.1 ≡ 0 = processed_none event.1 none in omega (arith, zero))
      (λ (some : (b : Batch (Certificate C D)) × (batch_given event.1 ≡ Some b)).
      let made = batch_made x past event.0 event.1 some.0 may some.1 in
      let few : processed_by event.1 ≤ length (fresh_votes x past made.kind) = processes_fresh past event some.0 some.1 made in
      let fresh : length (fresh_votes x past made.kind)
      ≤ count (is_worked_at past event) (first_votes x past) = fresh_within past event some.0 made.kind some.1 made.ready in
      omega (arith, few, fresh))
      (option_cases (batch_given event.1))

  -- What was worked on stays so, and what an event works on comes to it.
  worked_after : (past : History D K G C) (event : Event D K G C) (v : Vote G D)
      → IsAt (first_votes x past) v →
      cond (is_worked past v) 1 0 + cond (is_worked_at past event v) 1 0
      ≤ cond (is_worked (event ∷ past) v) 1 0 + 0
  worked_after past event v found =
      let now : is_worked (event ∷ past) v ≡ ((is_tried past event v || was_eligible (trials x past) v)
      && not (holds_vote (own_first_votes x past) v && not (is_restored x past event v || holds_vote (restored_votes x past) v))) =
      ap (λ b. b && not (is_trusted x (event ∷ past) v)) (tried_after x past event v)
      ∙ (ap (λ b. (is_tried past event v || was_eligible (trials x past) v) && not (b && not (holds_vote (restored_votes x (event ∷ past)) v)))
      (own_stays x past event v found)
      ∙ ap (λ b. (is_tried past event v || was_eligible (trials x past) v) && not (holds_vote (own_first_votes x past) v && not b))
      (restored_after x past event v found)) in
      subst (λ (b : Bool). cond (is_worked past v) 1 0 + cond (is_worked_at past event v) 1 0 ≤ cond b 1 0 + 0) (sym now)
      (worked_table (is_tried past event v) (was_eligible (trials x past) v) (holds_vote (own_first_votes x past) v) (holds_vote (restored_votes x past) v)
      (is_restored x past event v))

  -- So the batches have processed no more than was worked on.
  pub processed_within : (past : History D K G C) → IsPossible x past → processed_total past
      ≤ count (is_worked past) (first_votes x past)
  processed_within [] possible = omega arith
  processed_within (event ∷ past) possible =
      let before : processed_total past ≤ count (is_worked past) (first_votes x past) = processed_within past possible.1.1.1 in
      let now : processed_by event.1 ≤ count (is_worked_at past event) (first_votes x past) = processed_at past event possible.1.1.0 in
      let grows : count (is_worked past) (first_votes x past) + count (is_worked_at past event) (first_votes x past)
      ≤ count (is_worked (event ∷ past)) (first_votes x past) + count (λ _. false) (first_votes x past) =
      counts_within _ _ _ (λ _. false) (first_votes x past) (firsts_apart x past) (worked_after past event) in
      let none : count (λ _. false) (first_votes x past) ≡ 0 = count-false (first_votes x past) in
      let parts = count-append (is_worked (event ∷ past)) (new_votes x past event) (first_votes x past) in
      omega (arith, before, now, grows, none, parts)

  -- THE VOTES OF OTHERS
  -- A vote of another can be worked on, or was, if it was eligible before or its kind isn't certified.
  abbrev is_workable : History D K G C → Vote G D → Bool
  is_workable past v = not (holds_vote (own_first_votes x past) v) && (was_eligible (trials x past) v || not (is_certified past (kind_of v)))

  -- What is tried is of a kind that isn't certified.
  tried_open : (past : History D K G C) (event : Event D K G C) (v : Vote G D)
      → is_tried past event v ≡ true → is_certified past (kind_of v) ≡ false
  tried_open past event v tried =
      let among : (not (is_certified past (kind_of v) || is_skipped x.mode)
      && is_some_and (first_vote x past (kind_of v) (signer_of v)) (is_eligible x.same_digest (selected_proposal x past))) ≡ true =
      sym (among_eligible x past (kind_of v) (signer_of v)) ∙ (and_parts _ _ tried).1 in
      (or_parts (is_certified past (kind_of v)) (is_skipped x.mode) (not-true _ (and_parts _ _ among).0)).0

  workable_before : (past : History D K G C) (event : Event D K G C) (v : Vote G D)
      → IsAt (first_votes x past) v → is_workable (event ∷ past) v ≡ true → is_workable past v
      ≡ true
  workable_before past event v found workable =
      let parts = and_parts (not (holds_vote (own_first_votes x (event ∷ past)) v)) _ workable in
      and_from _ _ (ap not (sym (own_stays x past event v found)) ∙ parts.0)
      (⊎_elim
      (λ eligible.
      ⊎_elim
      (λ tried. or_right (was_eligible (trials x past) v) _ (ap not (tried_open past event v tried)))
      (λ before. or_left _ (not (is_certified past (kind_of v))) before)
      (or_cases (is_tried past event v) (was_eligible (trials x past) v) (sym (tried_after x past event v) ∙ eligible)))
      (λ still. or_right (was_eligible (trials x past) v) _ (ap not (certified_before past event (kind_of v) (not-true _ still))))
      (or_cases (was_eligible (trials x (event ∷ past)) v) (not (is_certified (event ∷ past) (kind_of v))) parts.1))

  -- whether a vote is accepted while its kind isn't certified
  abbrev is_in_time : History D K G C → Vote G D → Bool
  is_in_time past v = is_free (first_votes x past) v && not (is_certified past (kind_of v))

  -- A new vote that can be worked on is accepted in time,
  new_in_time : (past : History D K G C) (event : Event D K G C) → batch_given event.1 ≡ None
      → (v : Vote G D) → (is_free (first_votes x past) v && is_workable (event ∷ past) v) ≡ true
      → is_in_time past v ≡ true
  new_in_time past event none v both =
      let parts = and_parts (is_free (first_votes x past) v) _ both in
      let untried : was_eligible (trials x (event ∷ past)) v ≡ false = no_trial x past event v none
      ∙ new_not_tried x past v (free_is_new (first_votes x past) v parts.0) in
      and_from _ _ parts.0
      (⊎_elim
      (λ eligible. absurd (false≢true (sym untried ∙ eligible)))
      (λ still. ap not (certified_before past event (kind_of v) (not-true _ still)))
      (or_cases (was_eligible (trials x (event ∷ past)) v) _ (and_parts (not (holds_vote (own_first_votes x (event ∷ past)) v)) _ parts.1).1))

  -- and isn't own.
  new_of_others : (past : History D K G C) (vote : Vote G D) (answer : Answer G C D)
      → (is_free (first_votes x past) vote && is_workable ((OwnCall vote, answer) ∷ past) vote)
      ≡ false
  new_of_others past vote answer =
      false_from_ne_true _ (λ both.
      let parts = and_parts (is_free (first_votes x past) vote) _ both in
      let own : holds_vote (own_first_votes x ((OwnCall vote, answer) ∷ past)) vote ≡ true = rw (parts.0, is_itself vote) refl in
      true≢false (sym own ∙ not-true _ (and_parts _ _ parts.1).0))

  new_workable : (past : History D K G C) (call : Call K G C D) (answer : Answer G C D)
      → MayAnswer x past call answer →
      count (is_workable ((call, answer) ∷ past)) (new_votes x past (call, answer))
      ≤ count (is_in_time past) (sent_votes x call)
  new_workable past (NetworkCall sender vote) answer may =
      let none : batch_given answer ≡ None = no_batch x past (NetworkCall sender vote) answer may (λ e. cc) in
      let new = count-filter (is_workable ((NetworkCall sender vote, answer) ∷ past)) (is_free (first_votes x past)) (cast_votes x (NetworkCall sender vote)) in
      let fewer = count_implied _ (is_in_time past) (cast_votes x (NetworkCall sender vote)) (new_in_time past (NetworkCall sender vote, answer) none) in
      let sent = ap (count (is_in_time past)) (append-nil (sent_votes x (NetworkCall sender vote))) in
      omega (arith, new, fewer, sent)
  new_workable past (OwnCall vote) answer may =
      let new = count-filter (is_workable ((OwnCall vote, answer) ∷ past)) (is_free (first_votes x past)) (vote ∷ []) in
      let zero = ap (λ b. cond b 1 0 + 0) (new_of_others past vote answer) in
      omega (arith, new, zero)
  new_workable past (CertificateCall certificate) answer may = omega arith
  new_workable past (LeaderCall named) answer may = omega arith
  new_workable past ConstructCall answer may = omega arith
  new_workable past (ForwardCall me) answer may = omega arith
  new_workable past (MissingCall p) answer may = omega arith

  -- So no more of others can be or were worked on than were accepted in time.
  workable_within : (past : History D K G C) → IsPossible x past
      → count (is_workable past) (first_votes x past) ≤ length (votes_accepted_open x past)
  workable_within [] possible = omega arith
  workable_within (event ∷ past) possible =
      let before : count (is_workable past) (first_votes x past) ≤ length (votes_accepted_open x past) = workable_within past possible.1.1.1 in
      let stay : count (is_workable (event ∷ past)) (first_votes x past) ≤ count (is_workable past) (first_votes x past) =
      count_weaker _ _ (first_votes x past) (firsts_apart x past) (workable_before past event) in
      let new = new_workable past event.0 event.1 possible.1.1.0 in
      let parts = count-append (is_workable (event ∷ past)) (new_votes x past event) (first_votes x past) in
      let accepted = counted (is_in_time past) (sent_votes x event.0) in
      let lengths = length-append (filter (is_in_time past) (sent_votes x event.0)) (votes_accepted_open x past) in
      omega (arith, before, stay, new, parts, accepted, lengths)

  -- OWN VOTES
  -- A proposal that is fixed stays,
  stays_fixed : (past : History D K G C) (event : Event D K G C) → is_some (fixed_proposal past)
      ≡ true → is_some (fixed_proposal (event ∷ past)) ≡ true
  stays_fixed past event fixed = let some = some_of (fixed_proposal past) fixed in ap (λ o. is_some (option_or o (fixing_evidence event))) some.1

  fixed_by_event : (past : History D K G C) (event : Event D K G C)
      → is_some (fixing_evidence event) ≡ true → is_some (fixed_proposal (event ∷ past)) ≡ true
  fixed_by_event past event fixing =
      ⊎_elim
      (λ none. ap (λ o. is_some (option_or o (fixing_evidence event))) none ∙ fixing)
      (λ (some : (p : Proposal D) × (fixed_proposal past ≡ Some p)). stays_fixed past event (ap is_some some.1))
      (option_cases (fixed_proposal past))

  -- an own finalize fixes one,
  finalize_fixes : (call : Call K G C D) (answer : Answer G C D) (i : ℕ)
      → list_any (is_vote_of Finalization i) (own_votes call) ≡ true
      → is_some (fixing_evidence (call, answer)) ≡ true
  finalize_fixes (NetworkCall sender vote) answer i own = absurd (false≢true own)
  finalize_fixes (OwnCall (NotarizeVote vote)) answer i own = absurd (false≢true own)
  finalize_fixes (OwnCall (NullifyVote vote)) answer i own = absurd (false≢true own)
  finalize_fixes (OwnCall (FinalizeVote vote)) answer i own = refl
  finalize_fixes (CertificateCall certificate) answer i own = absurd (false≢true own)
  finalize_fixes (LeaderCall named) answer i own = absurd (false≢true own)
  finalize_fixes ConstructCall answer i own = absurd (false≢true own)
  finalize_fixes (ForwardCall me) answer i own = absurd (false≢true own)
  finalize_fixes (MissingCall p) answer i own = absurd (false≢true own)

  own_finalize_fixes : (past : History D K G C) (i : ℕ)
      → list_any (is_vote_of Finalization i) (own_first_votes x past) ≡ true
      → is_some (fixed_proposal past) ≡ true
  own_finalize_fixes [] i own = absurd (false≢true own)
  own_finalize_fixes (event ∷ past) i own =
      ⊎_elim
      (λ now. fixed_by_event past event (finalize_fixes event.0 event.1 i
      (any_filter (is_vote_of Finalization i) (is_free (first_votes x past)) (own_votes event.0) now)))
      (λ before. stays_fixed past event (own_finalize_fixes past i before))
      (or_cases _ _ (sym (list_any-append (is_vote_of Finalization i) (filter (is_free (first_votes x past)) (own_votes event.0)) (own_first_votes x past))
      ∙ own))

  -- so that an own vote that is restored is a notarize.
  own_back_notarizes : HasLaws x → (past : History D K G C) (event : Event D K G C) (v : Vote G D)
      → holds_vote (own_first_votes x past) v ≡ true → is_restored x past event v ≡ true
      → is_of_kind Notarization v ≡ true
  own_back_notarizes laws past event (NotarizeVote vote) own back = refl
  own_back_notarizes laws past event (NullifyVote vote) own back = absurd (false≢true (is_restored_by x laws past event (NullifyVote vote) back).is_new)
  own_back_notarizes laws past event (FinalizeVote vote) own back =
      absurd (false≢true (sym (ap is_some (is_restored_by x laws past event (FinalizeVote vote) back).replaced.unfixed)
      ∙ own_finalize_fixes past (signer_of (FinalizeVote vote)) own))

  -- whether a vote is an own one that was restored
  abbrev is_own_restored : History D K G C → Vote G D → Bool
  is_own_restored past v = holds_vote (own_first_votes x past) v && holds_vote (restored_votes x past) v

  -- whether it is an own notarize
  abbrev is_own_notarize : History D K G C → Vote G D → Bool
  is_own_notarize past v = is_of_kind Notarization v && holds_vote (own_first_votes x past) v

  -- What is new wasn't restored.
  new_unrestored : (past : History D K G C) (event : Event D K G C)
      → count (is_own_restored (event ∷ past)) (new_votes x past event) ≡ 0
  new_unrestored past event =
      count-filter (is_own_restored (event ∷ past)) (is_free (first_votes x past)) (cast_votes x event.0)
      ∙ (count_same _ (λ _. false) (cast_votes x event.0) (λ v. false_from_ne_true _ (λ both.
      let parts = and_parts (is_free (first_votes x past) v) _ both in
      true≢false (sym (and_parts _ _ parts.1).1 ∙ not_restored x past event v (free_is_new (first_votes x past) v parts.0))))
      ∙ count-false (cast_votes x event.0))

  -- What is own stays so,
  own_grows : (past : History D K G C) (event : Event D K G C) (v : Vote G D)
      → is_own_notarize past v ≡ true → is_own_notarize (event ∷ past) v ≡ true
  own_grows past event v own =
      let parts = and_parts (is_of_kind Notarization v) _ own in
      and_from _ _ parts.0
      (list_any-append (is_vote_of (kind_of v) (signer_of v)) (filter (is_free (first_votes x past)) (own_votes event.0)) (own_first_votes x past)
      ∙ or_right _ (holds_vote (own_first_votes x past) v) parts.1)

  -- and what is own and restored then was so before, or is restored now.
  own_restored_by : HasLaws x → (past : History D K G C) (event : Event D K G C) (v : Vote G D)
      → IsAt (first_votes x past) v →
      cond (is_own_restored (event ∷ past) v) 1 0 + 0
      ≤ cond (is_restored x past event v && is_own_notarize (event ∷ past) v) 1 0 + cond
      (is_own_restored past v) 1 0
  own_restored_by laws past event v found =
      either_within _ _ _ (λ both.
      let parts = and_parts (holds_vote (own_first_votes x (event ∷ past)) v) _ both in
      let own : holds_vote (own_first_votes x past) v ≡ true = sym (own_stays x past event v found) ∙ parts.0 in
      ⊎_elim
      (λ back. inl (and_from _ _ back (and_from _ _ (own_back_notarizes laws past event v own back) parts.0)))
      (λ before. inr (and_from _ _ own before))
      (or_cases (is_restored x past event v) (holds_vote (restored_votes x past) v) (sym (restored_after x past event v found) ∙ parts.1)))

  -- Own votes that were restored are own notarizes that were.
  restored_within : HasLaws x → (past : History D K G C)
      → count (is_own_restored past) (first_votes x past)
      ≤ count (is_own_notarize past) (restored_votes x past)
  restored_within laws [] = omega arith
  restored_within laws (event ∷ past) =
      let before : count (is_own_restored past) (first_votes x past) ≤ count (is_own_notarize past) (restored_votes x past) = restored_within laws past in
      let stay : count (is_own_notarize past) (restored_votes x past) ≤ count (is_own_notarize (event ∷ past)) (restored_votes x past) =
      count_implied _ _ (restored_votes x past) (own_grows past event) in
      let split : count (is_own_restored (event ∷ past)) (first_votes x past) + count (λ _. false) (first_votes x past)
      ≤ count (λ v. is_restored x past event v && is_own_notarize (event ∷ past) v) (first_votes x past) + count (is_own_restored past)
      (first_votes x past) =
      counts_within _ (λ _. false) _ _ (first_votes x past) (firsts_apart x past) (own_restored_by laws past event) in
      let back = count-filter (is_own_notarize (event ∷ past)) (is_restored x past event) (first_votes x past) in
      let new = new_unrestored past event in
      let firsts = count-append (is_own_restored (event ∷ past)) (new_votes x past event) (first_votes x past) in
      let restored = count-append (is_own_notarize (event ∷ past)) (votes_restored_by x past event) (restored_votes x past) in
      omega (arith, before, stay, split, back, new, firsts, restored)

  -- NO DOUBLE WORK
  -- What was worked on is a vote of another, or was restored.
  worked_cases : (past : History D K G C) (v : Vote G D) → cond (is_worked past v) 1 0 + 0
      ≤ cond (is_workable past v) 1 0 + cond (is_own_restored past v) 1 0
  worked_cases past v =
      worked_by (was_eligible (trials x past) v) (holds_vote (own_first_votes x past) v) (holds_vote (restored_votes x past) v)
      (not (is_certified past (kind_of v)))

  -- and each is processed once at most.
  pub work_bounded : HasLaws x → (past : History D K G C) → IsPossible x past → IsWorkBounded x past
  work_bounded laws past possible =
      let processed : processed_total past ≤ count (is_worked past) (first_votes x past) = processed_within past possible in
      let split : count (is_worked past) (first_votes x past) + count (λ _. false) (first_votes x past)
      ≤ count (is_workable past) (first_votes x past) + count (is_own_restored past) (first_votes x past) =
      counts_within _ (λ _. false) _ _ (first_votes x past) (firsts_apart x past) (λ v found. worked_cases past v) in
      let others : count (is_workable past) (first_votes x past) ≤ length (votes_accepted_open x past) = workable_within past possible in
      let own : count (is_own_restored past) (first_votes x past) ≤ count (is_own_notarize past) (restored_votes x past) = restored_within laws past in
      let lengths = counted (is_own_notarize past) (restored_votes x past) in
      omega (arith, processed, split, others, own, lengths)

  -- In a skipped round no vote waits, so no kind is ready, and there is no batch.
  nothing_is_enough : (carries : Bool) (q : ℕ) (other : Bool) → 1 ≤ q
      → cond carries (nat_le q 0 && true) (nat_le q 0 || (false && other)) ≡ false
  nothing_is_enough true q other some = let none : nat_le q 0 ≡ false = grind (arith, nat_tests) in rw none refl
  nothing_is_enough false q other some = let none : nat_le q 0 ≡ false = grind (arith, nat_tests) in rw none refl

  none_ready : HasLaws x → x.mode ≡ Skipped → (past : History D K G C) (kind : Kind)
      → is_ready_by x (trials x past) past kind ≡ false
  none_ready laws skipped past kind =
      let closed : (is_certified past kind || is_skipped x.mode) ≡ true = or_right (is_certified past kind) (is_skipped x.mode) (ap is_skipped skipped) in
      let none = closed_is_empty x past kind closed in
      rw (none.0, none.1)
      (and_right (not (is_certified past kind)) _
      (nothing_is_enough (has_proposals kind && is_none (selected_proposal x past)) (quorum_in x)
      (not x.meaning.batchable || nat_le (quorum_in x) 0) (quorum_positive x laws)))

  pub skipped_gives_none : HasLaws x → (past : History D K G C) (event : Event D K G C)
      → IsPossible x (event ∷ past) → GivesNone x past event
  skipped_gives_none laws past event possible skipped =
      ⊎_elim
      (λ none. none)
      (λ (some : (b : Batch (Certificate C D)) × (batch_given event.1 ≡ Some b)).
      let made = batch_made x past event.0 event.1 some.0 possible.1.1.0 some.1 in
      absurd (true≢false (sym (ready_is x past made.kind made.ready) ∙ none_ready laws skipped past made.kind)))
      (option_cases (batch_given event.1))
