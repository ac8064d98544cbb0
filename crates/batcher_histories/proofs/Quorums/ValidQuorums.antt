-- A valid quorum makes its kind ready: each valid vote that counts is proven or fresh.
use Rattle.batcher_histories.proofs.Words.{◌≡◌, ◌≤◌, ◌+◌, ℕ, Bool, true, false, not, cond, ◌&&◌, ◌||◌, nat_le, nat_lt, List, [], ◌∷◌, length, map, Option, Some}
use Rattle.batcher_histories.proofs.Words.{None, is_none, refl, ap, sym, ◌∙◌, arith, ⊎_elim, subst, filter, cases_Bool, and_parts, and_from, or_cases, or_left}
use Rattle.batcher_histories.proofs.Words.{or_right, and_left, and_right, cond_both, false_from_ne_true, not-true, true≢false, le-leb, leb-false, lt-ltb}
use Rattle.batcher_histories.proofs.Words.{same_Some, Kind, Vote, Proposal, Certificate, Batch, IsPossible, first_vote, first_votes, History, batch_given}
use Rattle.batcher_histories.proofs.Words.{count, is_certified, selected_proposal, Config, quorum_in, counted_votes, fresh_votes, is_among, is_counted}
use Rattle.batcher_histories.proofs.Words.{is_ready_by, is_trusted, is_valid, proven_votes, was_eligible, trials, valid_votes, was_invalid, tries_kind}
use Rattle.batcher_histories.proofs.Words.{is_skipped, has_proposals, is_of_kind, kind_of, signer_of, is_eligible, count-true, count-filter, either_same}
use Rattle.batcher_histories.proofs.Words.{filter_none, is_kind-true}
use Rattle.batcher_histories.proofs.History.Distinct.{AreApart, IsAt, firsts_apart, first_stays, found_behind, found_here, some_of, where_holds}
use Rattle.batcher_histories.proofs.History.Attempts.{found_among, invalid_tried, is_fresh_bad, quorum_positive, tries_by}
use Rattle.batcher_histories.proofs.History.Laws.{HasLaws}
use Rattle.batcher_histories.proofs.History.Past.{count_fresh, count_proven, invalid_after, invalid_in, tried_filled}

-- Of votes apart, no more pass one test than pass two others, where each that passes the one passes
-- one of the two.
count_covered : {G D : Type 0} (p q r : Vote G D → Bool) (vs : List (Vote G D)) → AreApart vs →
    ((v : Vote G D) → IsAt vs v → cond (p v) 1 0 ≤ cond (q v) 1 0 + cond (r v) 1 0) → count p vs
    ≤ count q vs + count r vs
count_covered p q r [] apart within = omega arith
count_covered {G = G} {D = D} p q r (v ∷ vs) apart within =
    let here : cond (p v) 1 0 ≤ cond (q v) 1 0 + cond (r v) 1 0 = within v (found_here v vs) in
    let rest : count p vs ≤ count q vs + count r vs = count_covered p q r vs apart.1 (λ w found. within w (found_behind v vs w apart.0 found)) in
    omega (arith, here, rest)

-- a vote, by whether it is of the kind, counts, waits, attests, is trusted or was tried, and was
-- found invalid
valid_table : (k c w a t i : Bool) → (c ≡ true → w ≡ true) → (i ≡ true → a ≡ false) →
    cond ((k && c) && (a && true)) 1 0
    ≤ cond (k && (w && ((t && not i) && true))) 1 0 + cond (k && (w && (not t && true))) 1 0
valid_table false c w a t i counted bad = omega arith
valid_table true false w a t i counted bad = omega arith
valid_table true true w false t i counted bad = omega arith
valid_table true true false true t i counted bad = absurd (true≢false (sym (counted refl)))
valid_table true true true true t true counted bad = absurd (true≢false (bad refl))
valid_table true true true true true false counted bad = omega arith
valid_table true true true true false false counted bad = omega arith

-- so many proven and fresh votes are enough
enough_of : (batchable : Bool) (q p f : ℕ) → q ≤ p + f
    → (nat_le q p || (nat_lt 0 f && (not batchable || nat_le q (p + f)))) ≡ true
enough_of batchable q p f h =
    ⊎_elim
    (λ full. or_left (nat_le q p) _ full)
    (λ part. rw (part, lt-ltb 0 f (omega (arith, h, leb-false q p part)), le-leb q (p + f) h) (or_right (not batchable) true refl))
    (cases_Bool (nat_le q p))

module _ {D K G C : Type 0} (x : Config D K G C) where
  -- A first vote that was found invalid doesn't attest.
  pub invalid_are_bad : (past : History D K G C) → IsPossible x past → (v : Vote G D)
      → IsAt (first_votes x past) v → was_invalid (trials x past) v ≡ true → is_valid x v ≡ false
  invalid_are_bad [] possible v found h = cc
  invalid_are_bad (event ∷ past) possible v found h =
      ⊎_elim
      (λ now. bad_now (and_parts _ _ now).0 (and_parts _ _ now).1)
      (λ before. invalid_are_bad past possible.1.1.1 v (found_before before) before)
      (or_cases _ _ (sym (invalid_after x past event v) ∙ h))
    where
      found_before : was_invalid (trials x past) v ≡ true → IsAt (first_votes x past) v
      found_before before =
          let w = some_of (first_vote x past (kind_of v) (signer_of v)) (tried_filled x past v (invalid_tried x past possible.1.1.1 v before)) in
          w.1 ∙ ap Some (same_Some w.0 v (sym (first_stays x past event (kind_of v) (signer_of v) w.0 w.1) ∙ found))

      bad_now : tries_kind x past event.1 (kind_of v) ≡ true
          → is_among (signer_of v) (invalid_in x (batch_given event.1)) ≡ true → is_valid x v
          ≡ false
      bad_now tries among =
          let t = tries_by x past event.0 event.1 (kind_of v) possible.1.1.0 tries in
          let named : is_among (signer_of v) (map (λ j. j.0) t.batch.invalid)
          ≡ true = subst (λ (o : Option (Batch (Certificate C D))). is_among (signer_of v) (invalid_in x o) ≡ true) t.given among in
          let bad = found_among x past (kind_of v) (signer_of v) t.after.verified t.after.pending t.batch t.after.attempt t.after.pending_are named in
          let w = where_holds (is_fresh_bad x past) (first_vote x past (kind_of v) (signer_of v)) bad.1 in
          let same : w.0 ≡ v = same_Some w.0 v (sym (first_stays x past event (kind_of v) (signer_of v) w.0 w.1) ∙ found) in
          let unproven = (and_parts (is_eligible x.same_digest (selected_proposal x past) w.0)
          (not (is_trusted x past w.0 || was_eligible (trials x past) w.0) && not (is_valid x w.0)) w.2).1 in
          let not_valid = (and_parts (not (is_trusted x past w.0 || was_eligible (trials x past) w.0)) (not (is_valid x w.0)) unproven).1 in
          ap (is_valid x) (sym same) ∙ not-true (is_valid x w.0) not_valid

  counted_eligible : (selected : Option (Proposal D)) (v : Vote G D) → is_counted x selected v
      ≡ true
      → is_eligible x.same_digest selected v ≡ true
  counted_eligible None v h = refl
  counted_eligible (Some p) v h = h

  -- in a skipped round none counts
  pub skipped_counts : (past : History D K G C) (kind : Kind) → is_skipped x.mode ≡ true
      → valid_votes x past kind ≡ []
  skipped_counts past kind skips = rw skips refl

  pub count_valid : (past : History D K G C) (kind : Kind) → is_skipped x.mode ≡ false →
      length (valid_votes x past kind) ≡ count
      (λ v. (is_of_kind kind v && is_counted x (selected_proposal x past) v)
      && (is_valid x v && true)) (first_votes x past)
  count_valid past kind runs =
      sym (count-true (valid_votes x past kind))
      ∙ (count-filter (λ _. true) (is_valid x) (counted_votes x past kind)
      ∙ (ap (λ (b : Bool). count (λ v. is_valid x v && true)
      (cond b [] (filter (λ v. is_of_kind kind v && is_counted x (selected_proposal x past) v) (first_votes x past)))) runs
      ∙ count-filter (λ v. is_valid x v && true) (λ v. is_of_kind kind v && is_counted x (selected_proposal x past) v) (first_votes x past)))

  -- While a kind is open, its valid votes are proven or fresh.
  valid_stand : (past : History D K G C) (kind : Kind) → IsPossible x past → is_certified past kind
      ≡ false → is_skipped x.mode ≡ false →
      length (valid_votes x past kind) ≤ length (proven_votes x past kind) + length
      (fresh_votes x past kind)
  valid_stand past kind possible uncertified runs =
      sums (count_valid past kind runs)
      (sym (count-true (proven_votes x past kind)) ∙ count_proven x past kind (λ _. true) still)
      (sym (count-true (fresh_votes x past kind)) ∙ count_fresh x past kind (λ _. true) still)
      (count_covered _ _ _ (first_votes x past) (firsts_apart x past) (λ v found.
      valid_table (is_of_kind kind v) (is_counted x (selected_proposal x past) v) (is_eligible x.same_digest (selected_proposal x past) v) (is_valid x v)
      (is_trusted x past v || was_eligible (trials x past) v) (was_invalid (trials x past) v)
      (counted_eligible (selected_proposal x past) v) (invalid_are_bad past possible v found)))
    where
      still : (is_certified past kind || is_skipped x.mode) ≡ false
      still = rw (uncertified, runs) refl

      sums : {a b c d e f : ℕ} → a ≡ d → b ≡ e → c ≡ f → d ≤ e + f → a ≤ b + c
      sums h i j k = omega (arith, h, i, j, k)

  -- with nothing selected no vote with a proposal counts
  unselected_counts : (past : History D K G C) (kind : Kind)
      → (has_proposals kind && is_none (selected_proposal x past)) ≡ true → valid_votes x past kind
      ≡ []
  unselected_counts past kind h =
      ap (λ vs. filter (is_valid x) (cond (is_skipped x.mode) [] vs)) (filter_none _ (first_votes x past) none)
      ∙ ap (filter (is_valid x)) (either_same (is_skipped x.mode) [])
    where
      unselected : (o : Option (Proposal D)) (v : Vote G D) → is_none o ≡ true
          → has_proposals (kind_of v) ≡ true → is_counted x o v ≡ false
      unselected None v none has = rw has refl
      unselected (Some p) v none has = absurd (cc)

      parts : (has_proposals kind ≡ true) × (is_none (selected_proposal x past) ≡ true)
      parts = and_parts (has_proposals kind) (is_none (selected_proposal x past)) h

      none : (v : Vote G D) → (is_of_kind kind v && is_counted x (selected_proposal x past) v)
          ≡ false
      none v =
          ⊎_elim
          (λ is.
          let e : kind_of v ≡ kind = is_kind-true (kind_of v) kind is in
          and_right (is_of_kind kind v) (is_counted x (selected_proposal x past) v)
          (unselected (selected_proposal x past) v parts.1 (ap has_proposals e ∙ parts.0)))
          (λ other. and_left (is_of_kind kind v) (is_counted x (selected_proposal x past) v) other)
          (cases_Bool (is_of_kind kind v))

  -- An open kind with a valid quorum is ready.
  pub valid_quorum_ready : HasLaws x → (past : History D K G C) (kind : Kind) → IsPossible x past
      → is_certified past kind ≡ false → quorum_in x ≤ length (valid_votes x past kind) →
      is_ready_by x (trials x past) past kind ≡ true
  valid_quorum_ready lawful past kind possible uncertified reached =
      and_from _ _ (ap not uncertified)
      (cond_both (has_proposals kind && is_none (selected_proposal x past)) _ _ (λ b. b ≡ true)
      (λ unselected. absurd (no_quorum (unselected_counts past kind unselected)))
      (λ _. enough_of x.meaning.batchable (quorum_in x) (length (proven_votes x past kind)) (length (fresh_votes x past kind)) (omega (arith, reached, stand))))
    where
      no_quorum : valid_votes x past kind ≡ [] → ⊥
      no_quorum none = omega (arith, reached, quorum_positive x lawful, ap length none)

      runs : is_skipped x.mode ≡ false
      runs = false_from_ne_true _ (λ skips. no_quorum (skipped_counts past kind skips))

      stand : length (valid_votes x past kind)
          ≤ length (proven_votes x past kind) + length (fresh_votes x past kind)
      stand = valid_stand past kind possible uncertified runs
