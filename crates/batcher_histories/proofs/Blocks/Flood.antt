-- What a flood of messages can cost: two votes of each participant are added at most, and no more
-- are processed, or batches given.
use Rattle.batcher_histories.proofs.Words.{◌≡◌, ◌≤◌, ◌<◌, ◌+◌, ◌*◌, ◌==◌, ℕ, zero, suc, Bool, true, false, not, cond, ◌&&◌, ◌||◌, nat_lt, List, [], ◌∷◌, length}
use Rattle.batcher_histories.proofs.Words.{Some, None, refl, ap, sym, ◌∙◌, arith, ⊎_elim, is_some, cases_Bool, and_parts, and_from, or_parts, or_cases, or_left}
use Rattle.batcher_histories.proofs.Words.{or_right, false_from_ne_true, true≢false, false≢true, not-true, Vote, NotarizeVote, NullifyVote, FinalizeVote, Kind}
use Rattle.batcher_histories.proofs.Words.{Notarization, Certificate, Batch, Call, NetworkCall, OwnCall, CertificateCall, LeaderCall, ConstructCall}
use Rattle.batcher_histories.proofs.Words.{ForwardCall, MissingCall, Answer, OutOfMemory, NetworkAnswer, OwnAnswer, OwnRefused, CertificateAnswer, LeaderAnswer}
use Rattle.batcher_histories.proofs.Words.{ConstructAnswer, ForwardAnswer, MissingAnswer, Config, participants_in, quorum_in, count, is_some_and, is_kind}
use Rattle.batcher_histories.proofs.Words.{kind_of, signer_of, is_of_kind, is_vote_of, is_eligible, at_most_one, count_mono, count-append, count-false}
use Rattle.batcher_histories.proofs.Words.{count-true, count_same, count_covers, count_split, below_or_at, below_zero, count-filter, is_kind-true, is_kind-refl}
use Rattle.batcher_histories.proofs.Words.{is_skipped, Event, History, batch_given, cast_votes, first_vote, first_votes, is_free, selected_proposal}
use Rattle.batcher_histories.proofs.Words.{is_restored, is_certified, is_trusted, was_eligible, was_invalid, trials, fresh_votes, proven_votes, ready_kind}
use Rattle.batcher_histories.proofs.Words.{tries_kind, MayAnswer, IsPossible, processed_total, batches_given, IsFloodBounded, votes_added}
use Rattle.batcher_histories.proofs.History.Laws.{HasLaws}
use Rattle.batcher_histories.proofs.History.Distinct.{IsAt, firsts_apart, free_is_new, new_votes, option_cases}
use Rattle.batcher_histories.proofs.History.Past.{tried_after, invalid_after, count_fresh, count_proven, closed_is_empty}
use Rattle.batcher_histories.proofs.History.Selection.{waited_before}
use Rattle.batcher_histories.proofs.History.Attempts.{MadeBatch, batch_made, ready_is, back_not_tried, quorum_positive}
use Rattle.batcher_histories.proofs.Simulation.Buffers.{new_not_tried, open_before, tried_of}
use Rattle.batcher_histories.proofs.Quorums.Buffers.{holds_before}
use Rattle.batcher_histories.proofs.Quorums.Left.{tried_proven}
use Rattle.batcher_histories.proofs.Quorums.Done.{done_if, ready_not_done}
use Rattle.batcher_histories.proofs.Headline.Work.{counts_within, count_weaker, count_implied, is_worked, processed_within}
use Rattle.batcher_histories.proofs.Certificates.Backing.{firsts_take_part}
use Rattle.batcher_histories.proofs.Certificates.Agree.{is_either, one_at, either_once}
use Rattle.batcher_histories.proofs.AnswerFacts.Told.{added_are}
use Rattle.batcher_histories.proofs.Blocks.Constructions.{constructions_few}

-- NO MORE THAN TWO OF EACH
-- numbers below n, each of which comes twice at most
few_twice :
    {X : Type 0} (number : X → ℕ) (n : ℕ) (xs : List X)
    → ((i : ℕ) → count (λ v. number v == i) xs ≤ 2)
    → count (λ v. nat_lt (number v) n) xs ≤ 2 * n
few_twice number zero xs twice =
    omega (arith, count_same (λ v. nat_lt (number v) 0) (λ _. false) xs (λ v. below_zero (number v)), count-false xs)
few_twice number (suc n) xs twice =
    omega (
      arith,
      few_twice number n xs twice,
      twice n,
      count_covers (λ v. nat_lt (number v) (suc n)) (λ v. nat_lt (number v) n) (λ v. number v == n) xs
          (λ v. below_or_at (number v) n),
    )

module _ {D K G C : Type 0} (x : Config D K G C) (laws : HasLaws x) where
  -- Of each signer a notarize is among the first votes at most, and a nullify or a finalize.
  two_at : (past : History D K G C) (i : ℕ) → count (λ v. signer_of v == i) (first_votes x past) ≤ 2
  two_at past i =
      omega (
        arith,
        one_at x laws past Notarization i,
        at_most_one (is_some (first_vote x past Notarization i)),
        either_once x laws past i,
        count-filter (λ v. signer_of v == i) (is_either x laws) (first_votes x past),
        count_covers (λ v. signer_of v == i) (is_vote_of Notarization i)
            (λ v. is_either x laws v && (signer_of v == i)) (first_votes x past) covered,
      )
    where
      covered :
          (v : Vote G D)
          → cond (signer_of v == i) 1 0
          ≤ cond (is_vote_of Notarization i v) 1 0
          + cond (is_either x laws v && (signer_of v == i)) 1 0
      covered (NotarizeVote v) = omega arith
      covered (NullifyVote v) = omega arith
      covered (FinalizeVote v) = omega arith

  few_first :
      (past : History D K G C) → IsPossible x past
      → length (first_votes x past) ≤ 2 * participants_in x
  few_first past possible =
      omega (
        arith,
        count_split (λ v. nat_lt (signer_of v) (participants_in x)) (first_votes x past),
        firsts_take_part x laws past possible,
        few_twice signer_of (participants_in x) (first_votes x past) (two_at past),
      )

  -- WHAT STOOD AT A BATCH
  -- whether the vote is eligible, was so at a batch, and was found invalid by one
  abbrev waited : History D K G C → Vote G D → Bool
  waited past v = is_eligible x.same_digest (selected_proposal x past) v

  abbrev eligible : History D K G C → Vote G D → Bool
  eligible past v = was_eligible (trials x past) v

  abbrev was_bad : History D K G C → Vote G D → Bool
  was_bad past v = was_invalid (trials x past) v

  -- whether it is of the kind, waits, and was eligible at a batch that didn't find it invalid; or at none
  abbrev is_left : History D K G C → Kind → Vote G D → Bool
  is_left past kind v = is_of_kind kind v && (waited past v && (eligible past v && not (was_bad past v)))

  abbrev is_untried : History D K G C → Kind → Vote G D → Bool
  is_untried past kind v = is_of_kind kind v && (waited past v && not (eligible past v))

  -- A batch that leaves its kind open leaves too few proven votes.
  tried_short :
      (past : History D K G C) (call : Call K G C D) (answer : Answer G C D) (kind : Kind)
      → IsPossible x past → MayAnswer x past call answer → tries_kind x past answer kind ≡ true
      → is_certified ((call, answer) ∷ past) kind ≡ false
      → length (proven_votes x ((call, answer) ∷ past) kind) < quorum_in x
  tried_short past ConstructCall (ConstructAnswer (Some batch)) kind possible may tries still =
      tried_proven x laws past (Some batch) may (holds_before x past (Some batch) possible may) kind tries still
  tried_short past (NetworkCall sender vote) (ConstructAnswer (Some batch)) kind possible may tries still = absurd may
  tried_short past (OwnCall vote) (ConstructAnswer (Some batch)) kind possible may tries still = absurd may
  tried_short past (CertificateCall c) (ConstructAnswer (Some batch)) kind possible may tries still = absurd may
  tried_short past (LeaderCall i) (ConstructAnswer (Some batch)) kind possible may tries still = absurd may
  tried_short past (ForwardCall me) (ConstructAnswer (Some batch)) kind possible may tries still = absurd may
  tried_short past (MissingCall p) (ConstructAnswer (Some batch)) kind possible may tries still = absurd may
  tried_short past call (ConstructAnswer None) kind possible may tries still = absurd (false≢true tries)
  tried_short past call (NetworkAnswer a) kind possible may tries still = absurd (false≢true tries)
  tried_short past call (OwnAnswer a b) kind possible may tries still = absurd (false≢true tries)
  tried_short past call (OwnRefused a) kind possible may tries still = absurd (false≢true tries)
  tried_short past call (CertificateAnswer a) kind possible may tries still = absurd (false≢true tries)
  tried_short past call (LeaderAnswer a) kind possible may tries still = absurd (false≢true tries)
  tried_short past call (ForwardAnswer a) kind possible may tries still = absurd (false≢true tries)
  tried_short past call (MissingAnswer a) kind possible may tries still = absurd (false≢true tries)
  tried_short past call OutOfMemory kind possible may tries still = absurd (false≢true tries)

  left_if :
      (k w t s i : Bool)
      → cond (k && (w && (s && not i))) 1 0 ≤ cond (k && (w && (((t || s) && not i) && true))) 1 0
  left_if k w t s i = grind arith

  -- Those that are left are proven.
  left_is_proven :
      (past : History D K G C) (kind : Kind) → (is_certified past kind || is_skipped x.mode) ≡ false
      → count (is_left past kind) (first_votes x past) ≤ length (proven_votes x past kind)
  left_is_proven past kind still =
      omega (
        arith,
        sym (count-true (proven_votes x past kind)),
        count_proven x past kind (λ _. true) still,
        count_mono (is_left past kind) _ (first_votes x past)
            (λ v. left_if (is_of_kind kind v) (waited past v) (is_trusted x past v) (eligible past v) (was_bad past v)),
      )

  -- AT AN EVENT THAT DOESN'T TRY THE KIND
  module _
      (past : History D K G C) (event : Event D K G C) (possible : IsPossible x (event ∷ past))
      (kind : Kind) (untried : tries_kind x past event.1 kind ≡ false) where
    abbrev then : History D K G C
    then = event ∷ past

    -- what was eligible at a batch was so at one before,
    stood_already :
        (v : Vote G D) → is_of_kind kind v ≡ true → eligible then v ≡ true → eligible past v ≡ true
    stood_already v of_kind tried =
        ⊎_elim
        (λ now.
        let its : tries_kind x past event.1 kind ≡ true =
        ap (tries_kind x past event.1) (sym (is_kind-true (kind_of v) kind of_kind)) ∙ (and_parts _ _ now).0 in
        absurd (true≢false (sym its ∙ untried)))
        (λ before. before)
        (or_cases _ (eligible past v) (sym (tried_after x past event v) ∙ tried))

    new_not_left : (v : Vote G D) → (is_free (first_votes x past) v && is_left then kind v) ≡ false
    new_not_left v =
        false_from_ne_true _ (λ both.
        let parts = and_parts (is_free (first_votes x past) v) (is_left then kind v) both in
        let of_kind = and_parts (is_of_kind kind v) (waited then v && (eligible then v && not (was_bad then v))) parts.1 in
        let left = and_parts (waited then v) (eligible then v && not (was_bad then v)) of_kind.1 in
        let tried = and_parts (eligible then v) (not (was_bad then v)) left.1 in
        let new = new_not_tried x past v (free_is_new (first_votes x past) v parts.0) in
        true≢false (sym (stood_already v of_kind.0 tried.0) ∙ new))

    -- no new vote is left,
    none_new : count (is_left then kind) (new_votes x past event) ≡ 0
    none_new =
        count-filter (is_left then kind) (is_free (first_votes x past)) (cast_votes x event.0)
        ∙ (count_same _ (λ _. false) (cast_votes x event.0) new_not_left ∙ count-false (cast_votes x event.0))

    -- and what is left was left before.
    left_already :
        is_certified then kind ≡ false → (v : Vote G D) → IsAt (first_votes x past) v
        → is_left then kind v ≡ true → is_left past kind v ≡ true
    left_already still v found h =
        let of_kind = and_parts (is_of_kind kind v) (waited then v && (eligible then v && not (was_bad then v))) h in
        let left = and_parts (waited then v) (eligible then v && not (was_bad then v)) of_kind.1 in
        let tried = and_parts (eligible then v) (not (was_bad then v)) left.1 in
        let before : eligible past v ≡ true = stood_already v of_kind.0 tried.0 in
        let its : is_certified then (kind_of v) ≡ false = ap (is_certified then) (is_kind-true (kind_of v) kind of_kind.0) ∙ still in
        let stayed : is_restored x past event v ≡ false =
        false_from_ne_true _ (λ back. true≢false (sym before ∙ back_not_tried x laws past event possible.1.1.1 v found back)) in
        let good = or_parts _ (was_bad past v) (sym (invalid_after x past event v) ∙ not-true (was_bad then v) tried.1) in
        and_from _ _ of_kind.0 (and_from _ _ (waited_before x laws past event v its stayed left.0) (and_from _ _ before (ap not good.1)))

  -- Of a kind that is open those that are left are no quorum.
  left_short :
      (past : History D K G C) → IsPossible x past → (kind : Kind)
      → (is_certified past kind || is_skipped x.mode) ≡ false
      → count (is_left past kind) (first_votes x past) < quorum_in x
  left_short [] possible kind still = omega (arith, quorum_positive x laws)
  left_short (event ∷ past) possible kind still =
      ⊎_elim
      (λ tries.
      omega (
        arith,
        left_is_proven (event ∷ past) kind still,
        tried_short past event.0 event.1 kind possible.1.1.1 possible.1.1.0 tries (or_parts _ _ still).0,
      ))
      (λ untried.
      omega (
        arith,
        count-append (is_left (event ∷ past) kind) (new_votes x past event) (first_votes x past),
        none_new past event possible kind untried,
        count_weaker (is_left (event ∷ past) kind) (is_left past kind) (first_votes x past) (firsts_apart x past)
            (left_already past event possible kind untried (or_parts _ _ still).0),
        left_short past possible.1.1.1 kind (open_before x past event kind still),
      ))
      (cases_Bool (tries_kind x past event.1 kind))

  -- EACH BATCH TRIES A VOTE FIRST
  few_not_ready :
      (past : History D K G C) (kind : Kind) → ready_kind x past ≡ Some kind
      → length (proven_votes x past kind) < quorum_in x → length (fresh_votes x past kind) ≤ 0 → ⊥
  few_not_ready past kind ready few none =
      true≢false
      (sym (done_if x past kind (λ _. few) (λ _. none)) ∙ ready_not_done x past kind (ready_is x past kind ready))

  ready_open :
      (past : History D K G C) (kind : Kind) → ready_kind x past ≡ Some kind
      → (is_certified past kind || is_skipped x.mode) ≡ false
  ready_open past kind ready =
      false_from_ne_true _ (λ closed.
      few_not_ready past kind ready
      (omega (arith, quorum_positive x laws, ap length (closed_is_empty x past kind closed).1))
      (omega (arith, ap length (closed_is_empty x past kind closed).0)))

  fresh_untried :
      (k w t s : Bool)
      → cond (k && (w && (not (t || s) && true))) 1 0 ≤ cond (k && (w && not s)) 1 0
  fresh_untried k w t s = grind arith

  proven_cases :
      (k w t s i : Bool)
      → cond (k && (w && (((t || s) && not i) && true))) 1 0
      ≤ cond (k && (w && (s && not i))) 1 0 + cond (k && (w && not s)) 1 0
  proven_cases k w t s i = grind arith

  some_of : (n : ℕ) → (n ≡ 0 → ⊥) → 1 ≤ n
  some_of zero h = absurd (h refl)
  some_of (suc n) h = omega arith

  -- Of a kind that is ready some vote waits that was eligible at none.
  one_untried :
      (past : History D K G C) → IsPossible x past → (kind : Kind) → ready_kind x past ≡ Some kind
      → 1 ≤ count (is_untried past kind) (first_votes x past)
  one_untried past possible kind ready =
      some_of (count (is_untried past kind) (first_votes x past)) (λ none.
      few_not_ready past kind ready
      (omega (
        arith,
        none,
        sym (count-true (proven_votes x past kind)),
        count_proven x past kind (λ _. true) still,
        left_short past possible kind still,
        count_covers _ (is_left past kind) (is_untried past kind) (first_votes x past)
            (λ v. proven_cases (is_of_kind kind v) (waited past v) (is_trusted x past v) (eligible past v) (was_bad past v)),
      ))
      (omega (
        arith,
        none,
        sym (count-true (fresh_votes x past kind)),
        count_fresh x past kind (λ _. true) still,
        count_mono _ (is_untried past kind) (first_votes x past)
            (λ v. fresh_untried (is_of_kind kind v) (waited past v) (is_trusted x past v) (eligible past v)),
      )))
    where
      still : (is_certified past kind || is_skipped x.mode) ≡ false
      still = ready_open past kind ready

  stays_stood :
      (past : History D K G C) (event : Event D K G C) (v : Vote G D)
      → eligible past v ≡ true → eligible (event ∷ past) v ≡ true
  stays_stood past event v tried = tried_after x past event v ∙ or_right _ (eligible past v) tried

  tries_untried :
      (past : History D K G C) (event : Event D K G C) (kind : Kind)
      → tries_kind x past event.1 kind ≡ true
      → (is_certified past kind || is_skipped x.mode) ≡ false
      → (v : Vote G D) → IsAt (first_votes x past) v
      → is_untried past kind v ≡ true → eligible (event ∷ past) v ≡ true
  tries_untried past event kind tries still v found untried =
      let of_kind = and_parts (is_of_kind kind v) (waited past v && not (eligible past v)) untried in
      let waiting = and_parts (waited past v) (not (eligible past v)) of_kind.1 in
      let same : kind ≡ kind_of v = sym (is_kind-true (kind_of v) kind of_kind.0) in
      let its : (is_certified past (kind_of v) || is_skipped x.mode) ≡ false =
      ap (λ k. is_certified past k || is_skipped x.mode) (sym same) ∙ still in
      tried_of x laws past event v found its
      ∙ or_left _ (eligible past v) (and_from _ _ (sym (ap (tries_kind x past event.1) same) ∙ tries) waiting.0)

  one_more :
      (untried before after : Bool) → (untried ≡ true → before ≡ false)
      → (untried ≡ true → after ≡ true) → (before ≡ true → after ≡ true)
      → cond untried 1 0 + cond before 1 0 ≤ cond after 1 0 + 0
  one_more true true after new now stays = absurd (true≢false (new refl))
  one_more true false after new now stays = rw (now refl) (omega arith)
  one_more false true after new now stays = rw (stays refl) (omega arith)
  one_more false false after new now stays = omega arith

  -- So at each batch some vote is eligible that was so at none before.
  more_by_batch :
      (past : History D K G C) (event : Event D K G C) (batch : Batch (Certificate C D))
      → IsPossible x (event ∷ past) → batch_given event.1 ≡ Some batch
      → 1 + count (eligible past) (first_votes x past)
      ≤ count (eligible (event ∷ past)) (first_votes x past)
  more_by_batch past event batch possible given =
      omega (
        arith,
        one_untried past possible.1.1.1 made.kind made.ready,
        count-false (first_votes x past),
        counts_within (is_untried past made.kind) (eligible past) (eligible (event ∷ past)) (λ _. false) (first_votes x past)
            (firsts_apart x past) each,
      )
    where
      made : MadeBatch x past event.0 event.1 batch
      made = batch_made x past event.0 event.1 batch possible.1.1.0 given

      tries : tries_kind x past event.1 made.kind ≡ true
      tries =
          ap (λ o. is_some o && is_some_and (ready_kind x past) (λ k. is_kind k made.kind)) given
          ∙ (ap (λ o. is_some_and o (λ k. is_kind k made.kind)) made.ready ∙ is_kind-refl made.kind)

      untried_new : (v : Vote G D) → is_untried past made.kind v ≡ true → eligible past v ≡ false
      untried_new v untried =
          let of_kind = and_parts (is_of_kind made.kind v) (waited past v && not (eligible past v)) untried in
          not-true (eligible past v) (and_parts (waited past v) (not (eligible past v)) of_kind.1).1

      each :
          (v : Vote G D) → IsAt (first_votes x past) v
          → cond (is_untried past made.kind v) 1 0 + cond (eligible past v) 1 0
          ≤ cond (eligible (event ∷ past) v) 1 0 + cond false 1 0
      each v found =
          one_more (is_untried past made.kind v) (eligible past v) (eligible (event ∷ past) v) (untried_new v)
          (tries_untried past event made.kind tries (ready_open past made.kind made.ready) v found)
          (stays_stood past event v)

  more_stood :
      (past : History D K G C) (event : Event D K G C) → IsPossible x (event ∷ past)
      → cond (is_some (batch_given event.1)) 1 0 + count (eligible past) (first_votes x past)
      ≤ count (eligible (event ∷ past)) (first_votes x past)
  more_stood past event possible =
      ⊎_elim
      (λ none.
      omega (arith, is_none_at (ap is_some none), count_implied (eligible past) (eligible (event ∷ past)) (first_votes x past) (stays_stood past event)))
      (λ (some : (b : Batch (Certificate C D)) × (batch_given event.1 ≡ Some b)).
      omega (arith, at_most_one (is_some (batch_given event.1)), more_by_batch past event some.0 possible some.1))
      (option_cases (batch_given event.1))
    where
      is_none_at : {b : Bool} → b ≡ false → cond b 1 0 ≤ 0
      is_none_at e = rw e (omega arith)

  batches_stood :
      (past : History D K G C) → IsPossible x past
      → batches_given past ≤ count (eligible past) (first_votes x past)
  batches_stood [] possible = omega arith
  batches_stood (event ∷ past) possible =
      omega (
        arith,
        more_stood past event possible,
        batches_stood past possible.1.1.1,
        count-append (eligible (event ∷ past)) (new_votes x past event) (first_votes x past),
      )

  -- ALL OF IT
  -- What a flood can cost is bounded by how many take part.
  pub flood_bounded : (past : History D K G C) → IsPossible x past → IsFloodBounded x past
  flood_bounded past possible =
      record {
        two_each = λ i. omega (arith, ap (count (λ v. signer_of v == i)) added, two_at past i);
        few_added = omega (arith, few, all);
        processed_by_added = omega (arith, processed, all);
        batches_by_added = omega (arith, batches, all);
        few_constructions = λ unless. omega (arith, constructions_few x past possible unless, batches, all);
      }
    where
      added : votes_added past ≡ first_votes x past
      added = added_are x past possible

      all : length (votes_added past) ≡ length (first_votes x past)
      all = ap length added

      few : length (first_votes x past) ≤ 2 * participants_in x
      few = few_first past possible

      processed : processed_total past ≤ length (first_votes x past)
      processed =
          omega (arith, processed_within x past possible, count_split (is_worked x past) (first_votes x past))

      batches : batches_given past ≤ length (first_votes x past)
      batches = omega (arith, batches_stood past possible, count_split (eligible past) (first_votes x past))
