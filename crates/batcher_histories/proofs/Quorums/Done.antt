-- Kinds that are done: there is nothing to try of them, a construction leaves them done, and the
-- one that it tries is done by it.
use Rattle.batcher_histories.proofs.Words.{◌≡◌, ◌≤◌, ◌<◌, ◌+◌, ℕ, Bool, true, false, not, cond, ◌&&◌, ◌||◌, nat_le, nat_lt, ◌∷◌, length, Some, None, is_none}
use Rattle.batcher_histories.proofs.Words.{refl, ap, sym, ◌∙◌, arith, ⊎_elim, cases_Bool, false_from_ne_true, le-ltb, leb-false, lt-leb, ltb-false, not-true}
use Rattle.batcher_histories.proofs.Words.{or_left, or_parts, true≢false, Kind, Notarization, Nullification, Finalization, Certificate, Batch, ConstructCall}
use Rattle.batcher_histories.proofs.Words.{ConstructAnswer, IsPossible, MayAnswer, have_one_subject, Event, History, is_some_and, is_certified}
use Rattle.batcher_histories.proofs.Words.{selected_proposal, Config, quorum_in, fresh_votes, is_ready_by, proven_votes, ready_kind, trials, tries_kind}
use Rattle.batcher_histories.proofs.Words.{has_proposals, is_kind, is_kind-refl}
use Rattle.batcher_histories.proofs.History.Distinct.{option_cases}
use Rattle.batcher_histories.proofs.History.Attempts.{ready_is, tries_by}
use Rattle.batcher_histories.proofs.Quorums.Buffers.{Holds, holds_before}
use Rattle.batcher_histories.proofs.History.Laws.{HasLaws}
use Rattle.batcher_histories.proofs.Quorums.Left.{tried_fresh, tried_proven, untried_fresh, untried_proven}
use Rattle.batcher_histories.proofs.History.Selection.{certified_before}
use Rattle.batcher_histories.proofs.Simulation.Settled.{constructed}

-- what is enough leaves something to try
done_table : (certified full some one more unselected : Bool) →
    (not certified && cond unselected (full && one) (full || (some && more))) ≡ true
    → (certified || not (full || some)) ≡ false
done_table true full some one more unselected h = absurd (true≢false (sym h))
done_table false true some one more unselected h = refl
done_table false false true one more unselected h = refl
done_table false false false one more true h = absurd (true≢false (sym h))
done_table false false false one more false h = absurd (true≢false (sym h))

-- by how many proven and fresh votes there are
nothing_left : (q p f : ℕ) → p < q → f ≤ 0 → not (nat_le q p || nat_lt 0 f) ≡ true
nothing_left q p f few none = rw (lt-leb q p few, le-ltb 0 f none) refl

left_few : (q p f : ℕ) → not (nat_le q p || nat_lt 0 f) ≡ true → (p < q) × (f ≤ 0)
left_few q p f h =
    let parts = or_parts (nat_le q p) (nat_lt 0 f) (not-true (nat_le q p || nat_lt 0 f) h) in
    (leb-false q p parts.0, ltb-false 0 f parts.1)

-- a test as a number
abbrev one_if : Bool → ℕ
one_if b = cond b 1 0

one_same : (b c : Bool) → b ≡ c → one_if b ≡ one_if c
one_same b c e = ap one_if e

-- a test that stays
no_fewer : (b c : Bool) → (b ≡ true → c ≡ true) → one_if b ≤ one_if c
no_fewer false c stays = omega arith
no_fewer true c stays = omega (arith, one_same c true (stays refl))

-- three tests that make three are all true
all_three : (a b c : Bool) → 3 ≤ one_if a + (one_if b + one_if c) → (a ≡ true) × (b ≡ true)
    × (c ≡ true)
all_three true true true h = (refl, refl, refl)
all_three false b c h = absurd (omega (arith, h, no_fewer b true (λ _. refl), no_fewer c true (λ _. refl)))
all_three true false c h = absurd (omega (arith, h, no_fewer c true (λ _. refl)))
all_three true true false h = absurd (omega (arith, h))

module _ {D K G C : Type 0} (x : Config D K G C) where
  -- whether a kind is certified, or has neither a proven quorum nor a fresh vote
  abbrev pub is_done : History D K G C → Kind → Bool
  is_done past kind = is_certified past kind || not (nat_le (quorum_in x) (length (proven_votes x past kind)) || nat_lt 0 (length (fresh_votes x past kind)))

  -- how many kinds are done
  abbrev pub kinds_done : History D K G C → ℕ
  kinds_done past = one_if (is_done past Notarization) + (one_if (is_done past Nullification) + one_if (is_done past Finalization))

  -- what is ready isn't done
  pub ready_not_done : (past : History D K G C) (kind : Kind)
      → is_ready_by x (trials x past) past kind ≡ true → is_done past kind ≡ false
  ready_not_done past kind ready =
      done_table (is_certified past kind) (nat_le (quorum_in x) (length (proven_votes x past kind))) (nat_lt 0 (length (fresh_votes x past kind)))
      (have_one_subject x.same_digest (proven_votes x past kind))
      (not x.meaning.batchable || nat_le (quorum_in x) (length (proven_votes x past kind) + length (fresh_votes x past kind)))
      (has_proposals kind && is_none (selected_proposal x past)) ready

  -- With all three kinds done none is ready.
  pub done_rests : (past : History D K G C) → 3 ≤ kinds_done past → ready_kind x past ≡ None
  done_rests past all =
      ⊎_elim
      (λ none. none)
      (λ (some : (kind : Kind) × (ready_kind x past ≡ Some kind)). absurd
      (true≢false (sym (each some.0) ∙ ready_not_done past some.0 (ready_is x past some.0 some.1))))
      (option_cases (ready_kind x past))
    where
      three : (is_done past Notarization ≡ true) × (is_done past Nullification ≡ true)
          × (is_done past Finalization ≡ true)
      three = all_three (is_done past Notarization) (is_done past Nullification) (is_done past Finalization) all

      each : (kind : Kind) → is_done past kind ≡ true
      each Notarization = three.0
      each Nullification = three.1
      each Finalization = three.2

  -- where it isn't certified, by how many votes are left
  pub done_if : (past : History D K G C) (kind : Kind)
      → (is_certified past kind ≡ false → length (proven_votes x past kind) < quorum_in x)
      → (is_certified past kind ≡ false → length (fresh_votes x past kind) ≤ 0) → is_done past kind
      ≡ true
  done_if past kind few none =
      ⊎_elim
      (λ certified. or_left (is_certified past kind) _ certified)
      (λ still. ap (λ b. b || not (nat_le (quorum_in x) (length (proven_votes x past kind)) || nat_lt 0 (length (fresh_votes x past kind)))) still
      ∙ nothing_left (quorum_in x) (length (proven_votes x past kind)) (length (fresh_votes x past kind)) (few still) (none still))
      (cases_Bool (is_certified past kind))

  done_then : (past : History D K G C) (kind : Kind) → is_done past kind ≡ true
      → is_certified past kind ≡ false → (length (proven_votes x past kind) < quorum_in x)
      × (length (fresh_votes x past kind) ≤ 0)
  done_then past kind done still =
      left_few (quorum_in x) (length (proven_votes x past kind)) (length (fresh_votes x past kind))
      (sym (ap (λ b. b || not (nat_le (quorum_in x) (length (proven_votes x past kind)) || nat_lt 0 (length (fresh_votes x past kind)))) still) ∙ done)

module _ {D K G C : Type 0} (x : Config D K G C) (lawful : HasLaws x) (past : History D K G C)
    (batch : Batch (Certificate C D)) (possible : IsPossible x past)
    (may : MayAnswer x past ConstructCall (ConstructAnswer (Some batch))) where
  abbrev event : Event D K G C
  event = constructed x past (Some batch)

  holds : Holds x past (Some batch)
  holds = holds_before x past (Some batch) possible may

  -- the kind that is tried is done by it, and wasn't before
  tried_done : (kind : Kind) → tries_kind x past event.1 kind ≡ true → is_done x (event ∷ past) kind
      ≡ true
  tried_done kind tries =
      done_if x (event ∷ past) kind (tried_proven x lawful past (Some batch) may holds kind tries)
      (λ _. tried_fresh x lawful past (Some batch) may holds kind tries)

  tried_not_done : (kind : Kind) → tries_kind x past event.1 kind ≡ true → is_done x past kind
      ≡ false
  tried_not_done kind tries =
      ready_not_done x past kind (ready_is x past kind (tries_by x past ConstructCall (ConstructAnswer (Some batch)) kind may tries).ready)

  -- one that was done stays so
  stays_done : (kind : Kind) → is_done x past kind ≡ true → is_done x (event ∷ past) kind ≡ true
  stays_done kind done =
      done_if x (event ∷ past) kind
      (λ still. omega (arith, untried_proven x lawful past (Some batch) may holds kind untried, (left still).0))
      (λ still. omega (arith, untried_fresh x lawful past (Some batch) may holds kind untried, (left still).1))
    where
      untried : tries_kind x past event.1 kind ≡ false
      untried = false_from_ne_true _ (λ tries. true≢false (sym done ∙ tried_not_done kind tries))

      left : is_certified (event ∷ past) kind ≡ false
          → (length (proven_votes x past kind) < quorum_in x)
          × (length (fresh_votes x past kind) ≤ 0)
      left still = done_then x past kind done (certified_before past event kind still)

  -- one that wasn't done is, and the others stay so
  more_by : (kind : Kind) → is_done x past kind ≡ false → is_done x (event ∷ past) kind ≡ true
      → kinds_done x past < kinds_done x (event ∷ past)
  more_by Notarization was now =
      omega (arith, one_same _ false was, one_same _ true now, no_fewer _ _ (stays_done Nullification), no_fewer _ _ (stays_done Finalization))
  more_by Nullification was now =
      omega (arith, one_same _ false was, one_same _ true now, no_fewer _ _ (stays_done Notarization), no_fewer _ _ (stays_done Finalization))
  more_by Finalization was now =
      omega (arith, one_same _ false was, one_same _ true now, no_fewer _ _ (stays_done Notarization), no_fewer _ _ (stays_done Nullification))

  -- With a batch one more kind is done.
  pub one_more_done : kinds_done x past < kinds_done x (event ∷ past)
  one_more_done = more_by may.0 (tried_not_done may.0 tries) (tried_done may.0 tries)
    where
      tries : tries_kind x past event.1 may.0 ≡ true
      tries = ap (λ o. is_some_and o (λ k. is_kind k may.0)) may.1.0 ∙ is_kind-refl may.0
