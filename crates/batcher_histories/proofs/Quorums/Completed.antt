-- Three constructions in a row complete every valid quorum, and a fourth gives no batch.
use Rattle.batcher_histories.proofs.Words.{inl, inr, ◌≡◌, ◌≤◌, ◌⊎◌, ℕ, zero, suc, Bool, true, false, cond, [], ◌∷◌, Option, Some, None, refl, ap, sym, ◌∙◌}
use Rattle.batcher_histories.proofs.Words.{arith, ⊎_elim, subst, cases_Bool, true≢false, none-some, Kind, Notarization, Nullification, Finalization}
use Rattle.batcher_histories.proofs.Words.{Certificate, Batch, Answer, CertificateAnswer, ConstructAnswer, ForwardAnswer, LeaderAnswer, MissingAnswer}
use Rattle.batcher_histories.proofs.Words.{NetworkAnswer, OutOfMemoryAnswer, OwnAnswer, OwnRefusedAnswer, CertificateCall, ConstructCall, ForwardCall}
use Rattle.batcher_histories.proofs.Words.{LeaderCall, MissingCall, NetworkCall, OwnCall, IsPossible, MayAnswer, ends_in_constructions, CompletesQuorums, Rests}
use Rattle.batcher_histories.proofs.Words.{Event, History, is_certified, Config, is_ready_by, ready_kind, trials}
use Rattle.batcher_histories.proofs.Simulation.Construct.{idle_moves}
use Rattle.batcher_histories.proofs.Quorums.Done.{kinds_done, done_rests, one_more_done}
use Rattle.batcher_histories.proofs.Simulation.Frame.{followed}
use Rattle.batcher_histories.proofs.Quorums.Buffers.{holds_before}
use Rattle.batcher_histories.proofs.History.Laws.{HasLaws}
use Rattle.batcher_histories.proofs.KnownLemmas.Ready.{tried_is_ready}
use Rattle.batcher_histories.proofs.Quorums.ValidQuorums.{valid_quorum_ready}

-- where no kind is chosen, none passes
pub unchosen : (r : Kind → Bool) (a b c : Bool) → r Notarization ≡ a → r Nullification ≡ b
    → r Finalization ≡ c →
    cond a (Some Notarization) (cond b (Some Nullification) (cond c (Some Finalization) None))
    ≡ None → (kind : Kind) → r kind ≡ false
unchosen r true b c ea eb ec none kind = absurd (cc)
unchosen r false true c ea eb ec none kind = absurd (cc)
unchosen r false false true ea eb ec none kind = absurd (cc)
unchosen r false false false ea eb ec none Notarization = ea
unchosen r false false false ea eb ec none Nullification = eb
unchosen r false false false ea eb ec none Finalization = ec

module _ {D K G C : Type 0} where
  -- One more construction in a row is the newest call.
  last_constructs : (n : ℕ) (event : Event D K G C) (past : History D K G C)
      → ends_in_constructions (suc n) (event ∷ past) ≡ true → (event.0 ≡ ConstructCall)
      × (ends_in_constructions n past ≡ true)
  last_constructs n (ConstructCall, answer) past ends = (refl, ends)
  last_constructs n (NetworkCall sender vote, answer) past ends = absurd (true≢false (sym ends))
  last_constructs n (OwnCall vote, answer) past ends = absurd (true≢false (sym ends))
  last_constructs n (CertificateCall c, answer) past ends = absurd (true≢false (sym ends))
  last_constructs n (LeaderCall i, answer) past ends = absurd (true≢false (sym ends))
  last_constructs n (ForwardCall i, answer) past ends = absurd (true≢false (sym ends))
  last_constructs n (MissingCall p, answer) past ends = absurd (true≢false (sym ends))

  -- A construction is answered a batch or none.
  pub construct_answered : (x : Config D K G C) (past : History D K G C) (answer : Answer G C D)
      → MayAnswer x past ConstructCall answer → (P : Answer G C D → Type 0) →
      ((given : Option (Batch (Certificate C D)))
      → MayAnswer x past ConstructCall (ConstructAnswer given) → P (ConstructAnswer given))
      → P answer
  construct_answered x past (ConstructAnswer given) may P holds = holds given may
  construct_answered x past (NetworkAnswer a) may P holds = absurd may
  construct_answered x past (OwnAnswer a b) may P holds = absurd may
  construct_answered x past (OwnRefusedAnswer a) may P holds = absurd may
  construct_answered x past (CertificateAnswer a) may P holds = absurd may
  construct_answered x past (LeaderAnswer a) may P holds = absurd may
  construct_answered x past (ForwardAnswer a) may P holds = absurd may
  construct_answered x past (MissingAnswer a) may P holds = absurd may
  construct_answered x past OutOfMemoryAnswer may P holds = absurd may

module _ {D K G C : Type 0} (x : Config D K G C) (lawful : HasLaws x) where
  -- After a construction that gives no batch none is ready, as before.
  none_stays : (past : History D K G C) → IsPossible x past → ready_kind x past ≡ None
      → ready_kind x ((ConstructCall, ConstructAnswer None) ∷ past) ≡ None
  none_stays past possible none =
      let holds = holds_before x past None possible none in
      let simulates = followed x lawful past holds.held ConstructCall (ConstructAnswer None) holds.held holds.represents
      (idle_moves x past holds.held holds.represents none) in
      sym (tried_is_ready x lawful ((ConstructCall, ConstructAnswer None) ∷ past) holds.held simulates.represents)
      ∙ (tried_is_ready x lawful past holds.held holds.represents ∙ none)

  -- No kind is ready, or so many kinds are done.
  abbrev RestsOrDone : ℕ → History D K G C → Type 0
  RestsOrDone n past = (ready_kind x past ≡ None) ⊎ (n ≤ kinds_done x past)

  rests_then : (n : ℕ) (past : History D K G C) (given : Option (Batch (Certificate C D)))
      → IsPossible x past → MayAnswer x past ConstructCall (ConstructAnswer given)
      → RestsOrDone n past →
      RestsOrDone (suc n) ((ConstructCall, ConstructAnswer given) ∷ past)
  rests_then n past None possible may before = inl (none_stays past possible may)
  rests_then n past (Some batch) possible may (inl none) = absurd (none-some may.0 (sym none ∙ may.1.0))
  rests_then n past (Some batch) possible may (inr some) = inr (omega (arith, some, one_more_done x lawful past batch possible may))

  -- Each construction in a row leaves none ready, or one more kind done.
  rests_or_done : (n : ℕ) (past : History D K G C) → IsPossible x past
      → ends_in_constructions n past ≡ true → RestsOrDone n past
  rests_or_done zero past possible ends = inr (omega arith)
  rests_or_done (suc n) [] possible ends = absurd (true≢false (sym ends))
  rests_or_done (suc n) (event ∷ past) possible ends =
      let last = last_constructs n event past ends in
      subst (λ call. RestsOrDone (suc n) ((call, event.1) ∷ past)) (sym last.0)
      (construct_answered x past event.1 (subst (λ call. MayAnswer x past call event.1) last.0 possible.1.1.0)
      (λ answer. RestsOrDone (suc n) ((ConstructCall, answer) ∷ past))
      (λ given may. rests_then n past given possible.1.1.1 may (rests_or_done n past possible.1.1.1 last.1)))

  -- After three constructions in a row no kind is ready.
  none_ready : (past : History D K G C) → IsPossible x past → ends_in_constructions 3 past ≡ true
      → ready_kind x past ≡ None
  none_ready past possible ends = ⊎_elim (λ none. none) (λ all. done_rests x past all) (rests_or_done 3 past possible ends)

  -- Where none is ready no batch is given.
  none_given : (past : History D K G C) (given : Option (Batch (Certificate C D)))
      → MayAnswer x past ConstructCall (ConstructAnswer given) → ready_kind x past ≡ None → given
      ≡ None
  none_given past None may none = refl
  none_given past (Some batch) may none = absurd (none-some may.0 (sym none ∙ may.1.0))

  -- So after three constructions in a row each kind with a valid quorum is certified,
  pub completes : (past : History D K G C) (event : Event D K G C) → IsPossible x (event ∷ past)
      → CompletesQuorums x past event
  completes past event possible ends kind reached =
      ⊎_elim
      (λ certified. certified)
      (λ still.
      let ready = valid_quorum_ready x lawful (event ∷ past) kind possible still reached in
      absurd (true≢false (sym ready ∙ unchosen (is_ready_by x (trials x (event ∷ past)) (event ∷ past)) _ _ _ refl refl refl
      (none_ready (event ∷ past) possible ends) kind)))
      (cases_Bool (is_certified (event ∷ past) kind))

  -- and a fourth one gives no batch.
  pub rests : (past : History D K G C) (event : Event D K G C) → IsPossible x (event ∷ past)
      → Rests past event
  rests past event possible ends =
      let last = last_constructs 3 event past ends in
      construct_answered x past event.1 (subst (λ call. MayAnswer x past call event.1) last.0 possible.1.1.0) (λ answer. answer ≡ ConstructAnswer None)
      (λ given may. ap ConstructAnswer (none_given past given may (none_ready past possible.1.1.1 last.1)))
