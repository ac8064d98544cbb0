-- A call is refused for memory only where the history says that it may need some.
use Rattle.batcher_histories.proofs.Words.{◌≡◌, Bool, true, false, [], None, refl, ap, sym, ◌∙◌, Result, Ok, Err, is_some, is_ok, IsOk, IfErr, OnErr, ◌||◌, not}
use Rattle.batcher_histories.proofs.Words.{ℕ, result_ok, and_from, not-false, Vote, Kind, Certificate, Notarization, Nullification, Finalization, Outcome}
use Rattle.batcher_histories.proofs.Words.{Added, Duplicate, Conflicting, Observed, unseen, in_full, as_facts, is_seen, is_known, observed, kind_of, signer_of}
use Rattle.batcher_histories.proofs.Words.{OwnFault, NetworkCall, OwnCall, CertificateCall, ConstructCall, CertificateAnswer, Config, is_empty, is_some_and}
use Rattle.batcher_histories.proofs.Words.{is_some-false, of_kind, RoundState, opposite_fault, unopposed_result, own_result_by, fault_or_memory, is_added}
use Rattle.batcher_histories.proofs.Words.{admission, own_result, restored_with, kind_tried, History, first_vote, votes_restored_by, ready_kind}
use Rattle.batcher_histories.proofs.Words.{certificate_answer, has_voted, needs_memory, Represents}
use Rattle.batcher_histories.specs.declared.answers.OwnFault.TheVariants.{OutOfMemory}
use Rattle.batcher_histories.proofs.History.Laws.{HasLaws}
use Rattle.batcher_histories.proofs.KnownLemmas.Named.{network_same, own_same}
use Rattle.batcher_histories.proofs.Simulation.FirstVotes.{seen_is}
use Rattle.batcher_histories.proofs.Memory.Spared.{nothing_restored}
use Rattle.batcher_histories.proofs.KnownLemmas.Ready.{tried_is_ready}

only_if : (needs : Bool) → (needs ≡ false → false ≡ true) → needs ≡ true
only_if true h = refl
only_if false h = h refl

-- No own vote is at fault for memory.
told_ok : (kind : Kind) (outcome : Outcome) → OutOfMemory
    ≡ fault_or_memory (unopposed_result kind outcome) → is_ok (unopposed_result kind outcome) ≡ true
told_ok kind (Added retained) h = refl
told_ok Notarization (Duplicate true) h = absurd (cc)
told_ok Nullification (Duplicate true) h = refl
told_ok Finalization (Duplicate true) h = absurd (cc)
told_ok kind (Duplicate false) h = refl
told_ok kind Conflicting h = absurd (cc)

never_opposed : (kind : Kind) → OutOfMemory ≡ opposite_fault kind → ⊥
never_opposed Notarization h = absurd (cc)
never_opposed Nullification h = absurd (cc)
never_opposed Finalization h = absurd (cc)

pub memory_alone : {G D : Type 0} (o : Observed G D) (kind : Kind) (outcome : Outcome) → OutOfMemory
    ≡ fault_or_memory (own_result_by o kind outcome) → is_ok (own_result_by o kind outcome) ≡ true
memory_alone unseen kind outcome h = told_ok kind outcome h
memory_alone (in_full vote) kind outcome h = absurd (never_opposed kind h)
memory_alone (as_facts facts) kind outcome h = absurd (never_opposed kind h)

module _ {D K G C : Type 0} (x : Config D K G C) where
  known_is : (past : History D K G C) (held : RoundState G D) (i : ℕ) → Represents x past held
      → is_known held.tracked i ≡ has_voted x past i
  known_is past held i represents =
      ap (λ b. b || (is_seen (observed held.tracked Nullification i) || is_seen (observed held.tracked Finalization i)))
      (seen_is x past held Notarization i represents)
      ∙ ap (λ b. is_some (first_vote x past Notarization i) || b)
      (ap (λ b. b || is_seen (observed held.tracked Finalization i)) (seen_is x past held Nullification i represents)
      ∙ ap (λ b. is_some (first_vote x past Nullification i) || b) (seen_is x past held Finalization i represents))

  either_wants : (known released : Bool) → (known ≡ true → released ≡ true → false ≡ true)
      → (not known || not released) ≡ true
  either_wants true true refused = refused refl refl
  either_wants true false refused = refl
  either_wants false released refused = refl

  pub network_needs : (past : History D K G C) (held : RoundState G D) (sender : K)
      (vote : Vote G D)
      → Represents x past held
      → ((admission x held sender vote).added ≡ false → false ≡ true)
      → (is_known held.tracked (signer_of vote) ≡ true
      → of_kind held.tracked.compacted (kind_of vote) ≡ true → false ≡ true)
      → needs_memory x past (NetworkCall sender vote) ≡ true
  network_needs past held sender vote represents refused spared =
      and_from _ _
      (only_if _ (λ not_added. refused (ap (λ a. a.added) (network_same x past held sender vote represents) ∙ not_added)))
      (either_wants _ _
      (λ known released.
      spared (known_is past held (signer_of vote) represents ∙ known) ((represents.each_kind (kind_of vote)).compacted_is ∙ released)))

  -- the same of a result
  pub network_needed : {X E : Type 0}
      → (past : History D K G C) (held : RoundState G D) (sender : K) (vote : Vote G D)
      (r : Result X E)
      → Represents x past held → ((admission x held sender vote).added ≡ false → IsOk r)
      → (is_known held.tracked (signer_of vote) ≡ true
      → of_kind held.tracked.compacted (kind_of vote) ≡ true → IsOk r)
      → OnErr r (needs_memory x past (NetworkCall sender vote) ≡ true)
  network_needed past held sender vote (Ok v) represents no_memory spared = tt
  network_needed past held sender vote (Err e) represents no_memory spared = network_needs past held sender vote represents no_memory spared

  own_by : (r : Result Outcome OwnFault) → is_ok r ≡ true
      → ((outcome : Outcome) → r ≡ Ok outcome → is_added outcome ≡ false → false ≡ true)
      → is_some_and (result_ok r) is_added ≡ true
  own_by (Ok outcome) ok refused = only_if (is_added outcome) (refused outcome refl)
  own_by (Err fault) ok refused = absurd (cc)

  pub own_needs : (past : History D K G C) (held : RoundState G D) (vote : Vote G D)
      → Represents x past held
      → is_ok (own_result x held vote) ≡ true →
      ((outcome : Outcome) → own_result x held vote ≡ Ok outcome → is_added outcome ≡ false → false
      ≡ true) → needs_memory x past (OwnCall vote) ≡ true
  own_needs past held vote represents ok refused =
      ap (λ r. is_some_and (result_ok r) is_added) (sym (own_same x past held vote represents)) ∙ own_by (own_result x held vote) ok refused

  -- an own vote is refused for memory where it may need some
  pub own_needed : {X : Type 0} (past : History D K G C) (held : RoundState G D) (vote : Vote G D)
      (r : Result X OwnFault)
      → Represents x past held → IfErr r (λ fault. fault ≡ fault_or_memory (own_result x held vote))
      → ((outcome : Outcome) → own_result x held vote ≡ Ok outcome → is_added outcome ≡ false
      → IsOk r)
      → r ≡ Err OutOfMemory → needs_memory x past (OwnCall vote) ≡ true
  own_needed past held vote (Ok v) represents fault no_memory is = absurd (cc)
  own_needed past held vote (Err other) represents fault no_memory is =
      let same : other ≡ OutOfMemory = cc in
      own_needs past held vote represents (memory_alone _ _ _ (sym same ∙ fault)) no_memory

  pub certificate_needs : (past : History D K G C) (held : RoundState G D) (c : Certificate C D)
      → Represents x past held → (((kind : Kind) → restored_with x held c kind ≡ []) → false ≡ true)
      → needs_memory x past (CertificateCall c) ≡ true
  certificate_needs past held c represents refused =
      only_if _ (λ none. refused (nothing_restored x past held c (certificate_answer x past c) represents
      (not-false (is_empty (votes_restored_by x past (CertificateCall c, CertificateAnswer (certificate_answer x past c)))) none)))

  pub certificate_needed : {X E : Type 0}
      → (past : History D K G C) (held : RoundState G D) (c : Certificate C D) (r : Result X E)
      → Represents x past held → (((kind : Kind) → restored_with x held c kind ≡ []) → IsOk r)
      → OnErr r (needs_memory x past (CertificateCall c) ≡ true)
  certificate_needed past held c (Ok v) represents no_memory = tt
  certificate_needed past held c (Err e) represents no_memory = certificate_needs past held c represents no_memory

  pub construct_needs : HasLaws x → (past : History D K G C) (held : RoundState G D)
      → Represents x past held
      → (kind_tried x held ≡ None → false ≡ true) → needs_memory x past ConstructCall ≡ true
  construct_needs lawful past held represents refused =
      only_if _ (λ none. refused (tried_is_ready x lawful past held represents ∙ is_some-false (ready_kind x past) none))

  -- the same of a result
  pub construct_needed : {X E : Type 0} → HasLaws x
      → (past : History D K G C) (held : RoundState G D) (r : Result X E) → Represents x past held
      → (kind_tried x held ≡ None → IsOk r) → OnErr r (needs_memory x past ConstructCall ≡ true)
  construct_needed lawful past held (Ok v) represents no_memory = tt
  construct_needed lawful past held (Err e) represents no_memory = construct_needs lawful past held represents no_memory
