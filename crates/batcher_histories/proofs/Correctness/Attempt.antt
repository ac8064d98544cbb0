-- What an attempt at a certificate, and the certificate, keep right of a round.
use Rattle.batcher_histories.proofs.Words.{◌≡◌, ◌∙◌, ◌≤◌, ◌+◌, ◌==◌, ◌++◌, [], ℕ, Bool, true, false, cond, ◌&&◌, ◌||◌, nat_le, List, filter, map, length}
use Rattle.batcher_histories.proofs.Words.{Option, Some, None, is_some, refl, sym, ap, subst, arith, if◌then◌else◌, find, Stream, Round, Proposal, Subject}
use Rattle.batcher_histories.proofs.Words.{NotarizeSubject, NullifySubject, FinalizeSubject, Attestation, Certificate, Vote, Kind, Batch, Mode, Retaining}
use Rattle.batcher_histories.proofs.Words.{Releasing, Skipped, count, index_of_signer, Meaning, Config, AttemptResult, checked, one_by_one, at_once, attempt_of}
use Rattle.batcher_histories.proofs.Words.{is_kind, signer_of, attestation_of, is_vote_of, of_kind, VerifierState, TrackerView, kept_vote, is_released_in}
use Rattle.batcher_histories.proofs.Words.{ReleasesKind, SameTrackerState, TriesKind, SameVerifierState, attestations_of, vote_for, IsRight, Fixes}
use Rattle.batcher_histories.proofs.Words.{count_buffers, is_kind-true, is_fixed, to_fixed, Finalization, count-append, count-filter_le, count-map}
use Rattle.batcher_histories.proofs.Words.{is_some-option_map, fixes_fixed, fixes_any}

module _ {D K G C : Type 0} (m : Meaning D K G C) (subject : Subject D) (q : ℕ)
    (v p : List (Attestation G)) where
  module _ (test : Attestation G → Bool) where
    none_count : count test [] ≤ count test (v ++ p)
    none_count = omega arith

    checked_count : (b : Bool) → count test (if b then [] else p) ≤ count test p
    checked_count true = omega arith
    checked_count false = omega arith

    joined_count : count test (v ++ filter (m.attests subject) (checked q v p))
        ≤ count test (v ++ p)
    joined_count =
        omega (
          arith,
          count-append test v (filter (m.attests subject) (checked q v p)),
          count-append test v p,
          count-filter_le test (m.attests subject) (checked q v p),
          checked_count (nat_le q (length v)),
        )

    one_count : (b : Bool) → nat_le q
        (length v + length (filter (m.attests subject) (checked q v p))) ≡ b
        → count test (one_by_one m subject q v (checked q v p)).verified ≤ count test (v ++ p)
    one_count true e = rw e none_count
    one_count false e = rw e joined_count

    at_once_count : (o : Option C) → count test (at_once m subject q v (checked q v p) o).verified
        ≤ count test (v ++ p)
    at_once_count (Some c) = none_count
    at_once_count None = one_count (nat_le q (length v + length (filter (m.attests subject) (checked q v p)))) refl

    reach_count : (s : Stream) (b : Bool) → nat_le q (length v + length (checked q v p)) ≡ b
        → count test (attempt_of m subject q v p s).0.verified ≤ count test (v ++ p)
    reach_count s true e = rw e (at_once_count (m.assembled_at_once subject (checked q v p) v s).0)
    reach_count s false e = rw e joined_count

    -- what is verified after an attempt waited before
    pub tried_count : (s : Stream) → count test (attempt_of m subject q v p s).0.verified
        ≤ count test (v ++ p)
    tried_count s = reach_count s (nat_le q (length v + length (checked q v p))) refl

  abbrev pub Emptied : AttemptResult G C → Type 0
  Emptied t = is_some t.certificate ≡ true → t.verified ≡ []

  one_emptied : (b : Bool) → nat_le q
      (length v + length (filter (m.attests subject) (checked q v p))) ≡ b
      → Emptied (one_by_one m subject q v (checked q v p))
  one_emptied true e = rw e (λ h. refl)
  one_emptied false e = rw e (λ h. absurd (cc))

  at_once_emptied : (o : Option C) → Emptied (at_once m subject q v (checked q v p) o)
  at_once_emptied (Some c) = λ h. refl
  at_once_emptied None = one_emptied (nat_le q (length v + length (filter (m.attests subject) (checked q v p)))) refl

  reach_emptied : (s : Stream) (b : Bool) → nat_le q (length v + length (checked q v p)) ≡ b
      → Emptied (attempt_of m subject q v p s).0
  reach_emptied s true e = rw e (at_once_emptied (m.assembled_at_once subject (checked q v p) v s).0)
  reach_emptied s false e = rw e (λ h. absurd (cc))

  -- with a certificate none waits
  pub tried_emptied : (s : Stream) → Emptied (attempt_of m subject q v p s).0
  tried_emptied s = reach_emptied s (nat_le q (length v + length (checked q v p))) refl

module _ {G D : Type 0} (i : ℕ) where
  abbrev pub by_signer : Vote G D → Bool
  by_signer v = signer_of v == i

  votes_count : (subject : Subject D) (xs : List (Attestation G))
      → count by_signer (map (vote_for subject) xs) ≡ count (λ a. index_of_signer a == i) xs
  votes_count (NotarizeSubject p) xs = count-map by_signer (vote_for (NotarizeSubject p)) xs
  votes_count (NullifySubject r) xs = count-map by_signer (vote_for (NullifySubject r)) xs
  votes_count (FinalizeSubject p) xs = count-map by_signer (vote_for (FinalizeSubject p)) xs

  attestations_count : (xs : List (Vote G D))
      → count (λ a. index_of_signer a == i) (attestations_of xs) ≡ count by_signer xs
  attestations_count xs = count-map (λ a. index_of_signer a == i) attestation_of xs

module _ {D K G C : Type 0} (m : Meaning D K G C) (number : Round) (q : ℕ) (old left : VerifierState G D)
    (tried : Kind) (before after : Stream) (batch : Batch (Certificate C D))
    (t : TriesKind m number q old tried before batch after left) where
  abbrev pub vs : List (Vote G D)
  vs = of_kind old.verified tried

  abbrev pub ps : List (Vote G D)
  ps = of_kind old.pending tried

  outcome_is : t.outcome ≡ (attempt_of m t.subject q (attestations_of vs) (attestations_of ps)
      before).0
  outcome_is = ap (λ r. r.0) t.attempt

  given_is : is_some batch.certificate ≡ is_some t.outcome.certificate
  given_is = ap (λ b. is_some b.certificate) t.batch_is ∙ is_some-option_map _ t.outcome.certificate

  count_tried : (i : ℕ) → count (by_signer i)
      (of_kind left.verified tried ++ of_kind left.pending tried) ≤ count (by_signer i) (vs ++ ps)
  count_tried i =
      omega (
        arith,
        count-append (by_signer i) (of_kind left.verified tried) (of_kind left.pending tried),
        count-append (by_signer i) vs ps,
        ap (count (by_signer i)) t.verified,
        ap (count (by_signer i)) t.pending,
        votes_count i t.subject t.outcome.verified,
        ap (λ o. count (λ a. index_of_signer a == i) o.verified) outcome_is,
        tried_count m t.subject q (attestations_of vs) (attestations_of ps) (λ a. index_of_signer a == i) before,
        count-append (λ a. index_of_signer a == i) (attestations_of vs) (attestations_of ps),
        attestations_count i vs,
        attestations_count i ps,
      )

  count_beside : (kind : Kind) (i : ℕ) → SameVerifierState old left kind
      → count (by_signer i) (of_kind left.verified kind ++ of_kind left.pending kind)
      ≤ count (by_signer i) (of_kind old.verified kind ++ of_kind old.pending kind)
  count_beside kind i s =
      omega (
        arith,
        count-append (by_signer i) (of_kind left.verified kind) (of_kind left.pending kind),
        count-append (by_signer i) (of_kind old.verified kind) (of_kind old.pending kind),
        ap (count (by_signer i)) s.verified,
        ap (count (by_signer i)) s.pending,
      )

  count_left_by : (kind : Kind) (i : ℕ) (b : Bool) → is_kind tried kind ≡ b
      → count (by_signer i) (of_kind left.verified kind ++ of_kind left.pending kind)
      ≤ count (by_signer i) (of_kind old.verified kind ++ of_kind old.pending kind)
  count_left_by kind i true e =
      subst (λ k. count (by_signer i) (of_kind left.verified k ++ of_kind left.pending k)
      ≤ count (by_signer i) (of_kind old.verified k ++ of_kind old.pending k)) (is_kind-true tried kind e) (count_tried i)
  count_left_by kind i false e = count_beside kind i (t.others kind e)

  certified_by : of_kind old.certified tried ≡ false → is_some batch.certificate ≡ false
      → (kind : Kind) (b : Bool) → is_kind tried kind ≡ b → of_kind left.certified kind
      ≡ of_kind old.certified kind
  certified_by was none kind true e =
      subst (λ k. of_kind left.certified k ≡ of_kind old.certified k) (is_kind-true tried kind e) (t.certified ∙ sym given_is ∙ none ∙ sym was)
  certified_by was none kind false e = (t.others kind e).certified

  -- without a certificate
  pub right_without : (tracker : TrackerView G D) (quorum : ℕ) → IsRight m tracker old quorum
      → of_kind old.certified tried ≡ false → is_some batch.certificate ≡ false
      → IsRight m tracker left quorum
  right_without tracker quorum right was none =
      record {
        some = right.some;
        quorum_is = right.quorum_is;
        bound = right.bound;
        within = λ kind i. omega (arith, right.within kind i, count_left_by kind i (is_kind tried kind) refl);
        compacted = λ kind. right.compacted kind ∙ ap (λ b. is_released_in tracker.mode b) (sym (certified_by was none kind (is_kind tried kind) refl));
        fixed = λ h. ap is_fixed t.selection ∙ right.fixed (sym (certified_by was none Finalization (is_kind tried Finalization) refl) ∙ h);
      }

  module _ (x : Config D K G C) (proposal : Option (Proposal D)) (new : VerifierState G D) where
    fixed_certified : (p : Option (Proposal D)) → Fixes x left p new → (kind : Kind)
        → of_kind new.certified kind ≡ of_kind left.certified kind
    fixed_certified None e kind = ap (λ h. of_kind h.certified kind) e
    fixed_certified (Some p) s kind = (s.buffers kind).certified

    fixed_count : (p : Option (Proposal D)) → Fixes x left p new → (kind : Kind) (i : ℕ)
        → count (by_signer i) (of_kind new.verified kind ++ of_kind new.pending kind)
        ≤ count (by_signer i) (of_kind left.verified kind ++ of_kind left.pending kind)
    fixed_count None e kind i = omega (arith, ap (λ h. count (by_signer i) (of_kind h.verified kind ++ of_kind h.pending kind)) e)
    fixed_count (Some p) s kind i = omega (arith, count_buffers x.same_digest left new kind [] [] (s.buffers kind) (by_signer i))

    module _ (tracker settled : TrackerView G D) (fixes : Fixes x left proposal new)
        (given : is_some batch.certificate ≡ true) where
      count_given : (i : ℕ) → count (by_signer i)
          (of_kind left.verified tried ++ of_kind left.pending tried) ≡ 0
      count_given i =
          let emptied : t.outcome.verified ≡ [] = ap (λ o. o.verified) outcome_is
          ∙ tried_emptied m t.subject q (attestations_of vs) (attestations_of ps) before
          (ap (λ o. is_some o.certificate) (sym outcome_is) ∙ sym given_is ∙ given) in
          omega (
            arith,
            count-append (by_signer i) (of_kind left.verified tried) (of_kind left.pending tried),
            ap (count (by_signer i)) t.verified,
            ap (count (by_signer i)) t.pending,
            votes_count i t.subject t.outcome.verified,
            ap (count (λ a. index_of_signer a == i)) emptied,
          )

      kept_within : (kind : Kind) (i : ℕ) → IsRight m tracker old q
          → SameTrackerState tracker.holds settled.holds kind
          → count (by_signer i) (of_kind old.verified kind ++ of_kind old.pending kind)
          ≤ cond (is_some (kept_vote settled.holds kind i)) 1 0
      kept_within kind i right same =
          subst (λ votes. count (by_signer i) (of_kind old.verified kind ++ of_kind old.pending kind) ≤ cond (is_some (find (is_vote_of kind i) votes)) 1 0)
          (sym same.kept) (right.within kind i)

      within_by : IsRight m tracker old q
          → ((kind : Kind) → is_kind tried kind ≡ false
          → SameTrackerState tracker.holds settled.holds kind) → (kind : Kind) (i : ℕ) (b : Bool)
          → is_kind tried kind ≡ b → count (by_signer i)
          (of_kind new.verified kind ++ of_kind new.pending kind)
          ≤ cond (is_some (kept_vote settled.holds kind i)) 1 0
      within_by right others kind i true e =
          let none : count (by_signer i) (of_kind left.verified kind ++ of_kind left.pending kind)
          ≡ 0 = subst (λ k. count (by_signer i) (of_kind left.verified k ++ of_kind left.pending k) ≡ 0) (is_kind-true tried kind e) (count_given i) in
          omega (arith, none, fixed_count proposal fixes kind i)
      within_by right others kind i false e =
          omega (arith, fixed_count proposal fixes kind i, count_beside kind i (t.others kind e), kept_within kind i right (others kind e))

      released_first : (mode : Mode) → (is_released_in mode true || is_released_in mode false)
          ≡ is_released_in mode true
      released_first Retaining = refl
      released_first Releasing = refl
      released_first Skipped = refl

      own_compacted : IsRight m tracker old q → settled.mode ≡ tracker.mode
          → of_kind old.certified tried ≡ false → of_kind settled.holds.compacted tried
          ≡ (is_released_in tracker.mode true || of_kind tracker.holds.compacted tried)
          → of_kind settled.holds.compacted tried
          ≡ is_released_in settled.mode (of_kind new.certified tried)
      own_compacted right mode was releases =
          let certified : of_kind new.certified tried ≡ true = fixed_certified proposal fixes tried ∙ t.certified ∙ sym given_is ∙ given in
          releases ∙ ap (λ b. is_released_in tracker.mode true || b) (right.compacted tried ∙ ap (λ b. is_released_in tracker.mode b) was)
          ∙ released_first tracker.mode ∙ ap (λ d. is_released_in d true) (sym mode) ∙ ap (λ b. is_released_in settled.mode b) (sym certified)

      compacted_by : IsRight m tracker old q → settled.mode ≡ tracker.mode
          → of_kind old.certified tried ≡ false
          → ((kind : Kind) → ReleasesKind x.same_digest tracker.holds settled.holds proposal
          (is_kind tried kind && is_released_in tracker.mode true) kind)
          → ((kind : Kind) → is_kind tried kind ≡ false
          → SameTrackerState tracker.holds settled.holds kind) → (kind : Kind) (b : Bool)
          → is_kind tried kind ≡ b → of_kind settled.holds.compacted kind
          ≡ is_released_in settled.mode (of_kind new.certified kind)
      compacted_by right mode was releases others kind true e =
          subst (λ k. of_kind settled.holds.compacted k ≡ is_released_in settled.mode (of_kind new.certified k)) (is_kind-true tried kind e)
          (own_compacted right mode was (subst (λ k. of_kind settled.holds.compacted k
          ≡ (is_released_in tracker.mode true || of_kind tracker.holds.compacted k)) (sym (is_kind-true tried kind e))
          ((releases kind).compacted ∙ ap (λ b. (b && is_released_in tracker.mode true) || of_kind tracker.holds.compacted kind) e)))
      compacted_by right mode was releases others kind false e =
          (others kind e).compacted ∙ right.compacted kind ∙ ap (λ d. is_released_in d (of_kind old.certified kind)) (sym mode)
          ∙ ap (λ b. is_released_in settled.mode b) (sym (fixed_certified proposal fixes kind ∙ (t.others kind e).certified))

      fixed_selection : (p : Option (Proposal D)) → Fixes x left p new → new.selection
          ≡ to_fixed left.selection p
      fixed_selection None e = ap (λ h. h.selection) e
      fixed_selection (Some p) s = s.selection_is

      still_fixed : IsRight m tracker old q
          → (is_kind tried Finalization ≡ true → is_some proposal ≡ true) → (b : Bool)
          → is_kind tried Finalization ≡ b → of_kind new.certified Finalization ≡ true
          → is_fixed new.selection ≡ true
      still_fixed right for true e h = ap is_fixed (fixed_selection proposal fixes) ∙ fixes_any left.selection proposal (for e)
      still_fixed right for false e h =
          let before = right.fixed (sym (fixed_certified proposal fixes Finalization ∙ (t.others Finalization e).certified) ∙ h) in
          ap is_fixed (fixed_selection proposal fixes) ∙ fixes_fixed left.selection proposal (ap is_fixed t.selection ∙ before)

      -- with a certificate that is recorded
      pub right_given :
          (is_kind tried Finalization ≡ true → is_some proposal ≡ true) → IsRight m tracker old q
          → settled.mode ≡ tracker.mode → settled.participants ≡ tracker.participants
          → of_kind old.certified tried ≡ false
          → ((kind : Kind) → ReleasesKind x.same_digest tracker.holds settled.holds proposal
          (is_kind tried kind && is_released_in tracker.mode true) kind)
          → ((kind : Kind) → is_kind tried kind ≡ false
          → SameTrackerState tracker.holds settled.holds kind) → IsRight m settled new q
      right_given for right mode participants was releases others =
          record {
            some = right.some;
            quorum_is = right.quorum_is;
            bound = participants ∙ right.bound;
            within = λ kind i. within_by right others kind i (is_kind tried kind) refl;
            compacted = λ kind. compacted_by right mode was releases others kind (is_kind tried kind) refl;
            fixed = still_fixed right for (is_kind tried Finalization) refl;
          }
