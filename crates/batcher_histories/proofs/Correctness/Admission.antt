-- How a round stays right as it takes in a vote, and what an objection changes.
use Rattle.batcher_histories.proofs.Words.{◌≡◌, ◌∙◌, ◌≤◌, ◌+◌, ◌==◌, ◌++◌, ◌∷◌, [], ℕ, Bool, true, false, not, cond, ◌&&◌, ◌||◌, nat_le, nat_lt, List, Option}
use Rattle.batcher_histories.proofs.Words.{Some, None, is_some, refl, sym, ap, subst, arith, nat_tests, find, list_any, Participant, Proposal, Vote}
use Rattle.batcher_histories.proofs.Words.{NotarizeVote, NullifyVote, FinalizeVote, Kind, Finalization, Admission, Added, Duplicate, Conflicting, insert_by}
use Rattle.batcher_histories.proofs.Words.{count, is_some_and, Meaning, Config, sender_in, is_kind, kind_of, signer_of, is_vote_of, is_of_kind, same_proposal}
use Rattle.batcher_histories.proofs.Words.{count-append, is_kind-refl, is_kind-true, of_kind, Facts, TrackerState, VerifierState, TrackerView, RoundState}
use Rattle.batcher_histories.proofs.Words.{Observed, unseen, in_full, as_facts, is_seen, observed, observed_opposite, kept_vote, from_kept, from_facts}
use Rattle.batcher_histories.proofs.Words.{known_facts, outcome_of, outcome_by, conflicts_with, RecordsKind, is_released_in, AddsVote, is_buffered, selected_in}
use Rattle.batcher_histories.proofs.Words.{same_vote, addition, block_for, mismatch_reason, admission_beside, admission_after, admission_after_facts, MatchBool}
use Rattle.batcher_histories.proofs.Words.{none-some, and_parts, or_left, Known, known_in, admission_from, proposal_of, IsRight, AfterNetwork, rejection_to}
use Rattle.batcher_histories.proofs.Words.{rejection_by, admission, admission_by, admission_named, is_recorded, count_buffers, is_fixed, selects_fixed}

or_true : (b : Bool) → (b || true) ≡ true
or_true true = refl
or_true false = refl

module _ {X : Type 0} (test : X → Bool) (key : X → ℕ) (x : X) where
  found_first : (b : Bool) (o : Option X) → is_some (cond b (Some x) o) ≡ (b || is_some o)
  found_first true o = refl
  found_first false o = refl

  found_later : (b c : Bool) (y : X) (o p : Option X) → is_some p ≡ (c || is_some o)
      → is_some (cond b (Some y) p) ≡ (c || is_some (cond b (Some y) o))
  found_later true c y o p e = sym (or_true c)
  found_later false c y o p e = e

  -- something is found after an insert where it was before, or where the new element is it
  pub found-insert_by : (xs : List X) → is_some (find test (insert_by key x xs))
      ≡ (test x || is_some (find test xs))
  found-insert_by [] = found_first (test x) None
  found-insert_by (y ∷ ys) = found_either (nat_le (key x) (key y)) y ys (found-insert_by ys) where
    found_either : (b : Bool) (y : X) (ys : List X) → is_some (find test (insert_by key x ys))
        ≡ (test x || is_some (find test ys))
        → is_some (find test (cond b (x ∷ y ∷ ys) (y ∷ insert_by key x ys)))
        ≡ (test x || is_some (find test (y ∷ ys)))
    found_either true y ys e = found_first (test x) (find test (y ∷ ys))
    found_either false y ys e = found_later (test y) (test x) y (find test ys) (find test (insert_by key x ys)) e

any_none : {X : Type 0} (test : X → Bool) (xs : List X) → count test xs ≡ 0 → list_any test xs
    ≡ false
any_none test [] h = refl
any_none test (x ∷ xs) h = any_cons (test x) (count test xs) (list_any test xs) h (any_none test xs) where
  any_cons : (b : Bool) (n : ℕ) (rest : Bool) → cond b 1 0 + n ≡ 0 → (n ≡ 0 → rest ≡ false)
      → (b || rest) ≡ false
  any_cons true n rest h e = absurd (omega (arith, h))
  any_cons false n rest h e = e (omega (arith, h))

module _ {G D : Type 0} (held : VerifierState G D) (kind : Kind) (i : ℕ) where
  fewer_of : (xs : List (Vote G D)) → count (is_vote_of kind i) xs
      ≤ count (λ v. signer_of v == i) xs
  fewer_of [] = omega arith
  fewer_of (v ∷ vs) = both (is_kind (kind_of v) kind) (signer_of v == i) (count (is_vote_of kind i) vs) (count (λ w. signer_of w == i) vs) (fewer_of vs) where
    both : (b c : Bool) (m n : ℕ) → m ≤ n → cond (b && c) 1 0 + m ≤ cond c 1 0 + n
    both true c m n h = omega (arith, h)
    both false true m n h = omega (arith, h)
    both false false m n h = omega (arith, h)

  -- where no vote of the signer waits, none of the kind does
  pub not_buffered : count (λ v. signer_of v == i)
      (of_kind held.verified kind ++ of_kind held.pending kind) ≤ 0 → is_buffered held kind i
      ≡ false
  not_buffered h =
      let split = count-append (λ v. signer_of v == i) (of_kind held.verified kind) (of_kind held.pending kind) in
      let verified : list_any (is_vote_of kind i) (of_kind held.verified kind)
      ≡ false = any_none (is_vote_of kind i) (of_kind held.verified kind) (omega (arith, h, split, fewer_of (of_kind held.verified kind))) in
      let pending : list_any (is_vote_of kind i) (of_kind held.pending kind)
      ≡ false = any_none (is_vote_of kind i) (of_kind held.pending kind) (omega (arith, h, split, fewer_of (of_kind held.pending kind))) in
      rw (verified, pending)

-- what an added vote that is kept in full shows of its signer
pub record IsNew {G D : Type 0} (held : TrackerState G D) (vote : Vote G D) : Type 0 where
  pub full : of_kind held.compacted (kind_of vote) ≡ false
  pub none : kept_vote held (kind_of vote) (signer_of vote) ≡ None

module _ {G D : Type 0} (same : D → D → Bool) (held : TrackerState G D) (selected : Option (Proposal D))
    (vote : Vote G D) where
  new_if : (below : Bool) (compacted : Bool) (kept : Option (Vote G D)) (facts : Option Facts)
      → cond below (outcome_by same selected compacted
      (cond compacted (from_facts facts) (from_kept kept)) vote) (Duplicate (not compacted))
      ≡ Added true
      → (compacted ≡ false) × (kept ≡ None)
  new_if false compacted kept facts h = absurd (cc)
  new_if true true kept None h = absurd (cc)
  new_if true true kept (Some facts) h = by_conflict (conflicts_with same selected vote facts) h where
    by_conflict : (b : Bool) → cond b Conflicting (Duplicate false) ≡ Added true → (true ≡ false)
        × (kept ≡ None)
    by_conflict true h = absurd (cc)
    by_conflict false h = absurd (cc)
  new_if true false None facts h = (refl, refl)
  new_if true false (Some kept) facts h = absurd (cc)

  -- a vote that is added in full is the first of its kind and signer
  pub added_new : (participants : ℕ) → outcome_of same participants held selected vote ≡ Added true
      → IsNew held vote
  added_new participants h =
      let both = new_if (nat_lt (signer_of vote) participants) (of_kind held.compacted (kind_of vote)) (kept_vote held (kind_of vote) (signer_of vote))
      (known_facts held (kind_of vote) (signer_of vote)) h in
      record { full = both.0; none = both.1 }

module _ {X : Type 0} (test : X → Bool) (x : X) where
  -- a vote joins one of the two buffers at most
  joins_one : (k is_verified : Bool)
      → count test (cond (k && is_verified) (x ∷ []) []) + count test
      (cond (k && not is_verified) (x ∷ []) []) ≤ cond k (cond (test x) 1 0) 0
  joins_one true true = omega arith
  joins_one true false = omega arith
  joins_one false is_verified = omega arith

none_joins_other : (k s : Bool) → s ≡ false → cond k (cond s 1 0) 0 ≤ 0
none_joins_other true s e = rw e (omega arith)
none_joins_other false s e = omega arith

none_joins : (k : Bool) (n : ℕ) → k ≡ false → cond k n 0 ≤ 0
none_joins k n e = rw e (omega arith)

one_at_most : (k s : Bool) → cond k (cond s 1 0) 0 ≤ 1
one_at_most true true = omega arith
one_at_most true false = omega arith
one_at_most false s = omega arith

choose : {X : Type 0} (a b c d : Bool) (x y : X) → a ≡ true → b ≡ true → c ≡ false → d ≡ false
    → cond ((a && b) && (not c && not d)) x y ≡ x
choose a b c d x y e f g h = rw (e, f, g, h)

module _ {D K G C : Type 0} (m : Meaning D K G C) (same : D → D → Bool)
    (tracker after : TrackerView G D) (old : VerifierState G D) (quorum : ℕ)
    (right : IsRight m tracker old quorum)
    (selected : Option (Proposal D)) (is_recorded : Bool) (vote : Vote G D)
    (participants : after.participants ≡ tracker.participants) (mode : after.mode ≡ tracker.mode)
    (records : (kind : Kind) → RecordsKind same tracker.holds after.holds selected is_recorded vote kind) where
  still_some : (b : Bool) (kind : Kind) (i : ℕ) → of_kind after.holds.kept kind
      ≡ cond b (insert_by signer_of vote (of_kind tracker.holds.kept kind))
      (of_kind tracker.holds.kept kind)
      → is_some (kept_vote after.holds kind i)
      ≡ ((b && is_vote_of kind i vote) || is_some (kept_vote tracker.holds kind i))
  still_some true kind i e =
      ap (λ xs. is_some (find (is_vote_of kind i) xs)) e ∙ found-insert_by (is_vote_of kind i) signer_of vote (of_kind tracker.holds.kept kind)
  still_some false kind i e = ap (λ xs. is_some (find (is_vote_of kind i) xs)) e

  still_more : (a b : Bool) (n : ℕ) → n ≤ cond b 1 0 → n ≤ cond (a || b) 1 0
  still_more true true n h = h
  still_more true false n h = omega (arith, h)
  still_more false b n h = h

  -- a vote that is recorded and doesn't wait
  pub right_recorded : IsRight m after old quorum
  right_recorded = record {
    some = right.some;
    quorum_is = right.quorum_is;
    bound = participants ∙ right.bound;
    within = λ kind i.
        let now = still_some _ kind i (records kind).kept in
        rw now (still_more _ (is_some (kept_vote tracker.holds kind i)) _ (right.within kind i));
    compacted = λ kind. (records kind).compacted ∙ right.compacted kind ∙ ap (λ w. is_released_in w (of_kind old.certified kind)) (sym mode);
    fixed = right.fixed;
  }

  module _ (new : VerifierState G D) (is_verified : Bool) (adds : AddsVote same old vote is_verified new)
      (fresh : IsNew tracker.holds vote) (e : is_recorded ≡ true) where
    -- what is kept of the vote's kind after it
    kept_after : of_kind after.holds.kept (kind_of vote)
        ≡ insert_by signer_of vote (of_kind tracker.holds.kept (kind_of vote))
    kept_after = (records (kind_of vote)).kept ∙ recorded_full where
      own_kind : is_of_kind (kind_of vote) vote ≡ true
      own_kind = is_kind-refl (kind_of vote)

      unseen_own : is_seen (observed tracker.holds (kind_of vote) (signer_of vote)) ≡ false
      unseen_own = rw (fresh.full, fresh.none)

      recorded_full : cond ((is_of_kind (kind_of vote) vote && is_recorded)
          && (not (of_kind tracker.holds.compacted (kind_of vote))
          && not (is_seen (observed tracker.holds (kind_of vote) (signer_of vote)))))
          (insert_by signer_of vote (of_kind tracker.holds.kept (kind_of vote)))
          (of_kind tracker.holds.kept (kind_of vote))
          ≡ insert_by signer_of vote (of_kind tracker.holds.kept (kind_of vote))
      recorded_full = choose _ _ _ _ _ _ own_kind e fresh.full unseen_own

    is_there : is_some (kept_vote after.holds (kind_of vote) (signer_of vote)) ≡ true
    is_there =
        ap (λ xs. is_some (find (is_vote_of (kind_of vote) (signer_of vote)) xs)) kept_after
        ∙ found-insert_by (is_vote_of (kind_of vote) (signer_of vote)) signer_of vote (of_kind tracker.holds.kept (kind_of vote))
        ∙ or_left (is_vote_of (kind_of vote) (signer_of vote) vote) _ own_vote where
          own_vote : is_vote_of (kind_of vote) (signer_of vote) vote ≡ true
          own_vote = let both : (signer_of vote == signer_of vote) ≡ true = grind (arith, nat_tests) in rw (is_kind-refl (kind_of vote), both)

    joined : (kind : Kind) (i : ℕ) → count (λ v. signer_of v == i)
        (of_kind new.verified kind ++ of_kind new.pending kind)
        ≤ count (λ v. signer_of v == i) (of_kind old.verified kind ++ of_kind old.pending kind) +
        cond (is_of_kind kind vote) (cond (signer_of vote == i) 1 0) 0
    joined kind i =
        omega (
          arith,
          count_buffers same old new kind _ _ (adds.buffers kind) (λ v. signer_of v == i),
          joins_one (λ v. signer_of v == i) vote (is_of_kind kind vote) is_verified,
        )

    none_waited : count (λ v. signer_of v == signer_of vote)
        (of_kind old.verified (kind_of vote) ++ of_kind old.pending (kind_of vote)) ≤ 0
    none_waited = rw fresh.none at (right.within (kind_of vote) (signer_of vote))

    IsEligible : Kind → ℕ → Type 0
    IsEligible kind i = count (λ v. signer_of v == i) (of_kind new.verified kind ++ of_kind new.pending kind)
        ≤ cond (is_some (kept_vote after.holds kind i)) 1 0

    eligible_own : IsEligible (kind_of vote) (signer_of vote)
    unfolding IsEligible
    eligible_own =
        rw is_there (omega (
          arith,
          joined (kind_of vote) (signer_of vote),
          none_waited,
          one_at_most (is_of_kind (kind_of vote) vote)
              (signer_of vote == signer_of vote),
        ))

    eligible_still : (kind : Kind) (i : ℕ)
        → cond (is_of_kind kind vote) (cond (signer_of vote == i) 1 0) 0 ≤ 0 → IsEligible kind i
    unfolding IsEligible
    eligible_still kind i zero =
        let now = still_some _ kind i (records kind).kept in
        rw now (still_more _ (is_some (kept_vote tracker.holds kind i)) _ (omega (arith, joined kind i, zero, right.within kind i)))

    eligible_all : (kind : Kind) (i : ℕ) (k s : Bool) → is_of_kind kind vote ≡ k
        → (signer_of vote == i) ≡ s → IsEligible kind i
    eligible_all kind i true true f h =
        let signer : signer_of vote ≡ i = grind (arith, nat_tests) in
        subst (λ j. IsEligible kind j) signer (subst (λ other. IsEligible other (signer_of vote)) (is_kind-true (kind_of vote) kind f) eligible_own)
    eligible_all kind i true false f h = eligible_still kind i (none_joins_other _ _ h)
    eligible_all kind i false s f h = eligible_still kind i (none_joins _ (cond (signer_of vote == i) 1 0) f)

    -- one that waits too
    pub right_eligible : IsRight m after new quorum
    unfolding IsEligible
    right_eligible = record {
      some = right.some;
      quorum_is = right.quorum_is;
      bound = participants ∙ right.bound;
      within = λ kind i. eligible_all kind i (is_of_kind kind vote) (signer_of vote == i) refl refl;
      compacted =
          λ kind. (records kind).compacted ∙ right.compacted kind ∙ ap (λ w. is_released_in w (of_kind old.certified kind)) (sym mode)
          ∙ ap (λ b. is_released_in after.mode b) (sym (adds.buffers kind).certified);
      fixed = λ h. ap is_fixed adds.selection ∙ selects_fixed old.selection _ (right.fixed (sym (adds.buffers Finalization).certified ∙ h));
    }

not_recorded : {X : Type 0} (k b : Bool) (x y : X) → y ≡ cond ((k && false) && b) x y
not_recorded true b x y = refl
not_recorded false b x y = refl

not_of_kind : {X : Type 0} (k r b : Bool) (x y : X) → k ≡ false → y ≡ cond ((k && r) && b) x y
not_of_kind k r b x y e = rw e

not_then : {X : Type 0} (a b : Bool) (x y : X) → b ≡ false → y ≡ cond (a && b) x y
not_then true b x y e = rw e
not_then false b x y e = refl

no_seen : (c s : Bool) → s ≡ true → (not c && not s) ≡ false
no_seen true s e = refl
no_seen false s e = rw e

and_false : (b c : Bool) → c ≡ false → (b && c) ≡ false
and_false true c e = e
and_false false c e = refl

full_if : {G D : Type 0} (c : Bool) (facts : Option Facts) (kept : Option (Vote G D))
    (vote : Vote G D) → cond c (from_facts facts) (from_kept kept) ≡ in_full vote → c ≡ false
full_if true None kept vote e = absurd (cc)
full_if true (Some facts) kept vote e = absurd (cc)
full_if false facts kept vote e = refl

module _ {G D : Type 0} where
  pub either_refused : (b : Bool) (x y : Admission G D) → x.added ≡ false → y.added ≡ false
      → (cond b x y).added ≡ false
  either_refused true x y e f = e
  either_refused false x y e f = f

module _ {G D : Type 0} (same : D → D → Bool) (equal : G → G → Bool) where
  -- beside a kept vote none is added,
  beside_refused : (kept vote : Vote G D) → (admission_beside same equal kept vote).added ≡ false
  beside_refused (NotarizeVote kept) (NotarizeVote vote) =
      either_refused (same_proposal same kept.proposal vote.proposal) _ _
      (either_refused (same_vote same equal (NotarizeVote kept) (NotarizeVote vote)) _ _ refl refl) refl
  beside_refused (NotarizeVote kept) (NullifyVote vote) = refl
  beside_refused (NotarizeVote kept) (FinalizeVote vote) = refl
  beside_refused (NullifyVote kept) (NotarizeVote vote) = refl
  beside_refused (NullifyVote kept) (NullifyVote vote) = either_refused (same_vote same equal (NullifyVote kept) (NullifyVote vote)) _ _ refl refl
  beside_refused (NullifyVote kept) (FinalizeVote vote) = refl
  beside_refused (FinalizeVote kept) (NotarizeVote vote) = refl
  beside_refused (FinalizeVote kept) (NullifyVote vote) = refl
  beside_refused (FinalizeVote kept) (FinalizeVote vote) =
      either_refused (same_proposal same kept.proposal vote.proposal) _ _
      (either_refused (same_vote same equal (FinalizeVote kept) (FinalizeVote vote)) _ _ refl refl) refl

-- after an opposite one neither,
after_refused : {G D : Type 0} (earlier vote : Vote G D) → (admission_after earlier vote).added
    ≡ false
after_refused (NotarizeVote earlier) (NotarizeVote vote) = refl
after_refused (NotarizeVote earlier) (NullifyVote vote) = refl
after_refused (NotarizeVote earlier) (FinalizeVote vote) = refl
after_refused (NullifyVote earlier) (NotarizeVote vote) = refl
after_refused (NullifyVote earlier) (NullifyVote vote) = refl
after_refused (NullifyVote earlier) (FinalizeVote vote) = refl
after_refused (FinalizeVote earlier) (NotarizeVote vote) = refl
after_refused (FinalizeVote earlier) (NullifyVote vote) = refl
after_refused (FinalizeVote earlier) (FinalizeVote vote) = refl

-- nor after facts of one.
facts_refused : {G D : Type 0} (vote : Vote G D) → (admission_after_facts vote).added ≡ false
facts_refused (NotarizeVote vote) = refl
facts_refused (NullifyVote vote) = refl
facts_refused (FinalizeVote vote) = refl

-- WHICH VOTES ARE ADDED
module _ {D K G C : Type 0} (x : Config D K G C) (known : Known G D) (vote : Vote G D) where
  added_by : (selected : Option (Proposal D)) (first : Observed G D)
      → (admission_by x selected first vote).added ≡ not (is_seen first)
  added_by selected unseen = refl
  added_by selected (in_full kept) = beside_refused x.same_digest x.same_signature kept vote
  added_by selected (as_facts facts) = either_refused (conflicts_with x.same_digest selected vote facts) _ _ refl refl

  added_named : (opposite : Observed G D) → (admission_named x known opposite vote).added
      ≡ (not (is_seen opposite) && not (is_seen (known.observed (kind_of vote) (signer_of vote))))
  added_named unseen = added_by (proposal_of known.selection) (known.observed (kind_of vote) (signer_of vote))
  added_named (in_full earlier) = after_refused earlier vote
  added_named (as_facts facts) = facts_refused vote

  -- A network vote is added where it names its sender, and nothing was seen that excludes it.
  pub added_from : (index : Option Participant) → (admission_from x known index vote).added
      ≡ (is_some_and index (λ i. i.0 == signer_of vote) && (not (is_seen (known.opposite vote))
      && not (is_seen (known.observed (kind_of vote) (signer_of vote)))))
  added_from None = refl
  added_from (Some i) = by_name (i.0 == signer_of vote)
    where
      by_name : (named : Bool) →
          (cond named (admission_named x known (known.opposite vote) vote)
          (block_for (mismatch_reason (kind_of vote)) None)).added
          ≡ (named && (not (is_seen (known.opposite vote))
          && not (is_seen (known.observed (kind_of vote) (signer_of vote)))))
      by_name true = added_named (known.opposite vote)
      by_name false = refl

pub same_number : (a b : ℕ) → not (a == b) ≡ false → a ≡ b
same_number a b h = grind (arith, nat_tests, h)

-- what isn't added changes no buffer
unchanged_if : {G D : Type 0} (same : D → D → Bool) (held : VerifierState G D) (vote : Vote G D)
    (a b : Bool) → a ≡ false → MatchBool (a && b) (AddsVote same held vote false held) (held ≡ held)
unchanged_if same held vote a b e = rw e refl

module _ {D K G C : Type 0} (x : Config D K G C) (held : RoundState G D) (sender : K) (i : Participant)
    (vote : Vote G D) (answer : Admission G D) (known : sender_in x sender ≡ Some i)
    (own : i.0 ≡ signer_of vote) where
  named : admission x held sender vote
      ≡ admission_named x (known_in held) (observed_opposite held.tracked vote) vote
  named = let yes : (i.0 == signer_of vote) ≡ true = grind (arith, nat_tests) in rw (known, yes)

  opposed : (o : Observed G D) → observed_opposite held.tracked vote ≡ o → is_seen o ≡ true → answer
      ≡ admission_named x (known_in held) o vote → answer.added ≡ false
      → AfterNetwork x held sender vote answer held
  opposed o e seen told refused =
      let none : is_recorded x held sender vote ≡ false = and_false _ (not (is_seen (observed_opposite held.tracked vote))) (rw (e, seen)) in record {
        answer_is = told ∙ ap (λ w. admission_named x (known_in held) w vote) (sym e) ∙ sym named;
        forwarded = refl;
        tracked = λ kind. subst (λ r. RecordsKind x.same_digest held.tracked held.tracked (selected_in held.buffered) r vote kind) (sym none) (record {
          compacted = refl;
          kept = not_recorded (is_of_kind kind vote) _ _ _;
          facts = not_recorded (is_of_kind kind vote) _ _ _;
        });
        buffered = unchanged_if x.same_digest held.buffered vote answer.added _ refused;
      }

  module _ (kept : Vote G D) (e : observed_opposite held.tracked vote ≡ unseen)
      (f : observed held.tracked (kind_of vote) (signer_of vote) ≡ in_full kept) where
    full : of_kind held.tracked.compacted (kind_of vote) ≡ false
    full =
        full_if (of_kind held.tracked.compacted (kind_of vote)) (known_facts held.tracked (kind_of vote) (signer_of vote))
        (kept_vote held.tracked (kind_of vote) (signer_of vote)) kept f

    recorded_own : (r : Bool) → RecordsKind x.same_digest held.tracked held.tracked
        (selected_in held.buffered) r vote (kind_of vote)
    recorded_own r = record {
      compacted = refl;
      kept =
          not_then _ _ _ _ (no_seen (of_kind held.tracked.compacted (kind_of vote)) (is_seen (observed held.tracked (kind_of vote) (signer_of vote)))
          (ap is_seen f));
      facts = not_then _ _ _ _ full;
    }

    recorded_any : (r : Bool) (kind : Kind) (k : Bool) → is_of_kind kind vote ≡ k
        → RecordsKind x.same_digest held.tracked held.tracked (selected_in held.buffered) r vote
        kind
    recorded_any r kind true h =
        subst (λ other. RecordsKind x.same_digest held.tracked held.tracked (selected_in held.buffered) r vote other)
        (is_kind-true (kind_of vote) kind h) (recorded_own r)
    recorded_any r kind false h = record {
      compacted = refl;
      kept = not_of_kind (is_of_kind kind vote) r _ _ _ h;
      facts = not_of_kind (is_of_kind kind vote) r _ _ _ h;
    }

    beside_kept : answer ≡ admission_beside x.same_digest x.same_signature kept vote
        → AfterNetwork x held sender vote answer held
    beside_kept told = record {
      answer_is =
          told ∙ ap (λ w. admission_by x (selected_in held.buffered) w vote) (sym f)
          ∙ ap (λ w. admission_named x (known_in held) w vote) (sym e) ∙ sym named;
      forwarded = refl;
      tracked = λ kind. recorded_any (is_recorded x held sender vote) kind (is_of_kind kind vote) refl;
      buffered =
          unchanged_if x.same_digest held.buffered vote answer.added _ (ap (λ a. a.added) told ∙ beside_refused x.same_digest x.same_signature kept vote);
    }

  objected_by : (o w : Observed G D) → observed_opposite held.tracked vote ≡ o
      → observed held.tracked (kind_of vote) (signer_of vote) ≡ w → rejection_by x o w vote
      ≡ Some answer → AfterNetwork x held sender vote answer held
  objected_by (in_full earlier) w e f h =
      let told : answer ≡ admission_after earlier vote = cc in opposed (in_full earlier) e refl told (ap (λ a. a.added) told ∙ after_refused earlier vote)
  objected_by (as_facts facts) w e f h =
      let told : answer ≡ admission_after_facts vote = cc in opposed (as_facts facts) e refl told (ap (λ a. a.added) told ∙ facts_refused vote)
  objected_by unseen (in_full kept) e f h = let told : answer ≡ admission_beside x.same_digest x.same_signature kept vote = cc in beside_kept kept e f told
  objected_by unseen unseen e f h = absurd (cc)
  objected_by unseen (as_facts facts) e f h = absurd (cc)

  -- a vote that is not recorded is answered, and changes nothing
  pub objected : rejection_to x held vote ≡ Some answer
      → AfterNetwork x held sender vote answer held
  objected h = objected_by (observed_opposite held.tracked vote) (observed held.tracked (kind_of vote) (signer_of vote)) refl refl h

-- A vote that doesn't name its sender is refused, and changes nothing.
pub mismatched : {D K G C : Type 0} (x : Config D K G C) (held : RoundState G D) (sender : K)
    (i : Participant) (vote : Vote G D) (answer : Admission G D) → sender_in x sender ≡ Some i
    → (i.0 == signer_of vote) ≡ false
    → answer ≡ block_for (mismatch_reason (kind_of vote)) None
    → AfterNetwork x held sender vote answer held
mismatched x held sender i vote answer known other told =
    record {
      answer_is = told ∙ sym named;
      forwarded = refl;
      tracked = λ kind. subst (λ r. RecordsKind x.same_digest held.tracked held.tracked (selected_in held.buffered) r vote kind) (sym none) (record {
        compacted = refl;
        kept = not_recorded (is_of_kind kind vote) _ _ _;
        facts = not_recorded (is_of_kind kind vote) _ _ _;
      });
      buffered = unchanged_if x.same_digest held.buffered vote answer.added _ (ap (λ a. a.added) told);
    }
  where
    named : admission x held sender vote ≡ block_for (mismatch_reason (kind_of vote)) None
    named = rw (known, other)

    none : is_recorded x held sender vote ≡ false
    none = rw (known, other)

-- A vote that names its sender and that no other excludes is recorded.
module _ {D K G C : Type 0} (x : Config D K G C) (old : RoundState G D) (sender : K) (i : Participant)
    (vote : Vote G D) (known : sender_in x sender ≡ Some i) (own : i.0 ≡ signer_of vote)
    (none : rejection_to x old vote ≡ None) where
  unopposed : (o : Observed G D) → rejection_by x o
      (observed old.tracked (kind_of vote) (signer_of vote)) vote ≡ None → (is_seen o ≡ false)
      × (admission_named x (known_in old) o vote ≡ admission_by x (selected_in old.buffered)
      (observed old.tracked (kind_of vote) (signer_of vote)) vote)
  unopposed unseen h = (refl, refl)
  unopposed (in_full earlier) h = absurd (none-some _ (sym h))
  unopposed (as_facts facts) h = absurd (none-some _ (sym h))

  -- what it is answered
  pub unopposed_admission : admission x old sender vote
      ≡ admission_by x (selected_in old.buffered)
      (observed old.tracked (kind_of vote) (signer_of vote)) vote
  unopposed_admission = named x old sender i vote (admission x old sender vote) known own ∙ (unopposed (observed_opposite old.tracked vote) none).1

  unopposed_recorded : is_recorded x old sender vote ≡ true
  unopposed_recorded =
      let yes : (i.0 == signer_of vote) ≡ true = grind (arith, nat_tests) in rw (known, yes, (unopposed (observed_opposite old.tracked vote) none).0)

  -- and what that changes
  pub unopposed_after : (new : RoundState G D) (answer : Admission G D)
      → answer ≡ admission_by x (selected_in old.buffered)
      (observed old.tracked (kind_of vote) (signer_of vote)) vote
      → ((kind : Kind) → RecordsKind x.same_digest old.tracked new.tracked
      (selected_in old.buffered) true vote kind)
      → MatchBool (answer.added && not (of_kind old.tracked.compacted (kind_of vote)))
      (AddsVote x.same_digest old.buffered vote false new.buffered)
      (new.buffered ≡ old.buffered)
      → new.forwarded ≡ old.forwarded → AfterNetwork x old sender vote answer new
  unopposed_after new answer told tracked buffered forwarded =
      record {
        answer_is = told ∙ sym unopposed_admission;
        forwarded = forwarded;
        tracked =
            λ kind. subst (λ r. RecordsKind x.same_digest old.tracked new.tracked (selected_in old.buffered) r vote kind)
            (sym unopposed_recorded) (tracked kind);
        buffered = buffered;
      }

unseen_is : {G D : Type 0} (o : Observed G D) → not (is_seen o) ≡ true → o ≡ unseen
unseen_is unseen h = refl
unseen_is (in_full vote) h = absurd (cc)
unseen_is (as_facts facts) h = absurd (cc)

-- A vote beside which none was seen is excluded by no other, and is added.
module _ {D K G C : Type 0} (x : Config D K G C) (held : RoundState G D) (vote : Vote G D)
    (first : (not (is_seen (observed_opposite held.tracked vote))
    && not (is_seen (observed held.tracked (kind_of vote) (signer_of vote)))) ≡ true) where
  none_seen : (observed_opposite held.tracked vote ≡ unseen)
      × (observed held.tracked (kind_of vote) (signer_of vote) ≡ unseen)
  none_seen = let both = and_parts _ _ first in (unseen_is _ both.0, unseen_is _ both.1)

  pub first_unopposed : rejection_to x held vote ≡ None
  first_unopposed = rw (none_seen.0, none_seen.1) refl

  pub first_added : (selected : Option (Proposal D))
      → admission_by x selected (observed held.tracked (kind_of vote) (signer_of vote)) vote
      ≡ addition vote
  first_added selected = ap (λ o. admission_by x selected o vote) none_seen.1
