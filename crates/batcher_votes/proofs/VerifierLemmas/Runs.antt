-- Votes as their subjects and attestations side by side, and runs of one subject.
use Rattle.batcher_votes.proofs.Words.{◌≡◌, ◌≤◌, ◌<◌, ◌+◌, ℕ, zero, suc, Bool, true, false, Some, List, [], ◌∷◌, ◌++◌, length, map, filter, take, drop, get_or}
use Rattle.batcher_votes.proofs.Words.{set, refl, ap, sym, subst, arith, ◌==◌, ◌||◌, ◌&&◌, ◌-◌, ◌∙◌, cond, replicate, length-append, append-nil, add-one, paste}
use Rattle.batcher_votes.proofs.Words.{list_any, list_all, drop-drop, drop_more, length-drop, length-replicate, length-take-le, take-append-drop, take_at}
use Rattle.batcher_votes.proofs.Words.{drop-paste, length-paste, take-paste, filter-append, Attestation, Proposal, Subject, NotarizeSubject, NullifySubject}
use Rattle.batcher_votes.proofs.Words.{FinalizeSubject, Vote, NotarizeVote, NullifyVote, FinalizeVote, vote_for, attestations_of, have_one_subject, subject_of}
use Rattle.batcher_votes.proofs.Words.{attestation_of, signer_of, same_subject, is_eligible, Run, votes_from, may_be_eligible, one_subject, one_subject_in}
use Rattle.batcher_votes.proofs.Words.{subjects_of_runs, retained_attestations}
use Rattle.std.proofs.Common.{append_assoc}

-- a vote is that of its subject and attestation
pub vote_again : {G D : Type 0} (v : Vote G D) → vote_for (subject_of v) (attestation_of v) ≡ v
vote_again (NotarizeVote v) = refl
vote_again (NullifyVote v) = refl
vote_again (FinalizeVote v) = refl

pub attestation_again : {G D : Type 0} (s : Subject D) (a : Attestation G)
    → attestation_of (vote_for s a) ≡ a
attestation_again (NotarizeSubject p) a = refl
attestation_again (NullifySubject r) a = refl
attestation_again (FinalizeSubject p) a = refl

pub subject_again : {G D : Type 0} (s : Subject D) (a : Attestation G) → subject_of (vote_for s a)
    ≡ s
subject_again (NotarizeSubject p) a = refl
subject_again (NullifySubject r) a = refl
subject_again (FinalizeSubject p) a = refl

pub waits_again : {G D : Type 0} (same : D → D → Bool) (p : Proposal D) (s : Subject D)
    (a : Attestation G) → is_eligible same (Some p) (vote_for s a) ≡ may_be_eligible same p s
waits_again same p (NotarizeSubject q) a = refl
waits_again same p (NullifySubject r) a = refl
waits_again same p (FinalizeSubject q) a = refl

module _ {G D : Type 0} where
  pub attestations_from : (subjects : List (Subject D)) (attestations : List (Attestation G))
      → length subjects ≡ length attestations → attestations_of (votes_from subjects attestations)
      ≡ attestations
  attestations_from [] [] h = refl
  attestations_from [] (a ∷ attestations) h = absurd (omega arith)
  attestations_from (s ∷ subjects) [] h = absurd (omega arith)
  attestations_from (s ∷ subjects) (a ∷ attestations) h = rw (attestation_again s a, attestations_from subjects attestations (omega arith))

  pub length-from : (subjects : List (Subject D)) (attestations : List (Attestation G))
      → length subjects ≡ length attestations → length (votes_from subjects attestations)
      ≡ length attestations
  length-from [] [] h = refl
  length-from [] (a ∷ attestations) h = absurd (omega arith)
  length-from (s ∷ subjects) [] h = absurd (omega arith)
  length-from (s ∷ subjects) (a ∷ attestations) h = ap suc (length-from subjects attestations (omega arith))

  pub any-from : (i : ℕ) (subjects : List (Subject D)) (attestations : List (Attestation G))
      → length subjects ≡ length attestations
      → list_any (λ v. signer_of v == i) (votes_from subjects attestations)
      ≡ list_any (λ a. a.signer.0 == i) attestations
  any-from i [] [] h = refl
  any-from i [] (a ∷ attestations) h = absurd (omega arith)
  any-from i (s ∷ subjects) [] h = absurd (omega arith)
  any-from i (s ∷ subjects) (a ∷ attestations) h =
      let here : (signer_of (vote_for s a) == i) ≡ (a.signer.0 == i) = ap (λ x. x.signer.0 == i) (attestation_again s a) in
      let others = any-from i subjects attestations (omega arith) in
      ap (λ b. b || list_any (λ v. signer_of v == i) (votes_from subjects attestations)) here ∙ ap (λ b. (a.signer.0 == i) || b) others

  pub append-from : (subjects more_subjects : List (Subject D))
      (attestations more : List (Attestation G)) → length subjects ≡ length attestations
      → votes_from (subjects ++ more_subjects) (attestations ++ more)
      ≡ votes_from subjects attestations ++ votes_from more_subjects more
  append-from [] more_subjects [] more h = refl
  append-from [] more_subjects (a ∷ attestations) more h = absurd (omega arith)
  append-from (s ∷ subjects) more_subjects [] more h = absurd (omega arith)
  append-from (s ∷ subjects) more_subjects (a ∷ attestations) more h =
      ap (λ votes. vote_for s a ∷ votes) (append-from subjects more_subjects attestations more (omega arith))

  pub push-from : (subjects : List (Subject D)) (attestations : List (Attestation G))
      (vote : Vote G D) → length subjects ≡ length attestations
      → votes_from (subjects ++ subject_of vote ∷ []) (attestations ++ attestation_of vote ∷ [])
      ≡ votes_from subjects attestations ++ vote ∷ []
  push-from subjects attestations vote h = rw (append-from subjects (subject_of vote ∷ []) attestations (attestation_of vote ∷ []) h, vote_again vote)

  pub repeat-from : (s : Subject D) (attestations : List (Attestation G))
      → votes_from (replicate (length attestations) s) attestations ≡ map (vote_for s) attestations
  repeat-from s [] = refl
  repeat-from s (a ∷ attestations) = ap (λ votes. vote_for s a ∷ votes) (repeat-from s attestations)

-- a whole slice that is written back
pub written_back : {X : Type 0} (items new : List X) (n : ℕ) → length new ≡ length items → n
    ≡ length items → take n (new ++ drop (length new) items) ≡ new
written_back items new n same long = take_at new (drop (length new) items) n (same ∙ sym long)

module _ {G D : Type 0} (same : D → D → Bool) where
  all-from : (s : Subject D) (subjects : List (Subject D)) (attestations : List (Attestation G))
      → length subjects ≡ length attestations
      → list_all (λ v. same_subject same s (subject_of v)) (votes_from subjects attestations)
      ≡ list_all (λ t. same_subject same s t) subjects
  all-from s [] [] h = refl
  all-from s [] (a ∷ attestations) h = absurd (omega arith)
  all-from s (t ∷ subjects) [] h = absurd (omega arith)
  all-from s (t ∷ subjects) (a ∷ attestations) h =
      let others = all-from s subjects attestations (omega arith) in
      ap (λ x. same_subject same s x && list_all (λ v. same_subject same s (subject_of v)) (votes_from subjects attestations)) (subject_again t a)
      ∙ ap (λ b. same_subject same s t && b) others

  pub one-from : (subjects : List (Subject D)) (attestations : List (Attestation G))
      → length subjects ≡ length attestations
      → have_one_subject same (votes_from subjects attestations) ≡ one_subject same subjects
  one-from [] [] h = refl
  one-from [] (a ∷ attestations) h = absurd (omega arith)
  one-from (s ∷ subjects) [] h = absurd (omega arith)
  one-from (s ∷ subjects) (a ∷ attestations) h =
      ap (λ x. list_all (λ v. same_subject same x (subject_of v)) (votes_from subjects attestations)) (subject_again s a)
      ∙ all-from s subjects attestations (omega arith)

-- Runs, and the votes of them.
length-spread_run : {D : Type 0} (s : Subject D) (n : ℕ) (runs : List (Run D))
    → length (replicate n s ++ subjects_of_runs runs) ≡ n + length (subjects_of_runs runs)
length-spread_run s n runs = length-append (replicate n s) (subjects_of_runs runs) ∙ ap (λ k. k + length (subjects_of_runs runs)) (length-replicate n s)

pub subjects_of_runs-append : {D : Type 0} (runs : List (Run D)) (run : Run D)
    → subjects_of_runs (runs ++ run ∷ [])
    ≡ subjects_of_runs runs ++ (run.subject ∷ replicate run.more run.subject)
subjects_of_runs-append [] run = ap (λ xs. run.subject ∷ xs) (append-nil (replicate run.more run.subject))
subjects_of_runs-append (r ∷ runs) run =
    ap (λ xs. r.subject ∷ xs)
    (ap (λ xs. replicate r.more r.subject ++ xs) (subjects_of_runs-append runs run)
    ∙ sym (append_assoc (replicate r.more r.subject) (subjects_of_runs runs) (run.subject ∷ replicate run.more run.subject)))

one_more : {X : Type 0} (n : ℕ) (x : X) → replicate (suc n) x ++ []
    ≡ (replicate n x ++ []) ++ x ∷ []
one_more zero x = refl
one_more (suc n) x = ap (λ xs. x ∷ xs) (one_more n x)

-- the last run has one vote more
pub subjects_of_runs-grow : {D : Type 0} (runs : List (Run D)) (n : ℕ) (run : Run D)
    (subject : Subject D)
    → length runs ≡ n + 1 → run ≡ get_or runs n run → run.subject ≡ subject
    → subjects_of_runs (set runs n (record { subject = run.subject; more = run.more + 1 }))
    ≡ subjects_of_runs runs ++ subject ∷ []
subjects_of_runs-grow [] n run subject long here is = absurd (omega arith)
subjects_of_runs-grow (r ∷ []) zero run subject long here is =
    let grown = ap (λ k. replicate k run.subject ++ []) (add-one run.more) ∙ one_more run.more run.subject in
    let whole : subjects_of_runs (set (run ∷ []) 0 (record { subject = run.subject; more = run.more + 1 })) ≡ subjects_of_runs (run ∷ []) ++ run.subject ∷ []
    = ap (λ xs. run.subject ∷ xs) grown in
    subst (λ t. subjects_of_runs (set (t ∷ []) 0 (record { subject = run.subject; more = run.more + 1 })) ≡ subjects_of_runs (t ∷ []) ++ subject ∷ []) here
    (subst (λ u. subjects_of_runs (set (run ∷ []) 0 (record { subject = run.subject; more = run.more + 1 })) ≡ subjects_of_runs (run ∷ []) ++ u ∷ []) is whole)
subjects_of_runs-grow (r ∷ (t ∷ runs)) zero run subject long here is = absurd (omega arith)
subjects_of_runs-grow (r ∷ runs) (suc n) run subject long here is =
    ap (λ xs. r.subject ∷ xs)
    (ap (λ xs. replicate r.more r.subject ++ xs) (subjects_of_runs-grow runs n run subject (omega arith) here is)
    ∙ sym (append_assoc (replicate r.more r.subject) (subjects_of_runs runs) (subject ∷ [])))

module _ {D : Type 0} (same : D → D → Bool) where
  all-replicate : (s t : Subject D) (n : ℕ) (others : List (Subject D)) → same_subject same s t
      ≡ true → list_all (λ u. same_subject same s u) (replicate n t ++ others)
      ≡ list_all (λ u. same_subject same s u) others
  all-replicate s t zero others e = refl
  all-replicate s t (suc n) others e = rw e (all-replicate s t n others e)

  mutual_all : (s t : Subject D) (n : ℕ) (others : List (Subject D)) (b : Bool)
      → same_subject same s t ≡ b
      → (b && list_all (λ u. same_subject same s u) (replicate n t ++ others))
      ≡ (b && list_all (λ u. same_subject same s u) others)
  mutual_all s t n others true e = all-replicate s t n others e
  mutual_all s t n others false e = refl

  all-subjects_of_runs : (s : Subject D) (runs : List (Run D))
      → list_all (λ u. same_subject same s u) (subjects_of_runs runs)
      ≡ list_all (λ run. same_subject same s run.subject) runs
  all-subjects_of_runs s [] = refl
  all-subjects_of_runs s (r ∷ runs) =
      mutual_all s r.subject r.more (subjects_of_runs runs) (same_subject same s r.subject) refl
      ∙ ap (λ b. same_subject same s r.subject && b) (all-subjects_of_runs s runs)

  -- all votes have one subject where all runs have
  pub one-subjects_of_runs : ((s : Subject D) → same_subject same s s ≡ true)
      → (runs : List (Run D))
      → one_subject_in same runs ≡ one_subject same (subjects_of_runs runs)
  one-subjects_of_runs itself [] = refl
  one-subjects_of_runs itself (first ∷ others) =
      let s = first.subject in
      sym (all-replicate s s first.more (subjects_of_runs others) (itself s) ∙ all-subjects_of_runs s others)

-- a run joins as many attestations
pub run_joins : {G D : Type 0} (subjects : List (Subject D))
    (attestations more : List (Attestation G)) (s : Subject D) → length subjects
    ≡ length attestations → length (subjects ++ replicate (length more) s)
    ≡ length (attestations ++ more)
run_joins subjects attestations more s long =
    length-append subjects (replicate (length more) s) ∙ (ap (λ n. length subjects + n) (length-replicate (length more) s)
    ∙ (ap (λ n. n + length more) long ∙ sym (length-append attestations more)))

-- a run of as many as there are
pub as_many : {X : Type 0} (x : X) (count : ℕ) → 1 ≤ count → x ∷ replicate (count - 1) x
    ≡ replicate count x
as_many x zero some = absurd (omega arith)
as_many x (suc n) some = let same : suc n - 1 ≡ n = omega arith in ap (λ k. x ∷ replicate k x) same

-- what is in one place is one
pub same_item : {X : Type 0} (xs : List X) (i : ℕ) (x y : X) → i < length xs → x ≡ get_or xs i x → y
    ≡ get_or xs i y → x ≡ y
same_item [] i x y below at_x at_y = absurd (omega arith)
same_item (z ∷ xs) zero x y below at_x at_y = at_x ∙ sym at_y
same_item (z ∷ xs) (suc i) x y below at_x at_y = same_item xs i x y (omega arith) at_x at_y

-- whether a run's votes wait where the proposal is selected
abbrev pub eligible_run : {D : Type 0} → (D → D → Bool) → Proposal D → Run D → Bool
eligible_run same p run = may_be_eligible same p run.subject

module _ {G D : Type 0} (same : D → D → Bool) (p : Proposal D) where
  filter-run : (s : Subject D) (xs : List (Attestation G)) (b : Bool) → may_be_eligible same p s ≡ b
      → filter (is_eligible same (Some p)) (map (vote_for s) xs) ≡ cond b (map (vote_for s) xs) []
  filter-run s [] true e = refl
  filter-run s [] false e = refl
  filter-run s (a ∷ xs) true e = rw (waits_again same p s a ∙ e) (ap (λ votes. vote_for s a ∷ votes) (filter-run s xs true e))
  filter-run s (a ∷ xs) false e = rw (waits_again same p s a ∙ e) (filter-run s xs false e)

  -- the votes of a run and those behind it
  split_run : (run : Run D) (subjects : List (Subject D)) (xs ys : List (Attestation G))
      → length xs ≡ suc run.more
      → votes_from (run.subject ∷ (replicate run.more run.subject ++ subjects)) (xs ++ ys)
      ≡ map (vote_for run.subject) xs ++ votes_from subjects ys
  split_run run subjects xs ys long =
      let n = suc run.more in
      let s = run.subject in
      append-from (replicate n s) subjects xs ys (length-replicate n s ∙ sym long)
      ∙ ap (λ votes. votes ++ votes_from subjects ys)
      (ap (λ k. votes_from (replicate k s) xs) (sym long) ∙ repeat-from s xs)

  by_run : (run : Run D) (runs kept : List (Run D)) (xs ys left : List (Attestation G)) (b : Bool)
      → may_be_eligible same p run.subject ≡ b → length xs ≡ suc run.more
      → votes_from (subjects_of_runs kept) left
      ≡ filter (is_eligible same (Some p)) (votes_from (subjects_of_runs runs) ys)
      → votes_from (subjects_of_runs (cond b (run ∷ kept) kept)) (cond b xs [] ++ left)
      ≡ filter (is_eligible same (Some p))
      (votes_from (run.subject ∷ (replicate run.more run.subject ++ subjects_of_runs runs))
      (xs ++ ys))
  by_run run runs kept xs ys left true e long others =
      rw (
        split_run run (subjects_of_runs runs) xs ys long,
        filter-append (is_eligible same (Some p)) (map (vote_for run.subject) xs) (votes_from (subjects_of_runs runs) ys),
        filter-run run.subject xs true e,
        split_run run (subjects_of_runs kept) xs left long,
        others,
      ) refl
  by_run run runs kept xs ys left false e long others =
      rw (
        split_run run (subjects_of_runs runs) xs ys long,
        filter-append (is_eligible same (Some p)) (map (vote_for run.subject) xs) (votes_from (subjects_of_runs runs) ys),
        filter-run run.subject xs false e,
      ) others

  -- the runs that wait, with their attestations, are the votes that wait
  pub fitting_votes : (runs : List (Run D)) (xs : List (Attestation G))
      → length (subjects_of_runs runs)
      ≡ length xs → votes_from (subjects_of_runs (filter (eligible_run same p) runs))
      (retained_attestations same p runs xs)
      ≡ filter (is_eligible same (Some p)) (votes_from (subjects_of_runs runs) xs)
  fitting_votes [] xs long = refl
  fitting_votes (run ∷ runs) xs long =
      let n = suc run.more in
      let counts : n + length (subjects_of_runs runs) ≡ length xs = sym (length-spread_run run.subject n runs) ∙ long in
      let front : length (take n xs) ≡ n = length-take-le n xs (omega (arith, counts)) in
      let behind : length (subjects_of_runs runs) ≡ length (drop n xs) = omega (arith, counts, length-drop n xs) in
      subst (λ ys. votes_from (subjects_of_runs (filter (eligible_run same p) (run ∷ runs))) (retained_attestations same p (run ∷ runs) xs)
      ≡ filter (is_eligible same (Some p)) (votes_from (subjects_of_runs (run ∷ runs)) ys))
      (take-append-drop n xs)
      (by_run run runs (filter (eligible_run same p) runs) (take n xs) (drop n xs) (retained_attestations same p runs (drop n xs))
      (eligible_run same p run) refl front
      (fitting_votes runs (drop n xs) behind))

  -- how many attestations of the runs that wait there are
  pub length-retained_attestations : (runs : List (Run D)) (xs : List (Attestation G))
      → length (subjects_of_runs runs)
      ≡ length xs → length (subjects_of_runs (filter (eligible_run same p) runs))
      ≡ length (retained_attestations same p runs xs)
  length-retained_attestations [] xs long = refl
  length-retained_attestations (run ∷ runs) xs long =
      let n = suc run.more in
      let counts : n + length (subjects_of_runs runs) ≡ length xs = sym (length-spread_run run.subject n runs) ∙ long in
      let front : length (take n xs) ≡ n = length-take-le n xs (omega (arith, counts)) in
      let behind : length (subjects_of_runs runs) ≡ length (drop n xs) = omega (arith, counts, length-drop n xs) in
      either (eligible_run same p run) (length-retained_attestations runs (drop n xs) behind) front where
        either : (b : Bool)
            → length (subjects_of_runs (filter (eligible_run same p) runs))
            ≡ length (retained_attestations same p runs (drop (suc run.more) xs))
            → length (take (suc run.more) xs) ≡ suc run.more
            → length (subjects_of_runs (cond b (run ∷ filter (eligible_run same p) runs)
            (filter (eligible_run same p) runs)))
            ≡ length (cond b (take (suc run.more) xs) []
            ++ retained_attestations same p runs (drop (suc run.more) xs))
        either true others front =
            length-spread_run run.subject (suc run.more) (filter (eligible_run same p) runs)
            ∙ (ap (λ k. suc run.more + k) others
            ∙ sym (length-append (take (suc run.more) xs) (retained_attestations same p runs (drop (suc run.more) xs))
            ∙ ap (λ k. k + length (retained_attestations same p runs (drop (suc run.more) xs))) front))
        either false others front = others

  -- A loop has moved the attestations of the runs that wait, among the first ones, to the front.
  pub record Moved (runs : List (Run D)) (old new : List (Attestation G)) (kept start i : ℕ) :
      Type 0 where
    pub all : take kept new ++ retained_attestations same p (drop i runs) (drop start new)
        ≡ retained_attestations same p runs old
    pub behind : kept ≤ start
    pub rest : start + length (subjects_of_runs (drop i runs)) ≡ length new
    pub long : length new ≡ length old

  pub moved_start : (runs : List (Run D)) (xs : List (Attestation G))
      → length (subjects_of_runs runs)
      ≡ length xs → Moved runs xs xs 0 0 0
  moved_start runs xs long =
      let whole : 0 + length (subjects_of_runs runs) ≡ length xs = omega (arith, long) in
      record { all = refl; behind = omega arith; rest = whole; long = refl }

  module _ {runs : List (Run D)} {old new : List (Attestation G)} {kept start i : ℕ} (run : Run D)
      (h : Moved runs old new kept start i) (within : i < length runs)
      (here : run ≡ get_or runs i run) where
    next : drop i runs ≡ run ∷ drop (i + 1) runs
    next = drop_more runs i run within ∙ ap (λ r. r ∷ drop (i + 1) runs) (sym here)

    pub fits_in : start + (run.more + 1) ≤ length new
    fits_in =
        let counts = ap (λ rs. length (subjects_of_runs rs)) next ∙ ap suc (length-spread_run run.subject run.more (drop (i + 1) runs)) in
        omega (arith, h.rest, counts)

    rest_next : (end : ℕ) → end ≡ start + (run.more + 1)
        → end + length (subjects_of_runs (drop (i + 1) runs)) ≡ length new
    rest_next end e =
        let counts = ap (λ rs. length (subjects_of_runs rs)) next ∙ ap suc (length-spread_run run.subject run.more (drop (i + 1) runs)) in
        omega (arith, h.rest, counts)

    after_run : (end : ℕ) → end ≡ start + (run.more + 1) → drop (run.more + 1) (drop start new)
        ≡ drop end new
    after_run end e = drop-drop (run.more + 1) start new ∙ ap (λ k. drop k new) (sym e)

    by_next : (b : Bool) → may_be_eligible same p run.subject ≡ b → (end : ℕ) → end
        ≡ start + (run.more + 1)
        → retained_attestations same p (drop i runs) (drop start new)
        ≡ cond b (take (run.more + 1) (drop start new)) []
        ++ retained_attestations same p (drop (i + 1) runs) (drop end new)
    by_next b is end e =
        let n = add-one run.more in
        ap (λ rs. retained_attestations same p rs (drop start new)) next
        ∙ (ap (λ k. cond (may_be_eligible same p run.subject) (take k (drop start new)) [] ++ retained_attestations same p (drop (i + 1) runs)
        (drop k (drop start new))) (sym n)
        ∙ (ap (λ c. cond c (take (run.more + 1) (drop start new)) [] ++ retained_attestations same p (drop (i + 1) runs) (drop (run.more + 1) (drop start new)))
        is
        ∙ ap (λ ys. cond b (take (run.more + 1) (drop start new)) [] ++ retained_attestations same p (drop (i + 1) runs) ys) (after_run end e)))

    taken_run : (end : ℕ) → end ≡ start + (run.more + 1) → may_be_eligible same p run.subject ≡ true
        → retained_attestations same p (drop i runs) (drop start new)
        ≡ take (run.more + 1) (drop start new)
        ++ retained_attestations same p (drop (i + 1) runs) (drop end new)
    taken_run end e passes = by_next true passes end e

    pub moved_no : (end : ℕ) → end ≡ start + (run.more + 1) → may_be_eligible same p run.subject
        ≡ false
        → Moved runs old new kept end (i + 1)
    moved_no end e fails =
        record {
          all = ap (λ ys. take kept new ++ ys) (sym (by_next false fails end e)) ∙ h.all;
          behind = omega (arith, h.behind, e);
          rest = rest_next end e;
          long = h.long;
        }

    pub moved_yes : (end : ℕ) (moved : List (Attestation G)) → end ≡ start + (run.more + 1)
        → moved ≡ paste new kept (drop start new) (end - start)
        → may_be_eligible same p run.subject ≡ true
        → Moved runs old moved (kept + (run.more + 1)) end (i + 1)
    moved_yes end moved e is passes =
        let n = run.more + 1 in
        let counted : end - start ≡ n = omega (arith, e) in
        let room = fits_in in
        let source : n ≤ length (drop start new) = omega (arith, room, length-drop start new) in
        let front : kept ≤ length new = omega (arith, h.behind, room) in
        let pasted : moved ≡ paste new kept (drop start new) n = is ∙ ap (λ k. paste new kept (drop start new) k) counted in
        let taken : take (kept + n) moved ≡ take kept new ++ take n (drop start new) = ap (λ xs. take (kept + n) xs) pasted
        ∙ take-paste new kept (drop start new) n front source in
        let gap = start - kept in
        let end_is : (kept + n) + gap ≡ end = omega (arith, h.behind, e) in
        let behind_it : drop (kept + n) moved ≡ drop (kept + n) new = ap (λ xs. drop (kept + n) xs) pasted
        ∙ drop-paste new kept (drop start new) n front source in
        let left : drop end moved ≡ drop end new = ap (λ k. drop k moved) (sym end_is) ∙ (sym (drop-drop gap (kept + n) moved)
        ∙ (ap (λ xs. drop gap xs) behind_it ∙ (drop-drop gap (kept + n) new ∙ ap (λ k. drop k new) end_is))) in
        let size : length moved ≡ length new = ap length pasted ∙ length-paste new kept (drop start new) n (omega (arith, h.behind, room)) source in
        record {
          all =
              ap (λ xs. xs ++ retained_attestations same p (drop (i + 1) runs) (drop end moved)) taken
              ∙ (append_assoc (take kept new) (take n (drop start new)) (retained_attestations same p (drop (i + 1) runs) (drop end moved))
              ∙ (ap (λ ys. take kept new ++ (take n (drop start new) ++ retained_attestations same p (drop (i + 1) runs) ys)) left
              ∙ (ap (λ ys. take kept new ++ ys) (sym (taken_run end e passes)) ∙ h.all)));
          behind = omega (arith, h.behind, e);
          rest = rest_next end e ∙ sym size;
          long = size ∙ h.long;
        }
