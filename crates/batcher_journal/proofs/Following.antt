-- Votes that were written one after the other.
use Rattle.batcher_journal.proofs.Words.{◌≡◌, ◌+◌, ◌-◌, ◌<◌, ◌≤◌, ◌++◌, ◌∙◌, ℕ, Bool, true, false, List, [], ap, arith, get_or, inl, inr, length, refl, subst}
use Rattle.batcher_journal.proofs.Words.{sym, take, IsEquivalence, Contains, cases_lt, get_or-append-add, get_or-append_right, get_or-take, get_or_append_left}
use Rattle.batcher_journal.proofs.Words.{get_or_default, length-append, length-take, take-append-le, take-take, take_all, take-append-add, All-append}
use Rattle.batcher_journal.proofs.Words.{All-contains, subjects_contradict, MayBeWrittenBehind, AreCompatible, AreSignedOnce, IsFree, LeavesFree, is_over}
use Rattle.batcher_journal.proofs.Words.{subject_of, Subject, Vote, Round}
use Rattle.batcher_journal.proofs.Symmetric.{contradict_symmetric, contradicts_not_itself, subjects_symmetric}

module _ {G D : Type 0} (same : D → D → Bool) (floor : Round) where
  abbrev Follow : List (Vote G D) → List (Vote G D) → Type 0
  Follow = MayBeWrittenBehind same floor

  -- a loop goes on
  pub more_follow : (old votes : List (Vote G D)) (i : ℕ) (vote : Vote G D) → i < length votes
      → vote ≡ get_or votes i vote → Follow old (take i votes)
      → IsFree same old (subject_of vote) → IsFree same (take i votes) (subject_of vote)
      → is_over floor vote ≡ false → Follow old (take (i + 1) votes)
  more_follow old votes i vote lt is so_far free_old free_new above j other j_lt other_is =
      let j_le : j < i + 1 = omega (arith, length-take (i + 1) votes) in
      let in_votes : other ≡ get_or votes j other = other_is ∙ get_or-take (i + 1) votes j other j_le in
      let short : take j (take (i + 1) votes) ≡ take j votes = take-take j (i + 1) votes (omega arith) in
      elim (cases_lt j i) [
        | inl earlier ↦
            let here = so_far j other (omega (arith, length-take i votes)) (in_votes ∙ sym (get_or-take i votes j other earlier)) in
            let shorter : take j (take i votes) ≡ take j votes = take-take j i votes (omega arith) in (
              subst (λ vs. IsFree same (old ++ vs) (subject_of other)) (shorter ∙ sym short) here.0,
              here.1,
            )
        | inr late ↦
            let at : j ≡ i = omega arith in
            let one : other ≡ vote =
            in_votes ∙ ap (λ k. get_or votes k other) at ∙ get_or_default votes i other vote lt ∙ sym is in
            let both : IsFree same (old ++ take i votes) (subject_of vote) =
            All-append (LeavesFree same (subject_of vote)) old (take i votes) free_old free_new in
            let front : take j (take (i + 1) votes) ≡ take i votes = short ∙ ap (λ k. take k votes) at in (
              subst (λ v. IsFree same (old ++ take j (take (i + 1) votes)) (subject_of v)) (sym one)
                  (subst (λ vs. IsFree same (old ++ vs) (subject_of vote)) (sym front) both),
              ap (λ v. is_over floor v) one ∙ above,
            )
      ]

  pub all_follow : (old votes : List (Vote G D)) (i : ℕ) → length votes ≤ i
      → Follow old (take i votes)
      → Follow old votes
  all_follow old votes i le so_far = subst (Follow old) (take_all i votes le) so_far

  free_front : (xs ys : List (Vote G D)) (subject : Subject D) → IsFree same (xs ++ ys) subject
      → IsFree same xs subject
  free_front xs ys subject free k d lt =
      subst (LeavesFree same subject) (get_or_append_left xs ys d k lt)
      (free k d (omega (arith, length-append xs ys)))

  free_back : (xs ys : List (Vote G D)) (subject : Subject D) → IsFree same (xs ++ ys) subject
      → IsFree same ys subject
  free_back xs ys subject free k d lt =
      subst (LeavesFree same subject) (get_or-append-add xs ys k d)
      (free (length xs + k) d (omega (arith, length-append xs ys)))

  -- what is over, or isn't free, may not follow
  module _ (old votes : List (Vote G D)) (i : ℕ) (vote : Vote G D) (lt : i < length votes)
      (is : vote ≡ get_or votes i vote) where
    pub not_old : (IsFree same old (subject_of vote) → ⊥) → Follow old votes → ⊥
    not_old taken follow = taken (free_front old (take i votes) (subject_of vote) (follow i vote lt is).0)

    pub not_new : (IsFree same (take i votes) (subject_of vote) → ⊥) → Follow old votes → ⊥
    not_new taken follow = taken (free_back old (take i votes) (subject_of vote) (follow i vote lt is).0)

  -- votes behind others are a list of votes
  pub followed : (old votes : List (Vote G D)) → Follow [] old → Follow old votes
      → Follow [] (old ++ votes)
  followed old votes before after i vote lt is =
      elim (cases_lt i (length old)) [
        | inl early ↦
            let here = before i vote early (is ∙ get_or_append_left old votes vote i early) in
            (subst (λ vs. IsFree same vs (subject_of vote)) (sym (take-append-le i old votes (omega arith))) here.0, here.1)
        | inr late ↦
            let k : ℕ = i - length old in
            let here = after k vote (omega (arith, length-append old votes)) (is ∙ get_or-append_right old votes (length old) i vote refl late) in
            let split : take i (old ++ votes) ≡ old ++ take k votes =
            ap (λ n. take n (old ++ votes)) (omega arith) ∙ take-append-add old votes k in
            (subst (λ vs. IsFree same vs (subject_of vote)) (sym split) here.0, here.1)
      ]

  -- what was written earlier leaves what was written later free
  earlier : (votes : List (Vote G D)) (x y : Vote G D) (i j : ℕ) → Follow [] votes
      → i < j → j < length votes
      → get_or votes i x ≡ x → get_or votes j y ≡ y → LeavesFree same (subject_of y) x
  earlier votes x y i j were lt within x_is y_is =
      let there : Contains (take j votes) x =
      (i, omega (arith, length-take j votes), get_or-take j votes i x lt ∙ x_is) in
      All-contains (LeavesFree same (subject_of y)) (take j votes) x (were j y within (sym y_is)).0 there

  one_place : (votes : List (Vote G D)) (x y : Vote G D) (in_x : Contains votes x)
      (in_y : Contains votes y)
      → in_x.0 ≡ in_y.0 → x ≡ y
  one_place votes x y in_x in_y places =
      sym in_x.2 ∙ get_or_default votes in_x.0 x y in_x.1 ∙ ap (λ k. get_or votes k y) places ∙ in_y.2

  module _ (laws : IsEquivalence same) where
    pub compatible : (votes : List (Vote G D)) → Follow [] votes → AreCompatible same votes
    compatible votes were x y in_x in_y =
        elim (cases_lt in_x.0 in_y.0) [
          | inl lt ↦ (earlier votes x y in_x.0 in_y.0 were lt in_y.1 in_x.2 in_y.2).1
          | inr le ↦ elim (cases_lt in_y.0 in_x.0) [
            | inl lt ↦
                contradict_symmetric same laws (subject_of x) (subject_of y)
                ∙ (earlier votes y x in_y.0 in_x.0 were lt in_x.1 in_y.2 in_x.2).1
            | inr ge ↦
                subst (λ z. subjects_contradict same (subject_of x) (subject_of z) ≡ false)
                (one_place votes x y in_x in_y (omega arith))
                (contradicts_not_itself same laws (subject_of x))
          ]
        ]

    pub once : (votes : List (Vote G D)) → Follow [] votes → AreSignedOnce same votes
    once votes were x y in_x in_y is =
        elim (cases_lt in_x.0 in_y.0) [
          | inl lt ↦
              let wrong : true ≡ false =
              sym is ∙ (earlier votes x y in_x.0 in_y.0 were lt in_y.1 in_x.2 in_y.2).0 in
              absurd cc
          | inr le ↦ elim (cases_lt in_y.0 in_x.0) [
            | inl lt ↦
                let wrong : true ≡ false =
                sym is ∙ subjects_symmetric same laws (subject_of x) (subject_of y)
                ∙ (earlier votes y x in_y.0 in_x.0 were lt in_x.1 in_y.2 in_x.2).0 in
                absurd cc
            | inr ge ↦ one_place votes x y in_x in_y (omega arith)
          ]
        ]
