-- A certificate that a construction gives is of the round in which it is made.
use Rattle.batcher_voter.proofs.Words.{◌≡◌, ◌++◌, ◌+◌, ◌≤◌, ◌∙◌, ℕ, zero, suc, Bool, true, false, not, List, [], ◌∷◌, Option, Some, None, ap, arith, cond}
use Rattle.batcher_voter.proofs.Words.{eq-eqb, inl, inr, length, refl, subst, filter, All, Contains, Err, IfOk, IfSome, Ok, Result, All-contains}
use Rattle.batcher_voter.proofs.Words.{All-contains_itself, All-filter, Contains-append_cases, filter_passes, IsBacked, votes_behind, Config, quorum_in}
use Rattle.batcher_voter.proofs.Words.{usable_votes, first_votes, is_free, History, cast_votes, names_sender, IsPossible, ElementsWithin, count, MayCall}
use Rattle.batcher_voter.proofs.Words.{kind_certified, round_in, same_round, same_subject, subject_certified, subject_of, Call, NetworkCall, OwnCall}
use Rattle.batcher_voter.proofs.Words.{ConstructCall, LeaderCall, ForwardCall, MissingCall, CertificateCall, Certificate, Vote, Batch, IsPromised}
use Rattle.batcher_voter.proofs.Words.{ConstructAnswer, NodeEvent, NodeHistory, constructed, view_history, IsNodePromised, NodeConfig, NodeView, HasHistory}
use Rattle.batcher_voter.proofs.Words.{NodeMeets, NodeRepresents, config_of, numbered, Construction, IsOfItsView, same_round-refl, same_round-true}
use Rattle.batcher_voter.proofs.Words.{same_subject-true}

module _ {D K G C : Type 0} (x : Config D K G C) where
  abbrev Here : List (Vote G D) → Type 0
  Here votes = (v : Vote G D) → Contains votes v → round_in (subject_of v) ≡ x.number

  one_here : (vote : Vote G D) → round_in (subject_of vote) ≡ x.number → Here (vote ∷ [])
  one_here vote e v (zero, lt, is) = subst (λ w. round_in (subject_of w) ≡ x.number) is e
  one_here vote e v (suc i, lt, is) = absurd (omega arith)

  none_here : Here []
  none_here v (i, lt, is) = absurd (omega arith)

  both_here : (us vs : List (Vote G D)) → Here us → Here vs → Here (us ++ vs)
  both_here us vs a b v there =
      elim (Contains-append_cases us vs v there) [
        | inl left ↦ a v left
        | inr right ↦ b v right
      ]

  some_here : (p : Vote G D → Bool) (vs : List (Vote G D)) → Here vs → Here (filter p vs)
  some_here p vs a v there =
      a v (All-contains (Contains vs) (filter p vs) v
      (All-filter p (Contains vs) vs (All-contains_itself vs)) there)

  named_here :
      (named : Bool) (vote : Vote G D) → round_in (subject_of vote) ≡ x.number
      → Here (cond named (vote ∷ []) [])
  named_here true vote e = one_here vote e
  named_here false vote e = none_here

  casts_here : (call : Call K G C D) → MayCall x.meaning x.number call → Here (cast_votes x call)
  casts_here (NetworkCall sender vote) may =
      both_here (cond (names_sender x sender vote) (vote ∷ []) []) []
      (named_here (names_sender x sender vote) vote may) none_here
  casts_here (OwnCall vote) may = one_here vote may.0
  casts_here (CertificateCall c) may = none_here
  casts_here (LeaderCall i) may = none_here
  casts_here ConstructCall may = none_here
  casts_here (ForwardCall i) may = none_here
  casts_here (MissingCall p) may = none_here

  firsts_here : (past : History D K G C) → IsPossible x past → Here (first_votes x past)
  firsts_here [] possible = none_here
  firsts_here (event ∷ past) possible =
      both_here (filter (is_free (first_votes x past)) (cast_votes x event.0)) (first_votes x past)
      (some_here (is_free (first_votes x past)) (cast_votes x event.0) (casts_here event.0 possible.0))
      (firsts_here past possible.1.1.1)

  abbrev is_elsewhere : Vote G D → Bool
  is_elsewhere v = not (same_round (round_in (subject_of v)) x.number)

  none_elsewhere : (vs : List (Vote G D)) → Here vs → count is_elsewhere vs ≡ 0
  none_elsewhere [] here = refl
  none_elsewhere (v ∷ vs) here =
      rw (here v (0, omega arith, refl), same_round-refl x.number)
      (let rest = none_elsewhere vs (λ w there. here w (suc there.0, omega (arith, there.1), there.2)) in
      omega (arith, rest))

  -- the first of votes that are all among votes of the round
  head_here :
      (v : Vote G D) (rest : List (Vote G D)) → count is_elsewhere (v ∷ rest) ≤ 0
      → round_in (subject_of v) ≡ x.number
  head_here v rest few = by_round (same_round (round_in (subject_of v)) x.number) refl few
    where
      by_round :
          (b : Bool) → same_round (round_in (subject_of v)) x.number ≡ b
          → cond (not b) 1 0 + count is_elsewhere rest ≤ 0 → round_in (subject_of v) ≡ x.number
      by_round true e few = same_round-true (round_in (subject_of v)) x.number e
      by_round false e few = absurd (omega (arith, few))

  module _ (identical : (a b : D) → x.same_digest a b ≡ true → a ≡ b) (past : History D K G C)
      (possible : IsPossible x past) (c : Certificate C D) where
    by_votes :
        (votes : List (Vote G D)) → 1 ≤ length votes
        → ElementsWithin votes (first_votes x past)
        → All (λ v. same_subject x.same_digest (subject_certified c) (subject_of v) ≡ true) votes
        → round_in (subject_certified c) ≡ x.number
    by_votes [] some within passes = absurd (omega (arith, some))
    by_votes (v ∷ rest) some within passes =
        ap (λ s. round_in s)
        (same_subject-true x.same_digest identical (subject_certified c) (subject_of v)
        (All-contains (λ w. same_subject x.same_digest (subject_certified c) (subject_of w) ≡ true)
        (v ∷ rest) v passes (0, omega arith, refl)))
        ∙ head_here v rest
        (subst (λ n. count is_elsewhere (v ∷ rest) ≤ n)
        (none_elsewhere (first_votes x past) (firsts_here past possible)) (within is_elsewhere))

    pub backed_is_here :
        (batch : Batch (Certificate C D)) → 1 ≤ quorum_in x → IsBacked x past batch c
        → round_in (subject_certified c) ≡ x.number
    backed_is_here batch some backed =
        by_votes (votes_behind x past c) (omega (arith, some, backed.enough)) backed.first
        (filter_passes (λ v. same_subject x.same_digest (subject_certified c) (subject_of v))
        (usable_votes x past (kind_certified c)))

module _ {S D K G C : Type 0} (x : NodeConfig D K G C) (old new : NodeView S G D) (view : ℕ)
    (batch : Batch (Certificate C D)) (c : Certificate C D)
    (identical : (a b : D) → x.same_digest a b ≡ true → a ≡ b)
    (some : 1 ≤ length x.meaning.participants) where
  by_history :
      (y : Config D K G C) (before : History D K G C) → y.number ≡ numbered x.epoch view
      → ((a b : D) → y.same_digest a b ≡ true → a ≡ b) → 1 ≤ quorum_in y
      → IsPossible y ((ConstructCall, ConstructAnswer (Some batch)) ∷ before)
      → IsPromised y ((ConstructCall, ConstructAnswer (Some batch)) ∷ before)
      → batch.certificate ≡ Some c → round_in (subject_certified c) ≡ numbered x.epoch view
  by_history y before number apart enough possible promised given =
      backed_is_here y apart before possible.1.1.1 c batch enough
      (subst (λ (o : Option (Certificate C D)). IfSome o (IsBacked y before batch)) given
      promised.gives_safely.given_are_backed.0)
      ∙ number

  -- what a construction in a view gives is of the view
  pub given_is_of_view :
      HasHistory x old → NodeMeets x old (constructed view (Some batch)) new
      → ((past : NodeHistory D K G C) → NodeRepresents x past new → IsNodePromised x past)
      → batch.certificate ≡ Some c → round_in (subject_certified c) ≡ numbered x.epoch view
  given_is_of_view has meets promises given =
      let event : NodeEvent D K G C = constructed view (Some batch) in
      let after = meets has.past has.represents in
      let y = config_of x (event ∷ has.past) view in
      let here : view_history view (event ∷ has.past)
      ≡ (ConstructCall, ConstructAnswer (Some batch)) ∷ view_history view has.past =
      ap (λ (b : Bool). cond b ((ConstructCall, ConstructAnswer (Some batch)) ∷ []) []
      ++ view_history view has.past) (eq-eqb view view refl) in
      by_history y (view_history view has.past) refl identical (omega (arith, some))
      (subst (IsPossible y) here (after.possible view))
      (subst (IsPromised y) here ((promises (event ∷ has.past) after).each_view view))
      given

module _ {S D K G C : Type 0} (x : NodeConfig D K G C) (old new : NodeView S G D)
    (identical : (a b : D) → x.same_digest a b ≡ true → a ≡ b)
    (some : 1 ≤ length x.meaning.participants) (has : HasHistory x old)
    (promises : (past : NodeHistory D K G C) → NodeRepresents x past new → IsNodePromised x past)
  where
    by_certificate :
        (view : ℕ) (batch : Batch (Certificate C D))
        → NodeMeets x old (constructed view (Some batch)) new
        → (o : Option (Certificate C D)) → batch.certificate ≡ o
        → IfSome o (λ c. round_in (subject_certified c) ≡ numbered x.epoch view)
    by_certificate view batch meets None e = tt
    by_certificate view batch meets (Some c) e =
        given_is_of_view x old new view batch c identical some has meets promises e

    by_batch :
        (view : ℕ) (o : Option (Batch (Certificate C D))) → NodeMeets x old (constructed view o) new
        → IfSome o (λ batch. IfSome batch.certificate
        (λ c. round_in (subject_certified c) ≡ numbered x.epoch view))
    by_batch view None meets = tt
    by_batch view (Some batch) meets = by_certificate view batch meets batch.certificate refl

    pub each_of_view :
        (given : Option (Construction C D))
        → IfSome given (λ one. NodeMeets x old (constructed one.view.0 one.batch) new)
        → IfSome given (IsOfItsView x.epoch)
    each_of_view (Some one) meets = by_batch one.view.0 one.batch meets
    each_of_view None meets = tt

    pub all_of_view :
        {E : Type 0} (r : Result (Option (Construction C D)) E)
        → IfOk r (λ made. IfSome made
        (λ one. NodeMeets x old (constructed one.view.0 one.batch) new))
        → IfOk r (λ made. IfSome made (IsOfItsView x.epoch))
    all_of_view (Ok given) meets = each_of_view given meets
    all_of_view (Err fault) meets = tt
