-- First votes are of different kinds or signers, and a first vote stays.
use Rattle.batcher_histories.proofs.Words.{inl, inr, ◌≡◌, ℕ, ◌+◌, Bool, true, false, not, cond, ◌&&◌, ◌||◌, ◌⊎◌, List, [], ◌∷◌, Option, Some, None, refl, ap}
use Rattle.batcher_histories.proofs.Words.{sym, ◌∙◌, arith, ⊎_elim, eqb, ltb, subst, filter, find, is_some, list_any, cases_Bool, eqb-true, eq-eqb, and_parts}
use Rattle.batcher_histories.proofs.Words.{and_from, or_parts, not-true, false_from_ne_true, lt-ltb, le-ltb, Vote, Kind, NetworkCall, OwnCall, CertificateCall}
use Rattle.batcher_histories.proofs.Words.{LeaderCall, ConstructCall, ForwardCall, MissingCall, Config, count, is_some_and, is_kind, kind_of, signer_of}
use Rattle.batcher_histories.proofs.Words.{is_vote_of, excludes, are_opposite, is_kind-true, is_kind-refl, count-filter, Event, History, cast_votes}
use Rattle.batcher_histories.proofs.Words.{names_sender, is_free, first_votes, first_vote}

pub positive : (b : Bool) → ltb 0 (cond b 1 0) ≡ b
positive true = refl
positive false = refl

pub any_count : {X : Type 0} (p : X → Bool) (xs : List X) → list_any p xs ≡ ltb 0 (count p xs)
any_count p [] = refl
any_count p (x ∷ xs) = grind (arith, any_count p xs, lt-ltb, le-ltb)

some_not_none : {X : Type 0} (b : Bool) (v : X) (o : Option X) → cond b (Some v) o ≡ None → b
    ≡ false
some_not_none true v o h = cc
some_not_none false v o h = refl

pub some_of : {X : Type 0} (o : Option X) → is_some o ≡ true → (v : X) × (o ≡ Some v)
some_of None h = cc
some_of (Some v) h = (v, refl)

pub where_holds : {X : Type 0} (test : X → Bool) (o : Option X) → is_some_and o test ≡ true
    → (v : X) × (o ≡ Some v) × (test v ≡ true)
where_holds test None h = cc
where_holds test (Some v) h = (v, refl, h)

pub some_where : {X : Type 0} (test : X → Bool) (o : Option X) → is_some_and o test ≡ true
    → is_some o ≡ true
some_where test None h = h
some_where test (Some v) h = refl

pub option_cases : {X : Type 0} (o : Option X) → (o ≡ None) ⊎ ((v : X) × (o ≡ Some v))
option_cases None = inl refl
option_cases (Some v) = inr (v, refl)

module _ {G D : Type 0} where
  -- the vote of a kind and signer among votes
  abbrev pub vote_at : List (Vote G D) → Kind → ℕ → Option (Vote G D)
  vote_at votes kind i = find (is_vote_of kind i) votes

  -- a vote that is the one of its kind and signer
  abbrev pub IsAt : List (Vote G D) → Vote G D → Type 0
  IsAt votes v = vote_at votes (kind_of v) (signer_of v) ≡ Some v

  -- votes of different kinds or signers
  abbrev pub AreApart : List (Vote G D) → Type 0
  AreApart [] = Unit {0}
  AreApart (v ∷ vs) = (vote_at vs (kind_of v) (signer_of v) ≡ None) × AreApart vs

  pub is_itself : (v : Vote G D) → is_vote_of (kind_of v) (signer_of v) v ≡ true
  is_itself v = and_from _ _ (is_kind-refl (kind_of v)) (eq-eqb _ _ refl)

  -- the vote that is found is of the kind and signer
  pub found_is_of : (vs : List (Vote G D)) (kind : Kind) (i : ℕ) (v : Vote G D) → vote_at vs kind i
      ≡ Some v → is_vote_of kind i v ≡ true
  found_is_of [] kind i v h = cc
  found_is_of (w ∷ vs) kind i v h =
      ⊎_elim
      (λ here. let e : Some w ≡ Some v = (let k : cond true (Some w) (vote_at vs kind i) ≡ Some v = rw here at h in k) in
      let same : w ≡ v = cc in subst (λ (u : Vote G D). is_vote_of kind i u ≡ true) same here)
      (λ other. let rest : vote_at vs kind i ≡ Some v = (let k : cond false (Some w) (vote_at vs kind i) ≡ Some v = rw other at h in k) in found_is_of vs kind i
      v rest)
      (cases_Bool (is_vote_of kind i w))

  none_counted : (test : Vote G D → Bool) (vs : List (Vote G D)) (kind : Kind) (i : ℕ)
      → vote_at vs kind i ≡ None → count (λ v. test v && is_vote_of kind i v) vs ≡ 0
  none_counted test [] kind i h = refl
  none_counted test (v ∷ vs) kind i h =
      let here : is_vote_of kind i v ≡ false = some_not_none (is_vote_of kind i v) v (vote_at vs kind i) h in
      let rest : vote_at vs kind i ≡ None = (let k : cond false (Some v) (vote_at vs kind i) ≡ None = rw here at h in k) in
      rw here (count_rest (test v) _ (none_counted test vs kind i rest))
    where
      count_rest : (b : Bool) (n : ℕ) → n ≡ 0 → cond (b && false) 1 0 + n ≡ 0
      count_rest true n h = omega (arith, h)
      count_rest false n h = omega (arith, h)

  -- Of the votes of a kind and signer there is one at most.
  pub count_at : (test : Vote G D → Bool) (vs : List (Vote G D)) (kind : Kind) (i : ℕ) → AreApart vs
      →
      count (λ v. test v && is_vote_of kind i v) vs
      ≡ cond (is_some_and (vote_at vs kind i) test) 1 0
  count_at test [] kind i apart = refl
  count_at test (v ∷ vs) kind i apart =
      ⊎_elim
      (λ here.
      let k : kind_of v ≡ kind = is_kind-true _ _ (and_parts _ _ here).0 in
      let s : signer_of v ≡ i = eqb-true _ _ (and_parts _ _ here).1 in
      let behind : vote_at vs kind i ≡ None = subst (λ (j : ℕ). vote_at vs kind j ≡ None) s (subst (λ (l : Kind). vote_at vs l (signer_of v) ≡ None) k apart.0)
      in
      rw here (first_one (test v) _ (none_counted test vs kind i behind)))
      (λ other. rw other (rest_only (test v) _ _ (count_at test vs kind i apart.1)))
      (cases_Bool (is_vote_of kind i v))
    where
      first_one : (b : Bool) (n : ℕ) → n ≡ 0 → cond (b && true) 1 0 + n ≡ cond b 1 0
      first_one true n h = omega (arith, h)
      first_one false n h = omega (arith, h)

      rest_only : (b : Bool) (n m : ℕ) → n ≡ m → cond (b && false) 1 0 + n ≡ m
      rest_only true n m h = omega (arith, h)
      rest_only false n m h = omega (arith, h)

  -- a vote of the kind and signer that passes, among filtered votes
  pub any_filtered : (test : Vote G D → Bool) (vs : List (Vote G D)) (kind : Kind) (i : ℕ)
      → AreApart vs →
      list_any (is_vote_of kind i) (filter test vs) ≡ is_some_and (vote_at vs kind i) test
  any_filtered test vs kind i apart =
      any_count (is_vote_of kind i) (filter test vs)
      ∙ (ap (λ n. ltb 0 n) (count-filter (is_vote_of kind i) test vs ∙ count_at test vs kind i apart)
      ∙ positive (is_some_and (vote_at vs kind i) test))

  pub any_is_found : (vs : List (Vote G D)) (kind : Kind) (i : ℕ) → list_any (is_vote_of kind i) vs
      ≡ is_some (vote_at vs kind i)
  any_is_found [] kind i = refl
  any_is_found (v ∷ vs) kind i = grind (arith, any_is_found vs kind i)

module _ {G D : Type 0} where
  pub found_behind : (v : Vote G D) (vs : List (Vote G D)) (w : Vote G D) →
      vote_at vs (kind_of v) (signer_of v) ≡ None → IsAt vs w → IsAt (v ∷ vs) w
  found_behind v vs w apart found =
      ⊎_elim
      (λ here.
      let k : kind_of v ≡ kind_of w = is_kind-true _ _ (and_parts _ _ here).0 in
      let s : signer_of v ≡ signer_of w = eqb-true _ _ (and_parts _ _ here).1 in
      let none : vote_at vs (kind_of w) (signer_of w) ≡ None = subst (λ (j : ℕ). vote_at vs (kind_of w) j ≡ None) s
      (subst (λ (l : Kind). vote_at vs l (signer_of v) ≡ None) k apart) in
      let no : Some w ≡ None = sym found ∙ none in cc)
      (λ other. rw other found)
      (cases_Bool (is_vote_of (kind_of w) (signer_of w) v))

  pub found_here : (v : Vote G D) (vs : List (Vote G D)) → IsAt (v ∷ vs) v
  found_here v vs = rw (is_itself v) refl

  -- Counts that add up at each vote that is found add up.
  pub count_sum : (p q r : Vote G D → Bool) (vs : List (Vote G D)) → AreApart vs →
      ((v : Vote G D) → IsAt vs v → cond (p v) 1 0 + cond (q v) 1 0 ≡ cond (r v) 1 0)
      → count p vs + count q vs ≡ count r vs
  count_sum p q r [] apart sums = omega arith
  count_sum p q r (v ∷ vs) apart sums =
      let here : cond (p v) 1 0 + cond (q v) 1 0 ≡ cond (r v) 1 0 = sums v (found_here v vs) in
      let rest : count p vs + count q vs ≡ count r vs = count_sum p q r vs apart.1 (λ w found. sums w (found_behind v vs w apart.0 found)) in
      omega (arith, here, rest)

not_excluded : (s k o : Bool) → (s && (k || o)) ≡ false → (k && s) ≡ false
not_excluded true true o h = h
not_excluded true false o h = refl
not_excluded false true o h = refl
not_excluded false false o h = refl

pub filter_one : {X : Type 0} (q : X → Bool) (w : X) → (filter q (w ∷ []) ≡ [])
    ⊎ ((filter q (w ∷ []) ≡ w ∷ []) × (q w ≡ true))
filter_one q w = ⊎_elim (λ e. inr (rw e refl, e)) (λ e. inl (rw e refl)) (cases_Bool (q w))

none_after : {X : Type 0} (b : Bool) (w : X) (o : Option X) → b ≡ false → o ≡ None
    → cond b (Some w) o ≡ None
none_after true w o h k = cc
none_after false w o h k = k

module _ {G D : Type 0} where
  -- a vote that nothing excludes has no vote of its kind and signer before it
  pub free_is_new : (vs : List (Vote G D)) (w : Vote G D) → is_free vs w ≡ true
      → vote_at vs (kind_of w) (signer_of w) ≡ None
  free_is_new [] w h = refl
  free_is_new (v ∷ vs) w h =
      let parts = or_parts (excludes v w) (list_any (λ u. excludes u w) vs) (not-true (excludes v w || list_any (λ u. excludes u w) vs) h) in
      none_after (is_vote_of (kind_of w) (signer_of w) v) v (vote_at vs (kind_of w) (signer_of w))
      (not_excluded (eqb (signer_of v) (signer_of w)) (is_kind (kind_of v) (kind_of w)) (are_opposite (kind_of v) (kind_of w)) parts.0)
      (free_is_new vs w (ap not parts.1))

  -- and isn't of the kind and signer of one that is there
  pub free_apart : (vs : List (Vote G D)) (w v : Vote G D) (kind : Kind) (i : ℕ) → is_free vs w
      ≡ true → vote_at vs kind i ≡ Some v → is_vote_of kind i w ≡ false
  free_apart vs w v kind i free found =
      false_from_ne_true _ (λ here.
      let k : kind_of w ≡ kind = is_kind-true _ _ (and_parts _ _ here).0 in
      let s : signer_of w ≡ i = eqb-true _ _ (and_parts _ _ here).1 in
      let none : vote_at vs kind i ≡ None = subst (λ (j : ℕ). vote_at vs kind j ≡ None) s
      (subst (λ (l : Kind). vote_at vs l (signer_of w) ≡ None) k (free_is_new vs w free)) in
      let no : Some v ≡ None = sym found ∙ none in cc)

module _ {D K G C : Type 0} (x : Config D K G C) where
  -- the first votes that an event brings
  abbrev pub new_votes : History D K G C → Event D K G C → List (Vote G D)
  new_votes past event = filter (is_free (first_votes x past)) (cast_votes x event.0)

  -- one at most
  pub new_cases : (past : History D K G C) (event : Event D K G C) →
      (new_votes past event ≡ []) ⊎ ((w : Vote G D) × (new_votes past event ≡ w ∷ [])
      × (is_free (first_votes x past) w ≡ true))
  new_cases past (NetworkCall sender vote, answer) =
      ⊎_elim
      (λ e. ⊎_elim (λ none. inl (rw e none)) (λ one. inr (vote, rw e one.0, one.1)) (filter_one (is_free (first_votes x past)) vote))
      (λ e. inl (rw e refl))
      (cases_Bool (names_sender x sender vote))
  new_cases past (OwnCall vote, answer) =
      ⊎_elim (λ none. inl none) (λ one. inr (vote, one.0, one.1)) (filter_one (is_free (first_votes x past)) vote)
  new_cases past (CertificateCall certificate, answer) = inl refl
  new_cases past (LeaderCall named, answer) = inl refl
  new_cases past (ConstructCall, answer) = inl refl
  new_cases past (ForwardCall me, answer) = inl refl
  new_cases past (MissingCall p, answer) = inl refl

  pub firsts_apart : (past : History D K G C) → AreApart (first_votes x past)
  firsts_apart [] = tt
  firsts_apart (event ∷ past) =
      ⊎_elim
      (λ none. rw none (firsts_apart past))
      (λ (one : (w : Vote G D) × (new_votes past event ≡ w ∷ []) × (is_free (first_votes x past) w ≡ true)). rw one.1
      (free_is_new (first_votes x past) one.0 one.2, firsts_apart past))
      (new_cases past event)

  -- a first vote stays
  pub first_stays : (past : History D K G C) (event : Event D K G C) (kind : Kind) (i : ℕ)
      (v : Vote G D) →
      first_vote x past kind i ≡ Some v → first_vote x (event ∷ past) kind i ≡ Some v
  first_stays past event kind i v h =
      ⊎_elim
      (λ none. rw none h)
      (λ (one : (w : Vote G D) × (new_votes past event ≡ w ∷ []) × (is_free (first_votes x past) w ≡ true)). rw
      (one.1, free_apart (first_votes x past) one.0 v kind i one.2 h) h)
      (new_cases past event)

  pub filled_stays : (past : History D K G C) (event : Event D K G C) (kind : Kind) (i : ℕ) →
      is_some (first_vote x past kind i) ≡ true → is_some (first_vote x (event ∷ past) kind i)
      ≡ true
  filled_stays past event kind i h =
      let found = some_of (first_vote x past kind i) h in ap is_some (first_stays past event kind i found.0 found.1)
