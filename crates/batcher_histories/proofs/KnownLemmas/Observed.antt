-- What a round has observed of a signer is what the history says, and so who has the block.
use Rattle.batcher_histories.proofs.Words.{inl, inr, ◌≡◌, ◌<◌, ℕ, Bool, true, false, not, cond, ◌&&◌, ◌||◌, ◌⊎◌, List, [], ◌∷◌, ◌++◌, map, Option, Some, None}
use Rattle.batcher_histories.proofs.Words.{refl, ap, sym, ◌∙◌, arith, ⊎_elim, eqb, leb, subst, filter, find, is_some, is_none, option_and_then, list_any}
use Rattle.batcher_histories.proofs.Words.{cases_Bool, and_parts, or_cases, or_parts, not-false, false_from_ne_true, eqb-true, leb-false, or_right}
use Rattle.batcher_histories.proofs.Words.{list_any-append, Proposal, Vote, Kind, Nullification, Call, NetworkCall, OwnCall, CertificateCall, LeaderCall}
use Rattle.batcher_histories.proofs.Words.{ConstructCall, ForwardCall, MissingCall, Config, insert_by, ordered_by, is_some_and, is_kind, kind_of, signer_of}
use Rattle.batcher_histories.proofs.Words.{is_of_kind, is_vote_of, is_for, excludes, opposes, are_opposite, is_kind-true, RoundState, from_kept, from_facts}
use Rattle.batcher_histories.proofs.Words.{known_facts, kept_vote, observed, Event, History, cast_votes, names_sender, is_free, first_votes, first_vote}
use Rattle.batcher_histories.proofs.Words.{opposite_vote, is_released, known_by, compared_votes, compared_votes_of, is_compared, is_compared_at_release}
use Rattle.batcher_histories.proofs.Words.{facts_of, known_after, keeps_nullify, Represents, first_by_signer}
use Rattle.batcher_histories.proofs.History.Distinct.{any_filtered, any_is_found, found_is_of, is_itself, new_votes, firsts_apart, filled_stays, filter_one}
use Rattle.batcher_histories.proofs.History.Distinct.{some_where}

-- In a list by numbers the first of a number is the first of it.
pub find_inserted : {X : Type 0} (number : X → ℕ) (p : X → Bool) (i : ℕ) (v : X) (vs : List X)
    → ((w : X) → p w ≡ true → number w ≡ i) →
    find p (insert_by number v vs) ≡ find p (v ∷ vs)
find_inserted number p i v [] by = refl
find_inserted {X = X} number p i v (u ∷ us) by =
    ⊎_elim
    (λ before. let e : insert_by number v (u ∷ us) ≡ v ∷ u ∷ us = rw before refl in ap (find p) e)
    (λ behind.
    let e : insert_by number v (u ∷ us) ≡ u ∷ insert_by number v us = rw behind refl in
    let lower : number u < number v = leb-false _ _ behind in
    ap (find p) e
    ∙ (ap (λ o. cond (p u) (Some u) o) (find_inserted number p i v us by)
    ∙ ⊎_elim
    (λ here. let other : p v ≡ false = false_from_ne_true _
    (λ there. let a : number u ≡ i = by u here in let b : number v ≡ i = by v there in absurd (omega arith)) in rw (here, other) refl)
    (λ not_here. rw not_here refl)
    (cases_Bool (p u))))
    (cases_Bool (leb (number v) (number u)))

pub find_ordered : {X : Type 0} (number : X → ℕ) (p : X → Bool) (i : ℕ) (vs : List X)
    → ((w : X) → p w ≡ true → number w ≡ i) → find p (ordered_by number vs) ≡ find p vs
find_ordered number p i [] by = refl
find_ordered number p i (v ∷ vs) by = find_inserted number p i v (ordered_by number vs) by ∙ ap (λ o. cond (p v) (Some v) o) (find_ordered number p i vs by)

pub find_filtered : {X : Type 0} (p q : X → Bool) (vs : List X)
    → ((w : X) → p w ≡ true → q w ≡ true) → find p (filter q vs) ≡ find p vs
find_filtered p q [] within = refl
find_filtered {X = X} p q (v ∷ vs) within =
    ⊎_elim
    (λ e. let all : filter q (v ∷ vs) ≡ v ∷ filter q vs = rw e refl in ap (find p) all ∙ ap (λ o. cond (p v) (Some v) o) (find_filtered p q vs within))
    (λ e. let other : p v ≡ false = false_from_ne_true _ (λ there. let no : false ≡ true = sym e ∙ within v there in cc) in let all : filter q (v ∷ vs)
    ≡ filter q vs = rw e refl in ap (find p) all ∙ (find_filtered p q vs within ∙ ap (λ b. cond b (Some v) (find p vs)) (sym other)))
    (cases_Bool (q v))

find_mapped : {X Y : Type 0} (p : Y → Bool) (g : X → Y) (xs : List X) → find p (map g xs)
    ≡ option_and_then (λ v. Some (g v)) (find (λ v. p (g v)) xs)
find_mapped p g [] = refl
find_mapped {X = X} {Y = Y} p g (x ∷ xs) =
    ⊎_elim
    (λ e. rw e refl)
    (λ e. let a : find p (map g (x ∷ xs)) ≡ find p (map g xs) = rw e refl in let b : find (λ v. p (g v)) (x ∷ xs) ≡ find (λ v. p (g v)) xs = rw e refl in
    a ∙ (find_mapped p g xs ∙ ap (option_and_then (λ v. Some (g v))) (sym b)))
    (cases_Bool (p (g x)))

find_within : {X : Type 0} (p q : X → Bool) (xs : List X) → find p (filter q xs)
    ≡ find (λ v. q v && p v) xs
find_within p q [] = refl
find_within {X = X} p q (x ∷ xs) =
    ⊎_elim
    (λ e. let a : filter q (x ∷ xs) ≡ x ∷ filter q xs = rw e refl in ap (find p) a
    ∙ (ap (λ o. cond (p x) (Some x) o) (find_within p q xs) ∙ ap (λ b. cond (b && p x) (Some x) (find (λ v. q v && p v) xs)) (sym e)))
    (λ e. let a : filter q (x ∷ xs) ≡ filter q xs = rw e refl in ap (find p) a
    ∙ (find_within p q xs ∙ ap (λ b. cond (b && p x) (Some x) (find (λ v. q v && p v) xs)) (sym e)))
    (cases_Bool (q x))

same_at_found : {X Y : Type 0} (g : X → Y) (c : Y) (o : Option X) → ((v : X) → o ≡ Some v → g v ≡ c)
    → option_and_then (λ v. Some (g v)) o ≡ option_and_then (λ v. Some c) o
same_at_found g c None same = refl
same_at_found g c (Some v) same = ap Some (same v refl)

none_filtered : {X : Type 0} (p : X → Bool) (xs : List X) → list_any p xs ≡ false → filter p xs ≡ []
none_filtered p [] h = refl
none_filtered p (x ∷ xs) h = let both = or_parts (p x) (list_any p xs) h in rw (both.0, none_filtered p xs both.1) refl

excluding : (s k o : Bool) → (s && (k || o)) ≡ true → (s && o) ≡ false → (k && s) ≡ true
excluding true true o h l = refl
excluding true false true h l = cc
excluding true false false h l = cc
excluding false k o h l = cc

-- what excludes a vote and isn't the opposite one is of its kind and signer
excluded_by : {G D : Type 0} (vs : List (Vote G D)) (w : Vote G D) → list_any (λ v. excludes v w) vs
    ≡ true → find (λ v. opposes v w) vs ≡ None →
    list_any (is_vote_of (kind_of w) (signer_of w)) vs ≡ true
excluded_by [] w h none = h
excluded_by {G = G} {D = D} (v ∷ vs) w h none =
    ⊎_elim
    (λ opposed. let no : Some v ≡ None = subst (λ (b : Bool). cond b (Some v) (find (λ u. opposes u w) vs) ≡ None) opposed none in cc)
    (λ not_opposed.
    let rest : find (λ u. opposes u w) vs ≡ None = subst (λ (b : Bool). cond b (Some v) (find (λ u. opposes u w) vs) ≡ None) not_opposed none in
    ⊎_elim
    (λ here. ap (λ b. b || list_any (is_vote_of (kind_of w) (signer_of w)) vs)
    (excluding (eqb (signer_of v) (signer_of w)) (is_kind (kind_of v) (kind_of w)) (are_opposite (kind_of v) (kind_of w)) here not_opposed))
    (λ later. ap (λ b. is_vote_of (kind_of w) (signer_of w) v || b) (excluded_by vs w later rest) ∙ or_right (is_vote_of (kind_of w) (signer_of w) v) true refl)
    (or_cases (excludes v w) (list_any (λ u. excludes u w) vs) h))
    (cases_Bool (opposes v w))

module _ {D K G C : Type 0} (x : Config D K G C) where
  -- the kept vote of a kind that isn't released is the first vote
  pub kept_is_first : (past : History D K G C) (held : RoundState G D) (kind : Kind) (i : ℕ)
      → Represents x past held → is_released x past kind ≡ false → kept_vote held.tracked kind i
      ≡ first_vote x past kind i
  kept_is_first past held kind i represents unreleased_now =
      ap (find (is_vote_of kind i)) ((represents.each_kind kind).kept_are ∙ ap (λ b. cond b [] (first_by_signer x past kind)) unreleased_now)
      ∙ (find_ordered signer_of (is_vote_of kind i) i (filter (is_of_kind kind) (first_votes x past)) (λ w h. eqb-true _ _ (and_parts _ _ h).1)
      ∙ find_filtered (is_vote_of kind i) (is_of_kind kind) (first_votes x past) (λ w h. (and_parts _ _ h).0))

  -- a vote that a call casts and that isn't opposed is a first vote, or has one of its kind and
  -- signer before it
  cast_filled : (past : History D K G C) (event : Event D K G C) (w : Vote G D)
      (votes : List (Vote G D)) → cast_votes x event.0 ≡ votes → votes ≡ w ∷ []
      → opposite_vote x past w ≡ None →
      list_any (is_vote_of (kind_of w) (signer_of w)) (first_votes x (event ∷ past)) ≡ true
  cast_filled past event w votes casts one none =
      list_any-append (is_vote_of (kind_of w) (signer_of w)) (new_votes x past event) (first_votes x past)
      ∙ ⊎_elim
      (λ free.
      let new : new_votes x past event ≡ w ∷ [] = ap (filter (is_free (first_votes x past))) (casts ∙ one) ∙ rw free refl in
      ap (λ vs. list_any (is_vote_of (kind_of w) (signer_of w)) vs || list_any (is_vote_of (kind_of w) (signer_of w)) (first_votes x past)) new
      ∙ ap (λ b. (b || false) || list_any (is_vote_of (kind_of w) (signer_of w)) (first_votes x past)) (is_itself w))
      (λ taken.
      ap (λ b. list_any (is_vote_of (kind_of w) (signer_of w)) (new_votes x past event) || b)
      (excluded_by (first_votes x past) w (not-false (list_any (λ v. excludes v w) (first_votes x past)) taken) none)
      ∙ or_right (list_any (is_vote_of (kind_of w) (signer_of w)) (new_votes x past event)) true refl)
      (cases_Bool (is_free (first_votes x past) w))

  -- the votes that a call casts: one at most
  pub cast_cases : (call : Call K G C D) → (cast_votes x call ≡ [])
      ⊎ ((w : Vote G D) × (cast_votes x call ≡ w ∷ []))
  cast_cases (NetworkCall sender vote) = ⊎_elim (λ e. inr (vote, rw e refl)) (λ e. inl (rw e refl)) (cases_Bool (names_sender x sender vote))
  cast_cases (OwnCall vote) = inr (vote, refl)
  cast_cases (CertificateCall certificate) = inl refl
  cast_cases (LeaderCall named) = inl refl
  cast_cases ConstructCall = inl refl
  cast_cases (ForwardCall me) = inl refl
  cast_cases (MissingCall p) = inl refl

  pub none_from : {X : Type 0} (o : Option X) → is_none o ≡ true → o ≡ None
  none_from None h = refl
  none_from (Some v) h = cc

  same_vote_of : (k : Kind) (i : ℕ) (w : Vote G D) (vs : List (Vote G D)) → is_vote_of k i w ≡ true
      → list_any (is_vote_of (kind_of w) (signer_of w)) vs ≡ true → list_any (is_vote_of k i) vs
      ≡ true
  same_vote_of k i w vs h any =
      let kk : kind_of w ≡ k = is_kind-true _ _ (and_parts _ _ h).0 in
      let ii : signer_of w ≡ i = eqb-true _ _ (and_parts _ _ h).1 in
      subst (λ (j : ℕ). list_any (is_vote_of k j) vs ≡ true) ii (subst (λ (l : Kind). list_any (is_vote_of l (signer_of w)) vs ≡ true) kk any)

  -- Whose vote was compared has a first vote of the kind.
  pub compared_filled : (past : History D K G C) (kind : Kind) (i : ℕ)
      → list_any (is_vote_of kind i) (compared_votes x past) ≡ true
      → is_some (first_vote x past kind i) ≡ true
  compared_filled [] kind i h = cc
  compared_filled (event ∷ past) kind i h =
      ⊎_elim now
      (λ others. filled_stays x past event kind i
      (⊎_elim
      (λ released. some_where (is_compared_at_release x past event) _
      (sym (any_filtered (is_compared_at_release x past event) (first_votes x past) kind i (firsts_apart x past)) ∙ released))
      (λ before. compared_filled past kind i before)
      (or_cases _ _ (sym (list_any-append (is_vote_of kind i) (filter (is_compared_at_release x past event) (first_votes x past)) (compared_votes x past))
      ∙ others))))
      (or_cases _ _ (sym (list_any-append (is_vote_of kind i) (filter (is_compared x past event) (cast_votes x event.0))
      (filter (is_compared_at_release x past event) (first_votes x past) ++ compared_votes x past)) ∙ h))
    where
      now : list_any (is_vote_of kind i) (filter (is_compared x past event) (cast_votes x event.0))
          ≡ true → is_some (first_vote x (event ∷ past) kind i) ≡ true
      now some =
          ⊎_elim
          (λ none. let no : false ≡ true = subst (λ (vs : List (Vote G D)). list_any (is_vote_of kind i) (filter (is_compared x past event) vs) ≡ true) none
          some in cc)
          (λ (one : (w : Vote G D) × (cast_votes x event.0 ≡ w ∷ [])).
          let it : list_any (is_vote_of kind i) (filter (is_compared x past event) (one.0 ∷ []))
          ≡ true = subst (λ (vs : List (Vote G D)). list_any (is_vote_of kind i) (filter (is_compared x past event) vs) ≡ true) one.1 some in
          ⊎_elim
          (λ dropped. let no : false ≡ true = subst (λ (vs : List (Vote G D)). list_any (is_vote_of kind i) vs ≡ true) dropped it in cc)
          (λ taken.
          let here : (is_vote_of kind i one.0 || false) ≡ true = subst (λ (vs : List (Vote G D)). list_any (is_vote_of kind i) vs ≡ true) taken.0 it in
          let of : is_vote_of kind i one.0 ≡ true = first_of (is_vote_of kind i one.0) here in
          let unopposed : opposite_vote x past one.0 ≡ None = none_from (opposite_vote x past one.0) (and_parts _ _ (and_parts _ _ taken.1).1).1 in
          sym (any_is_found (first_votes x (event ∷ past)) kind i)
          ∙ same_vote_of kind i one.0 (first_votes x (event ∷ past)) of (cast_filled past event one.0 (cast_votes x event.0) refl one.1 unopposed))
          (filter_one (is_compared x past event) one.0))
          (cast_cases event.0)
        where
          first_of : (b : Bool) → (b || false) ≡ true → b ≡ true
          first_of true e = refl
          first_of false e = e

  pub none_compared : (past : History D K G C) (kind : Kind) (i : ℕ) → first_vote x past kind i
      ≡ None → compared_votes_of x past kind i ≡ []
  none_compared past kind i free =
      none_filtered (is_vote_of kind i) (compared_votes x past)
      (false_from_ne_true _ (λ h. let no : false ≡ true = sym (ap is_some free) ∙ compared_filled past kind i h in cc))

  -- the facts of a signer are those of the history, where it has a first vote
  pub facts_known : (past : History D K G C) (held : RoundState G D) (kind : Kind) (i : ℕ)
      → Represents x past held → is_released x past kind ≡ true →
      known_facts held.tracked kind i ≡ option_and_then (λ v. Some (facts_of x past kind i))
      (first_vote x past kind i)
  facts_known past held kind i represents released =
      ap (find (λ f. eqb f.signer i)) ((represents.each_kind kind).facts_are
      ∙ ap (λ b. cond b (map (λ v. facts_of x past kind (signer_of v)) (first_by_signer x past kind)) []) released)
      ∙ (find_mapped (λ f. eqb f.signer i) (λ v. facts_of x past kind (signer_of v)) (first_by_signer x past kind)
      ∙ (ap (option_and_then (λ v. Some (facts_of x past kind (signer_of v))))
      (find_ordered signer_of (λ v. eqb (signer_of v) i) i (filter (is_of_kind kind) (first_votes x past)) (λ w h. eqb-true _ _ h)
      ∙ find_within (λ v. eqb (signer_of v) i) (is_of_kind kind) (first_votes x past))
      ∙ same_at_found (λ v. facts_of x past kind (signer_of v)) (facts_of x past kind i) (first_vote x past kind i)
      (λ v found. ap (facts_of x past kind) (eqb-true _ _ (and_parts _ _ (found_is_of (first_votes x past) kind i v found)).1))))

  pub nothing_matches : (o : Option (Proposal D)) (votes : List (Vote G D)) → votes ≡ []
      → is_some_and o (λ p. list_any (is_for x.same_digest p) votes) ≡ false
  nothing_matches None votes h = refl
  nothing_matches (Some p) votes h = ap (list_any (is_for x.same_digest p)) h

  -- what is observed of a signer is what the history says
  pub observed_is : (past : History D K G C) (held : RoundState G D) (kind : Kind) (i : ℕ)
      → Represents x past held
      → observed held.tracked kind i ≡ (known_after x past).observed kind i
  observed_is past held kind i represents =
      ap (λ c. cond c (from_facts (known_facts held.tracked kind i)) (from_kept (kept_vote held.tracked kind i))) (represents.each_kind kind).compacted_is
      ∙ by_release (is_released x past kind) refl
    where
      as_kept : (first : Option (Vote G D))
          → from_kept first ≡ known_by false (facts_of x past kind i) first
      as_kept None = refl
      as_kept (Some v) = refl

      by_facts : (first : Option (Vote G D))
          → from_facts (option_and_then (λ v. Some (facts_of x past kind i)) first)
          ≡ known_by true (facts_of x past kind i) first
      by_facts None = refl
      by_facts (Some v) = refl

      by_release : (released : Bool) → is_released x past kind ≡ released
          → cond released (from_facts (known_facts held.tracked kind i))
          (from_kept (kept_vote held.tracked kind i))
          ≡ known_by released (facts_of x past kind i) (first_vote x past kind i)
      by_release true e = ap from_facts (facts_known past held kind i represents e) ∙ by_facts (first_vote x past kind i)
      by_release false e = ap from_kept (kept_is_first past held kind i represents e) ∙ as_kept (first_vote x past kind i)

  nullify_by : (past : History D K G C) (held : RoundState G D) (i : ℕ) (released : Bool)
      → is_released x past Nullification ≡ released → Represents x past held
      → is_some (kept_vote held.tracked Nullification i)
      ≡ (not released && is_some (first_vote x past Nullification i))
  nullify_by past held i true e represents =
      ap (λ votes. is_some (find (is_vote_of Nullification i) votes))
      ((represents.each_kind Nullification).kept_are ∙ ap (λ b. cond b [] (first_by_signer x past Nullification)) e)
  nullify_by past held i false e represents = ap is_some (kept_is_first past held Nullification i represents e)

  -- whether a nullify is kept
  pub nullify_same : (past : History D K G C) (held : RoundState G D) (i : ℕ)
      → Represents x past held
      → is_some (kept_vote held.tracked Nullification i) ≡ keeps_nullify x past i
  nullify_same past held i represents = nullify_by past held i (is_released x past Nullification) refl represents
