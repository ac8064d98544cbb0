-- Which first vote is contrary to a vote: one at most, of the kind of the vote or of the opposite
-- one.
use Rattle.batcher_histories.proofs.Words.{◌≡◌, ℕ, ◌==◌, Bool, true, false, not, cond, ◌&&◌, List, [], ◌∷◌, Option, Some, None, refl, ap, sym, ◌∙◌, ⊎_elim}
use Rattle.batcher_histories.proofs.Words.{subst, filter, find, is_some, option_and_then, and-true, cases_Bool, and_parts, and_from, or_cases}
use Rattle.batcher_histories.proofs.Words.{false_from_ne_true, eqb-true, true≢false, false≢true, same_Some, Vote, Kind, Notarization, Nullification}
use Rattle.batcher_histories.proofs.Words.{Finalization, Config, is_kind, kind_of, signer_of, are_opposite, is_vote_of, opposes, any_found, none_found}
use Rattle.batcher_histories.proofs.Words.{is_kind-true, History, first_votes, first_vote, opposite_vote, is_released, are_contrary, contrary_vote}
use Rattle.batcher_histories.proofs.History.Distinct.{IsAt, AreApart, vote_at, option_cases, found_here, found_behind, firsts_apart}
use Rattle.batcher_histories.proofs.Headline.NeverBoth.{never_both}
use Rattle.batcher_histories.proofs.Correctness.Kept.{found_passes}

-- KINDS
one_opposite : (a b kind : Kind) → are_opposite a kind ≡ true → are_opposite b kind ≡ true →
    is_kind a b ≡ true
one_opposite Nullification Nullification kind o p = refl
one_opposite Finalization Finalization kind o p = refl
one_opposite Notarization b kind o p = absurd (false≢true o)
one_opposite a Notarization kind o p = absurd (false≢true p)
one_opposite Nullification Finalization Finalization o p = absurd (false≢true p)
one_opposite Nullification Finalization kind o p = absurd (false≢true o)
one_opposite Finalization Nullification Nullification o p = absurd (false≢true p)
one_opposite Finalization Nullification kind o p = absurd (false≢true o)

pub opposed_parts : {G D : Type 0} (a b : Vote G D) → opposes a b ≡ true →
    ((signer_of a == signer_of b) ≡ true) × (are_opposite (kind_of a) (kind_of b) ≡ true)
opposed_parts a b opposed = and_parts (signer_of a == signer_of b) (are_opposite (kind_of a) (kind_of b)) opposed

-- VOTES THAT ARE APART
-- what is found among them is the one of its kind and signer
pub found_at : {G D : Type 0} (p : Vote G D → Bool) (vs : List (Vote G D)) (v : Vote G D) →
    AreApart vs → find p vs ≡ Some v → IsAt vs v
found_at p [] v apart h = cc
found_at {G} {D} p (w ∷ vs) v apart h = by_mark (p w) h (found_at p vs v apart.1)
  where
    by_mark : (b : Bool) → cond b (Some w) (find p vs) ≡ Some v → (find p vs ≡ Some v → IsAt vs v) →
        IsAt (w ∷ vs) v
    by_mark true e rest = subst (λ (u : Vote G D). IsAt (w ∷ vs) u) (same_Some w v e) (found_here w vs)
    by_mark false e rest = found_behind w vs v apart.0 (rest e)

module _ {G D : Type 0} (p q : Vote G D → Bool) where
  -- a vote that is found, if it passes both tests
  abbrev if_passing : Option (Vote G D) → Option (Vote G D)
  if_passing found = option_and_then (λ v. cond (q v && p v) (Some v) None) found

  first_alone : (b : Bool) (v : Vote G D) (vs : List (Vote G D)) → find p vs ≡ None →
      find p (cond b (v ∷ vs) vs) ≡ cond (b && p v) (Some v) None
  first_alone true v vs none = ap (cond (p v) (Some v)) none
  first_alone false v vs none = none

  first_fails : (b : Bool) (v : Vote G D) (vs : List (Vote G D)) → p v ≡ false →
      find p (cond b (v ∷ vs) vs) ≡ find p vs
  first_fails true v vs fails = ap (λ c. cond c (Some v) (find p vs)) fails
  first_fails false v vs fails = refl

  -- Where only the vote of a kind and signer passes a test, that is found by it among those that
  -- pass another.
  found_alone : (kind : Kind) (i : ℕ) (vs : List (Vote G D)) → AreApart vs →
      ((v : Vote G D) → IsAt vs v → p v ≡ true → is_vote_of kind i v ≡ true) →
      find p (filter q vs) ≡ if_passing (vote_at vs kind i)
  found_alone kind i [] apart only = refl
  found_alone kind i (v ∷ vs) apart only =
      let rest = found_alone kind i vs apart.1 (λ w found. only w (found_behind v vs w apart.0 found)) in
      ⊎_elim
      (λ (here : is_vote_of kind i v ≡ true).
      let k : kind_of v ≡ kind = is_kind-true _ _ (and_parts _ _ here).0 in
      let s : signer_of v ≡ i = eqb-true _ _ (and_parts _ _ here).1 in
      let none : vote_at vs kind i ≡ None =
      subst (λ (j : ℕ). vote_at vs kind j ≡ None) s (subst (λ (l : Kind). vote_at vs l (signer_of v) ≡ None) k apart.0) in
      first_alone (q v) v (filter q vs) (rest ∙ ap if_passing none)
      ∙ ap (λ b. if_passing (cond b (Some v) (vote_at vs kind i))) (sym here))
      (λ (other : is_vote_of kind i v ≡ false).
      let fails : p v ≡ false = false_from_ne_true _ (λ passes. true≢false (sym (only v (found_here v vs) passes) ∙ other)) in
      first_fails (q v) v (filter q vs) fails
      ∙ (rest ∙ ap (λ b. if_passing (cond b (Some v) (vote_at vs kind i))) (sym other)))
      (cases_Bool (is_vote_of kind i v))

-- FIRST VOTES
module _ {D K G C : Type 0} (x : Config D K G C) (past : History D K G C) where
  abbrev firsts : List (Vote G D)
  firsts = first_votes x past

  never_opposite : (a b : Kind) (i : ℕ) (v w : Vote G D) → are_opposite a b ≡ true →
      vote_at firsts a i ≡ Some v → vote_at firsts b i ≡ Some w → ⊥
  never_opposite Nullification Finalization i v w o e f =
      true≢false (sym (and_from _ _ (ap is_some e) (ap is_some f)) ∙ never_both x past i)
  never_opposite Finalization Nullification i v w o e f =
      true≢false (sym (and_from _ _ (ap is_some f) (ap is_some e)) ∙ never_both x past i)
  never_opposite a b i v w o e f = false≢true o

  at_index : (v : Vote G D) (kind : Kind) (i : ℕ) → IsAt firsts v → kind_of v ≡ kind →
      signer_of v ≡ i → vote_at firsts kind i ≡ Some v
  at_index v kind i found k s =
      subst (λ (j : ℕ). vote_at firsts kind j ≡ Some v) s (subst (λ (l : Kind). vote_at firsts l (signer_of v) ≡ Some v) k found)

  module _ (vote : Vote G D) where
    -- that of its signer first votes of a kind alone are contrary to a vote
    abbrev pub OnlyOf : Kind → Type 0
    OnlyOf kind =
        (v : Vote G D) → IsAt firsts v → are_contrary x v vote ≡ true
        → is_vote_of kind (signer_of vote) v ≡ true

    -- While none opposes the vote they are of its own kind,
    pub unopposed_only : opposite_vote x past vote ≡ None → OnlyOf (kind_of vote)
    unopposed_only none v found contrary =
        ⊎_elim
        (λ opposed.
        absurd (true≢false
        (sym (any_found (is_vote_of (kind_of v) (signer_of v)) (λ w. opposes w vote) firsts v found opposed)
        ∙ none_found (λ w. opposes w vote) firsts none)))
        (λ differs. (and_parts _ _ differs).0)
        (or_cases (opposes v vote) _ contrary)

    -- and else of the opposite one.
    opposed_only : (earlier : Vote G D) → opposite_vote x past vote ≡ Some earlier →
        OnlyOf (kind_of earlier)
    opposed_only earlier found_earlier v found contrary =
        let opposed = opposed_parts earlier vote (found_passes (λ w. opposes w vote) firsts earlier found_earlier) in
        let earlier_is : vote_at firsts (kind_of earlier) (signer_of vote) ≡ Some earlier =
        at_index earlier (kind_of earlier) (signer_of vote)
        (found_at (λ w. opposes w vote) firsts earlier (firsts_apart x past) found_earlier) refl (eqb-true _ _ opposed.0) in
        ⊎_elim
        (λ opposes_too.
        let parts = opposed_parts v vote opposes_too in
        and_from _ _ (one_opposite (kind_of v) (kind_of earlier) (kind_of vote) parts.1 opposed.1) parts.0)
        (λ differs.
        let alike = and_parts _ _ (and_parts _ _ differs).0 in
        absurd (never_opposite (kind_of earlier) (kind_of vote) (signer_of vote) earlier v opposed.1 earlier_is
        (at_index v (kind_of vote) (signer_of vote) found (is_kind-true _ _ alike.0) (eqb-true _ _ alike.1))))
        (or_cases (opposes v vote) _ contrary)

    -- a vote that is found, if it is kept and contrary
    abbrev pub if_contrary : Option (Vote G D) → Option (Vote G D)
    if_contrary found = if_passing (λ v. are_contrary x v vote) (λ v. not (is_released x past (kind_of v))) found

    pub contrary_of_kind : (kind : Kind) → OnlyOf kind →
        contrary_vote x past vote ≡ if_contrary (first_vote x past kind (signer_of vote))
    contrary_of_kind kind only =
        found_alone (λ v. are_contrary x v vote) (λ v. not (is_released x past (kind_of v))) kind (signer_of vote) firsts
        (firsts_apart x past) only

    one_kind : (kind : Kind) × OnlyOf kind
    one_kind =
        ⊎_elim
        (λ none. (kind_of vote, unopposed_only none))
        (λ (found : (earlier : Vote G D) × (opposite_vote x past vote ≡ Some earlier)).
        (kind_of found.0, opposed_only found.0 found.1))
        (option_cases (opposite_vote x past vote))

    -- A first vote that is contrary to the vote is the one, where it is kept.
    pub contrary_is : (v : Vote G D) → IsAt firsts v → are_contrary x v vote ≡ true →
        contrary_vote x past vote ≡ cond (not (is_released x past (kind_of v))) (Some v) None
    contrary_is v found contrary =
        let is = and_parts _ _ (one_kind.1 v found contrary) in
        contrary_of_kind one_kind.0 one_kind.1
        ∙ (ap if_contrary (at_index v one_kind.0 (signer_of vote) found (is_kind-true _ _ is.0) (eqb-true _ _ is.1))
        ∙ ap (λ b. cond b (Some v) None)
        (ap (λ b. not (is_released x past (kind_of v)) && b) contrary ∙ and-true (not (is_released x past (kind_of v)))))
