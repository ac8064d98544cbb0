-- Filters and maps of lists, and whether any of a list passes a test.
use Rattle.batcher_types.proofs.Words.{◌≡◌, Bool, true, false, cond, ◌&&◌, ◌||◌, List, [], ◌∷◌, ◌++◌, map, filter, find, Option, Some, None, refl, ap, sym, ◌∙◌}
use Rattle.batcher_types.proofs.Words.{⊎_elim, subst, arith, AllPass, list_any, cases_Bool, and_left, and_right, and_parts, or_left, or_right, or_cases}
use Rattle.batcher_types.proofs.Words.{or_parts, true≢false, filter_agree, filter-append, append-nil}

-- two filters are one
pub filter_twice : {X : Type 0} (p q : X → Bool) (xs : List X) → filter p (filter q xs)
    ≡ filter (λ v. q v && p v) xs
filter_twice p q [] = refl
filter_twice {X = X} p q (x ∷ xs) =
    ⊎_elim
    (λ e.
    let kept : filter q (x ∷ xs) ≡ x ∷ filter q xs = rw e refl in
    ap (filter p) kept ∙ (ap (λ (ys : List X). cond (p x) (x ∷ ys) ys) (filter_twice p q xs)
    ∙ ap (λ b. cond (b && p x) (x ∷ filter (λ v. q v && p v) xs) (filter (λ v. q v && p v) xs)) (sym e)))
    (λ e.
    let gone : filter q (x ∷ xs) ≡ filter q xs = rw e refl in
    ap (filter p) gone ∙ (filter_twice p q xs ∙ ap (λ b. cond (b && p x) (x ∷ filter (λ v. q v && p v) xs) (filter (λ v. q v && p v) xs)) (sym e)))
    (cases_Bool (q x))

-- a test that none passes
pub filter_none : {X : Type 0} (p : X → Bool) (xs : List X) → ((v : X) → p v ≡ false) → filter p xs
    ≡ []
filter_none p [] none = refl
filter_none p (x ∷ xs) none = rw (none x) (filter_none p xs none)

both_within : (a b : Bool) → (b ≡ true → a ≡ true) → (a && b) ≡ b
both_within true b within = refl
both_within false true within = within refl
both_within false false within = refl

-- a filter behind a wider one,
pub filter_again : {X : Type 0} (p q : X → Bool) (xs : List X) → ((v : X) → p v ≡ true → q v ≡ true)
    → filter p (filter q xs) ≡ filter p xs
filter_again p q xs within = filter_twice p q xs ∙ filter_agree (λ v. q v && p v) p (λ v. both_within (q v) (p v) (within v)) xs

never_both : (a b : Bool) → (b ≡ true → a ≡ false) → (a && b) ≡ false
never_both a true apart = and_left a true (apart refl)
never_both a false apart = and_right a false refl

-- and behind one that passes nothing of it
pub none_both : {X : Type 0} (p q : X → Bool) (xs : List X) → ((v : X) → p v ≡ true → q v ≡ false)
    → filter p (filter q xs) ≡ []
none_both p q xs apart = filter_twice p q xs ∙ filter_none (λ v. q v && p v) xs (λ v. never_both (q v) (p v) (apart v))

pub map_same : {X Y : Type 0} (f g : X → Y) (xs : List X) → ((v : X) → f v ≡ g v) → map f xs
    ≡ map g xs
map_same f g [] same = refl
map_same f g (x ∷ xs) same = rw (same x, map_same f g xs same) refl

pub either_same : {X : Type 0} (b : Bool) (v : X) → cond b v v ≡ v
either_same true v = refl
either_same false v = refl

-- where nothing waits in a second case, that of the first decides
pub open_or_closed : {X : Type 0} (p : X → Bool) (c s : Bool) (xs ys : List X)
    → (s ≡ true → xs ≡ []) → (s ≡ false → c ≡ false → filter p xs ≡ filter p ys) →
    cond c [] (filter p xs) ≡ cond (c || s) [] (filter p ys)
open_or_closed p true s xs ys none alike = refl
open_or_closed p false true xs ys none alike = ap (filter p) (none refl)
open_or_closed p false false xs ys none alike = alike refl refl

-- a list alone, and lists behind others of which the same pass
pub first_only : {X : Type 0} (xs ys : List X) → ys ≡ [] → (xs ++ ys) ++ [] ≡ xs
first_only xs ys none = append-nil (xs ++ ys) ∙ (ap (λ zs. xs ++ zs) none ∙ append-nil xs)

pub filter_behind : {X : Type 0} (p : X → Bool) (xs ys zs : List X) → filter p ys ≡ filter p zs
    → filter p (xs ++ ys) ≡ filter p (xs ++ zs)
filter_behind p xs ys zs same = filter-append p xs ys ∙ (ap (λ vs. filter p xs ++ vs) same ∙ sym (filter-append p xs zs))

pub any_more : {X : Type 0} (p q : X → Bool) → ((v : X) → p v ≡ true → q v ≡ true) → (vs : List X)
    → list_any p vs ≡ true → list_any q vs ≡ true
any_more p q more [] h = h
any_more p q more (v ∷ vs) h =
    ⊎_elim (λ here. or_left (q v) (list_any q vs) (more v here)) (λ rest. or_right (q v) (list_any q vs) (any_more p q more vs rest))
    (or_cases (p v) (list_any p vs) h)

any_of_one : {X : Type 0} (p : X → Bool) (v : X) (vs : List X) (b rest : Bool)
    → (list_any p vs ≡ true → rest ≡ true) → list_any p (cond b (v ∷ vs) vs) ≡ true
    → ((b && p v) || rest) ≡ true
any_of_one p v vs true rest more h = ⊎_elim (λ here. or_left (p v) rest here) (λ k. or_right (p v) rest (more k)) (or_cases (p v) (list_any p vs) h)
any_of_one p v vs false rest more h = more h

pub any_of_filtered : {X : Type 0} (p q : X → Bool) (vs : List X) → list_any p (filter q vs) ≡ true
    → list_any (λ v. q v && p v) vs ≡ true
any_of_filtered p q [] h = h
any_of_filtered p q (v ∷ vs) h = any_of_one p v (filter q vs) (q v) _ (any_of_filtered p q vs) h

pub any_filter : {X : Type 0} (p q : X → Bool) (vs : List X) → list_any p (filter q vs) ≡ true
    → list_any p vs ≡ true
any_filter p q vs h = any_more (λ v. q v && p v) p (λ v both. (and_parts _ _ both).1) vs (any_of_filtered p q vs h)

-- what is found is one of them
pub any_found : {X : Type 0} (p q : X → Bool) (vs : List X) (v : X) → find p vs ≡ Some v → q v
    ≡ true → list_any q vs ≡ true
any_found p q [] v h k = cc
any_found {X = X} p q (w ∷ vs) v h k = by_mark (p w) h (any_found p q vs v)
  where
    by_mark : (b : Bool) → cond b (Some w) (find p vs) ≡ Some v
        → (find p vs ≡ Some v → q v ≡ true → list_any q vs ≡ true) → (q w || list_any q vs) ≡ true
    by_mark true e rest = let same : w ≡ v = cc in or_left (q w) (list_any q vs) (subst (λ (u : X). q u ≡ true) (sym same) k)
    by_mark false e rest = or_right (q w) (list_any q vs) (rest e k)

none_found_of : {X : Type 0} (b : Bool) (v : X) (o : Option X) → cond b (Some v) o ≡ None
    → (b ≡ false) × (o ≡ None)
none_found_of true v o h = absurd (cc)
none_found_of false v o h = (refl, h)

pub none_found : {X : Type 0} (p : X → Bool) (vs : List X) → find p vs ≡ None → list_any p vs
    ≡ false
none_found p [] h = refl
none_found p (v ∷ vs) h = let parts = none_found_of (p v) v (find p vs) h in rw (parts.0, none_found p vs parts.1) refl

-- of one of two tests, where none passes the other
pub any_other : {X : Type 0} (p q : X → Bool) (vs : List X) → list_any (λ v. p v || q v) vs ≡ true
    → list_any q vs ≡ false → list_any p vs ≡ true
any_other p q [] h none = h
any_other p q (v ∷ vs) h none =
    let parts = or_parts (q v) (list_any q vs) none in
    ⊎_elim
    (λ here. ⊎_elim (λ this. or_left (p v) (list_any p vs) this) (λ that. absurd (true≢false (sym that ∙ parts.0))) (or_cases (p v) (q v) here))
    (λ rest. or_right (p v) (list_any p vs) (any_other p q vs rest parts.1))
    (or_cases (p v || q v) (list_any (λ w. p w || q w) vs) h)

-- Where all pass a test, all pass a weaker one.
pub AllPass-nil : {X : Type 0} (p : X → Bool) → AllPass p []
AllPass-nil p = λ k d below. absurd (omega arith)

pub AllPass-weaker : {X : Type 0} (p q : X → Bool) → ((x : X) → p x ≡ true → q x ≡ true)
    → (xs : List X) → AllPass p xs → AllPass q xs
AllPass-weaker p q more xs h = λ k d below. more _ (h k d below)

-- a test beside one that always passes
pub and-true : (b : Bool) → (b && true) ≡ b
and-true true = refl
and-true false = refl
