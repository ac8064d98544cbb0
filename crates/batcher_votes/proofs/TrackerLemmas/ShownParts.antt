-- What some elements of an ascending list show, as a list of its own.
use Rattle.batcher_votes.proofs.Words.{◌≡◌, ◌≢◌, ◌≤◌, ◌<◌, ℕ, suc, zero, Bool, true, false, cond, nat_eq, nat_le, List, [], ◌∷◌, length, get_or, set, find}
use Rattle.batcher_votes.proofs.Words.{Option, Some, None, map, refl, ap, sym, arith, AllByRecursion, filter_map, cons_option, nat_tests, ne_eqb, eq-eqb}
use Rattle.batcher_votes.proofs.Words.{le-leb, lt-leb, insert_by, rec_weaker, all_from_rec}
use Rattle.batcher_types.specs.Ascending.{IsAscending}

-- the fact, of the value if there is one
abbrev pub Of : {X : Type 0} → Option X → (X → Type 0) → Type 0
Of None P = Unit {0}
Of (Some x) P = P x

-- what the element shows, if there is one
abbrev pub shown_by : {E X : Type 0} → (E → Option X) → Option E → Option X
shown_by part None = None
shown_by part (Some e) = part e

module _ {E X : Type 0} (key : E → ℕ) (part : E → Option X) where
  none_above : (i : ℕ) (es : List E) → AllByRecursion (λ e. i < key e) es
      → find (λ e. nat_eq (key e) i) es ≡ None
  none_above i [] up = refl
  none_above i (e ∷ es) up = let no : nat_eq (key e) i ≡ false = ne_eqb (key e) i (λ same. omega (arith, up.0, same)) in rw no (none_above i es up.1)

  find_step : (t : X → Bool) (i : ℕ) (e : E) (es : List E) (o : Option X) (b : Bool) → part e ≡ o
      → nat_eq (key e) i ≡ b → Of o (λ x. t x ≡ b)
      → (b ≡ true → find (λ e. nat_eq (key e) i) es ≡ None) → find t (filter_map part es)
      ≡ shown_by part (find (λ e. nat_eq (key e) i) es)
      → find t (cons_option o (filter_map part es))
      ≡ shown_by part (cond b (Some e) (find (λ e. nat_eq (key e) i) es))
  find_step t i e es None true is same test above rest = rw (is, rest, above refl)
  find_step t i e es None false is same test above rest = rest
  find_step t i e es (Some x) true is same test above rest = rw (test, is)
  find_step t i e es (Some x) false is same test above rest = rw (test, rest)

  above_same : (i : ℕ) (e : E) (es : List E) → AllByRecursion (λ y. key e < key y) es
      → nat_eq (key e) i ≡ true → find (λ y. nat_eq (key y) i) es ≡ None
  above_same i e es up same =
      let is : key e ≡ i = grind (arith, nat_tests) in
      none_above i es (rec_weaker (λ y. key e < key y) (λ y. i < key y) (λ y lt. omega (arith, lt, is)) es up)

  -- Where the test of what an element shows is that of its number, it finds what the element of
  -- that number shows.
  pub find-filter_map : (t : X → Bool) (i : ℕ)
      → ((e : E) → Of (part e) (λ x. t x ≡ nat_eq (key e) i)) → (es : List E) → IsAscending key es
      → find t (filter_map part es) ≡ shown_by part (find (λ e. nat_eq (key e) i) es)
  unfolding IsAscending
  find-filter_map t i test [] up = refl
  find-filter_map t i test (e ∷ es) up =
      find_step t i e es (part e) (nat_eq (key e) i) refl refl (test e) (above_same i e es up.0) (find-filter_map t i test es up.1)

  -- an element that shows nothing
  pub filter_map-insert_none : (e : E) (es : List E) → part e ≡ None
      → filter_map part (insert_by key e es) ≡ filter_map part es
  filter_map-insert_none e [] none = rw none
  filter_map-insert_none e (y ∷ ys) none =
      elim (nat_le (key e) (key y)) as (λ b. filter_map part (cond b (e ∷ y ∷ ys) (y ∷ insert_by key e ys)) ≡ filter_map part (y ∷ ys)) [
        | true ↦ rw none
        | false ↦ ap (λ zs. cons_option (part y) zs) (filter_map-insert_none e ys none)
      ]

  -- another element in the place of one that shows the same
  pub filter_map-set_same : (es : List E) (i : ℕ) (e d : E) → i < length es → part e
      ≡ part (get_or es i d) → filter_map part (set es i e) ≡ filter_map part es
  filter_map-set_same [] i e d below same = absurd (omega arith)
  filter_map-set_same (y ∷ ys) zero e d below same = rw same
  filter_map-set_same (y ∷ ys) (suc i) e d below same = ap (λ zs. cons_option (part y) zs) (filter_map-set_same ys i e d (omega arith) same)

  module _ (number : X → ℕ) (numbered : (e : E) → Of (part e) (λ x. number x ≡ key e)) where
    front_step : (x : X) (e : E) (zs : List X) (o : Option X) → number x ≤ key e
        → Of o (λ y. number y ≡ key e) → insert_by number x zs ≡ x ∷ zs
        → insert_by number x (cons_option o zs) ≡ x ∷ cons_option o zs
    front_step x e zs None le same rest = rest
    front_step x e zs (Some y) le same rest = let yes : nat_le (number x) (number y) ≡ true = le-leb (number x) (number y) (omega (arith, le, same)) in rw yes

    -- what comes before all
    insert_front : (x : X) (es : List E) → AllByRecursion (λ e. number x ≤ key e) es
        → insert_by number x (filter_map part es) ≡ x ∷ filter_map part es
    insert_front x [] up = refl
    insert_front x (e ∷ es) up = front_step x e (filter_map part es) (part e) up.0 (numbered e) (insert_front x es up.1)

    past : (x : X) (e : E) (zs : List X) (o : Option X) → key e < number x
        → Of o (λ y. number y ≡ key e) → cons_option o (insert_by number x zs)
        ≡ insert_by number x (cons_option o zs)
    past x e zs None lt same = refl
    past x e zs (Some y) lt same = let no : nat_le (number x) (number y) ≡ false = lt-leb (number x) (number y) (omega (arith, lt, same)) in rw no

    number_of : (e : E) (x : X) → part e ≡ Some x → number x ≡ key e
    number_of e x shows = rw shows at (numbered e)

    insert_step : (e y : E) (x : X) (ys : List E) (b : Bool) → nat_le (key e) (key y) ≡ b → part e
        ≡ Some x → AllByRecursion (λ z. key y < key z) ys → filter_map part (insert_by key e ys)
        ≡ insert_by number x (filter_map part ys)
        → filter_map part (cond b (e ∷ y ∷ ys) (y ∷ insert_by key e ys))
        ≡ insert_by number x (filter_map part (y ∷ ys))
    insert_step e y x ys true le shows up rest =
        let same = number_of e x shows in
        let first : number x ≤ key y = grind (arith, nat_tests, same) in
        rw shows (sym (insert_front x (y ∷ ys) (first, rec_weaker (λ z. key y < key z) (λ z. number x ≤ key z) (λ z lt. omega (arith, lt, first)) ys up)))
    insert_step e y x ys false le shows up rest =
        let same = number_of e x shows in
        let after : key y < number x = grind (arith, nat_tests, same) in
        rw rest (past x y (filter_map part ys) (part y) after (numbered y))

    -- an element that shows something
    pub filter_map-insert_some : (e : E) (x : X) (es : List E) → IsAscending key es → part e
        ≡ Some x → filter_map part (insert_by key e es) ≡ insert_by number x (filter_map part es)
    unfolding IsAscending
    filter_map-insert_some e x [] up shows = rw shows
    filter_map-insert_some e x (y ∷ ys) up shows = insert_step e y x ys (nat_le (key e) (key y)) refl shows up.0 (filter_map-insert_some e x ys up.1 shows)

    -- an element that shows something in the place of one of its number that shows nothing
    pub filter_map-set_new : (es : List E) (i : ℕ) (e d : E) (x : X) → IsAscending key es → i
        < length es → key e ≡ key (get_or es i d) → part (get_or es i d) ≡ None → part e ≡ Some x
        → filter_map part (set es i e) ≡ insert_by number x (filter_map part es)
    unfolding IsAscending
    filter_map-set_new [] i e d x up below same none shows = absurd (omega arith)
    filter_map-set_new (y ∷ ys) zero e d x up below same none shows =
        let is = number_of e x shows in
        rw (shows, none) (sym (insert_front x ys (rec_weaker (λ z. key y < key z) (λ z. number x ≤ key z) (λ z lt. omega (arith, lt, is, same)) ys up.0)))
    filter_map-set_new (y ∷ ys) (suc i) e d x up below same none shows =
        let is = number_of e x shows in
        let above : key y < key (get_or ys i d) = all_from_rec (λ z. key y < key z) ys up.0 i d (omega arith) in
        rw (filter_map-set_new ys i e d x up.1 (omega arith) same none shows)
        (past x y (filter_map part ys) (part y) (omega (arith, above, is, same)) (numbered y))

    other_step : (h : X → X) (k : ℕ) (e : E) (zs : List X) (o : Option X) → key e ≢ k
        → Of o (λ y. number y ≡ key e) → map (λ y. cond (nat_eq (number y) k) (h y) y) zs ≡ zs
        → map (λ y. cond (nat_eq (number y) k) (h y) y) (cons_option o zs) ≡ cons_option o zs
    other_step h k e zs None differs same rest = rest
    other_step h k e zs (Some y) differs same rest =
        let no : nat_eq (number y) k ≡ false = ne_eqb (number y) k (λ is. differs (omega (arith, is, same))) in rw (no, rest)

    others : (h : X → X) (k : ℕ) (es : List E) → AllByRecursion (λ e. key e ≢ k) es
        → map (λ y. cond (nat_eq (number y) k) (h y) y) (filter_map part es) ≡ filter_map part es
    others h k [] differ = refl
    others h k (e ∷ es) differ = other_step h k e (filter_map part es) (part e) differ.0 (numbered e) (others h k es differ.1)

    skip : (h : X → X) (k : ℕ) (e : E) (zs ws : List X) (o : Option X) → key e ≢ k
        → Of o (λ y. number y ≡ key e) → zs ≡ map (λ y. cond (nat_eq (number y) k) (h y) y) ws
        → cons_option o zs ≡ map (λ y. cond (nat_eq (number y) k) (h y) y) (cons_option o ws)
    skip h k e zs ws None differs same rest = rest
    skip h k e zs ws (Some y) differs same rest =
        let no : nat_eq (number y) k ≡ false = ne_eqb (number y) k (λ is. differs (omega (arith, is, same))) in rw (no, rest)

    -- an element in the place of one of its number, which shows a function of what that one shows
    pub filter_map-set_changed : (h : X → X) (es : List E) (i k : ℕ) (e d : E) (w : X)
        → IsAscending key es → i < length es → key (get_or es i d) ≡ k → part (get_or es i d)
        ≡ Some w → part e ≡ Some (h w) → filter_map part (set es i e)
        ≡ map (λ y. cond (nat_eq (number y) k) (h y) y) (filter_map part es)
    unfolding IsAscending
    filter_map-set_changed h [] i k e d w up below is shows changed = absurd (omega arith)
    filter_map-set_changed h (y ∷ ys) zero k e d w up below is shows changed =
        let same = number_of y w shows in
        let yes : nat_eq (number w) k ≡ true = eq-eqb (number w) k (omega (arith, same, is)) in
        rw (changed, shows, yes) (ap (λ zs. h w ∷ zs) (sym
        (others h k ys (rec_weaker (λ z. key y < key z) (λ z. key z ≢ k) (λ z lt at. omega (arith, lt, at, is)) ys up.0))))
    filter_map-set_changed h (y ∷ ys) (suc i) k e d w up below is shows changed =
        let above : key y < key (get_or ys i d) = all_from_rec (λ z. key y < key z) ys up.0 i d (omega arith) in
        skip h k y (filter_map part (set ys i e)) (filter_map part ys) (part y) (λ at. omega (arith, above, at, is)) (numbered y)
        (filter_map-set_changed h ys i k e d w up.1 (omega arith) is shows changed)

-- elements that show what they did
pub filter_map-map_same : {E X : Type 0} (part : E → Option X) (f : E → E)
    → ((e : E) → part (f e) ≡ part e) → (es : List E) → filter_map part (map f es)
    ≡ filter_map part es
filter_map-map_same part f same [] = refl
filter_map-map_same part f same (e ∷ es) = rw (same e, filter_map-map_same part f same es)

-- what is made of a value, if there is one
abbrev pub made_of : {X Y : Type 0} → (X → Y) → Option X → Option Y
made_of g None = None
made_of g (Some x) = Some (g x)
