-- An index of votes by their rounds.
use Rattle.batcher_journal.proofs.Words.{◌≡◌, ◌+◌, ◌-◌, ◌<◌, ◌≤◌, ◌++◌, ◌∙◌, ℕ, Bool, true, false, List, ap, arith, get_or, inl, inr, length, subst, sym, take}
use Rattle.batcher_journal.proofs.Words.{drop, IsEquivalence, All, Contains, cases_lt, get_or_append_left, get_or_default, get_or-take, length-append}
use Rattle.batcher_journal.proofs.Words.{length-drop, length-take, take-append-drop, take_all, All-append, All-contains, IsFree, LeavesFree, BarsSubject}
use Rattle.batcher_journal.proofs.Words.{is_below, AreByRounds, IsIndex, Points, Entry, round_in, subject_of, Subject, Vote, Round}
use Rattle.batcher_journal.proofs.Words.{list_any, list_any-append, list_any_none, same_round, ◌||◌}
use Rattle.batcher_journal.proofs.Rounds.{below_other, later_other, earlier_below, no_contradiction, not_itself, not_reversed, other_subject, still_over}
use Rattle.batcher_journal.proofs.Symmetric.{contradict_symmetric, subjects_symmetric}

-- an entry for where there is none
abbrev pub nowhere : Entry
nowhere = record { round = record { epoch = record { 0 = 0 }; view = record { 0 = 0 } }; at = 0 }

-- those of earlier rounds are before the others
pub parted : (index : List Entry) (round : Round) → AreByRounds index → (i j : ℕ) (d : Entry)
    → i ≤ j → j < length index → is_below round (get_or index j d).round ≡ true
    → is_below round (get_or index i d).round ≡ true
parted index round ascend i j d le lt below =
    earlier_below round (get_or index j d).round (get_or index i d).round below (ascend i j d le lt)

-- how far a search has come
abbrev pub IsSearched : {G D : Type 0} → (D → D → Bool) → List (Vote G D) → List Entry → Subject D
    → ℕ → Type 0
IsSearched {G} {D} same votes index subject i = (k : ℕ) (d : Entry) (v : Vote G D) → k < i
    → k < length index → LeavesFree same subject (get_or votes (get_or index k d).at v)

module _ {G D : Type 0} (same : D → D → Bool) where
  -- A vote of another round leaves a subject free.
  earlier_free : (vote : Vote G D) (subject : Subject D)
      → is_below (round_in subject) (round_in (subject_of vote)) ≡ true
      → LeavesFree same subject vote
  earlier_free vote subject below = (
    other_subject same (round_in subject) (subject_of vote) subject below (not_itself (round_in subject)),
    no_contradiction same (round_in subject) (subject_of vote) subject below (not_itself (round_in subject)),
  )

  later_free : IsEquivalence same → (vote : Vote G D) (subject : Subject D)
      → is_below (round_in (subject_of vote)) (round_in subject) ≡ true
      → LeavesFree same subject vote
  later_free laws vote subject below =
      let round : Round = round_in (subject_of vote) in (
        subjects_symmetric same laws (subject_of vote) subject
            ∙ other_subject same round subject (subject_of vote) below (not_itself round),
        contradict_symmetric same laws (subject_of vote) subject
            ∙ no_contradiction same round subject (subject_of vote) below (not_itself round),
      )

  module _ (votes : List (Vote G D)) (index : List Entry) (is_index : IsIndex votes index) where
    -- Where each entry's vote leaves a subject free, so does each vote that is in the index.
    pub all_free : (subject : Subject D)
        → ((k : ℕ) (d : Entry) (v : Vote G D) → k < length index
        → LeavesFree same subject (get_or votes (get_or index k d).at v))
        → IsFree same (take (length index) votes) subject
    all_free subject each i v lt =
        let inside : i < length index = omega (arith, length-take (length index) votes) in
        let (k, k_lt, at) = is_index.covers i inside in
        let some : Entry = record { round = round_in subject; at = 0 } in
        subst (LeavesFree same subject) (sym (get_or-take (length index) votes i v inside))
        (subst (λ n. LeavesFree same subject (get_or votes n v)) (at some) (each k some v k_lt))

    module _ (laws : IsEquivalence same) (subject : Subject D) where
      abbrev Searched : ℕ → Type 0
      Searched = IsSearched same votes index subject

      pub before_place : (place : ℕ)
          → ((k : ℕ) (d : Entry) → k < place
          → is_below (round_in subject) (get_or index k d).round ≡ true)
          → Searched place
      before_place place before k d v lt within =
          earlier_free (get_or votes (get_or index k d).at v) subject
          (ap (is_below (round_in subject)) ((is_index.entries k d within).1 v) ∙ before k d lt)

      pub searched_all : (i : ℕ) → length index ≤ i → Searched i
          → IsFree same (take (length index) votes) subject
      searched_all i le so_far =
          all_free subject (λ k d v lt. so_far k d v (omega arith) lt)

      pub one_searched : (i : ℕ) (z : Entry) (vote : Vote G D) → i < length index
          → vote ≡ get_or votes (get_or index i z).at vote → Searched i
          → LeavesFree same subject vote → Searched (i + 1)
      one_searched i z vote lt vote_is so_far free k d v k_lt within =
          elim (cases_lt k i) [
            | inl earlier ↦ so_far k d v earlier within
            | inr late ↦
                let one : get_or index k d ≡ get_or index i z =
                ap (λ n. get_or index n d) (omega arith) ∙ get_or_default index i d z lt in
                let inside : (get_or index i z).at < length votes =
                omega (arith, (is_index.entries i z lt).0, is_index.within) in
                subst (λ (e : Entry). LeavesFree same subject (get_or votes e.at v)) (sym one)
                (subst (LeavesFree same subject) (vote_is ∙ get_or_default votes (get_or index i z).at vote v inside) free)
          ]

      -- the vote that an entry points to
      pub is_there : (i : ℕ) (z : Entry) (vote : Vote G D) → i < length index
          → vote ≡ get_or votes (get_or index i z).at vote → Contains votes vote
      is_there i z vote lt is = (
        (get_or index i z).at,
        omega (arith, (is_index.entries i z lt).0, is_index.within),
        sym is,
      )

      -- an entry of a later round ends the search
      pub stopped : (i : ℕ) (z : Entry) → i < length index
          → is_below (get_or index i z).round (round_in subject) ≡ true → Searched i
          → IsFree same (take (length index) votes) subject
      stopped i z lt below so_far = all_free subject on
        where
          on : (k : ℕ) (d : Entry) (v : Vote G D) → k < length index
              → LeavesFree same subject (get_or votes (get_or index k d).at v)
          on k d v within = elim (cases_lt k i) [
            | inl earlier ↦ so_far k d v earlier within
            | inr late ↦
                let here : get_or index i d ≡ get_or index i z = get_or_default index i d z lt in
                let up : is_below (get_or index i z).round (get_or index k d).round ≡ false =
                subst (λ (e : Entry). is_below e.round (get_or index k d).round ≡ false) here
                (is_index.by_rounds i k d (omega arith) within) in
                later_free laws (get_or votes (get_or index k d).at v) subject
                (ap (λ r. is_below r (round_in subject)) ((is_index.entries k d within).1 v)
                ∙ still_over (get_or index i z).round (get_or index k d).round (round_in subject) up below)
          ]

    -- More votes behind them, or fewer, leave an index of the first.
    pub longer : (more : List (Vote G D)) → IsIndex (votes ++ more) index
    longer more = record {
      by_rounds = is_index.by_rounds;
      entries = λ k d lt.
          let points = is_index.entries k d lt in (
            points.0,
            λ v. ap (λ (vote : Vote G D). round_in (subject_of vote))
                (get_or_append_left votes more v (get_or index k d).at (omega (arith, points.0, is_index.within)))
                ∙ points.1 v,
          );
      covers = is_index.covers;
      within = omega (arith, is_index.within, length-append votes more);
    }

    -- what is free of those in the index, and of the others, is free of all
    pub both_free : (subject : Subject D) (n : ℕ) → n ≡ length index
        → IsFree same (take (length index) votes) subject → IsFree same (drop n votes) subject
        → IsFree same votes subject
    both_free subject n is front back =
        subst (λ vs. IsFree same vs subject) (take-append-drop (length index) votes)
        (All-append (LeavesFree same subject) (take (length index) votes) (drop (length index) votes) front
        (subst (λ i. IsFree same (drop i votes) subject) is back))

module _ {G D : Type 0} (votes : List (Vote G D)) (index : List Entry) (is_index : IsIndex votes index) where
  -- Where no entry's vote is of a round, none of the votes is that are in the index.
  pub none_indexed : (round : Round)
      → ((k : ℕ) (d : Entry) → k < length index
      → same_round (get_or index k d).round round ≡ false)
      → list_any (λ vote. same_round (round_in (subject_of vote)) round)
      (take (length index) votes) ≡ false
  none_indexed round each = list_any_none is_of (take (length index) votes) all
    where
      is_of : Vote G D → Bool
      is_of = λ vote. same_round (round_in (subject_of vote)) round

      all : All (λ vote. is_of vote ≡ false) (take (length index) votes)
      all i v lt =
          let inside : i < length index = omega (arith, length-take (length index) votes) in
          let (k, k_lt, at) = is_index.covers i inside in
          let some : Entry = record { round = round; at = 0 } in
          subst (λ vote. is_of vote ≡ false) (sym (get_or-take (length index) votes i v inside))
          (subst (λ n. is_of (get_or votes n v) ≡ false) (at some)
          (ap (λ r. same_round r round) ((is_index.entries k some k_lt).1 v) ∙ each k some k_lt))

  module _ (round : Round) (place : ℕ)
      (before : (k : ℕ) (d : Entry) → k < place → is_below round (get_or index k d).round ≡ true) where
    earlier : (k : ℕ) (d : Entry) → k < place → same_round (get_or index k d).round round ≡ false
    earlier k d lt = below_other round (get_or index k d).round (before k d lt)

    -- so where all entries are of earlier rounds,
    pub all_earlier : length index ≤ place
        → list_any (λ vote. same_round (round_in (subject_of vote)) round)
        (take (length index) votes) ≡ false
    all_earlier le = none_indexed round (λ k d lt. earlier k d (omega arith))

    -- or where the first of the others is of a later round
    pub first_later : (z : Entry) (vote : Vote G D) → place < length index
        → ((k : ℕ) (d : Entry) → place ≤ k → k < length index
        → is_below round (get_or index k d).round ≡ false)
        → vote ≡ get_or votes (get_or index place z).at vote
        → same_round (round_in (subject_of vote)) round ≡ false
        → list_any (λ vote. same_round (round_in (subject_of vote)) round)
        (take (length index) votes) ≡ false
    first_later z vote lt behind is other = none_indexed round each
      where
        of_vote : round_in (subject_of vote) ≡ (get_or index place z).round
        of_vote = ap (λ (v : Vote G D). round_in (subject_of v)) is ∙ (is_index.entries place z lt).1 vote

        each : (k : ℕ) (d : Entry) → k < length index
            → same_round (get_or index k d).round round ≡ false
        each k d k_lt = elim (cases_lt k place) [
          | inl lower ↦ earlier k d lower
          | inr le ↦
              let here : get_or index place z ≡ get_or index place d = get_or_default index place z d lt in
              later_other round (get_or index place d).round (get_or index k d).round (behind place d (omega arith) lt)
              (ap (λ r. same_round r round) (sym (of_vote ∙ ap (λ (e : Entry). e.round) here)) ∙ other)
              (is_index.by_rounds place k d le k_lt)
        ]

  -- Where none in the index is of a round, one of all is one of the others.
  pub among_others : (round : Round) (n : ℕ) → n ≡ length index
      → list_any (λ vote. same_round (round_in (subject_of vote)) round)
      (take (length index) votes) ≡ false
      → list_any (λ vote. same_round (round_in (subject_of vote)) round) (drop n votes)
      ≡ list_any (λ vote. same_round (round_in (subject_of vote)) round) votes
  among_others round n is none =
      let is_of : Vote G D → Bool = λ vote. same_round (round_in (subject_of vote)) round in
      ap (λ i. list_any is_of (drop i votes)) is
      ∙ ap (λ b. b || list_any is_of (drop (length index) votes)) (sym none)
      ∙ sym (list_any-append is_of (take (length index) votes) (drop (length index) votes))
      ∙ ap (list_any is_of) (take-append-drop (length index) votes)

-- One more entry, in its place.
module _ {G D : Type 0} (votes : List (Vote G D)) (old new : List Entry) (p : ℕ) (entry : Entry)
    (is_index : IsIndex votes old) (within : length old < length votes) (bound : p ≤ length old)
    (before : (k : ℕ) (d : Entry) → k < p → is_below entry.round (get_or old k d).round ≡ true)
    (behind : (k : ℕ) (d : Entry) → p ≤ k → k < length old
    → is_below entry.round (get_or old k d).round ≡ false)
    (is_next : entry.at ≡ length old)
    (of_round : (v : Vote G D) → round_in (subject_of (get_or votes entry.at v)) ≡ entry.round)
    (len : length new ≡ length old + 1) (here : (d : Entry) → get_or new p d ≡ entry)
    (below : (k : ℕ) (d : Entry) → k < p → get_or new k d ≡ get_or old k d)
    (above : (k : ℕ) (d : Entry) → p < k → get_or new k d ≡ get_or old (k - 1) d) where
  -- each entry is an old one, or the new one
  data Is (k : ℕ) (d : Entry) : Type 0 where
    Below : k < p → get_or new k d ≡ get_or old k d → Is k d
    Here : k ≡ p → get_or new k d ≡ entry → Is k d
    Above : p < k → get_or new k d ≡ get_or old (k - 1) d → Is k d

  is : (k : ℕ) (d : Entry) → Is k d
  is k d = elim (cases_lt k p) [
    | inl lt ↦ Below lt (below k d lt)
    | inr le ↦ elim (cases_lt p k) [
      | inl gt ↦ Above gt (above k d gt)
      | inr ge ↦
          let at : k ≡ p = omega arith in
          Here at (ap (λ n. get_or new n d) at ∙ here d)
    ]
  ]

  up : Entry → Entry → Type 0
  up a b = is_below a.round b.round ≡ false

  ordered : (a b c d : Entry) → a ≡ c → b ≡ d → is_below c.round d.round ≡ false
      → is_below a.round b.round ≡ false
  ordered a b c d a_is b_is up_to =
      ap (λ (e : Entry). is_below e.round b.round) a_is ∙ ap (λ (e : Entry). is_below c.round e.round) b_is ∙ up_to

  ascending : AreByRounds new
  ascending i j d le lt = of_both (is i d) (is j d)
    where
      of_both : Is i d → Is j d → is_below (get_or new i d).round (get_or new j d).round ≡ false
      of_both (Below a x) (Below b y) =
          ordered (get_or new i d) (get_or new j d) (get_or old i d) (get_or old j d) x y
          (is_index.by_rounds i j d le (omega arith))
      of_both (Below a x) (Here b y) =
          ordered (get_or new i d) (get_or new j d) (get_or old i d) entry x y
          (not_reversed entry.round (get_or old i d).round (before i d a))
      of_both (Below a x) (Above b y) =
          ordered (get_or new i d) (get_or new j d) (get_or old i d) (get_or old (j - 1) d) x y
          (is_index.by_rounds i (j - 1) d (omega arith) (omega (arith, len)))
      of_both (Here a x) (Below b y) = absurd (omega (arith, a))
      of_both (Here a x) (Here b y) =
          ordered (get_or new i d) (get_or new j d) entry entry x y (not_itself entry.round)
      of_both (Here a x) (Above b y) =
          ordered (get_or new i d) (get_or new j d) entry (get_or old (j - 1) d) x y
          (behind (j - 1) d (omega arith) (omega (arith, len)))
      of_both (Above a x) (Below b y) = absurd (omega arith)
      of_both (Above a x) (Here b y) = absurd (omega (arith, b))
      of_both (Above a x) (Above b y) =
          ordered (get_or new i d) (get_or new j d) (get_or old (i - 1) d) (get_or old (j - 1) d) x y
          (is_index.by_rounds (i - 1) (j - 1) d (omega arith) (omega (arith, len)))

  points : All (Points votes (length new)) new
  points k d lt = of_one (is k d)
    where
      of_old : (n : ℕ) → n < length old → Points votes (length new) (get_or old n d)
      of_old n inside =
          let it = is_index.entries n d inside in (omega (arith, it.0, len), it.1)

      of_one : Is k d → Points votes (length new) (get_or new k d)
      of_one (Below a x) = subst (Points votes (length new)) (sym x) (of_old k (omega arith))
      of_one (Here a x) = subst (Points votes (length new)) (sym x) (omega (arith, is_next, len), of_round)
      of_one (Above a x) =
          subst (Points votes (length new)) (sym x) (of_old (k - 1) (omega (arith, len)))

  abbrev Covers : ℕ → Type 0
  Covers i = (k : ℕ) × (k < length new) × ((d : Entry) → (get_or new k d).at ≡ i)

  covers : (i : ℕ) → i < length new → Covers i
  covers i lt = elim (cases_lt i (length old)) [
    | inl earlier ↦ moved (is_index.covers i earlier)
    | inr late ↦ (
      p,
      omega (arith, len),
      λ d. ap (λ (e : Entry). e.at) (here d) ∙ is_next ∙ omega (arith, len),
    )
  ]
    where
      moved : (k : ℕ) × (k < length old) × ((d : Entry) → (get_or old k d).at ≡ i) → Covers i
      moved (k, k_lt, at) = elim (cases_lt k p) [
        | inl lower ↦ (
          k,
          omega (arith, len),
          λ d. ap (λ (e : Entry). e.at) (below k d lower) ∙ at d,
        )
        | inr higher ↦ (
          k + 1,
          omega (arith, len),
          λ d. ap (λ (e : Entry). e.at) (above (k + 1) d (omega arith)) ∙ ap (λ n. (get_or old n d).at) (omega arith) ∙ at d,
        )
      ]

  pub inserted : IsIndex votes new
  inserted = record {
    by_rounds = ascending;
    entries = points;
    covers = covers;
    within = omega (arith, len);
  }

not_both : true ≡ false → ⊥
not_both e = absurd cc

-- A vote that meets a subject doesn't leave it free.
pub met_not_free : {G D : Type 0} (same : D → D → Bool) (votes : List (Vote G D))
    (subject : Subject D) (vote : Vote G D) → BarsSubject same votes subject vote
    → IsFree same votes subject → ⊥
met_not_free same votes subject vote (there, inl for_it) free =
    absurd (not_both (sym for_it ∙ (All-contains (LeavesFree same subject) votes vote free there).0))
met_not_free same votes subject vote (there, inr against) free =
    absurd (not_both (sym against ∙ (All-contains (LeavesFree same subject) votes vote free there).1))

-- a slice from a place on
pub rest : {A : Type 0} (w : ℕ) (xs ys : List A) → xs ≡ ys
    → take (length xs - w) (drop w xs) ≡ drop w ys
rest w xs ys is =
    take_all (length xs - w) (drop w xs) (omega (arith, length-drop w xs)) ∙ ap (drop w) is
