-- What a vote that a call casts changes of the first votes, and of what is tracked of its kind.
use Rattle.batcher_histories.proofs.Words.{◌≡◌, ℕ, Bool, true, false, not, cond, ◌&&◌, ◌||◌, List, [], ◌∷◌, ◌++◌, map, Option, Some, None, refl, ap, sym, ◌∙◌}
use Rattle.batcher_histories.proofs.Words.{⊎_elim, eqb, leb, subst, filter, find, is_some, is_none, option_and_then, list_any, cases_Bool, and_parts, and_right}
use Rattle.batcher_histories.proofs.Words.{eqb-true, eq-eqb, eqb-false, ne_eqb, Proposal, Vote, Kind, Config, insert_by, ordered_by, is_some_and, is_empty}
use Rattle.batcher_histories.proofs.Words.{is_kind, kind_of, signer_of, has_proposals, is_of_kind, is_vote_of, is_for, excludes, opposes, are_opposite}
use Rattle.batcher_histories.proofs.Words.{map_same, is_kind-true, is_kind-refl, is_some-false, of_kind, Facts, TrackerState, RoundState, is_seen, observed}
use Rattle.batcher_histories.proofs.Words.{facts_with, facts_of_kept, no_facts, recorded_facts, RecordsKind, Event, History, cast_votes, is_free, first_votes}
use Rattle.batcher_histories.proofs.Words.{first_vote, first_like, opposite_vote, selected_proposal, is_released, known_by, compared_votes_of, is_compared}
use Rattle.batcher_histories.proofs.Words.{is_matched, facts_of, known_opposite, known_after, Represents, first_by_signer}
use Rattle.batcher_histories.proofs.History.Distinct.{new_votes}
use Rattle.batcher_histories.proofs.KnownLemmas.Observed.{observed_is, facts_known, none_compared}
use Rattle.batcher_histories.proofs.KnownLemmas.Named.{and_swap}
use Rattle.batcher_histories.proofs.Simulation.Frame.{facts_stay, matched_stays, compared_goes}

-- LISTS
-- a filter of the one vote that may be there
pub filter_given : {X : Type 0} (p : X → Bool) (b : Bool) (v : X) → filter p (cond b (v ∷ []) [])
    ≡ cond (b && p v) (v ∷ []) []
filter_given p true v = refl
filter_given p false v = refl

pub ordered_given : {X : Type 0} (number : X → ℕ) (q : X → Bool) (b : Bool) (v : X) (vs : List X) →
    ordered_by number (filter q (cond b (v ∷ []) [] ++ vs))
    ≡ cond (q v && b) (insert_by number v (ordered_by number (filter q vs)))
    (ordered_by number (filter q vs))
ordered_given number q true v vs = ⊎_elim (λ e. rw e refl) (λ e. rw e refl) (cases_Bool (q v))
ordered_given number q false v vs = ⊎_elim (λ e. rw e refl) (λ e. rw e refl) (cases_Bool (q v))

map_insert : {X Y : Type 0} (number : Y → ℕ) (g : X → Y) (v : X) (vs : List X)
    → map g (insert_by (λ w. number (g w)) v vs) ≡ insert_by number (g v) (map g vs)
map_insert number g v [] = refl
map_insert {Y = Y} number g v (u ∷ us) =
    ⊎_elim
    (λ e. rw e refl)
    (λ e. rw e (ap (λ (ys : List Y). g u ∷ ys) (map_insert number g v us)))
    (cases_Bool (leb (number (g v)) (number (g u))))

map_unless : {Y : Type 0} (test : Y → Bool) (h : Y → Y) (ys : List Y) → is_some (find test ys)
    ≡ false → map (λ y. cond (test y) (h y) y) ys ≡ ys
map_unless test h [] none = refl
map_unless {Y = Y} test h (y ∷ ys) none =
    ⊎_elim
    (λ e. let no : true ≡ false = subst (λ (b : Bool). is_some (cond b (Some y) (find test ys)) ≡ false) e none in cc)
    (λ e.
    let rest : is_some (find test ys) ≡ false = subst (λ (b : Bool). is_some (cond b (Some y) (find test ys)) ≡ false) e none in
    ap (λ b. cond b (h y) y ∷ map (λ z. cond (test z) (h z) z) ys) e ∙ ap (λ (zs : List Y). y ∷ zs) (map_unless test h ys rest))
    (cases_Bool (test y))

map_through : {X Y : Type 0} (g g' : X → Y) (k : Y → Y) (xs : List X) → ((v : X) → g' v ≡ k (g v))
    → map g' xs ≡ map k (map g xs)
map_through g g' k [] same = refl
map_through {Y = Y} g g' k (x ∷ xs) same = ap (λ y. y ∷ map g' xs) (same x) ∙ ap (λ (ys : List Y). k (g x) ∷ ys) (map_through g g' k xs same)

pub none_not_some : {X : Type 0} (o : Option X) → is_none o ≡ not (is_some o)
none_not_some None = refl
none_not_some (Some v) = refl

-- FREE VOTES
free_step : {X : Type 0} (s k o a : Bool) (v : X) (p q : Option X) → not a
    ≡ (is_none p && is_none q) →
    not ((s && (k || o)) || a) ≡ (is_none (cond (k && s) (Some v) p)
    && is_none (cond (s && o) (Some v) q))
free_step true true o a v p q h = refl
free_step true false true a v p q h = sym (and_right (is_none p) false refl)
free_step true false false a v p q h = h
free_step false true o a v p q h = h
free_step false false o a v p q h = h

-- A vote is free where none of its kind and signer is there, and none opposes it.
pub free_is : {G D : Type 0} (votes : List (Vote G D)) (vote : Vote G D) →
    is_free votes vote ≡ (is_none (find (is_vote_of (kind_of vote) (signer_of vote)) votes)
    && is_none (find (λ v. opposes v vote) votes))
free_is [] vote = refl
free_is (v ∷ votes) vote =
    free_step (eqb (signer_of v) (signer_of vote)) (is_kind (kind_of v) (kind_of vote)) (are_opposite (kind_of v) (kind_of vote))
    (list_any (λ u. excludes u vote) votes) v
    (find (is_vote_of (kind_of vote) (signer_of vote)) votes) (find (λ u. opposes u vote) votes) (free_is votes vote)

-- TABLES
-- a vote that is taken and wasn't seen is new
taken_table : (of n o s f : Bool) → (of ≡ true → f ≡ (not s && o)) → ((of && (n && o)) && not s)
    ≡ (of && (n && f))
taken_table false n o s f h = refl
taken_table true false o s f h = refl
taken_table true true o s f h = swap o s ∙ sym (h refl)
  where
    swap : (a b : Bool) → (a && not b) ≡ (not b && a)
    swap true true = refl
    swap true false = refl
    swap false true = refl
    swap false false = refl

-- one that isn't taken isn't new
untaken_table : (k n f o : Bool) → (k && (n && o)) ≡ false → (f ≡ true → o ≡ true) → (k && (n && f))
    ≡ false
untaken_table false n f o h up = refl
untaken_table true false f o h up = refl
untaken_table true true true o h up = sym (up refl) ∙ h
untaken_table true true false o h up = refl

-- what is not taken is not compared
uncompared_table : (k n o s a c : Bool) → (k && (n && o)) ≡ false
    → ((n && (a && (s && o))) && (k && c)) ≡ false
uncompared_table false n o s a c h = and_right (n && (a && (s && o))) false refl
uncompared_table true false o s a c h = refl
uncompared_table true true true s a c h = absurd (cc)
uncompared_table true true false s a c h = gone a s
  where
    gone : (a s : Bool) → ((a && (s && false)) && c) ≡ false
    gone true true = refl
    gone true false = refl
    gone false s = refl

-- whether the vote is compared, where it is taken
compared_table : (n h r s o k e : Bool) → k ≡ true → e ≡ true → r ≡ true → (n && o) ≡ true
    → ((n && ((h && r) && (s && o))) && (k && e)) ≡ (h && s)
compared_table n h r s o k e kk ee rr t = let both = and_parts n o t in rw (kk, ee, rr, both.0, both.1) (plain h s)
  where
    plain : (h s : Bool) → (((h && true) && (s && true)) && true) ≡ (h && s)
    plain true true = refl
    plain true false = refl
    plain false s = refl

-- what is kept in full, by whether the kind is released and the vote taken, seen and new
kept_table : {X : Type 0} (more : List X → List X) (r t s n : Bool) (xs : List X) → (t && not s) ≡ n
    → cond (t && (not r && not s)) (more (cond r [] xs)) (cond r [] xs)
    ≡ cond r [] (cond n (more xs) xs)
kept_table more true true s n xs h = refl
kept_table more true false s n xs h = refl
kept_table more false t s n xs h = ap (λ b. cond b (more xs) xs) h

-- a vote that is taken is new where none of its signer was seen
seen_where_old : (n o s f : Bool) → (n && o) ≡ true → f ≡ (not s && o) → s ≡ not (n && f)
seen_where_old true true true f taken e = rw e refl
seen_where_old true true false f taken e = rw e refl
seen_where_old true false s f taken e = absurd (cc)
seen_where_old false o s f taken e = absurd (cc)

some_mapped : {X Y : Type 0} (y : Y) (o : Option X) → is_some (option_and_then (λ v. Some y) o)
    ≡ is_some o
some_mapped y None = refl
some_mapped y (Some v) = refl

pub never_chosen : {X : Type 0} (b : Bool) (one other : X) → cond (b && false) one other ≡ other
never_chosen true one other = refl
never_chosen false one other = refl

-- FACTS
abbrev known : ℕ → Bool → Bool → Facts
known i compared matched = record { signer = i; has_compared = compared; has_matched = matched }

module _ {G D : Type 0} (same : D → D → Bool) where
  -- the facts of a signer with one more vote, which is compared where a proposal is selected
  facts_more : (i : ℕ) (vote : Vote G D) (selected : Option (Proposal D)) (others : List (Vote G D))
      (m : Bool) → is_some_and selected (λ p. list_any (is_for same p) others) ≡ m →
      known i (not (is_empty (cond (has_proposals (kind_of vote) && is_some selected) (vote ∷ []) []
      ++ others)))
      (is_some_and selected (λ p. list_any (is_for same p)
      (cond (has_proposals (kind_of vote) && is_some selected) (vote ∷ []) [] ++ others)))
      ≡ facts_with same selected vote (known i (not (is_empty others)) m)
  facts_more i vote None others m h = unselected (has_proposals (kind_of vote))
    where
      unselected : (has : Bool) → known i
          (not (is_empty (cond (has && false) (vote ∷ []) [] ++ others))) false
          ≡ known i (not (is_empty others)) m
      unselected true = ap (known i (not (is_empty others))) h
      unselected false = ap (known i (not (is_empty others))) h
  facts_more i vote (Some p) others m h = by_proposal (has_proposals (kind_of vote))
    where
      by_proposal : (has : Bool) →
          known i (not (is_empty (cond (has && true) (vote ∷ []) [] ++ others)))
          (list_any (is_for same p) (cond (has && true) (vote ∷ []) [] ++ others))
          ≡ cond has (known i true (is_for same p vote || m)) (known i (not (is_empty others)) m)
      by_proposal true = ap (λ b. known i true (is_for same p vote || b)) h
      by_proposal false = ap (known i (not (is_empty others))) h

  -- The list of facts with one more vote, by facts of each first vote before and after it.
  recorded : (selected : Option (Proposal D)) (vote : Vote G D) (votes : List (Vote G D))
      (g g' : Vote G D → Facts) (is_new : Bool) →
      ((v : Vote G D) → g' v ≡ cond (eqb (g v).signer (signer_of vote))
      (facts_with same selected vote (g v)) (g v)) →
      is_some (find (λ f. eqb f.signer (signer_of vote)) (map g votes)) ≡ not is_new
      → (is_new ≡ true → g' vote ≡ facts_of_kept same selected vote) →
      recorded_facts same selected vote (map g votes)
      ≡ map g' (cond is_new (insert_by (λ v. (g' v).signer) vote votes) votes)
  recorded selected vote votes g g' true goes found first =
      ap (λ b. cond b (map (λ f. cond (eqb f.signer (signer_of vote)) (facts_with same selected vote f) f) (map g votes))
      (insert_by (λ f. f.signer) (facts_of_kept same selected vote) (map g votes))) found
      ∙ (ap (λ f. insert_by (λ f. f.signer) f (map g votes)) (sym (first refl))
      ∙ (ap (insert_by (λ f. f.signer) (g' vote))
      (sym (map_through g g' (λ f. cond (eqb f.signer (signer_of vote)) (facts_with same selected vote f) f) votes goes
      ∙ map_unless (λ f. eqb f.signer (signer_of vote)) (facts_with same selected vote) (map g votes) found))
      ∙ sym (map_insert (λ f. f.signer) g' vote votes)))
  recorded selected vote votes g g' false goes found first =
      ap (λ b. cond b (map (λ f. cond (eqb f.signer (signer_of vote)) (facts_with same selected vote f) f) (map g votes))
      (insert_by (λ f. f.signer) (facts_of_kept same selected vote) (map g votes))) found
      ∙ sym (map_through g g' (λ f. cond (eqb f.signer (signer_of vote)) (facts_with same selected vote f) f) votes goes)

-- WHAT THE HISTORY NAMES
module _ {D K G C : Type 0} (x : Config D K G C) (past : History D K G C) where
  seen_by : (r : Bool) (facts : Facts) (first : Option (Vote G D)) →
      is_seen (known_by r facts first) ≡ is_some first
  seen_by r facts None = refl
  seen_by true facts (Some v) = refl
  seen_by false facts (Some v) = refl

  -- whether a vote of a kind and signer was seen
  pub seen_is : (held : RoundState G D) (kind : Kind) (i : ℕ) → Represents x past held
      → is_seen (observed held.tracked kind i) ≡ is_some (first_vote x past kind i)
  seen_is held kind i represents = ap is_seen (observed_is x past held kind i represents) ∙ seen_by (is_released x past kind) _ (first_vote x past kind i)

  -- of what excludes a vote
  pub unseen_opposite : (opposite : Option (Vote G D)) →
      not (is_seen (known_opposite x past opposite)) ≡ is_none opposite
  unseen_opposite None = refl
  unseen_opposite (Some earlier) = ap not (seen_by (is_released x past (kind_of earlier)) _ (Some earlier))

  -- A vote is free where nothing was seen that excludes it.
  pub free_known : (vote : Vote G D) →
      (not (is_seen ((known_after x past).opposite vote))
      && not (is_seen ((known_after x past).observed (kind_of vote) (signer_of vote))))
      ≡ is_free (first_votes x past) vote
  free_known vote =
      ap (λ b. b && not (is_seen ((known_after x past).observed (kind_of vote) (signer_of vote)))) (unseen_opposite (opposite_vote x past vote))
      ∙ (and_swap (is_none (opposite_vote x past vote)) _ _
      (ap not (seen_by (is_released x past (kind_of vote)) _ (first_like x past vote)) ∙ sym (none_not_some (first_like x past vote)))
      ∙ sym (free_is (first_votes x past) vote))

  module _ (event : Event D K G C) where
    -- A CALL THAT MAY CAST ONE VOTE
    module _ (vote : Vote G D) (named : Bool) where
      -- the call casts the vote where it is named, and no other
      abbrev pub Casts : Type 0
      Casts = cast_votes x event.0 ≡ cond named (vote ∷ []) []

      -- whether the vote is a first one
      abbrev pub is_new : Bool
      is_new = named && is_free (first_votes x past) vote

      -- whether it goes into what is tracked: it is cast, and no opposite vote excludes it
      abbrev pub is_taken : Bool
      is_taken = named && is_none (opposite_vote x past vote)

      pub new_is : Casts → new_votes x past event ≡ cond is_new (vote ∷ []) []
      new_is casts = ap (filter (is_free (first_votes x past))) casts ∙ filter_given (is_free (first_votes x past)) named vote

      pub firsts_are : Casts → first_votes x (event ∷ past) ≡ cond is_new (vote ∷ []) []
          ++ first_votes x past
      firsts_are casts = ap (λ vs. vs ++ first_votes x past) (new_is casts)

      pub by_signer : Casts → (kind : Kind) →
          first_by_signer x (event ∷ past) kind
          ≡ cond (is_of_kind kind vote && is_new)
          (insert_by signer_of vote (first_by_signer x past kind)) (first_by_signer x past kind)
      by_signer casts kind =
          ap (λ vs. ordered_by signer_of (filter (is_of_kind kind) vs)) (firsts_are casts)
          ∙ ordered_given signer_of (is_of_kind kind) is_new vote (first_votes x past)

      -- of the vote's kind it is free where none of its signer was seen and none opposes it
      free_of_kind : (kind : Kind) → is_of_kind kind vote ≡ true →
          is_free (first_votes x past) vote
          ≡ (not (is_some (first_vote x past kind (signer_of vote)))
          && is_none (opposite_vote x past vote))
      free_of_kind kind of =
          free_is (first_votes x past) vote
          ∙ (ap (λ b. b && is_none (opposite_vote x past vote)) (none_not_some (first_like x past vote))
          ∙ ap (λ k. not (is_some (first_vote x past k (signer_of vote))) && is_none (opposite_vote x past vote)) (is_kind-true _ _ of))

      free_unopposed : is_free (first_votes x past) vote ≡ true
          → is_none (opposite_vote x past vote) ≡ true
      free_unopposed free = (and_parts _ _ (sym (free_is (first_votes x past) vote) ∙ free)).1

      -- nothing that isn't taken is new
      untaken_not_new : (kind : Kind) → (is_of_kind kind vote && is_taken) ≡ false
          → (is_of_kind kind vote && is_new) ≡ false
      untaken_not_new kind untaken =
          untaken_table (is_of_kind kind vote) named (is_free (first_votes x past) vote) (is_none (opposite_vote x past vote)) untaken free_unopposed

      -- WHAT IS KEPT IN FULL
      pub kept_taken : (old : RoundState G D) (new : TrackerState G D)
          (selected : Option (Proposal D))
          (kind : Kind) → Represents x past old → Casts →
          is_released x (event ∷ past) kind ≡ is_released x past kind
          → RecordsKind x.same_digest old.tracked new selected is_taken vote kind →
          of_kind new.kept kind ≡ cond (is_released x (event ∷ past) kind) []
          (first_by_signer x (event ∷ past) kind)
      kept_taken old new selected kind represents casts released records =
          records.kept
          ∙ (ap (λ c. cond ((is_of_kind kind vote && is_taken) && (not c && not (is_seen (observed old.tracked kind (signer_of vote)))))
          (insert_by signer_of vote (of_kind old.tracked.kept kind)) (of_kind old.tracked.kept kind)) (represents.each_kind kind).compacted_is
          ∙ (ap (λ s. cond ((is_of_kind kind vote && is_taken) && (not (is_released x past kind) && not s))
          (insert_by signer_of vote (of_kind old.tracked.kept kind)) (of_kind old.tracked.kept kind)) (seen_is old kind (signer_of vote) represents)
          ∙ (ap (λ vs. cond ((is_of_kind kind vote && is_taken) && (not (is_released x past kind) && not (is_some (first_vote x past kind (signer_of vote)))))
          (insert_by signer_of vote vs) vs) (represents.each_kind kind).kept_are
          ∙ (kept_table (insert_by signer_of vote) (is_released x past kind) (is_of_kind kind vote && is_taken)
          (is_some (first_vote x past kind (signer_of vote))) (is_of_kind kind vote && is_new) (first_by_signer x past kind)
          (taken_table (is_of_kind kind vote) named (is_none (opposite_vote x past vote)) (is_some (first_vote x past kind (signer_of vote)))
          (is_free (first_votes x past) vote) (free_of_kind kind))
          ∙ (ap (λ vs. cond (is_released x past kind) [] vs) (sym (by_signer casts kind))
          ∙ ap (λ r. cond r [] (first_by_signer x (event ∷ past) kind)) (sym released))))))

      -- WHAT IS COMPARED
      -- the compared votes of a kind and signer: the vote comes in front where it is compared
      compared_are : (kind : Kind) (i : ℕ) → Casts → is_released x (event ∷ past) kind
          ≡ is_released x past kind →
          compared_votes_of x (event ∷ past) kind i
          ≡ cond ((named && is_compared x past event vote) && is_vote_of kind i vote)
          (vote ∷ []) [] ++ compared_votes_of x past kind i
      compared_are kind i casts same =
          compared_goes x past event kind i same
          ∙ ap (λ vs. vs ++ compared_votes_of x past kind i)
          (ap (λ vs. filter (is_vote_of kind i) (filter (is_compared x past event) vs)) casts
          ∙ (ap (filter (is_vote_of kind i)) (filter_given (is_compared x past event) named vote)
          ∙ filter_given (is_vote_of kind i) (named && is_compared x past event vote) vote))

      -- Facts of a kind that the vote doesn't go into stay.
      facts_untaken : (kind : Kind) (i : ℕ) → Casts → is_released x (event ∷ past) kind
          ≡ is_released x past kind →
          (is_of_kind kind vote && is_taken) ≡ false → facts_of x (event ∷ past) kind i
          ≡ facts_of x past kind i
      facts_untaken kind i casts same untaken =
          facts_stay x past event kind i
          (compared_are kind i casts same
          ∙ ap (λ b. cond b (vote ∷ []) [] ++ compared_votes_of x past kind i)
          (uncompared_table (is_of_kind kind vote) named (is_none (opposite_vote x past vote)) (is_some (selected_proposal x (event ∷ past)))
          (has_proposals (kind_of vote) && is_released x past (kind_of vote)) (eqb (signer_of vote) i) untaken))

      -- The signer's facts take the vote in, where its kind is released.
      facts_of_signer : Casts → is_released x (event ∷ past) (kind_of vote)
          ≡ is_released x past (kind_of vote) → is_taken ≡ true → is_released x past (kind_of vote)
          ≡ true →
          facts_of x (event ∷ past) (kind_of vote) (signer_of vote)
          ≡ facts_with x.same_digest (selected_proposal x (event ∷ past)) vote
          (facts_of x past (kind_of vote) (signer_of vote))
      facts_of_signer casts same taken released =
          ap (λ votes. known (signer_of vote) (not (is_empty votes))
          (is_some_and (selected_proposal x (event ∷ past)) (λ p. list_any (is_for x.same_digest p) votes)))
          (compared_are (kind_of vote) (signer_of vote) casts same
          ∙ ap (λ b. cond b (vote ∷ []) [] ++ compared_votes_of x past (kind_of vote) (signer_of vote))
          (compared_table named (has_proposals (kind_of vote)) (is_released x past (kind_of vote)) (is_some (selected_proposal x (event ∷ past)))
          (is_none (opposite_vote x past vote)) (is_kind (kind_of vote) (kind_of vote)) (eqb (signer_of vote) (signer_of vote))
          (is_kind-refl (kind_of vote)) (eq-eqb (signer_of vote) (signer_of vote) refl) released taken))
          ∙ facts_more x.same_digest (signer_of vote) vote (selected_proposal x (event ∷ past)) (compared_votes_of x past (kind_of vote) (signer_of vote))
          (is_matched x past (kind_of vote) (signer_of vote)) (matched_stays x past event (kind_of vote) (signer_of vote))

      -- of another signer nothing is compared
      facts_of_other : (i : ℕ) → Casts → is_released x (event ∷ past) (kind_of vote)
          ≡ is_released x past (kind_of vote) → eqb (signer_of vote) i ≡ false →
          facts_of x (event ∷ past) (kind_of vote) i ≡ facts_of x past (kind_of vote) i
      facts_of_other i casts same other =
          facts_stay x past event (kind_of vote) i
          (compared_are (kind_of vote) i casts same
          ∙ ap (λ b. cond b (vote ∷ []) [] ++ compared_votes_of x past (kind_of vote) i)
          (not_it (named && is_compared x past event vote) (is_kind (kind_of vote) (kind_of vote)) (eqb (signer_of vote) i) other))
        where
          not_it : (a b c : Bool) → c ≡ false → (a && (b && c)) ≡ false
          not_it true true c h = h
          not_it true false c h = refl
          not_it false b c h = refl

      -- so by signer
      facts_after : (i : ℕ) → Casts → is_released x (event ∷ past) (kind_of vote)
          ≡ is_released x past (kind_of vote) → is_taken ≡ true → is_released x past (kind_of vote)
          ≡ true →
          facts_of x (event ∷ past) (kind_of vote) i
          ≡ cond (eqb i (signer_of vote)) (facts_with x.same_digest
          (selected_proposal x (event ∷ past)) vote (facts_of x past (kind_of vote) i))
          (facts_of x past (kind_of vote) i)
      facts_after i casts same taken released =
          ⊎_elim
          (λ here.
          let it : signer_of vote ≡ i = sym (eqb-true _ _ here) in
          subst (λ (j : ℕ). facts_of x (event ∷ past) (kind_of vote) j
          ≡ facts_with x.same_digest (selected_proposal x (event ∷ past)) vote (facts_of x past (kind_of vote) j)) it
          (facts_of_signer casts same taken released)
          ∙ ap (λ b. cond b (facts_with x.same_digest (selected_proposal x (event ∷ past)) vote (facts_of x past (kind_of vote) i))
          (facts_of x past (kind_of vote) i)) (sym here))
          (λ other.
          facts_of_other i casts same (ne_eqb (signer_of vote) i (λ e. eqb-false i (signer_of vote) other (sym e)))
          ∙ ap (λ b. cond b (facts_with x.same_digest (selected_proposal x (event ∷ past)) vote (facts_of x past (kind_of vote) i))
          (facts_of x past (kind_of vote) i)) (sym other))
          (cases_Bool (eqb i (signer_of vote)))

      no_facts_before : first_like x past vote ≡ None
          → facts_of x past (kind_of vote) (signer_of vote) ≡ no_facts (signer_of vote)
      no_facts_before none =
          ap (λ votes. known (signer_of vote) (not (is_empty votes)) (is_some_and (selected_proposal x past) (λ p. list_any (is_for x.same_digest p) votes)))
          (none_compared x past (kind_of vote) (signer_of vote) none)
          ∙ ap (known (signer_of vote) false) (never (selected_proposal x past))
        where
          never : (o : Option (Proposal D)) → is_some_and o (λ p. false) ≡ false
          never None = refl
          never (Some p) = refl

      -- whether the vote is new, where it is taken: none of its kind and signer was there
      old_or_new : is_taken ≡ true → is_some (first_like x past vote) ≡ not is_new
      old_or_new taken =
          seen_where_old named (is_none (opposite_vote x past vote)) (is_some (first_like x past vote)) (is_free (first_votes x past) vote) taken
          (free_of_kind (kind_of vote) (is_kind-refl (kind_of vote)))

      facts_recorded : (old : RoundState G D) → Represents x past old → Casts
          → is_released x (event ∷ past) (kind_of vote) ≡ is_released x past (kind_of vote)
          → is_taken ≡ true → is_released x past (kind_of vote) ≡ true →
          recorded_facts x.same_digest (selected_proposal x (event ∷ past)) vote
          (of_kind old.tracked.facts (kind_of vote))
          ≡ map (λ v. facts_of x (event ∷ past) (kind_of vote) (signer_of v))
          (first_by_signer x (event ∷ past) (kind_of vote))
      facts_recorded old represents casts same taken released =
          let held : of_kind old.tracked.facts (kind_of vote) ≡ map (λ v. facts_of x past (kind_of vote) (signer_of v)) (first_by_signer x past (kind_of vote))
          =
          (represents.each_kind (kind_of vote)).facts_are ∙ ap
          (λ r. cond r (map (λ v. facts_of x past (kind_of vote) (signer_of v)) (first_by_signer x past (kind_of vote))) []) released in
          let found : is_some (find (λ f. eqb f.signer (signer_of vote))
          (map (λ v. facts_of x past (kind_of vote) (signer_of v)) (first_by_signer x past (kind_of vote)))) ≡ not is_new
          = ap (λ fs. is_some (find (λ f. eqb f.signer (signer_of vote)) fs)) (sym held)
          ∙ (ap is_some (facts_known x past old (kind_of vote) (signer_of vote) represents released)
          ∙ (some_mapped (facts_of x past (kind_of vote) (signer_of vote)) (first_like x past vote) ∙ old_or_new taken)) in
          ap (recorded_facts x.same_digest (selected_proposal x (event ∷ past)) vote) held
          ∙ (recorded x.same_digest (selected_proposal x (event ∷ past)) vote (first_by_signer x past (kind_of vote))
          (λ v. facts_of x past (kind_of vote) (signer_of v)) (λ v. facts_of x (event ∷ past) (kind_of vote) (signer_of v)) is_new
          (λ v. facts_after (signer_of v) casts same taken released) found
          (λ fresh. facts_of_signer casts same taken released
          ∙ ap (facts_with x.same_digest (selected_proposal x (event ∷ past)) vote)
          (no_facts_before (is_some-false (first_like x past vote) (old_or_new taken ∙ ap not fresh))))
          ∙ ap (map (λ v. facts_of x (event ∷ past) (kind_of vote) (signer_of v)))
          (sym (by_signer casts (kind_of vote)
          ∙ ap (λ b. cond (b && is_new) (insert_by signer_of vote (first_by_signer x past (kind_of vote))) (first_by_signer x past (kind_of vote)))
          (is_kind-refl (kind_of vote)))))

      -- The facts of a kind are those of the history with the call.
      pub facts_taken : (old : RoundState G D) (new : TrackerState G D)
          (selected : Option (Proposal D))
          (kind : Kind) → Represents x past old → Casts →
          is_released x (event ∷ past) kind ≡ is_released x past kind
          → (is_released x past (kind_of vote) ≡ true → selected
          ≡ selected_proposal x (event ∷ past)) →
          RecordsKind x.same_digest old.tracked new selected is_taken vote kind →
          of_kind new.facts kind ≡ cond (is_released x (event ∷ past) kind)
          (map (λ v. facts_of x (event ∷ past) kind (signer_of v))
          (first_by_signer x (event ∷ past) kind)) []
      facts_taken old new selected kind represents casts same goes records =
          records.facts
          ∙ (ap (λ c. cond ((is_of_kind kind vote && is_taken) && c) (recorded_facts x.same_digest selected vote (of_kind old.tracked.facts kind))
          (of_kind old.tracked.facts kind)) (represents.each_kind kind).compacted_is
          ∙ (⊎_elim
          (λ released. ap (λ c. cond ((is_of_kind kind vote && is_taken) && c) (recorded_facts x.same_digest selected vote (of_kind old.tracked.facts kind))
          (of_kind old.tracked.facts kind)) released
          ∙ (⊎_elim (λ taken. where_taken released taken) (λ untaken. where_untaken released untaken) (cases_Bool (is_of_kind kind vote && is_taken))
          ∙ ap (λ r. cond r (map (λ v. facts_of x (event ∷ past) kind (signer_of v)) (first_by_signer x (event ∷ past) kind)) []) (sym (same ∙ released))))
          (λ unreleased. ap (λ c. cond ((is_of_kind kind vote && is_taken) && c) (recorded_facts x.same_digest selected vote (of_kind old.tracked.facts kind))
          (of_kind old.tracked.facts kind)) unreleased
          ∙ (never_chosen (is_of_kind kind vote && is_taken) (recorded_facts x.same_digest selected vote (of_kind old.tracked.facts kind))
          (of_kind old.tracked.facts kind)
          ∙ ((represents.each_kind kind).facts_are
          ∙ (ap (λ r. cond r (map (λ v. facts_of x past kind (signer_of v)) (first_by_signer x past kind)) []) unreleased
          ∙ ap (λ r. cond r (map (λ v. facts_of x (event ∷ past) kind (signer_of v)) (first_by_signer x (event ∷ past) kind)) []) (sym (same ∙ unreleased))))))
          (cases_Bool (is_released x past kind))))
        where
          where_taken : is_released x past kind ≡ true → (is_of_kind kind vote && is_taken) ≡ true →
              cond ((is_of_kind kind vote && is_taken) && true)
              (recorded_facts x.same_digest selected vote (of_kind old.tracked.facts kind))
              (of_kind old.tracked.facts kind)
              ≡ map (λ v. facts_of x (event ∷ past) kind (signer_of v))
              (first_by_signer x (event ∷ past) kind)
          where_taken released taken =
              let parts = and_parts (is_of_kind kind vote) is_taken taken in
              let k : kind_of vote ≡ kind = is_kind-true _ _ parts.0 in
              ap (λ t. cond (t && true) (recorded_facts x.same_digest selected vote (of_kind old.tracked.facts kind)) (of_kind old.tracked.facts kind)) taken
              ∙ (ap (λ s. recorded_facts x.same_digest s vote (of_kind old.tracked.facts kind)) (goes (ap (is_released x past) k ∙ released))
              ∙ subst (λ (l : Kind). recorded_facts x.same_digest (selected_proposal x (event ∷ past)) vote (of_kind old.tracked.facts l)
              ≡ map (λ v. facts_of x (event ∷ past) l (signer_of v)) (first_by_signer x (event ∷ past) l)) k
              (facts_recorded old represents casts (ap (is_released x (event ∷ past)) k ∙ (same ∙ ap (is_released x past) (sym k))) parts.1
              (ap (is_released x past) k ∙ released)))

          where_untaken : is_released x past kind ≡ true → (is_of_kind kind vote && is_taken)
              ≡ false →
              cond ((is_of_kind kind vote && is_taken) && true)
              (recorded_facts x.same_digest selected vote (of_kind old.tracked.facts kind))
              (of_kind old.tracked.facts kind)
              ≡ map (λ v. facts_of x (event ∷ past) kind (signer_of v))
              (first_by_signer x (event ∷ past) kind)
          where_untaken released untaken =
              ap (λ t. cond (t && true) (recorded_facts x.same_digest selected vote (of_kind old.tracked.facts kind)) (of_kind old.tracked.facts kind)) untaken
              ∙ ((represents.each_kind kind).facts_are
              ∙ (ap (λ r. cond r (map (λ v. facts_of x past kind (signer_of v)) (first_by_signer x past kind)) []) released
              ∙ (sym (map_same (λ v. facts_of x (event ∷ past) kind (signer_of v)) (λ v. facts_of x past kind (signer_of v)) (first_by_signer x past kind)
              (λ v. facts_untaken kind (signer_of v) casts same untaken))
              ∙ ap (map (λ v. facts_of x (event ∷ past) kind (signer_of v)))
              (sym (by_signer casts kind ∙ ap (λ b. cond b (insert_by signer_of vote (first_by_signer x past kind)) (first_by_signer x past kind))
              (untaken_not_new kind untaken))))))
