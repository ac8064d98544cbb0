-- Of a round that releases votes: each first vote of a released kind is compared, and whoever has
-- one for the fixed proposal
-- compared, where its first one isn't for it, is blocked.
use Rattle.batcher_histories.proofs.Words.{inl, inr, ◌≡◌, ◌⊎◌, ℕ, Bool, true, false, not, cond, ◌&&◌, ◌||◌, List, [], ◌∷◌, ◌++◌, Some, None, refl, ap, sym, ◌∙◌}
use Rattle.batcher_histories.proofs.Words.{⊎_elim, eqb, ltb, subst, filter, find, is_some, is_none, list_any, option_or, or-false, cases_Bool, and_parts}
use Rattle.batcher_histories.proofs.Words.{and_from, or_left, or_right, or_cases, true≢false, false≢true, eqb-true, false_from_ne_true, none-some, same_Some}
use Rattle.batcher_histories.proofs.Words.{list_any-append, Proposal, Vote, Kind, Releasing, Config, is_some_and, is_empty, exactly_one, is_kind, kind_of}
use Rattle.batcher_histories.proofs.Words.{signer_of, is_vote_of, has_proposals, is_for, any_found, any_filter, any_more, any_of_filtered, is_kind-true}
use Rattle.batcher_histories.proofs.Words.{proposal_of, is_released_in, Event, History, cast_votes, first_votes, is_free, first_vote, first_like, opposite_vote}
use Rattle.batcher_histories.proofs.Words.{selection_by, is_certified, is_released, fixing_evidence, fixed_proposal, leaders_proposal, selected_proposal}
use Rattle.batcher_histories.proofs.Words.{compared_votes, compared_votes_of, is_compared, is_compared_at_release, conflicts, IsPossible, blocks_participant}
use Rattle.batcher_histories.proofs.History.ByFirst.{differs_from, conflicts_is}
use Rattle.batcher_histories.proofs.History.Distinct.{firsts_apart, first_stays, option_cases, found_is_of, new_votes, new_cases, any_count, count_at, positive}
use Rattle.batcher_histories.proofs.History.Distinct.{where_holds}
use Rattle.batcher_histories.proofs.Simulation.Frame.{certified_same, released_same}
use Rattle.batcher_histories.proofs.KnownLemmas.Named.{certified_fixes, compared_if_fixed}
use Rattle.batcher_histories.proofs.KnownLemmas.Observed.{cast_cases, none_from}
use Rattle.batcher_histories.proofs.Simulation.FirstVotes.{free_is}
use Rattle.batcher_histories.proofs.Blocks.Refused.{refused_blocks, cast_uncertified, conflicting_refused, first_if_free, like_at, first_before}

-- what passes a filter and a test is among the filtered ones that pass the test
pub any_in_filtered : {X : Type 0} (p q : X → Bool) (vs : List X) → list_any (λ v. q v && p v) vs
    ≡ true → list_any p (filter q vs) ≡ true
any_in_filtered p q [] h = h
any_in_filtered {X = X} p q (v ∷ vs) h = by_mark (q v) h (any_in_filtered p q vs)
  where
    by_mark : (b : Bool) → ((b && p v) || list_any (λ w. q w && p w) vs) ≡ true
        → (list_any (λ w. q w && p w) vs ≡ true → list_any p (filter q vs) ≡ true)
        → list_any p (cond b (v ∷ filter q vs) (filter q vs)) ≡ true
    by_mark true k rest = ⊎_elim (λ here. or_left (p v) _ here) (λ later. or_right (p v) _ (rest later)) (or_cases (p v) _ k)
    by_mark false k rest = rest k

not_empty : {X : Type 0} (vs : List X) → list_any (λ v. true) vs ≡ true → not (is_empty vs) ≡ true
not_empty [] h = h
not_empty (v ∷ vs) h = refl

-- a first vote is new, or was one before
found_first : {G D : Type 0} (w first : Vote G D) (votes : List (Vote G D)) (kind : Kind) (i : ℕ)
    → find (is_vote_of kind i) (w ∷ votes) ≡ Some first → (w ≡ first)
    ⊎ (find (is_vote_of kind i) votes ≡ Some first)
found_first {G = G} {D = D} w first votes kind i found = by_mark (is_vote_of kind i w) found
  where
    by_mark : (b : Bool) → cond b (Some w) (find (is_vote_of kind i) votes) ≡ Some first
        → (w ≡ first) ⊎ (find (is_vote_of kind i) votes ≡ Some first)
    by_mark true k = inl (same_Some w first k)
    by_mark false k = inr k

new_or_old : {D K G C : Type 0} (x : Config D K G C) (past : History D K G C)
    (event : Event D K G C) (kind : Kind) (i : ℕ) (first : Vote G D)
    → first_vote x (event ∷ past) kind i ≡ Some first →
    ((new_votes x past event ≡ first ∷ []) × (is_free (first_votes x past) first ≡ true))
    ⊎ (first_vote x past kind i ≡ Some first)
new_or_old {D = D} {G = G} x past event kind i first found =
    ⊎_elim
    (λ none. inr (ap (λ vs. find (is_vote_of kind i) (vs ++ first_votes x past)) (sym none) ∙ found))
    (λ (one : (w : Vote G D) × (new_votes x past event ≡ w ∷ []) × (is_free (first_votes x past) w ≡ true)).
    ⊎_elim
    (λ same. inl (one.1 ∙ ap (λ v. v ∷ []) same, ap (is_free (first_votes x past)) (sym same) ∙ one.2))
    (λ old. inr old)
    (found_first one.0 first (first_votes x past) kind i (ap (λ vs. find (is_vote_of kind i) (vs ++ first_votes x past)) (sym one.1) ∙ found)))
    (new_cases x past event)

module _ {D K G C : Type 0} (x : Config D K G C) where
  -- what is fixed is selected, in every mode
  pub fixed_is_selected : (past : History D K G C) (p : Proposal D) → fixed_proposal past ≡ Some p
      → selected_proposal x past ≡ Some p
  fixed_is_selected past p fixed = ap (λ o. proposal_of (selection_by o (leaders_proposal x past))) fixed

  -- what is fixed was fixed before, if anything was
  fixed_before : (past : History D K G C) (event : Event D K G C) (p q : Proposal D)
      → fixed_proposal (event ∷ past) ≡ Some p → fixed_proposal past ≡ Some q → fixed_proposal past
      ≡ Some p
  fixed_before past event p q now before = before ∙ (ap (λ o. option_or o (fixing_evidence event)) (sym before) ∙ now)

  module _ (releases : x.mode ≡ Releasing) (kind : Kind) (has : has_proposals kind ≡ true) where
    -- Where a kind with proposals is released, one of them is fixed.
    pub released_is_fixed : (past : History D K G C) → is_released x past kind ≡ true
        → (p : Proposal D) × (fixed_proposal past ≡ Some p)
    released_is_fixed past released =
        ⊎_elim
        (λ unfixed. absurd
        (true≢false (sym released ∙ (ap (λ m. is_released_in m (is_certified past kind)) releases ∙ certified_fixes x past kind unfixed has))))
        (λ (fixed : (p : Proposal D) × (fixed_proposal past ≡ Some p)). fixed)
        (option_cases (fixed_proposal past))

    module _ (i : ℕ) where
      -- A first vote is compared: by the call that casts it where its kind was released before,
      compared_now : (past : History D K G C) (event : Event D K G C) → IsPossible x (event ∷ past)
          → is_released x (event ∷ past) kind ≡ true → (first : Vote G D) → new_votes x past event
          ≡ first ∷ [] → is_free (first_votes x past) first ≡ true →
          is_vote_of kind i first ≡ true → (test : Vote G D → Bool) → test first ≡ true
          → list_any test (filter (is_compared x past event) (cast_votes x event.0)) ≡ true
      compared_now past event possible released first new free of test passes =
          any_in_filtered test (is_compared x past event) (cast_votes x event.0)
          (any_filter (λ v. is_compared x past event v && test v) (is_free (first_votes x past)) (cast_votes x event.0)
          (ap (list_any (λ v. is_compared x past event v && test v)) new ∙ or_left _ false (and_from _ _ compared passes)))
        where
          is : kind_of first ≡ kind
          is = is_kind-true _ _ (and_parts _ _ of).0

          cast : list_any (λ v. true) (cast_votes x event.0) ≡ true
          cast = any_filter (λ v. true) (is_free (first_votes x past)) (cast_votes x event.0) (ap (list_any (λ v. true)) new)

          released_before : is_released x past kind ≡ true
          released_before =
              sym (released_same x past event kind (certified_same x past event (cast_uncertified x past event.0 event.1 possible.1.1.0 (λ v. true) cast) kind))
              ∙ released

          compared : is_compared x past event first ≡ true
          compared =
              let fixed = released_is_fixed (event ∷ past) released in
              and_from _ _ (and_from _ _ (ap has_proposals is ∙ has) (ap (is_released x past) is ∙ released_before))
              (and_from _ _ (ap is_some (fixed_is_selected (event ∷ past) fixed.0 fixed.1))
              (and_parts (is_none (first_like x past first)) (is_none (opposite_vote x past first)) (sym (free_is (first_votes x past) first) ∙ free)).1)

      -- else at the release.
      compared_at_release : (past : History D K G C) (event : Event D K G C)
          → is_released x past kind ≡ false → is_released x (event ∷ past) kind ≡ true
          → (first : Vote G D) → first_vote x past kind i ≡ Some first →
          (test : Vote G D → Bool) → test first ≡ true
          → list_any test (filter (is_compared_at_release x past event) (first_votes x past))
          ≡ true
      compared_at_release past event unreleased released first found test passes =
          any_in_filtered test (is_compared_at_release x past event) (first_votes x past)
          (any_found (is_vote_of kind i) (λ v. is_compared_at_release x past event v && test v) (first_votes x past) first found (and_from _ _ compared passes))
        where
          is : kind_of first ≡ kind
          is = is_kind-true _ _ (and_parts _ _ (found_is_of (first_votes x past) kind i first found)).0

          compared : is_compared_at_release x past event first ≡ true
          compared =
              and_from _ _ (ap has_proposals is ∙ has)
              (and_from _ _ (ap (λ k. not (is_released x past k)) is ∙ ap not unreleased) (ap (is_released x (event ∷ past)) is ∙ released))

      -- So each one is among the compared votes.
      pub first_compared : (past : History D K G C) → IsPossible x past → is_released x past kind
          ≡ true → (first : Vote G D) → first_vote x past kind i ≡ Some first →
          (test : Vote G D → Bool) → test first ≡ true → list_any test (compared_votes x past)
          ≡ true
      first_compared [] possible released first found test passes = absurd (none-some first found)
      first_compared (event ∷ past) possible released first found test passes =
          list_any-append test (filter (is_compared x past event) (cast_votes x event.0))
          (filter (is_compared_at_release x past event) (first_votes x past) ++ compared_votes x past)
          ∙ ⊎_elim
          (λ (new : (new_votes x past event ≡ first ∷ []) × (is_free (first_votes x past) first ≡ true)).
          or_left _ _ (compared_now past event possible released first new.0 new.1 (found_is_of (first_votes x (event ∷ past)) kind i first found) test passes))
          (λ old.
          or_right (list_any test (filter (is_compared x past event) (cast_votes x event.0))) _
          (list_any-append test (filter (is_compared_at_release x past event) (first_votes x past)) (compared_votes x past)
          ∙ ⊎_elim
          (λ before. or_right (list_any test (filter (is_compared_at_release x past event) (first_votes x past))) _
          (first_compared past possible.1.1.1 before first old test passes))
          (λ unreleased. or_left _ (list_any test (compared_votes x past)) (compared_at_release past event unreleased released first old test passes))
          (cases_Bool (is_released x past kind))))
          (new_or_old x past event kind i first found)

      -- whether a vote is of the kind and signer, and for the proposal
      abbrev pub matches : Proposal D → Vote G D → Bool
      matches p v = is_for x.same_digest p v && is_vote_of kind i v

      abbrev pub FirstIsNotFor : Proposal D → History D K G C → Type 0
      FirstIsNotFor p past = (first : Vote G D) → first_vote x past kind i ≡ Some first → is_for x.same_digest p first ≡ false

      conflicts_by : (past : History D K G C) (p : Proposal D) → fixed_proposal past ≡ Some p
          → (vote : Vote G D) → is_vote_of kind i vote ≡ true → conflicts x past vote
          ≡ differs_from x (compared_votes_of x past kind i) vote p
      conflicts_by past p fixed vote of =
          conflicts_is x past vote
          ∙ (ap (λ o. is_some_and o (differs_from x (compared_votes_of x past (kind_of vote) (signer_of vote)) vote)) (fixed_is_selected past p fixed)
          ∙ (ap (λ k. differs_from x (compared_votes_of x past k (signer_of vote)) vote p) (is_kind-true _ _ (and_parts _ _ of).0)
          ∙ ap (λ j. differs_from x (compared_votes_of x past kind j) vote p) (eqb-true _ _ (and_parts _ _ of).1)))

      some_compared : (past : History D K G C) → IsPossible x past → is_released x past kind ≡ true
          → (first : Vote G D) → first_vote x past kind i ≡ Some first
          → not (is_empty (compared_votes_of x past kind i)) ≡ true
      some_compared past possible released first found =
          not_empty (compared_votes_of x past kind i)
          (any_in_filtered (λ v. true) (is_vote_of kind i) (compared_votes x past)
          (first_compared past possible released first found (λ v. is_vote_of kind i v && true)
          (and_from _ true (found_is_of (first_votes x past) kind i first found) refl)))

      -- A vote for the fixed proposal conflicts where the first one isn't for it, and no other that
      -- was compared is.
      pub matching_conflicts : (past : History D K G C) → IsPossible x past → (p : Proposal D)
          → fixed_proposal past ≡ Some p → is_released x past kind ≡ true → (first vote : Vote G D)
          → first_vote x past kind i ≡ Some first →
          is_vote_of kind i vote ≡ true → is_for x.same_digest p vote ≡ true
          → list_any (matches p) (compared_votes x past) ≡ false → conflicts x past vote ≡ true
      matching_conflicts past possible p fixed released first vote found of for none =
          conflicts_by past p fixed vote of
          ∙ and_from _ _ (some_compared past possible released first found)
          (ap (λ b. exactly_one b (list_any (is_for x.same_digest p) (compared_votes_of x past kind i))) for
          ∙ ap (exactly_one true) (false_from_ne_true _ (λ there. true≢false (sym (among there) ∙ none))))
        where
          among : list_any (is_for x.same_digest p) (compared_votes_of x past kind i) ≡ true
              → list_any (matches p) (compared_votes x past) ≡ true
          among there =
              any_more (λ v. is_vote_of kind i v && is_for x.same_digest p v) (matches p)
              (λ v h. let both = and_parts (is_vote_of kind i v) (is_for x.same_digest p v) h in and_from (is_for x.same_digest p v) (is_vote_of kind i v)
              both.1 both.0) (compared_votes x past)
              (any_of_filtered (is_for x.same_digest p) (is_vote_of kind i) (compared_votes x past) there)

      -- So does one that isn't for it, where the first one is.
      pub other_conflicts : (past : History D K G C) → IsPossible x past → (p : Proposal D)
          → fixed_proposal past ≡ Some p → is_released x past kind ≡ true → (first vote : Vote G D)
          → first_vote x past kind i ≡ Some first →
          is_vote_of kind i vote ≡ true → is_for x.same_digest p vote ≡ false
          → is_for x.same_digest p first ≡ true → conflicts x past vote ≡ true
      other_conflicts past possible p fixed released first vote found of not_for for_first =
          conflicts_by past p fixed vote of
          ∙ and_from _ _ (some_compared past possible released first found)
          (ap (λ b. exactly_one b (list_any (is_for x.same_digest p) (compared_votes_of x past kind i))) not_for
          ∙ any_in_filtered (is_for x.same_digest p) (is_vote_of kind i) (compared_votes x past)
          (first_compared past possible released first found (λ v. is_vote_of kind i v && is_for x.same_digest p v)
          (and_from _ _ (found_is_of (first_votes x past) kind i first found) for_first)))

      -- A call that casts one that is compared is blocked for it, or another such one was compared
      -- before.
      matching_blocked_now : (past : History D K G C) (event : Event D K G C)
          → IsPossible x (event ∷ past) → (p : Proposal D) → fixed_proposal (event ∷ past) ≡ Some p
          → FirstIsNotFor p (event ∷ past) → (vote : Vote G D) →
          cast_votes x event.0 ≡ vote ∷ [] → is_compared x past event vote ≡ true → matches p vote
          ≡ true →
          (blocks_participant x i event ≡ true)
          ⊎ (list_any (matches p) (compared_votes x past) ≡ true)
      matching_blocked_now past event possible p fixed not_for vote casts compared passes =
          ⊎_elim
          (λ before. inr before)
          (λ none.
          inl
          (⊎_elim
          (λ new.
          absurd (true≢false (sym for ∙ not_for vote (sym (like_at x (event ∷ past) kind i vote of)
          ∙ first_if_free x past event vote casts unopposed (like_at x past kind i vote of ∙ new)))))
          (λ (there : (first : Vote G D) × (first_vote x past kind i ≡ Some first)).
          let earlier = released_is_fixed past released in
          let conflict = matching_conflicts past possible.1.1.1 p (fixed_before past event p earlier.0 fixed earlier.1) released there.0 vote there.1 of for
          none in
          subst (λ (j : ℕ). blocks_participant x j event ≡ true) (eqb-true _ _ (and_parts _ _ of).1)
          (refused_blocks x past event.0 event.1 possible.1.0 possible.1.1.0 vote casts
          (conflicting_refused x past vote there.0 unopposed (like_at x past kind i vote of ∙ there.1) (ap (is_released x past) is ∙ released) conflict)))
          (option_cases (first_vote x past kind i))))
          (cases_Bool (list_any (matches p) (compared_votes x past)))
        where
          for : is_for x.same_digest p vote ≡ true
          for = (and_parts _ (is_vote_of kind i vote) passes).0

          of : is_vote_of kind i vote ≡ true
          of = (and_parts (is_for x.same_digest p vote) _ passes).1

          is : kind_of vote ≡ kind
          is = is_kind-true _ _ (and_parts (is_kind (kind_of vote) kind) (eqb (signer_of vote) i) of).0

          released : is_released x past kind ≡ true
          released =
              ap (is_released x past) (sym is)
              ∙ (and_parts (has_proposals (kind_of vote)) (is_released x past (kind_of vote))
              (and_parts (has_proposals (kind_of vote) && is_released x past (kind_of vote))
              (is_some (selected_proposal x (event ∷ past)) && is_none (opposite_vote x past vote)) compared).0).1

          unopposed : opposite_vote x past vote ≡ None
          unopposed =
              none_from x (opposite_vote x past vote)
              (and_parts (is_some (selected_proposal x (event ∷ past))) (is_none (opposite_vote x past vote))
              (and_parts (has_proposals (kind_of vote) && is_released x past (kind_of vote))
              (is_some (selected_proposal x (event ∷ past)) && is_none (opposite_vote x past vote)) compared).1).1

      -- of those that are compared at the release none is for it
      none_matches_at_release : (past : History D K G C) (event : Event D K G C) (p : Proposal D)
          → FirstIsNotFor p (event ∷ past)
          → list_any (matches p) (filter (is_compared_at_release x past event) (first_votes x past))
          ≡ true → ⊥
      none_matches_at_release past event p not_for h =
          let found =
          where_holds (is_for x.same_digest p) (first_vote x past kind i)
          (sym
          (any_count (matches p) (first_votes x past)
          ∙ (ap (λ n. ltb 0 n) (count_at (is_for x.same_digest p) (first_votes x past) kind i (firsts_apart x past))
          ∙ positive (is_some_and (first_vote x past kind i) (is_for x.same_digest p))))
          ∙ any_filter (matches p) (is_compared_at_release x past event) (first_votes x past) h) in
          true≢false (sym found.2 ∙ not_for found.0 (first_stays x past event kind i found.0 found.1))

      -- Whoever has a vote for the fixed proposal compared, where its first one isn't for it, is
      -- blocked.
      pub matching_blocked : (past : History D K G C) → IsPossible x past → (p : Proposal D)
          → fixed_proposal past ≡ Some p → FirstIsNotFor p past
          → list_any (matches p) (compared_votes x past) ≡ true →
          list_any (blocks_participant x i) past ≡ true
      matching_blocked [] possible p fixed not_for h = h
      matching_blocked (event ∷ past) possible p fixed not_for h =
          ⊎_elim
          (λ now. or_left _ (list_any (blocks_participant x i) past) now)
          (λ before.
          or_right (blocks_participant x i event) _
          (⊎_elim
          (λ unfixed. absurd (false≢true (ap (list_any (matches p)) (sym (compared_if_fixed x past unfixed)) ∙ before)))
          (λ (earlier : (q : Proposal D) × (fixed_proposal past ≡ Some q)).
          matching_blocked past possible.1.1.1 p (fixed_before past event p earlier.0 fixed earlier.1)
          (first_before x past event kind i (λ first. is_for x.same_digest p first ≡ false) not_for) before)
          (option_cases (fixed_proposal past))))
          (now_or_before h)
        where
          cast_now : list_any (λ v. is_compared x past event v && matches p v)
              (cast_votes x event.0) ≡ true → (blocks_participant x i event ≡ true)
              ⊎ (list_any (matches p) (compared_votes x past) ≡ true)
          cast_now there =
              ⊎_elim
              (λ none. absurd (false≢true (ap (list_any (λ v. is_compared x past event v && matches p v)) (sym none) ∙ there)))
              (λ (one : (w : Vote G D) × (cast_votes x event.0 ≡ w ∷ [])).
              let both : (is_compared x past event one.0 && matches p one.0) ≡ true = sym (or-false _)
              ∙ (ap (list_any (λ v. is_compared x past event v && matches p v)) (sym one.1) ∙ there) in
              matching_blocked_now past event possible p fixed not_for one.0 one.1 (and_parts (is_compared x past event one.0) (matches p one.0) both).0
              (and_parts (is_compared x past event one.0) (matches p one.0) both).1)
              (cast_cases x event.0)

          now_or_before : list_any (matches p) (compared_votes x (event ∷ past)) ≡ true
              → (blocks_participant x i event ≡ true)
              ⊎ (list_any (matches p) (compared_votes x past) ≡ true)
          now_or_before any =
              ⊎_elim
              (λ now. cast_now (any_of_filtered (matches p) (is_compared x past event) (cast_votes x event.0) now))
              (λ rest.
              ⊎_elim
              (λ released. absurd (none_matches_at_release past event p not_for released))
              (λ before. inr before)
              (or_cases _ _ (sym (list_any-append (matches p) (filter (is_compared_at_release x past event) (first_votes x past)) (compared_votes x past))
              ∙ rest)))
              (or_cases _ _ (sym (list_any-append (matches p) (filter (is_compared x past event) (cast_votes x event.0))
              (filter (is_compared_at_release x past event) (first_votes x past) ++ compared_votes x past)) ∙ any))
