-- Two rounds that take the same calls, one that retains votes beside one that releases them: whom
-- each lists as without a proposal's block.
use Rattle.batcher_histories.proofs.Words.{◌≡◌, ℕ, Bool, true, false, not, cond, ◌&&◌, ◌||◌, List, ◌∷◌, Some, filter, map, find, refl, ap, sym, ◌∙◌, ⊎_elim}
use Rattle.batcher_histories.proofs.Words.{eqb, subst, list_any, range_with_len, and_parts, and_from, or_left, or_right, or_cases, not-false, Participant}
use Rattle.batcher_histories.proofs.Words.{Proposal, Kind, Notarization, Finalization, Retaining, Releasing, Call, MissingCall, MissingAnswer, Config}
use Rattle.batcher_histories.proofs.Words.{participants_in, participant, is_some_and, is_vote_of, has_proposals, is_for, same_proposal, any_more}
use Rattle.batcher_histories.proofs.Words.{any_of_filtered, same_proposal-true, Event, History, first_votes, first_vote, is_released, selected_proposal}
use Rattle.batcher_histories.proofs.Words.{compared_votes, compared_votes_of, is_matched, has_block, missing_after, MayAnswer, IsPossible, in_mode}
use Rattle.batcher_histories.proofs.Words.{is_other_selected, AtEachPlace, IsMissingInBoth}
use Rattle.batcher_histories.proofs.History.Laws.{HasLaws}
use Rattle.batcher_histories.proofs.Pairs.Alike.{AreAlike, firsts_alike}
use Rattle.batcher_histories.proofs.History.Distinct.{where_holds, found_is_of}
use Rattle.batcher_histories.proofs.Pairs.Blocked.{at_each_place}
use Rattle.batcher_histories.proofs.Pairs.Compared.{any_in_filtered, released_is_fixed, fixed_is_selected, first_compared}
use Rattle.batcher_histories.proofs.History.ByFirst.{shows_block, has_block_is}

-- what is found among those that pass one test is found among those that pass a weaker one
any_weaker : {X : Type 0} (test p q : X → Bool) → ((v : X) → p v ≡ true → q v ≡ true)
    → (vs : List X) → list_any test (filter p vs) ≡ true → list_any test (filter q vs) ≡ true
any_weaker test p q weaker vs h =
    any_in_filtered test q vs
    (any_more (λ v. p v && test v) (λ v. q v && test v)
    (λ v both. and_from _ _ (weaker v (and_parts _ _ both).0) (and_parts _ _ both).1)
    vs (any_of_filtered test p vs h))

not_less : (a b : Bool) → (a ≡ true → b ≡ true) → not b ≡ true → not a ≡ true
not_less true b more h = ap not (sym (more refl)) ∙ h
not_less false b more h = refl

either : (a b c d : Bool)
    → (a ≡ true → c ≡ true) → (b ≡ true → d ≡ true) → (a || b) ≡ true → (c || d) ≡ true
either a b c d one other h =
    ⊎_elim (λ this. or_left c d (one this)) (λ that. or_right c d (other that)) (or_cases a b h)

if_either : (b one other : Bool) → (b ≡ true → one ≡ true) → other ≡ true → cond b one other ≡ true
if_either true one other this that = this refl
if_either false one other this that = that

module _ {D K G C : Type 0} (x : Config D K G C) (laws : HasLaws x) where
  abbrev retains : Config D K G C
  retains = in_mode x Retaining

  abbrev releases : Config D K G C
  releases = in_mode x Releasing

  module _ (retained released : History D K G C) (alike : AreAlike retained released)
      (also : IsPossible releases released)
      (p : Proposal D) (no_other : is_other_selected releases released p ≡ false) where
    -- Where votes of a kind are kept, the first ones show in both who has the block; where they are
    -- released, the first ones were compared.
    shown_in_both : (kind : Kind) → has_proposals kind ≡ true → (i : ℕ)
        → shows_block retains retained kind i p ≡ true
        → shows_block releases released kind i p ≡ true
    shown_in_both kind has i h =
        if_either (is_released releases released kind) (is_matched releases released kind i)
        (is_some_and (first_vote releases released kind i) (is_for x.same_digest p)) matched shown
      where
        shown : is_some_and (first_vote releases released kind i) (is_for x.same_digest p) ≡ true
        shown =
            ap (λ vs. is_some_and (find (is_vote_of kind i) vs) (is_for x.same_digest p))
            (sym (firsts_alike x retained released alike)) ∙ h

        matched : is_released releases released kind ≡ true
            → is_matched releases released kind i ≡ true
        matched freed =
            let fixed = released_is_fixed releases refl kind has released freed in
            let selected : selected_proposal releases released ≡ Some fixed.0 =
            fixed_is_selected releases released fixed.0 fixed.1 in
            let same : fixed.0 ≡ p =
            same_proposal-true x.same_digest laws.digests_equal fixed.0 p
            (not-false _ (ap (λ o. is_some_and o (λ q. not (same_proposal x.same_digest q p))) (sym selected) ∙ no_other)) in
            let first = where_holds (is_for x.same_digest p) (first_vote releases released kind i) shown in
            ap (λ o. is_some_and o (λ q. list_any (is_for x.same_digest q) (compared_votes_of releases released kind i))) selected
            ∙ any_in_filtered (is_for x.same_digest fixed.0) (is_vote_of kind i) (compared_votes releases released)
            (first_compared releases refl kind has i released also freed first.0 first.1
            (λ v. is_vote_of kind i v && is_for x.same_digest fixed.0 v)
            (and_from _ _ (found_is_of (first_votes releases released) kind i first.0 first.1)
            (ap (λ q. is_for x.same_digest q first.0) same ∙ first.2)))

    block_in_both : (i : ℕ)
        → has_block retains retained i p ≡ true → has_block releases released i p ≡ true
    block_in_both i h =
        has_block_is releases released i p
        ∙ either (shows_block retains retained Notarization i p) (shows_block retains retained Finalization i p)
        (shows_block releases released Notarization i p) (shows_block releases released Finalization i p)
        (shown_in_both Notarization refl i) (shown_in_both Finalization refl i) (sym (has_block_is retains retained i p) ∙ h)

    lists_no_more : (test : Participant → Bool)
        → list_any test (missing_after releases released p) ≡ true
        → list_any test (missing_after retains retained p) ≡ true
    lists_no_more test =
        any_weaker test
        (λ j. not (has_block releases released j.0 p))
        (λ j. not (has_block retains retained j.0 p))
        (λ j. not_less (has_block retains retained j.0 p) (has_block releases released j.0 p) (block_in_both j.0))
        (map participant (range_with_len 0 (participants_in x)))

  missing_in_both_at : (a : Event D K G C) (retained : History D K G C)
      (b : Event D K G C) (released : History D K G C)
      → AreAlike (a ∷ retained) (b ∷ released)
      → IsPossible retains (a ∷ retained) → IsPossible releases (b ∷ released)
      → IsMissingInBoth x a retained b released
  missing_in_both_at (call, MissingAnswer kept) retained (MissingCall p, MissingAnswer missing) released alike possible also =
      λ no_other i h.
      let kept_is : kept ≡ missing_after retains retained p =
      subst (λ (c : Call K G C D). MayAnswer retains retained c (MissingAnswer kept)) alike.0 possible.1.1.0 in
      ap (list_any (λ j. eqb j.0 i)) kept_is
      ∙ lists_no_more retained released alike.1.1 also.1.1.1 p no_other (λ j. eqb j.0 i)
      (ap (list_any (λ j. eqb j.0 i)) (sym also.1.1.0) ∙ h)
  missing_in_both_at a retained b released alike possible also = tt

  -- Unless another proposal is selected, whom the releasing round lists the retaining one lists.
  pub missing_in_both : (retained released : History D K G C) → AreAlike retained released
      → IsPossible retains retained → IsPossible releases released
      → AtEachPlace (IsMissingInBoth x) retained released
  missing_in_both = at_each_place x (IsMissingInBoth x) missing_in_both_at
