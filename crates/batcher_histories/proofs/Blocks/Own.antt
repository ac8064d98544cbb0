-- Of the own votes that are answered as added no two exclude each other, since first votes don't.
use Rattle.batcher_histories.proofs.Words.{◌≡◌, ◌≤◌, Bool, true, false, not, ◌||◌, List, [], ◌∷◌, refl, ap, sym, ◌∙◌, arith, ⊎_elim, cases_Bool, and_parts}
use Rattle.batcher_histories.proofs.Words.{and_from, false_from_ne_true, true≢false, false≢true, eqb-true, eq-eqb, not-true, Vote, Kind, Notarization}
use Rattle.batcher_histories.proofs.Words.{Nullification, Finalization, NetworkCall, OwnCall, CertificateCall, LeaderCall, ConstructCall, ForwardCall}
use Rattle.batcher_histories.proofs.Words.{MissingCall, OutOfMemory, NetworkAnswer, OwnAnswer, OwnRefused, CertificateAnswer, LeaderAnswer, ConstructAnswer}
use Rattle.batcher_histories.proofs.Words.{ForwardAnswer, MissingAnswer, Config, count, is_kind, kind_of, signer_of, are_opposite, excludes, count-append}
use Rattle.batcher_histories.proofs.Words.{count_none, any_more, Event, History, first_votes, is_free, IsPossible, added_by, votes_added, own_added_by}
use Rattle.batcher_histories.proofs.Words.{own_votes_added, OwnAddedAgree}
use Rattle.batcher_histories.proofs.History.Distinct.{new_votes, new_cases}
use Rattle.batcher_histories.proofs.AnswerFacts.Told.{added_are}

-- WHICH VOTES EXCLUDE EACH OTHER
-- Notarizes exclude each other, and so do votes of the two other kinds.
abbrev is_notarize : Kind → Bool
is_notarize Notarization = true
is_notarize Nullification = false
is_notarize Finalization = false

abbrev are_alike : Bool → Bool → Bool
are_alike true b = b
are_alike false b = not b

kinds_exclude : (a b : Kind) → (is_kind a b || are_opposite a b)
    ≡ are_alike (is_notarize a) (is_notarize b)
kinds_exclude Notarization Notarization = refl
kinds_exclude Notarization Nullification = refl
kinds_exclude Notarization Finalization = refl
kinds_exclude Nullification Notarization = refl
kinds_exclude Nullification Nullification = refl
kinds_exclude Nullification Finalization = refl
kinds_exclude Finalization Notarization = refl
kinds_exclude Finalization Nullification = refl
kinds_exclude Finalization Finalization = refl

alike_both : (a b c : Bool) → are_alike a b ≡ true → are_alike a c ≡ true → are_alike b c ≡ true
alike_both true true c h k = k
alike_both true false c h k = absurd (false≢true h)
alike_both false true c h k = absurd (false≢true h)
alike_both false false c h k = k

module _ {G D : Type 0} where
  -- votes that one vote excludes exclude each other
  pub excludes_both : (v a b : Vote G D) → excludes v a ≡ true → excludes v b ≡ true → excludes a b
      ≡ true
  excludes_both v a b h k =
      let first = and_parts _ _ h in
      let second = and_parts _ _ k in
      and_from _ _
      (eq-eqb (signer_of a) (signer_of b) (sym (eqb-true (signer_of v) (signer_of a) first.0) ∙ eqb-true (signer_of v) (signer_of b) second.0))
      (kinds_exclude (kind_of a) (kind_of b)
      ∙ alike_both (is_notarize (kind_of v)) (is_notarize (kind_of a)) (is_notarize (kind_of b))
      (sym (kinds_exclude (kind_of v) (kind_of a)) ∙ first.1) (sym (kinds_exclude (kind_of v) (kind_of b)) ∙ second.1))

  -- beside a vote that none excludes, another vote excludes none where it excludes that one
  none_beside : (votes : List (Vote G D)) (w v : Vote G D) → is_free votes w ≡ true → excludes v w
      ≡ true → count (excludes v) votes ≡ 0
  none_beside votes w v free excluded =
      count_none (excludes v) votes
      (false_from_ne_true _ (λ some.
      let other = any_more (excludes v) (λ u. excludes u w) (λ u h. excludes_both v u w h excluded) votes some in
      true≢false (sym other ∙ not-true _ free)))

  one_excluded : (votes : List (Vote G D)) (w v : Vote G D) → is_free votes w ≡ true
      → count (excludes v) votes ≤ 1 → count (excludes v) (w ∷ votes) ≤ 1
  one_excluded votes w v free few =
      ⊎_elim
      (λ here. rw here (omega (arith, none_beside votes w v free here)))
      (λ other. rw other (omega (arith, few)))
      (cases_Bool (excludes v w))

module _ {D K G C : Type 0} where
  -- OWN VOTES AMONG THOSE THAT ARE ADDED
  own_by_event : (p : Vote G D → Bool) (event : Event D K G C) → count p (own_added_by event)
      ≤ count p (added_by event)
  own_by_event p (OwnCall vote, OwnAnswer outcome report) = omega arith
  own_by_event p (OwnCall vote, NetworkAnswer admission) = omega arith
  own_by_event p (OwnCall vote, OwnRefused fault) = omega arith
  own_by_event p (OwnCall vote, CertificateAnswer changed) = omega arith
  own_by_event p (OwnCall vote, LeaderAnswer result) = omega arith
  own_by_event p (OwnCall vote, ConstructAnswer given) = omega arith
  own_by_event p (OwnCall vote, ForwardAnswer proposal) = omega arith
  own_by_event p (OwnCall vote, MissingAnswer missing) = omega arith
  own_by_event p (OwnCall vote, OutOfMemory) = omega arith
  own_by_event p (NetworkCall sender vote, answer) = omega arith
  own_by_event p (CertificateCall certificate, answer) = omega arith
  own_by_event p (LeaderCall leader, answer) = omega arith
  own_by_event p (ConstructCall, answer) = omega arith
  own_by_event p (ForwardCall me, answer) = omega arith
  own_by_event p (MissingCall proposal, answer) = omega arith

  own_within : (p : Vote G D → Bool) (past : History D K G C) → count p (own_votes_added past)
      ≤ count p (votes_added past)
  own_within p [] = omega arith
  own_within p (event ∷ past) =
      omega (
        arith,
        own_by_event p event,
        own_within p past,
        count-append p (own_added_by event) (own_votes_added past),
        count-append p (added_by event) (votes_added past),
      )

module _ {D K G C : Type 0} (x : Config D K G C) where
  -- Of the first votes no two exclude each other.
  firsts_exclude : (past : History D K G C) (v : Vote G D) → count (excludes v) (first_votes x past)
      ≤ 1
  firsts_exclude [] v = omega arith
  firsts_exclude (event ∷ past) v =
      ⊎_elim
      (λ none. rw none (firsts_exclude past v))
      (λ (one : (w : Vote G D) × (new_votes x past event ≡ w ∷ []) × (is_free (first_votes x past) w ≡ true)).
      rw one.1 (one_excluded (first_votes x past) one.0 v one.2 (firsts_exclude past v)))
      (new_cases x past event)

  pub own_agree : (past : History D K G C) → IsPossible x past → OwnAddedAgree past
  own_agree past possible v =
      omega (
        arith,
        own_within (excludes v) past,
        ap (count (excludes v)) (added_are x past possible),
        firsts_exclude past v,
      )
