-- The first vote of each kind and index.
use Rattle.std.specs.Prelude.{ℕ, Bool, not, ◌&&◌, List, [], ◌∷◌, ◌++◌, Option, filter, find}
use Rattle.std.specs.List.{list_any}
use Rattle.batcher_types.specs.declared.messages.Vote.{Vote}
use Rattle.batcher_types.specs.declared.messages.Kind.{Kind}
use Rattle.batcher_histories.specs.Config.{Config}
use Rattle.batcher_types.specs.Votes.{kind_of, signer_of, is_vote_of, excludes, opposes}
use Rattle.batcher_histories.specs.Admissions.{same_vote}
use Rattle.batcher_histories.specs.History.{History, own_votes, cast_votes}

-- whether none of the votes excludes the vote
abbrev pub is_free : {G D : Type 0} → List (Vote G D) → Vote G D → Bool
is_free votes vote = not (list_any (λ v. excludes v vote) votes)

module _ {D K G C : Type 0} (x : Config D K G C) where
  -- Two votes of one signer contradict each other where they exclude each other and aren't equal.
  abbrev pub contradicts : Vote G D → Vote G D → Bool
  contradicts a b = excludes a b && not (same_vote x.same_digest x.same_signature a b)

  -- The votes that were cast and that no earlier one of these excludes.
  abbrev pub first_votes : History D K G C → List (Vote G D)
  first_votes [] = []
  first_votes (event ∷ past) =
      filter (is_free (first_votes past)) (cast_votes x event.0) ++ first_votes past

  -- those of them that an own call cast
  abbrev pub own_first_votes : History D K G C → List (Vote G D)
  own_first_votes [] = []
  own_first_votes (event ∷ past) =
      filter (is_free (first_votes past)) (own_votes event.0) ++ own_first_votes past

  -- the first vote of a kind and index
  abbrev pub first_vote : History D K G C → Kind → ℕ → Option (Vote G D)
  first_vote past kind i = find (is_vote_of kind i) (first_votes past)

  -- the first vote of the vote's kind and signer
  abbrev pub first_like : History D K G C → Vote G D → Option (Vote G D)
  first_like past vote = first_vote past (kind_of vote) (signer_of vote)

  -- the nullify that excludes a finalize, or the finalize that excludes a nullify
  abbrev pub opposite_vote : History D K G C → Vote G D → Option (Vote G D)
  opposite_vote past vote = find (λ v. opposes v vote) (first_votes past)
