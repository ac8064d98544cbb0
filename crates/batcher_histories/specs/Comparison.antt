-- Votes compared with the selected proposal once their kind is released, and what is known after a
-- history.
use Rattle.std.specs.Prelude.{ℕ, Option, Some, None, Bool, not, ◌&&◌, List, [], ◌∷◌, ◌++◌, is_some}
use Rattle.std.specs.Prelude.{is_none, filter}
use Rattle.std.specs.List.{list_any}
use Rattle.batcher_types.specs.declared.messages.Proposal.{Proposal}
use Rattle.batcher_types.specs.declared.messages.Vote.{Vote}
use Rattle.batcher_types.specs.declared.messages.Kind.{Kind}
use Rattle.batcher_votes.specs.RoundState.{Facts}
use Rattle.batcher_votes.specs.TrackerSteps.{Observed, unseen, conflicts_with}
use Rattle.batcher_histories.specs.Config.{Config}
use Rattle.batcher_histories.specs.Known.{Known, known_by, has_block_by}
use Rattle.batcher_types.specs.Lists.{is_empty, is_some_and}
use Rattle.batcher_types.specs.Votes.{kind_of, signer_of, is_vote_of, has_proposals, is_for}
use Rattle.batcher_histories.specs.History.{Event, History, cast_votes}
use Rattle.batcher_histories.specs.FirstVotes.{first_votes, first_vote, opposite_vote}
use Rattle.batcher_histories.specs.Selection.{leader_of, was_forwarded, selection}
use Rattle.batcher_histories.specs.Selection.{selected_proposal, is_released}

module _ {D K G C : Type 0} (x : Config D K G C) where
  -- A notarize or finalize that a call casts is compared where its kind was released before the
  -- call, and a proposal is selected after it. It need not be added, but its signer's opposite vote
  -- must not exclude it.
  abbrev pub is_compared : History D K G C → Event D K G C → Vote G D → Bool
  is_compared past event vote =
      (has_proposals (kind_of vote) && is_released x past (kind_of vote))
      && (is_some (selected_proposal x (event ∷ past)) && is_none (opposite_vote x past vote))

  -- A first vote is compared at the event that releases its kind.
  abbrev pub is_compared_at_release : History D K G C → Event D K G C → Vote G D → Bool
  is_compared_at_release past event vote =
      has_proposals (kind_of vote) && (not (is_released x past (kind_of vote))
      && is_released x (event ∷ past) (kind_of vote))

  abbrev pub compared_votes : History D K G C → List (Vote G D)
  compared_votes [] = []
  compared_votes (event ∷ past) =
      filter (is_compared past event) (cast_votes x event.0)
      ++ (filter (is_compared_at_release past event) (first_votes x past) ++ compared_votes past)

  abbrev pub compared_votes_of : History D K G C → Kind → ℕ → List (Vote G D)
  compared_votes_of past kind i = filter (is_vote_of kind i) (compared_votes past)

  -- whether some compared vote is for the selected proposal
  abbrev pub is_matched : History D K G C → Kind → ℕ → Bool
  is_matched past kind i =
      is_some_and (selected_proposal x past)
      (λ p. list_any (is_for x.same_digest p) (compared_votes_of past kind i))

  -- what is known once votes of the kind are released: whether one was compared, and whether one of
  -- the compared ones is for the selected proposal
  abbrev pub facts_of : History D K G C → Kind → ℕ → Facts
  facts_of past kind i =
      record {
        signer = i;
        has_compared = not (is_empty (compared_votes_of past kind i));
        has_matched = is_matched past kind i;
      }

  -- Whether a vote conflicts with the compared votes of its kind and signer: it is for the selected
  -- proposal and none of them is, or one of them is and it isn't.
  abbrev pub conflicts : History D K G C → Vote G D → Bool
  conflicts past vote =
      conflicts_with x.same_digest (selected_proposal x past) vote
      (facts_of past (kind_of vote) (signer_of vote))

  -- what is known of the nullify that opposes a finalize, or the reverse
  abbrev pub known_opposite : History D K G C → Option (Vote G D) → Observed G D
  known_opposite past None = unseen
  known_opposite past (Some earlier) =
      known_by (is_released x past (kind_of earlier))
      (facts_of past (kind_of earlier) (signer_of earlier)) (Some earlier)

  -- what is known of the votes of a round, by the history of its calls
  abbrev pub known_after : History D K G C → Known G D
  known_after past =
      record {
        leader = leader_of past;
        selection = selection x past;
        forwarded = was_forwarded past;
        is_released = λ kind. is_released x past kind;
        observed = λ kind i. known_by (is_released x past kind) (facts_of past kind i)
            (first_vote x past kind i);
        opposite = λ vote. known_opposite past (opposite_vote x past vote);
      }

  -- A notarize or a finalize shows that a participant has the block: while its kind isn't released,
  -- the first one by the proposal that it carries; then a compared one for the selected proposal,
  -- whatever proposal is asked for.
  abbrev pub has_block : History D K G C → ℕ → Proposal D → Bool
  has_block past i p = has_block_by x.same_digest (known_after past).observed i p
