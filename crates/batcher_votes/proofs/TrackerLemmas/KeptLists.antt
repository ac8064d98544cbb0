-- The votes that are kept, as lists of each kind.
use Rattle.batcher_votes.proofs.Words.{◌≡◌, ◌∙◌, ℕ, List, Option, Some, None, map, refl, ap, slice_get-map, slice_get, option_map, Nullify, Finalize}
use Rattle.batcher_votes.proofs.Words.{NullifyVote, FinalizeVote, proposal_at}

module _ {G D : Type 0} where
  -- A nullify carries no proposal.
  pub none_carried : (votes : List (Nullify G)) (place : ℕ)
      → proposal_at {G = G} {D = D} (slice_get (map NullifyVote votes) place) ≡ None
  none_carried votes place = ap proposal_at (slice_get-map NullifyVote votes place) ∙ none_of (slice_get votes place) where
    none_of : (o : Option (Nullify G))
        → proposal_at {G = G} {D = D} (option_map NullifyVote o) ≡ None
    none_of None = refl
    none_of (Some vote) = refl

  pub finalize_carried : (votes : List (Finalize G D)) (place : ℕ) (vote : Finalize G D)
      → slice_get votes place ≡ Some vote
      → proposal_at (slice_get (map FinalizeVote votes) place) ≡ Some vote.proposal
  finalize_carried votes place vote is =
      ap proposal_at (slice_get-map FinalizeVote votes place ∙ ap (option_map FinalizeVote) is)
