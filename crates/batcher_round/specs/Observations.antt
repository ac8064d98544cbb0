-- What a round looks up for a vote.
use Rattle.batcher_types.specs.declared.messages.Vote.{Vote}
use Rattle.batcher_types.specs.Votes.{kind_of, signer_of}
use Rattle.batcher_votes.specs.RoundState.{TrackerState}
use Rattle.batcher_votes.specs.TrackerSteps.{Observed, observed}

-- what was seen of a vote's kind from its signer
abbrev pub observed_like : {G D : Type 0} → TrackerState G D → Vote G D → Observed G D
observed_like holds vote = observed holds (kind_of vote) (signer_of vote)
