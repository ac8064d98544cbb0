-- When what a round holds represents a history, and how it goes on with one more call.
use Rattle.std.specs.Prelude.{◌≡◌, Bool, cond, MatchBool, ◌&&◌, List, [], ◌∷◌, ◌++◌, Some, is_some}
use Rattle.std.specs.Prelude.{IfSome, filter, map}
use Rattle.batcher_types.specs.declared.messages.Vote.{Vote}
use Rattle.batcher_types.specs.declared.messages.Kind.{Kind}
use Rattle.batcher_histories.specs.declared.answers.Answer.{Answer}
use Rattle.batcher_histories.specs.Config.{Config}
use Rattle.batcher_types.specs.Ascending.{ordered_by}
use Rattle.batcher_types.specs.Lists.{SameElements, is_some_and}
use Rattle.batcher_types.specs.Votes.{is_kind, signer_of, is_of_kind}
use Rattle.batcher_votes.specs.RoundState.{of_kind, RoundState}
use Rattle.batcher_histories.specs.History.{Event, History, is_made, own_votes, sent_votes}
use Rattle.batcher_histories.specs.History.{batch_given}
use Rattle.batcher_histories.specs.FirstVotes.{first_votes, is_free}
use Rattle.batcher_histories.specs.Selection.{leader_of, selection, was_forwarded, is_certified}
use Rattle.batcher_histories.specs.Selection.{is_released, is_restored}
use Rattle.batcher_histories.specs.Comparison.{facts_of}
use Rattle.batcher_histories.specs.Eligible.{proven_votes, fresh_votes, eligible_among, ready_kind}
use Rattle.batcher_histories.specs.Attempts.{Attempt, left_verified}
use Rattle.batcher_histories.specs.Answers.{IsPossible}

module _ {D K G C : Type 0} (x : Config D K G C) where
  -- the first votes of a kind, by signer
  abbrev pub first_by_signer : History D K G C → Kind → List (Vote G D)
  first_by_signer past kind = ordered_by signer_of (filter (is_of_kind kind) (first_votes x past))

  pub record RepresentsKind (past : History D K G C) (held : RoundState G D)
      (kind : Kind) : Type 0 where
    pub certified_is : of_kind held.buffered.certified kind ≡ is_certified past kind
    pub compacted_is : of_kind held.tracked.compacted kind ≡ is_released x past kind
    pub kept_are : of_kind held.tracked.kept kind
        ≡ cond (is_released x past kind) [] (first_by_signer past kind)
    pub facts_are :
        of_kind held.tracked.facts kind
        ≡ cond (is_released x past kind)
        (map (λ v. facts_of x past kind (signer_of v)) (first_by_signer past kind)) []
    pub pending_are : SameElements (of_kind held.buffered.pending kind) (fresh_votes x past kind)
    pub verified_are : SameElements (of_kind held.buffered.verified kind) (proven_votes x past kind)

  -- What a round holds is what a history leaves.
  pub record Represents (past : History D K G C) (held : RoundState G D) : Type 0 where
    pub possible : IsPossible x past
    pub leader_is : held.buffered.leader ≡ leader_of past
    pub selection_is : held.buffered.selection ≡ selection x past
    pub forwarded_is : held.forwarded ≡ was_forwarded past
    pub each_kind : (kind : Kind) → RepresentsKind past held kind

  -- the votes of a kind that a call adds
  abbrev pub arrivals : History D K G C → Kind → List (Vote G D) → List (Vote G D)
  arrivals past kind votes = filter (λ v. is_of_kind kind v && is_free (first_votes x past) v) votes

  -- whether an answer gives a batch of the kind
  abbrev pub tries_kind : History D K G C → Answer G C D → Kind → Bool
  tries_kind past answer kind =
      is_some (batch_given answer) && is_some_and (ready_kind x past) (λ k. is_kind k kind)

  -- The buffers of a kind after a call, in order. A batch leaves none of its votes pending, and the
  -- good ones verified.
  -- Restored votes and then an added one come last, an own one among the verified. What no longer
  -- waits is dropped.
  abbrev pub pending_after : History D K G C → RoundState G D → Event D K G C → Kind
      → List (Vote G D)
  pending_after past old event kind =
      let left = cond (tries_kind past event.1 kind) [] (of_kind old.buffered.pending kind) in
      let restored = filter (is_restored x past event) (of_kind old.tracked.kept kind) in
      eligible_among x (event ∷ past) kind
      (left ++ restored ++ arrivals past kind (sent_votes x event.0))

  abbrev pub verified_after : History D K G C → RoundState G D → Event D K G C → Kind
      → List (Vote G D)
  verified_after past old event kind =
      let verified = of_kind old.buffered.verified kind in
      let left = cond (tries_kind past event.1 kind)
      (left_verified x verified (of_kind old.buffered.pending kind)) verified in
      eligible_among x (event ∷ past) kind (left ++ arrivals past kind (own_votes event.0))

  -- a batch is an attempt at the first ready kind, with its buffers
  abbrev pub TriesBuffers : History D K G C → RoundState G D → Event D K G C → Type 0
  TriesBuffers past old event =
      IfSome (batch_given event.1) (λ batch.
      (kind : Kind) × ((ready_kind x past ≡ Some kind)
      × Attempt x (of_kind old.buffered.verified kind) (of_kind old.buffered.pending kind)
      batch))

  -- A made call leaves a round that represents the longer history, with its buffers in order.
  pub record Simulates (past : History D K G C) (old : RoundState G D) (event : Event D K G C)
      (new : RoundState G D) : Type 0 where
    pub represents : Represents (event ∷ past) new
    pub pending_are : (kind : Kind) → of_kind new.buffered.pending kind
        ≡ pending_after past old event kind
    pub verified_are : (kind : Kind) → of_kind new.buffered.verified kind
        ≡ verified_after past old event kind
    pub attempt : TriesBuffers past old event

  -- Each call meets the model: a made one is followed, and one that is refused changes nothing.
  abbrev pub Meets : History D K G C → RoundState G D → Event D K G C → RoundState G D → Type 0
  Meets past old event new = MatchBool (is_made event.1) (Simulates past old event new) (new ≡ old)
