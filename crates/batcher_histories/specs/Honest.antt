-- What an honest participant can rely on.
use Rattle.std.specs.Prelude.{◌≡◌, ◌≤◌, ◌+◌, ◌&&◌, ◌||◌, ◌==◌, ⊤, ℕ, Bool, true, false, not, cond}
use Rattle.std.specs.Prelude.{List, [], ◌∷◌, ◌++◌, None}
use Rattle.std.specs.List.{list_any, AllPass, range_with_len}
use Rattle.std.specs.Option.{option_map_or}
use Rattle.batcher_types.specs.declared.positions.Participant.{Participant}
use Rattle.batcher_types.specs.declared.messages.Vote.{Vote}
use Rattle.batcher_types.specs.declared.messages.Kind.{Kind}
use Rattle.batcher_histories.specs.declared.answers.Admission.{Admission}
use Rattle.batcher_histories.specs.declared.calls.Call.TheVariants.{Network as NetworkCall}
use Rattle.batcher_histories.specs.declared.calls.Call.TheVariants.{Own as OwnCall}
use Rattle.batcher_histories.specs.declared.calls.Call.TheVariants.{Construct as ConstructCall}
use Rattle.batcher_histories.specs.declared.answers.Answer.{Answer}
use Rattle.batcher_histories.specs.declared.answers.Answer.TheVariants.{Network as NetworkAnswer}
use Rattle.batcher_histories.specs.declared.answers.Answer.TheVariants.{Own as OwnAnswer}
use Rattle.batcher_histories.specs.declared.answers.Answer.TheVariants.{Construct as ConstructAnswer}
use Rattle.batcher_histories.specs.Config.{Config, participants_in, quorum_in}
use Rattle.batcher_types.specs.Lists.{count, is_some_and}
use Rattle.batcher_types.specs.Votes.{signer_of, is_vote_of, excludes}
use Rattle.batcher_votes.specs.TrackerSteps.{is_skipped}
use Rattle.batcher_histories.specs.Admissions.{same_vote}
use Rattle.batcher_histories.specs.Steps.{is_added}
use Rattle.batcher_histories.specs.History.{Event, History, batch_given, names_sender, sent_votes}
use Rattle.batcher_histories.specs.Selection.{selected_proposal, is_certified}
use Rattle.batcher_histories.specs.Eligible.{is_valid, is_counted, ready_kind}
use Rattle.batcher_histories.specs.Represents.{tries_kind}
use Rattle.batcher_histories.specs.Promises.{AtEachVote, AtEachEvent, AtEachTime}
use Rattle.batcher_histories.specs.Promises.{ends_in_constructions, votes_cast, gave_cause}

-- whom the batch of an answer names invalid, if one was given
abbrev pub named_invalid : {G C D : Type 0} → Answer G C D → List Participant
named_invalid answer = option_map_or (λ batch. batch.invalid) (batch_given answer) []

module _ {D K G C : Type 0} where
  -- the own vote that is answered as added
  abbrev pub own_added_by : Event D K G C → List (Vote G D)
  own_added_by (OwnCall vote, OwnAnswer outcome report) = cond (is_added outcome) (vote ∷ []) []
  own_added_by event = []

  -- all own votes that were answered as added, the newest first
  abbrev pub own_votes_added : History D K G C → List (Vote G D)
  own_votes_added [] = []
  own_votes_added (event ∷ past) = own_added_by event ++ own_votes_added past

  -- No two of them exclude each other, equal ones neither: they have one notarize of a signer at
  -- most, and one nullify or finalize. So no two contradict each other, and they may all be sent.
  abbrev pub OwnAddedAgree : History D K G C → Type 0
  OwnAddedAgree past = (v : Vote G D) → count (excludes v) (own_votes_added past) ≤ 1

module _ {D K G C : Type 0} (x : Config D K G C) where
  -- A vote that names its sender is added, or equals one that its signer cast before, unless its
  -- signer gave cause to be blocked, with this vote at the latest.
  abbrev pub IsAddedWithoutCause : History D K G C → K → Vote G D → Admission G D → Type 0
  IsAddedWithoutCause past sender vote admission =
      names_sender x sender vote ≡ true
      → gave_cause x ((NetworkCall sender vote, NetworkAnswer admission) ∷ past) (signer_of vote)
      ≡ false
      → (admission.added
      || list_any (same_vote x.same_digest x.same_signature vote) (votes_cast x past)) ≡ true

  -- how often the batches of a kind have named a signer invalid
  abbrev pub times_named : History D K G C → Kind → ℕ → ℕ
  times_named [] kind i = 0
  times_named (event ∷ past) kind i =
      cond (tries_kind x past event.1 kind) (count (λ j. j.0 == i) (named_invalid event.1)) 0
      + times_named past kind i

  -- the votes that were sent in their senders' own names
  abbrev pub votes_sent : History D K G C → List (Vote G D)
  votes_sent [] = []
  votes_sent (event ∷ past) = sent_votes x event.0 ++ votes_sent past

  -- whether the participant sent a vote of the kind, in its own name, that doesn't attest
  abbrev pub sent_bad_vote : History D K G C → Kind → ℕ → Bool
  sent_bad_vote past kind i =
      list_any (λ v. is_vote_of kind i v && not (is_valid x v)) (votes_sent past)

  -- All whom a batch names invalid have sent such a vote of its kind.
  abbrev pub NamesForOwnVotes : History D K G C → Event D K G C → Type 0
  NamesForOwnVotes past event =
      AllPass (λ i. is_some_and (ready_kind x past) (λ kind. sent_bad_vote past kind i.0))
      (named_invalid event.1)

  -- whether the participant cast a vote of the kind that counts, and none that doesn't attest
  abbrev pub voted_well : History D K G C → Kind → ℕ → Bool
  voted_well past kind i =
      list_any (λ v. is_vote_of kind i v && is_counted x (selected_proposal x past) v)
      (votes_cast x past)
      && not (list_any (λ v. is_vote_of kind i v && not (is_valid x v)) (votes_cast x past))

  -- how many participants gave no cause, and voted well
  abbrev pub honest_voters : History D K G C → Kind → ℕ
  honest_voters past kind =
      count (λ i. not (gave_cause x past i) && voted_well past kind i)
      (range_with_len 0 (participants_in x))

  -- Honest quorums complete: after three constructions in a row each kind for which a quorum of
  -- participants voted well, and gave no cause, is certified, unless the round is skipped.
  abbrev pub CompletesHonestQuorums : History D K G C → Type 0
  CompletesHonestQuorums past =
      is_skipped x.mode ≡ false → ends_in_constructions 3 past ≡ true
      → (kind : Kind) → quorum_in x ≤ honest_voters past kind → is_certified past kind ≡ true

  -- Nor is such a kind left by a construction that gives no batch: it is certified by then.
  abbrev pub LeavesNoHonestQuorum : History D K G C → Event D K G C → Type 0
  LeavesNoHonestQuorum past (ConstructCall, ConstructAnswer None) =
      is_skipped x.mode ≡ false → (kind : Kind) → quorum_in x ≤ honest_voters past kind
      → is_certified past kind ≡ true
  LeavesNoHonestQuorum past event = ⊤

  -- What holds of every list of calls on a fresh round, over its history.
  pub record TakesInHonest (past : History D K G C) : Type 0 where
    pub votes_are_added : AtEachVote IsAddedWithoutCause past
    -- Who sends just those own votes that were added contradicts nothing that it sent.
    pub own_added_agree : OwnAddedAgree past
    -- All batches of a kind together name a signer once at most.
    pub named_once : (kind : Kind) (i : ℕ) → times_named past kind i ≤ 1
    pub named_for_its_own_vote : AtEachEvent NamesForOwnVotes past
    pub honest_quorums_complete : AtEachTime CompletesHonestQuorums past
    pub no_honest_quorum_left : AtEachEvent LeavesNoHonestQuorum past
