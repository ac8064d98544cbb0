-- Two rounds that take the same calls, one that retains votes beside one that releases them.
use Rattle.std.specs.Prelude.{◌≡◌, ◌<◌, ◌+◌, ◌⊎◌, ⊤, ℕ, Bool, true, false, not, ◌&&◌, ◌||◌, ◌==◌}
use Rattle.std.specs.Prelude.{List, [], ◌∷◌, length, take, Option, Some, None, is_some}
use Rattle.std.specs.List.{list_any}
use Rattle.rand_core.specs.Stream.{Stream}
use Rattle.batcher_types.specs.declared.positions.Participant.{Participant}
use Rattle.batcher_types.specs.declared.messages.Proposal.{Proposal}
use Rattle.batcher_types.specs.declared.messages.Vote.{Vote}
use Rattle.batcher_types.specs.declared.messages.Kind.{Kind}
use Rattle.batcher_votes.specs.declared.votes.Mode.{Mode}
use Rattle.batcher_votes.specs.declared.votes.Mode.TheVariants.{Retaining, Releasing}
use Rattle.batcher_histories.specs.declared.calls.Call.{Call}
use Rattle.batcher_histories.specs.declared.calls.Call.TheVariants.{Network as NetworkCall}
use Rattle.batcher_histories.specs.declared.calls.Call.TheVariants.{Missing as MissingCall}
use Rattle.batcher_histories.specs.declared.answers.Answer.{Answer}
use Rattle.batcher_histories.specs.declared.answers.Answer.TheVariants.{OutOfMemory}
use Rattle.batcher_histories.specs.declared.answers.Answer.TheVariants.{Network as NetworkAnswer}
use Rattle.batcher_histories.specs.declared.answers.Answer.TheVariants.{Own as OwnAnswer}
use Rattle.batcher_histories.specs.declared.answers.Answer.TheVariants.{OwnRefused}
use Rattle.batcher_histories.specs.declared.answers.Answer.TheVariants.{Certificate as CertificateAnswer}
use Rattle.batcher_histories.specs.declared.answers.Answer.TheVariants.{Leader as LeaderAnswer}
use Rattle.batcher_histories.specs.declared.answers.Answer.TheVariants.{Construct as ConstructAnswer}
use Rattle.batcher_histories.specs.declared.answers.Answer.TheVariants.{Forward as ForwardAnswer}
use Rattle.batcher_histories.specs.declared.answers.Answer.TheVariants.{Missing as MissingAnswer}
use Rattle.batcher_histories.specs.Config.{Config, sender_in}
use Rattle.batcher_types.specs.Lists.{is_some_and}
use Rattle.batcher_types.specs.Votes.{kind_of, is_for, subject_of, proposal_in, same_proposal}
use Rattle.batcher_votes.specs.ProposalStates.{same_selected}
use Rattle.batcher_votes.specs.RoundState.{RoundState}
use Rattle.batcher_histories.specs.Steps.{is_added}
use Rattle.batcher_histories.specs.Runs.{blocked_senders}
use Rattle.batcher_histories.specs.History.{Event, History, history}
use Rattle.batcher_histories.specs.RunContract.{IsRun}
use Rattle.batcher_histories.specs.FirstVotes.{first_like}
use Rattle.batcher_histories.specs.Selection.{selection, selected_proposal, is_certified}
use Rattle.batcher_histories.specs.Selection.{is_released}

module _ {G C D : Type 0} where
  -- whether a call was refused for memory or as an own vote's fault, which ends the run of a pair
  abbrev pub ends_pair : Answer G C D → Bool
  ends_pair (OwnRefused fault) = true
  ends_pair OutOfMemory = true
  ends_pair answer = false

  -- whether an own vote was refused by its fault
  abbrev pub is_own_fault : Answer G C D → Bool
  is_own_fault (OwnRefused fault) = true
  is_own_fault answer = false

  -- What both rounds answer alike: whether a vote is added, and to certificates, leaders,
  -- constructions and forwards all.
  abbrev pub IsAlike : Answer G C D → Answer G C D → Type 0
  IsAlike (NetworkAnswer a) (NetworkAnswer b) = a.added ≡ b.added
  IsAlike (OwnAnswer outcome report) (OwnAnswer other reported) = is_added outcome ≡ is_added other
  IsAlike (CertificateAnswer a) (CertificateAnswer b) = a ≡ b
  IsAlike (LeaderAnswer a) (LeaderAnswer b) = a ≡ b
  IsAlike (ConstructAnswer a) (ConstructAnswer b) = a ≡ b
  IsAlike (ForwardAnswer a) (ForwardAnswer b) = a ≡ b
  IsAlike (MissingAnswer a) (MissingAnswer b) = ⊤
  IsAlike a b = ⊥

  -- whether an answer blocks the sender
  abbrev pub blocks : Answer G C D → Bool
  blocks (NetworkAnswer admission) = is_some admission.block
  blocks answer = false

module _ {D K G C : Type 0} (x : Config D K G C) where
  abbrev pub in_mode : Mode → Config D K G C
  in_mode mode = record x { mode = mode }

  -- whether a call is of the participant and blocks it
  abbrev pub blocks_participant : ℕ → Event D K G C → Bool
  blocks_participant i (NetworkCall sender vote, answer) =
      is_some_and (sender_in x sender) (λ p. p.0 == i) && blocks answer
  blocks_participant i event = false

  -- whether the sender of a call was blocked before it
  abbrev pub was_blocked : History D K G C → K → Bool
  was_blocked past sender =
      is_some_and (sender_in x sender) (λ p. list_any (blocks_participant p.0) past)

  -- whether two votes carry one proposal, or none, or neither is for the selected one
  abbrev pub tells_nothing : History D K G C → Vote G D → Vote G D → Bool
  tells_nothing past vote first =
      same_selected x.same_digest (proposal_in (subject_of vote)) (proposal_in (subject_of first))
      || not (is_some_and (selected_proposal x past)
      (λ p. is_for x.same_digest p vote || is_for x.same_digest p first))

  -- whether a proposal is selected, and another one than this
  abbrev pub is_other_selected : History D K G C → Proposal D → Bool
  is_other_selected past p =
      is_some_and (selected_proposal x past) (λ q. not (same_proposal x.same_digest q p))

-- answers that are alike, one by one
abbrev pub AnsweredAlike : {G C D : Type 0} → List (Answer G C D) → List (Answer G C D) → Type 0
AnsweredAlike [] [] = ⊤
AnsweredAlike (a ∷ retained) (b ∷ released) = IsAlike a b × AnsweredAlike retained released
AnsweredAlike retained released = ⊥

-- what holds of the events of two histories as long, and of the histories before them
abbrev pub AtEachPlace : {D K G C : Type 0}
    → (Event D K G C → History D K G C → Event D K G C → History D K G C → Type 0) → History D K G C
    → History D K G C → Type 0
AtEachPlace holds [] [] = ⊤
AtEachPlace holds (a ∷ retained) (b ∷ released) =
    holds a retained b released × AtEachPlace holds retained released
AtEachPlace holds retained released = ⊥

module _ {D K G C : Type 0} (x : Config D K G C) where
  -- Both select the same proposal by the same source, and have the same kinds certified.
  abbrev pub SelectsAlike : Event D K G C → History D K G C → Event D K G C → History D K G C
      → Type 0
  SelectsAlike a retained b released =
      (selection (in_mode x Retaining) (a ∷ retained)
      ≡ selection (in_mode x Releasing) (b ∷ released))
      × ((kind : Kind) → is_certified (a ∷ retained) kind ≡ is_certified (b ∷ released) kind)

  -- Whom the releasing round blocks the retaining one blocks too, or has blocked before.
  abbrev pub IsBlockedByBoth : Event D K G C → History D K G C → Event D K G C → History D K G C
      → Type 0
  IsBlockedByBoth a retained (NetworkCall sender vote, answer) released =
      blocks answer ≡ true → (blocks a.1 || was_blocked x retained sender) ≡ true
  IsBlockedByBoth a retained b released = ⊤

  -- Whom the retaining round blocks, and the releasing one neither then nor before, has sent a vote
  -- of a kind that is released, and of which facts say nothing.
  abbrev pub IsBlockedByOne : Event D K G C → History D K G C → Event D K G C → History D K G C
      → Type 0
  IsBlockedByOne (NetworkCall sender vote, answer) retained b released =
      blocks answer ≡ true → (blocks b.1 || was_blocked x released sender) ≡ false
      → (is_released (in_mode x Releasing) released (kind_of vote)
      && is_some_and (first_like x released vote) (tells_nothing x released vote)) ≡ true
  IsBlockedByOne a retained b released = ⊤

  -- Unless another proposal is selected than the one that is asked about, whom the releasing round
  -- lists as without its block the retaining one lists too.
  abbrev pub IsMissingInBoth :
      Event D K G C → History D K G C → Event D K G C → History D K G C → Type 0
  IsMissingInBoth (c, MissingAnswer kept) retained (MissingCall p, MissingAnswer missing) released =
      is_other_selected (in_mode x Releasing) released p ≡ false
      → (i : ℕ) → list_any (λ j. j.0 == i) missing ≡ true → list_any (λ j. j.0 == i) kept ≡ true
  IsMissingInBoth a retained b released = ⊤

  pub record IsBeside (retained released : History D K G C) : Type 0 where
    pub select_alike : AtEachPlace SelectsAlike retained released
    pub blocked_by_both : AtEachPlace IsBlockedByBoth retained released
    pub blocked_by_one : AtEachPlace IsBlockedByOne retained released
    pub missing_in_both : AtEachPlace IsMissingInBoth retained released

-- WHERE A PAIR STOPS
module _ {G C D : Type 0} where
  -- so many answers, none of which ends the pair
  abbrev pub PairGoesOn : ℕ → List (Answer G C D) → Type 0
  PairGoesOn n answers = (length answers ≡ n) × (list_any ends_pair answers ≡ false)

  -- so many answers and one that ends it
  abbrev pub EndsAt : ℕ → List (Answer G C D) → Type 0
  EndsAt n answers =
      (length answers ≡ n + 1) × ((list_any ends_pair (take n answers) ≡ false)
      × (list_any ends_pair answers ≡ true))

  -- A pair of so many calls stops nowhere, or at the first call that one of the rounds refuses; the
  -- retaining round goes first, and what it has made the releasing one refuses for memory alone.
  abbrev pub StopsAt : Option ℕ → ℕ → List (Answer G C D) → List (Answer G C D) → Type 0
  StopsAt None n retained released = PairGoesOn n retained × PairGoesOn n released
  StopsAt (Some place) n retained released =
      (place < n) × ((EndsAt place retained × PairGoesOn place released)
      ⊎ (PairGoesOn (place + 1) retained ×
      (EndsAt place released × (list_any is_own_fault released ≡ false))))

-- those of the calls, or of their answers, that both rounds have made
abbrev pub made_by_both : {X : Type 0} → Option ℕ → List X → List X
made_by_both None all = all
made_by_both (Some place) all = take place all

module _ {D K G C : Type 0} (x : Config D K G C) where
  -- a test that all keys of one participant pass, or none
  abbrev pub TellsNoKeysApart : (K → Bool) → Type 0
  TellsNoKeysApart test =
      (a b : K) (i : Participant)
      → sender_in x a ≡ Some i → sender_in x b ≡ Some i → test a ≡ test b

  -- Whom the releasing round's answers block those of the retaining one block too: the sender with
  -- the same key, or with another key of the same participant.
  abbrev pub BlocksNoMore : List (Call K G C D) → List (Answer G C D) → List (Answer G C D) → Type 0
  BlocksNoMore calls retained released =
      (test : K → Bool) → TellsNoKeysApart test
      → list_any test (blocked_senders calls released) ≡ true
      → list_any test (blocked_senders calls retained) ≡ true

  -- What a run of a pair leaves. Each round has run in its own mode, over the calls that it has
  -- made; over those that both have made they are beside each other; and where none was refused
  -- they hold the same, but for kept votes and facts.
  pub record IsPairRun (before : Stream) (calls : List (Call K G C D)) (stopped : Option ℕ)
      (retained : List (Answer G C D)) (retaining : RoundState G D) (after : Stream)
      (released : List (Answer G C D)) (releasing : RoundState G D) (left : Stream) : Type 0 where
    pub retaining_run : IsRun (in_mode x Retaining) before (take (length retained) calls) retained
        retaining after
    pub releasing_run : IsRun (in_mode x Releasing) before (take (length released) calls) released
        releasing left
    pub stops : StopsAt stopped (length calls) retained released
    pub answered_alike : AnsweredAlike (made_by_both stopped retained)
        (made_by_both stopped released)
    pub beside : IsBeside x (history (made_by_both stopped calls) (made_by_both stopped retained))
        (history (made_by_both stopped calls) (made_by_both stopped released))
    pub blocks_no_more : BlocksNoMore calls retained released
    pub held_alike : stopped ≡ None → (retaining.buffered ≡ releasing.buffered)
        × ((retaining.forwarded ≡ releasing.forwarded) × (after ≡ left))
