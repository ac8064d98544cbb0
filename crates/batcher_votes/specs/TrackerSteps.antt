-- What a tracker knows of each signer, and what recording a vote and releasing a kind change.
use Rattle.std.specs.Prelude.{◌≡◌, ◌≤◌, ℕ, Bool, true, false, not, cond, ◌&&◌, ◌||◌, ◌==◌, nat_lt}
use Rattle.std.specs.Prelude.{List, [], Option, Some, None, is_some, Result, IfErr, find, map}
use Rattle.batcher_types.specs.declared.messages.Proposal.{Proposal}
use Rattle.batcher_types.specs.declared.messages.Vote.{Vote}
use Rattle.batcher_types.specs.declared.messages.Vote.TheVariants.{Notarize as NotarizeVote}
use Rattle.batcher_types.specs.declared.messages.Vote.TheVariants.{Nullify as NullifyVote}
use Rattle.batcher_types.specs.declared.messages.Vote.TheVariants.{Finalize as FinalizeVote}
use Rattle.batcher_types.specs.declared.messages.Kind.{Kind}
use Rattle.batcher_types.specs.declared.messages.Kind.TheVariants.{Notarization, Nullification}
use Rattle.batcher_types.specs.declared.messages.Kind.TheVariants.{Finalization}
use Rattle.batcher_votes.specs.declared.votes.Mode.{Mode}
use Rattle.batcher_votes.specs.declared.votes.Mode.TheVariants.{Retaining, Releasing, Skipped}
use Rattle.batcher_votes.specs.declared.votes.Outcome.{Outcome}
use Rattle.batcher_votes.specs.declared.votes.Outcome.TheVariants.{Added, Duplicate, Conflicting}
use Rattle.batcher_votes.specs.declared.votes.ObservedVote.{ObservedVote}
use Rattle.batcher_votes.specs.declared.votes.ObservedVote.TheVariants.{Retained, Compacted}
use Rattle.batcher_types.specs.Ascending.{insert_by}
use Rattle.std.specs.List.{AllPass}
use Rattle.batcher_types.specs.Lists.{count, is_some_and, exactly_one}
use Rattle.batcher_types.specs.Votes.{kind_of, signer_of, is_of_kind, is_vote_of, has_proposals}
use Rattle.batcher_types.specs.Votes.{is_for}
use Rattle.batcher_votes.specs.RoundState.{of_kind, for_each, Facts, TrackerState, TrackerView}

-- What is known of a signer's votes of a kind: none was seen, one is kept in full, or facts are.
pub data Observed (G D : Type 0) : Type 0 where
  unseen : Observed G D
  in_full : Vote G D → Observed G D
  as_facts : Facts → Observed G D

-- whether votes of a kind are released, by whether it is certified
abbrev pub is_released_in : Mode → Bool → Bool
is_released_in Retaining certified = false
is_released_in Releasing certified = certified
is_released_in Skipped certified = true

abbrev pub is_skipped : Mode → Bool
is_skipped Retaining = false
is_skipped Releasing = false
is_skipped Skipped = true

module _ {G D : Type 0} where
  abbrev pub from_kept : Option (Vote G D) → Observed G D
  from_kept None = unseen
  from_kept (Some vote) = in_full vote

  abbrev pub from_facts : Option Facts → Observed G D
  from_facts None = unseen
  from_facts (Some facts) = as_facts facts

  abbrev pub is_seen : Observed G D → Bool
  is_seen unseen = false
  is_seen (in_full vote) = true
  is_seen (as_facts facts) = true

  abbrev pub kept_vote : TrackerState G D → Kind → ℕ → Option (Vote G D)
  kept_vote held kind i = find (is_vote_of kind i) (of_kind held.kept kind)

  abbrev pub known_facts : TrackerState G D → Kind → ℕ → Option Facts
  known_facts held kind i = find (λ f. f.signer == i) (of_kind held.facts kind)

  abbrev pub observed : TrackerState G D → Kind → ℕ → Observed G D
  observed held kind i =
      cond (of_kind held.compacted kind) (from_facts (known_facts held kind i))
      (from_kept (kept_vote held kind i))

  -- whether any vote of the signer was seen
  abbrev pub is_known : TrackerState G D → ℕ → Bool
  is_known held i =
      is_seen (observed held Notarization i)
      || (is_seen (observed held Nullification i) || is_seen (observed held Finalization i))

  -- what is known of the other of nullify and finalize
  abbrev pub observed_opposite : TrackerState G D → Vote G D → Observed G D
  observed_opposite held (NotarizeVote vote) = unseen
  observed_opposite held (NullifyVote vote) = observed held Finalization vote.attestation.signer.0
  observed_opposite held (FinalizeVote vote) = observed held Nullification vote.attestation.signer.0

  -- what a tracker shows of a signer's votes of a kind: none was seen, or one is kept, or one isn't
  -- kept
  abbrev pub shown : Observed G D → Option (ObservedVote (Vote G D))
  shown unseen = None
  shown (in_full vote) = Some (Retained vote)
  shown (as_facts facts) = Some Compacted

  -- what a tracker holds at first
  abbrev pub nothing_tracked : Mode → TrackerState G D
  nothing_tracked mode =
      record { compacted = for_each (is_skipped mode); kept = for_each []; facts = for_each [] }

  -- a kind of which nothing changes
  pub record SameTrackerState (old new : TrackerState G D) (kind : Kind) : Type 0 where
    pub compacted : of_kind new.compacted kind ≡ of_kind old.compacted kind
    pub kept : of_kind new.kept kind ≡ of_kind old.kept kind
    pub facts : of_kind new.facts kind ≡ of_kind old.facts kind

-- There is room for a vote of a kind, whose signer's place among those with an entry is given: for
-- the signer's entry where it has none, and for the vote where the kind isn't compacted.
pub record HasRoomToRecord {G D : Type 0} (tracker : TrackerView G D) (place : Result ℕ ℕ)
    (kind : Kind) : Type 0 where
  pub entry : IfErr place (λ _. 1 ≤ tracker.room)
  pub vote : of_kind tracker.holds.compacted kind ≡ false → 1 ≤ of_kind tracker.vote_room kind

-- The votes of a kind that are kept are of that kind, and no signer has two.
pub record KeepsEach {G D : Type 0} (held : TrackerState G D) (kind : Kind) : Type 0 where
  pub kinds : AllPass (is_of_kind kind) (of_kind held.kept kind)
  pub once : (i : ℕ) → count (λ v. signer_of v == i) (of_kind held.kept kind)
      ≤ cond (is_some (kept_vote held kind i)) 1 0

abbrev pub no_facts : ℕ → Facts
no_facts i = record { signer = i; has_compared = false; has_matched = false }

module _ {G D : Type 0} (same : D → D → Bool) where
  -- whether a signer is known to have voted for the proposal. Of votes that aren't kept only the
  -- selected proposal is known, whatever this one is.
  abbrev pub is_seen_for : Proposal D → Observed G D → Bool
  is_seen_for p unseen = false
  is_seen_for p (in_full vote) = is_for same p vote
  is_seen_for p (as_facts facts) = facts.has_matched

  -- whether the vote and an earlier one of its signer, of which facts are known, differ in being
  -- for the selected proposal
  abbrev pub conflicts_with : Option (Proposal D) → Vote G D → Facts → Bool
  conflicts_with selected vote facts =
      facts.has_compared && is_some_and selected
      (λ p. exactly_one (is_for same p vote) facts.has_matched)

  abbrev pub outcome_by : Option (Proposal D) → Bool → Observed G D → Vote G D → Outcome
  outcome_by selected compacted unseen vote = Added (not compacted)
  outcome_by selected compacted (in_full kept) vote = Duplicate true
  outcome_by selected compacted (as_facts facts) vote =
      cond (conflicts_with selected vote facts) Conflicting (Duplicate false)

  -- what comes of recording a vote among the signers below a bound, with this proposal selected
  abbrev pub outcome_of : ℕ → TrackerState G D → Option (Proposal D) → Vote G D → Outcome
  outcome_of participants held selected vote =
      cond (nat_lt (signer_of vote) participants)
      (outcome_by selected (of_kind held.compacted (kind_of vote))
      (observed held (kind_of vote) (signer_of vote)) vote)
      (Duplicate (not (of_kind held.compacted (kind_of vote))))

  -- The facts of a signer with one more vote: it is compared with the selected proposal, where one
  -- is known. A nullify never is.
  abbrev pub facts_with : Option (Proposal D) → Vote G D → Facts → Facts
  facts_with None vote facts = facts
  facts_with (Some p) vote facts =
      cond (has_proposals (kind_of vote))
      (record facts {
        has_compared = true;
        has_matched = is_for same p vote
            || facts.has_matched;
      }) facts

  abbrev pub facts_of_kept : Option (Proposal D) → Vote G D → Facts
  facts_of_kept selected vote = facts_with selected vote (no_facts (signer_of vote))

  -- the list of facts with one more vote
  abbrev pub recorded_facts : Option (Proposal D) → Vote G D → List Facts → List Facts
  recorded_facts selected vote facts =
      cond (is_some (find (λ f. f.signer == signer_of vote) facts))
      (map (λ f. cond (f.signer == signer_of vote) (facts_with selected vote f) f) facts)
      (insert_by (λ f. f.signer) (facts_of_kept selected vote) facts)

  -- What recording a vote changes of a kind, where it is recorded: it is kept in full where it is
  -- new, or goes into its signer's facts.
  pub record RecordsKind (old new : TrackerState G D) (selected : Option (Proposal D))
      (is_recorded : Bool) (vote : Vote G D) (kind : Kind) : Type 0 where
    pub compacted : of_kind new.compacted kind ≡ of_kind old.compacted kind
    pub kept :
        of_kind new.kept kind
        ≡ cond ((is_of_kind kind vote && is_recorded)
        && (not (of_kind old.compacted kind)
        && not (is_seen (observed old kind (signer_of vote)))))
        (insert_by signer_of vote (of_kind old.kept kind)) (of_kind old.kept kind)
    pub facts :
        of_kind new.facts kind
        ≡ cond ((is_of_kind kind vote && is_recorded) && of_kind old.compacted kind)
        (recorded_facts selected vote (of_kind old.facts kind)) (of_kind old.facts kind)

  -- What releasing a kind changes of it: its votes become facts, compared with the selected
  -- proposal where they carry one.
  pub record ReleasesKind (old new : TrackerState G D) (selected : Option (Proposal D))
      (is_released : Bool) (kind : Kind) : Type 0 where
    pub compacted : of_kind new.compacted kind ≡ (is_released || of_kind old.compacted kind)
    pub kept : of_kind new.kept kind ≡ cond (of_kind new.compacted kind) [] (of_kind old.kept kind)
    pub facts :
        of_kind new.facts kind
        ≡ cond (of_kind old.compacted kind) (of_kind old.facts kind)
        (cond (of_kind new.compacted kind) (map (facts_of_kept selected) (of_kind old.kept kind))
        [])
