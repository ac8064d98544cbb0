-- The votes that can still make a certificate: counted, eligible, proven and fresh ones, and which
-- kind is ready.
use Rattle.std.specs.Prelude.{ℕ, Bool, not, cond, ◌&&◌, ◌||◌, ◌==◌, List, [], ◌∷◌, Option, Some}
use Rattle.std.specs.Prelude.{None, filter, map}
use Rattle.std.specs.List.{list_any}
use Rattle.std.specs.Option.{option_map_or}
use Rattle.batcher_types.specs.declared.messages.Proposal.{Proposal}
use Rattle.batcher_types.specs.declared.messages.Vote.{Vote}
use Rattle.batcher_types.specs.declared.messages.Kind.{Kind}
use Rattle.batcher_types.specs.declared.messages.Certificate.{Certificate}
use Rattle.batcher_votes.specs.declared.verifier.Batch.{Batch}
use Rattle.batcher_histories.specs.Config.{Config, quorum_in}
use Rattle.batcher_types.specs.Lists.{is_some_and}
use Rattle.batcher_types.specs.Votes.{is_kind, kind_of, signer_of, subject_of, attestation_of}
use Rattle.batcher_types.specs.Votes.{has_proposals, is_of_kind, is_vote_of, is_for, is_eligible}
use Rattle.batcher_votes.specs.TrackerSteps.{is_skipped}
use Rattle.batcher_votes.specs.VerifierSteps.{is_enough}
use Rattle.batcher_histories.specs.Known.{first_ready}
use Rattle.batcher_histories.specs.History.{History, batch_given}
use Rattle.batcher_histories.specs.FirstVotes.{first_votes, own_first_votes}
use Rattle.batcher_histories.specs.Selection.{selected_proposal, is_certified, restored_votes}

-- what a batch has tried: its kind, the signers whose votes were eligible, and those that it found
-- invalid
pub record Trial : Type 0 where
  pub kind : Kind
  pub eligible : List ℕ
  pub invalid : List ℕ

abbrev pub is_among : ℕ → List ℕ → Bool
is_among i signers = list_any (λ j. j == i) signers

module _ {G D : Type 0} where
  -- whether the vote was eligible at a batch of its kind
  abbrev pub was_eligible : List Trial → Vote G D → Bool
  was_eligible trials vote =
      list_any (λ t. is_kind t.kind (kind_of vote) && is_among (signer_of vote) t.eligible) trials

  -- whether a batch of its kind found its signer invalid
  abbrev pub was_invalid : List Trial → Vote G D → Bool
  was_invalid trials vote =
      list_any (λ t. is_kind t.kind (kind_of vote) && is_among (signer_of vote) t.invalid) trials

  -- whether one of the votes is of its kind and signer
  abbrev pub holds_vote : List (Vote G D) → Vote G D → Bool
  holds_vote votes vote = list_any (is_vote_of (kind_of vote) (signer_of vote)) votes

module _ {D K G C : Type 0} (x : Config D K G C) where
  -- A vote attests where its attestation attests its own subject.
  abbrev pub is_valid : Vote G D → Bool
  is_valid vote = x.meaning.attests (subject_of vote) (attestation_of vote)

  -- The votes of a kind that count towards its certificate: those for the selected proposal, and
  -- all nullifies.
  abbrev pub is_counted : Option (Proposal D) → Vote G D → Bool
  is_counted proposal vote =
      not (has_proposals (kind_of vote)) || is_some_and proposal (λ p. is_for x.same_digest p vote)

  abbrev pub counted_votes : History D K G C → Kind → List (Vote G D)
  counted_votes past kind =
      cond (is_skipped x.mode) []
      (filter (λ v. is_of_kind kind v && is_counted (selected_proposal x past) v)
      (first_votes x past))

  -- the counted votes that attest
  abbrev pub valid_votes : History D K G C → Kind → List (Vote G D)
  valid_votes past kind = filter is_valid (counted_votes past kind)

  -- those of the votes of a kind that wait for its certificate
  abbrev pub eligible_among : History D K G C → Kind → List (Vote G D) → List (Vote G D)
  eligible_among past kind votes =
      cond (is_certified past kind || is_skipped x.mode) []
      (filter (is_eligible x.same_digest (selected_proposal x past)) votes)

  -- the first votes that do
  abbrev pub eligible_votes : History D K G C → Kind → List (Vote G D)
  eligible_votes past kind = eligible_among past kind
      (filter (is_of_kind kind) (first_votes x past))

  -- An own vote is trusted to attest, unless a replacement has restored it.
  abbrev pub is_trusted : History D K G C → Vote G D → Bool
  is_trusted past vote =
      holds_vote (own_first_votes x past) vote && not (holds_vote (restored_votes x past) vote)

  -- By the trials so far, the proven votes: eligible ones that are trusted or were eligible at an
  -- earlier one, less those found invalid;
  abbrev pub proven_by : List Trial → History D K G C → Kind → List (Vote G D)
  proven_by trials past kind =
      filter (λ v. (is_trusted past v || was_eligible trials v) && not (was_invalid trials v))
      (eligible_votes past kind)

  -- the fresh votes: eligible ones that neither are trusted nor were eligible at an earlier one;
  abbrev pub fresh_by : List Trial → History D K G C → Kind → List (Vote G D)
  fresh_by trials past kind =
      filter (λ v. not (is_trusted past v || was_eligible trials v)) (eligible_votes past kind)

  -- whether a kind is ready;
  abbrev pub is_ready_by : List Trial → History D K G C → Kind → Bool
  is_ready_by trials past kind =
      not (is_certified past kind)
      && is_enough x.same_digest x.meaning.batchable (quorum_in x) kind (selected_proposal x past)
      (proven_by trials past kind) (fresh_by trials past kind)

  -- and the first that is.
  abbrev pub ready_kind_by : List Trial → History D K G C → Option Kind
  ready_kind_by trials past = first_ready (λ kind. is_ready_by trials past kind)

  abbrev pub trial_of : History D K G C → Kind → Batch (Certificate C D) → Trial
  trial_of past kind batch =
      record {
        kind = kind;
        eligible = map signer_of (eligible_votes past kind);
        invalid = map
            (λ i. i.0) batch.invalid;
      }

  abbrev pub with_batch : History D K G C → List Trial → Option (Batch (Certificate C D))
      → List Trial
  with_batch past trials None = trials
  with_batch past trials (Some batch) =
      option_map_or (λ kind. trial_of past kind batch ∷ trials) (ready_kind_by trials past) trials

  -- The trials of a history, the newest first. A batch is of the kind that was the first ready one
  -- before it.
  abbrev pub trials : History D K G C → List Trial
  trials [] = []
  trials (event ∷ past) = with_batch past (trials past) (batch_given event.1)

  abbrev pub proven_votes : History D K G C → Kind → List (Vote G D)
  proven_votes past kind = proven_by (trials past) past kind

  abbrev pub fresh_votes : History D K G C → Kind → List (Vote G D)
  fresh_votes past kind = fresh_by (trials past) past kind

  abbrev pub ready_kind : History D K G C → Option Kind
  ready_kind past = ready_kind_by (trials past) past
