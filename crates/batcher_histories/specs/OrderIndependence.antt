-- What constructions certify, and when the order of the calls before them makes no difference.
use Rattle.std.specs.Prelude.{◌≡◌, ◌≤◌, ◌||◌, Bool, true, false, not, List, [], ◌∷◌, map, length}
use Rattle.std.specs.Prelude.{Option, is_some, option_and_then}
use Rattle.std.specs.List.{list_any}
use Rattle.std.specs.Option.{option_or}
use Rattle.batcher_types.specs.declared.messages.Proposal.{Proposal}
use Rattle.batcher_types.specs.declared.messages.Vote.{Vote}
use Rattle.batcher_types.specs.declared.messages.Kind.{Kind}
use Rattle.batcher_types.specs.declared.messages.Certificate.{Certificate}
use Rattle.batcher_votes.specs.declared.verifier.Batch.{Batch}
use Rattle.batcher_histories.specs.declared.calls.Call.{Call}
use Rattle.batcher_histories.specs.declared.calls.Call.TheVariants.{Construct as ConstructCall}
use Rattle.batcher_histories.specs.declared.answers.Answer.TheVariants.{Construct as ConstructAnswer}
use Rattle.batcher_histories.specs.Config.{Config, participants_in}
use Rattle.batcher_types.specs.Lists.{count, is_some_and, SameElements}
use Rattle.batcher_types.specs.Votes.{has_proposals, excludes, same_proposal}
use Rattle.batcher_histories.specs.History.{History, recorded_certificate}
use Rattle.batcher_histories.specs.Selection.{finalized_by, selection, selected_proposal}
use Rattle.batcher_histories.specs.Selection.{is_certified}
use Rattle.batcher_histories.specs.Answers.{IsPossible}
use Rattle.batcher_histories.specs.Promises.{votes_cast}
use Rattle.batcher_histories.specs.Backing.{proposal_certified}
use Rattle.batcher_histories.specs.CertificateTiming.{HasNoBadVote, has_valid_quorum}

-- what constructions were answered, the newest first
abbrev pub Batches : Type 0 → Type 0 → Type 0
Batches C D = List (Option (Batch (Certificate C D)))

module _ {D K G C : Type 0} where
  -- a history with these constructions after it
  abbrev pub after_constructions : Batches C D → History D K G C → History D K G C
  after_constructions [] past = past
  after_constructions (batch ∷ earlier) past =
      (ConstructCall, ConstructAnswer batch) ∷ after_constructions earlier past

  abbrev pub is_construction : Call K G C D → Bool
  is_construction ConstructCall = true
  is_construction call = false

  abbrev pub calls_of : History D K G C → List (Call K G C D)
  calls_of past = map (λ event. event.0) past

  -- the proposal that a call fixes by itself, where none is fixed
  abbrev pub evidence_by : Call K G C D → Option (Proposal D)
  evidence_by call =
      option_or (finalized_by call) (option_and_then proposal_certified (recorded_certificate call))

module _ {D K G C : Type 0} (x : Config D K G C) where
  -- THREE CONSTRUCTIONS
  -- three constructions or more that may come after the history
  pub record MayFollow (past : History D K G C) (batches : Batches C D) : Type 0 where
    pub three : 3 ≤ length batches
    pub possible : IsPossible x (after_constructions batches past)

  -- whether it is settled which votes of a kind count: they carry no proposal, or one is selected
  abbrev pub is_settled : History D K G C → Kind → Bool
  is_settled past kind = not (has_proposals kind) || is_some (selected_proposal x past)

  -- Where no bad vote was accepted, three constructions certify just the settled kinds of which the
  -- valid votes are a quorum, beside those that were certified before.
  abbrev pub CertifiesExactly : History D K G C → Type 0
  CertifiesExactly past =
      HasNoBadVote x past → (kind : Kind) → is_settled past kind ≡ true
      → (batches : Batches C D) → MayFollow past batches
      → is_certified (after_constructions batches past) kind
      ≡ (is_certified past kind || has_valid_quorum x past kind)

  -- ANOTHER ORDER
  -- whether two calls fix different proposals
  abbrev pub fix_different : Call K G C D → Call K G C D → Bool
  fix_different a b =
      is_some_and (evidence_by a) (λ p.
      is_some_and (evidence_by b) (λ q. not (same_proposal x.same_digest p q)))

  -- The order of these calls makes no difference: no two votes that are cast exclude each other,
  -- equal ones neither, no two calls fix different proposals, and nothing is constructed.
  pub record IsOrderless (past : History D K G C) : Type 0 where
    pub votes_apart : (v : Vote G D) → count (excludes v) (votes_cast x past) ≤ 1
    pub one_fixed :
        list_any (λ call. list_any (fix_different call) (calls_of past)) (calls_of past) ≡ false
    pub none_constructed : list_any is_construction (calls_of past) ≡ false

  -- After three constructions each, both have certified the kind or neither has.
  abbrev pub CertifyAlike : History D K G C → History D K G C → Kind → Type 0
  CertifyAlike a b kind =
      (after_a after_b : Batches C D) → MayFollow a after_a → MayFollow b after_b
      → is_certified (after_constructions after_a a) kind
      ≡ is_certified (after_constructions after_b b) kind

  -- Two rounds that made the same calls, each in its own order, select the same by the same source,
  -- and where no bad vote was accepted three constructions certify the same settled kinds of both.
  abbrev pub Converges : History D K G C → History D K G C → Type 0
  Converges a b =
      IsPossible x a → IsPossible x b → SameElements (calls_of a) (calls_of b) → IsOrderless a
      → (selection x a ≡ selection x b)
      × (HasNoBadVote x a → (kind : Kind) → is_settled a kind ≡ true → CertifyAlike a b kind)

  -- Where someone takes part, both hold of all histories.
  abbrev pub OrderIsFree : Type 0
  OrderIsFree =
      1 ≤ participants_in x
      → ((past : History D K G C) → CertifiesExactly past)
      × ((a b : History D K G C) → Converges a b)
