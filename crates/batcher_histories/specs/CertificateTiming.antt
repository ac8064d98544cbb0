-- How soon certificates come.
use Rattle.std.specs.Prelude.{◌≡◌, ◌≤◌, ◌-◌, ⊤, ℕ, Bool, true, false, not, ◌&&◌, nat_le, nat_lt, []}
use Rattle.std.specs.Prelude.{◌∷◌, length, filter, Some, None, is_some, IfSome}
use Rattle.std.specs.List.{AllPass}
use Rattle.batcher_types.specs.declared.messages.Kind.{Kind}
use Rattle.batcher_types.specs.declared.messages.Kind.TheVariants.{Notarization, Nullification}
use Rattle.batcher_types.specs.declared.messages.Kind.TheVariants.{Finalization}
use Rattle.batcher_histories.specs.declared.calls.Call.TheVariants.{Construct as ConstructCall}
use Rattle.batcher_histories.specs.declared.answers.Answer.TheVariants.{Construct as ConstructAnswer}
use Rattle.batcher_histories.specs.Config.{Config, quorum_in}
use Rattle.batcher_types.specs.Lists.{count}
use Rattle.batcher_histories.specs.History.{Event, History, batch_given}
use Rattle.batcher_histories.specs.FirstVotes.{first_votes}
use Rattle.batcher_histories.specs.Selection.{selected_proposal, is_certified}
use Rattle.batcher_histories.specs.Eligible.{is_valid, valid_votes, ready_kind}
use Rattle.batcher_histories.specs.AnswerFacts.{usable_votes}
use Rattle.batcher_histories.specs.Promises.{AtEachEvent}
use Rattle.batcher_histories.specs.Backing.{gives_kind}

module _ {D K G C : Type 0} (x : Config D K G C) where
  -- No bad vote was accepted.
  abbrev pub HasNoBadVote : History D K G C → Type 0
  HasNoBadVote past = AllPass (is_valid x) (first_votes x past)

  -- No bad vote was accepted, and votes are verified together.
  abbrev pub IsClean : History D K G C → Type 0
  IsClean past = (x.meaning.batchable ≡ true) × HasNoBadVote past

  -- Then each batch gives a certificate at once, and names nobody.
  abbrev pub GivesAtOnce : History D K G C → Event D K G C → Type 0
  GivesAtOnce past event =
      IsClean past → IfSome (batch_given event.1) (λ batch.
      (is_some batch.certificate ≡ true) × ((batch.invalid ≡ []) × (batch.fallback ≡ false)))

  -- whether the valid votes of a kind are a quorum,
  abbrev pub has_valid_quorum : History D K G C → Kind → Bool
  has_valid_quorum past kind = nat_le (quorum_in x) (length (valid_votes x past kind))

  -- whether they are and the kind isn't certified,
  abbrev pub is_due : History D K G C → Kind → Bool
  is_due past kind = not (is_certified past kind) && has_valid_quorum past kind

  -- and of how many kinds that is so
  abbrev pub kinds_due : History D K G C → ℕ
  kinds_due past = count (is_due past) (Notarization ∷ Nullification ∷ Finalization ∷ [])

  -- Once a proposal is selected, a construction gives a batch exactly if a kind is due, and leaves
  -- one less due. So where k kinds are due, the next k constructions give certificates, and the one
  -- after them gives no batch.
  abbrev pub TakesOne : History D K G C → Event D K G C → Type 0
  TakesOne past (ConstructCall, answer) =
      IsClean past → is_some (selected_proposal x past) ≡ true
      → (is_some (batch_given answer) ≡ nat_lt 0 (kinds_due past))
      × (kinds_due ((ConstructCall, answer) ∷ past) ≡ kinds_due past - 1)
  TakesOne past event = ⊤

  -- Whatever bad votes there are, a construction gives a certificate of the first ready kind where
  -- a quorum of its usable votes attests.
  abbrev pub GivesDespiteBadVotes : History D K G C → Event D K G C → Type 0
  GivesDespiteBadVotes past (ConstructCall, answer) =
      (kind : Kind) → ready_kind x past ≡ Some kind
      → quorum_in x ≤ length (filter (is_valid x) (usable_votes x past kind))
      → gives_kind kind answer ≡ true
  GivesDespiteBadVotes past event = ⊤

  -- A construction that gives no batch leaves no kind due: each of which a quorum is valid is
  -- certified by then, whatever bad votes there are.
  abbrev pub LeavesNoneDue : History D K G C → Event D K G C → Type 0
  LeavesNoneDue past (ConstructCall, ConstructAnswer None) =
      (kind : Kind) → is_due past kind ≡ false
  LeavesNoneDue past event = ⊤

  -- What holds of the constructions of a list of calls on a fresh round.
  pub record GivesPromptly (past : History D K G C) : Type 0 where
    pub gives_at_once : AtEachEvent GivesAtOnce past
    pub takes_one : AtEachEvent TakesOne past
    pub gives_despite_bad_votes : AtEachEvent GivesDespiteBadVotes past
    pub none_left_due : AtEachEvent LeavesNoneDue past
