-- What the certificate of a construction fixes, of what is held and of what the history names.
use Rattle.batcher_histories.proofs.Words.{◌≡◌, true, ◌⊎◌, List, [], ◌∷◌, ◌++◌, Option, Some, None, refl, ap, sym, ◌∙◌, Proposal, Vote, Certificate, Kind}
use Rattle.batcher_histories.proofs.Words.{either_same, Batch, ConstructCall, ConstructAnswer, Config, proposal_of, fixes, of_kind, VerifierState, is_skipped}
use Rattle.batcher_histories.proofs.Words.{still_eligible, Fixes, Event, History, selection, selected_proposal, fixing_evidence, is_certified, eligible_among}
use Rattle.batcher_histories.proofs.Simulation.Frame.{leader_same, fixed_eligible, leaders_same}
use Rattle.batcher_histories.proofs.Simulation.Evidence.{selected_then}
use Rattle.batcher_histories.proofs.History.Selection.{selection_fixes}

module _ {D K G C : Type 0} (x : Config D K G C) (past : History D K G C)
    (answer : Option (Batch (Certificate C D))) where
  -- the event of a construction
  abbrev pub constructed : Event D K G C
  constructed = (ConstructCall, ConstructAnswer answer)

  -- the selection after it, by its evidence alone
  pub selection_then : (e : Option (Proposal D)) → fixing_evidence constructed ≡ e
      → selection x (constructed ∷ past) ≡ fixes (selection x past) e
  selection_then e is = selection_fixes x past constructed e (leaders_same x past constructed refl (leader_same x past constructed refl)) is

  -- with a proposal that takes the place of no other, that is selected
  pub evidence_selects : (e : Option (Proposal D)) (p : Proposal D) → fixing_evidence constructed
      ≡ e → e ≡ Some p → (selected_proposal x past ≡ None) ⊎ (selected_proposal x past ≡ Some p)
      → selected_proposal x (constructed ∷ past) ≡ Some p
  evidence_selects e p is some selected =
      ap proposal_of (selection_then e is) ∙ (ap (λ o. proposal_of (fixes (selection x past) o)) some ∙ selected_then (selection x past) p selected)

module _ {D K G C : Type 0} (x : Config D K G C) (left new : VerifierState G D) where
  pub fixes_leader : (e : Option (Proposal D)) → Fixes x left e new → new.leader ≡ left.leader
  fixes_leader None h = ap (λ b. b.leader) h
  fixes_leader (Some p) s = s.leader

  pub fixes_selection : (e : Option (Proposal D)) → Fixes x left e new → new.selection
      ≡ fixes left.selection e
  fixes_selection None h = ap (λ b. b.selection) h
  fixes_selection (Some p) s = s.selection_is

  pub fixes_certified : (e : Option (Proposal D)) (kind : Kind) → Fixes x left e new
      → of_kind new.certified kind ≡ of_kind left.certified kind
  fixes_certified None kind h = ap (λ b. of_kind b.certified kind) h
  fixes_certified (Some p) kind s = (s.buffers kind).certified

  none_still : (kind : Kind) (votes : List (Vote G D)) → votes ≡ []
      → still_eligible x.same_digest new kind (votes ++ []) ≡ []
  none_still kind votes none = ap (λ vs. still_eligible x.same_digest new kind (vs ++ [])) none ∙ either_same (of_kind new.certified kind) []

  -- buffers that were emptied stay empty
  pub fixes_no_pending : (e : Option (Proposal D)) (kind : Kind) → Fixes x left e new
      → of_kind left.pending kind ≡ [] → of_kind new.pending kind ≡ []
  fixes_no_pending None kind h none = ap (λ b. of_kind b.pending kind) h ∙ none
  fixes_no_pending (Some p) kind s none = (s.buffers kind).pending ∙ none_still kind (of_kind left.pending kind) none

  pub fixes_no_verified : (e : Option (Proposal D)) (kind : Kind) → Fixes x left e new
      → of_kind left.verified kind ≡ [] → of_kind new.verified kind ≡ []
  fixes_no_verified None kind h none = ap (λ b. of_kind b.verified kind) h ∙ none
  fixes_no_verified (Some p) kind s none = (s.buffers kind).verified ∙ none_still kind (of_kind left.verified kind) none

  -- and of others what still waits is left
  module _ (past : History D K G C) (kind : Kind)
      (certified : of_kind new.certified kind ≡ is_certified past kind)
      (selected : proposal_of new.selection ≡ selected_proposal x past) where
    pub fixes_pending : (e : Option (Proposal D)) → Fixes x left e new
        → (is_skipped x.mode ≡ true → of_kind left.pending kind ≡ [])
        → (e ≡ None → eligible_among x past kind (of_kind left.pending kind)
        ≡ of_kind left.pending kind) →
        of_kind new.pending kind ≡ eligible_among x past kind (of_kind left.pending kind)
    fixes_pending None h none stays = ap (λ b. of_kind b.pending kind) h ∙ sym (stays refl)
    fixes_pending (Some p) s none stays = (s.buffers kind).pending ∙ fixed_eligible x past new kind (of_kind left.pending kind) certified selected none

    pub fixes_verified : (e : Option (Proposal D)) → Fixes x left e new
        → (is_skipped x.mode ≡ true → of_kind left.verified kind ≡ [])
        → (e ≡ None → eligible_among x past kind (of_kind left.verified kind)
        ≡ of_kind left.verified kind) →
        of_kind new.verified kind ≡ eligible_among x past kind (of_kind left.verified kind)
    fixes_verified None h none stays = ap (λ b. of_kind b.verified kind) h ∙ sym (stays refl)
    fixes_verified (Some p) s none stays = (s.buffers kind).verified ∙ fixed_eligible x past new kind (of_kind left.verified kind) certified selected none
