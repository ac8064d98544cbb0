-- Questions that a verifier's calls answer of what it holds.
use Rattle.std.specs.Prelude.{◌≡◌, ◌≢◌, ◌≤◌, ◌&&◌, ℕ, Bool, true, false, not, cond, List, []}
use Rattle.std.specs.Prelude.{length, filter, Option, None, Result, IsOk, IfOk, IfSome}
use Rattle.rand_core.specs.Stream.{Stream}
use Rattle.batcher_types.specs.declared.positions.Round.{Round}
use Rattle.batcher_types.specs.declared.messages.Kind.{Kind}
use Rattle.batcher_types.specs.declared.messages.Subject.{Subject}
use Rattle.batcher_types.specs.declared.messages.Vote.{Vote}
use Rattle.batcher_types.specs.declared.messages.Vote.TheVariants.{Notarize as NotarizeVote}
use Rattle.batcher_types.specs.declared.messages.Vote.TheVariants.{Nullify as NullifyVote}
use Rattle.batcher_types.specs.declared.messages.Vote.TheVariants.{Finalize as FinalizeVote}
use Rattle.batcher_types.specs.declared.messages.Certificate.{Certificate}
use Rattle.batcher_votes.specs.declared.verifier.Batch.{Batch}
use Rattle.batcher_types.specs.Votes.{is_kind, is_of_kind, is_eligible, same_round}
use Rattle.batcher_types.specs.Votes.{subject_certified, content_of}
use Rattle.batcher_types.specs.Meaning.{Meaning}
use Rattle.batcher_votes.specs.ProposalStates.{proposal_of}
use Rattle.batcher_votes.specs.RoundState.{of_kind, VerifierState, VerifierView}
use Rattle.batcher_votes.specs.VerifierSteps.{Buffers, TriesKind, is_ready, subject_tried}

-- whether the vote is no nullify of another round
abbrev pub is_of_round : {G D : Type 0} → Round → Vote G D → Bool
is_of_round number (NotarizeVote vote) = true
is_of_round number (NullifyVote vote) = same_round number vote.round
is_of_round number (FinalizeVote vote) = true

-- whether the certificate certifies what it names
abbrev pub certifies_itself : {D K G C : Type 0} → Meaning D K G C → Certificate C D → Bool
certifies_itself m certificate =
    m.certifies (subject_certified certificate) (content_of certificate)

module _ {G D : Type 0} (same : D → D → Bool) where
  -- what is tried of a kind, where it is ready
  abbrev pub subject_ready : Bool → ℕ → VerifierState G D → Round → Kind → Option (Subject D)
  subject_ready batchable q held number kind =
      cond (is_ready same batchable q held kind) (subject_tried held number kind) None

-- what holds of the batch that a construction gives, if it gives one
abbrev pub IfGiven : {B E : Type 0} → Result (Option B) E → (B → Type 0) → Type 0
IfGiven result holds = IfOk result (λ given. IfSome given holds)

-- The certificate of a batch certifies what it names.
abbrev pub BatchCertifies : {D K G C : Type 0} → Meaning D K G C → Batch (Certificate C D) → Type 0
BatchCertifies m batch = IfSome batch.certificate (λ c. certifies_itself m c ≡ true)

-- A batch that had to verify votes one by one names somebody.
abbrev pub NamesSomebody : {C D : Type 0} → Batch (Certificate C D) → Type 0
NamesSomebody batch = batch.fallback ≡ true → batch.invalid ≢ []

module _ {S G D : Type 0} where
  -- the room for more votes in one of the buffers of a kind
  abbrev pub room_for : VerifierView S G D → Kind → Bool → ℕ
  room_for v kind verified =
      cond verified (of_kind v.verified_room kind) (of_kind v.pending_room kind)

  -- There is room for those of the votes that wait, where the kind isn't certified.
  abbrev pub HasRoomToRestore : (D → D → Bool) → VerifierView S G D → Kind → List (Vote G D)
      → Type 0
  HasRoomToRestore same v kind votes =
      of_kind v.holds.certified kind ≡ false
      → length (filter (is_eligible same (proposal_of v.holds.selection)) votes)
      ≤ of_kind v.pending_room kind

-- the room that a vote takes in one of the buffers of a kind: one place at most, in its own
abbrev pub taken_by : {G D : Type 0} → Vote G D → Bool → Kind → Bool → ℕ
taken_by vote verified kind true = cond (is_of_kind kind vote && verified) 1 0
taken_by vote verified kind false = cond (is_of_kind kind vote && not verified) 1 0

-- votes of a kind join the pending ones, where they wait, and those of other kinds stay
abbrev pub RestoresAll : {G D : Type 0} → (D → D → Bool) → VerifierState G D → Kind
    → List (Vote G D)
    → VerifierState G D → Type 0
RestoresAll same old kind votes new =
    (other : Kind) → Buffers same old new other (cond (is_kind kind other) votes []) []

module _ {S D K G C : Type 0} (meaning : S → Meaning D K G C) where
  -- whether a kind of a verifier is ready
  abbrev pub is_ready_kind : (D → D → Bool) → VerifierView S G D → Kind → Bool
  is_ready_kind same v kind = is_ready same (meaning v.scheme).batchable v.quorum v.holds kind

  -- An attempt at a kind's certificate, with the votes that are buffered.
  abbrev pub Tries : VerifierView S G D → Kind → Stream → Batch (Certificate C D) → Stream
      → VerifierView S G D → Type 0
  Tries old kind before batch after new =
      TriesKind (meaning old.scheme) old.number old.quorum old.holds kind before batch after
      new.holds

-- A call succeeds, changes nothing and draws nothing.
abbrev pub IsLeftAlone : {V A E : Type 0} → Result A E → V → V → Stream → Stream → Type 0
IsLeftAlone result old new before after = (IsOk result) × (new ≡ old) × (after ≡ before)
