-- What a verifier keeps true of the votes that wait.
use Rattle.std.specs.Prelude.{is_some, ◌==◌, ◌≡◌, ◌≤◌, ℕ, Bool, true, false, cond, ◌&&◌, List, []}
use Rattle.std.specs.Prelude.{◌++◌, length, filter, Option, Some, None}
use Rattle.std.specs.List.{AllPass}
use Rattle.batcher_types.specs.declared.positions.Round.{Round}
use Rattle.batcher_types.specs.declared.messages.Proposal.{Proposal}
use Rattle.batcher_types.specs.declared.messages.Subject.{Subject}
use Rattle.batcher_types.specs.declared.messages.Vote.{Vote}
use Rattle.batcher_types.specs.declared.messages.Kind.{Kind}
use Rattle.batcher_types.specs.Quorum.{quorum_of}
use Rattle.batcher_types.specs.Lists.{EachOnce, count}
use Rattle.batcher_types.specs.Meaning.{Meaning}
use Rattle.batcher_votes.specs.declared.verifier.ProposalState.{ProposalState}
use Rattle.batcher_types.specs.Votes.{is_kind, is_of_kind, has_proposals, signer_of, subject_of}
use Rattle.batcher_types.specs.Votes.{attestation_of, same_subject, is_eligible}
use Rattle.batcher_votes.specs.ProposalStates.{proposal_of, replaces}
use Rattle.batcher_votes.specs.RoundState.{PerKind, of_kind, VerifierState, VerifierView}
use Rattle.batcher_votes.specs.RoundState.{TrackerState}
use Rattle.batcher_votes.specs.VerifierSteps.{subject_from}
use Rattle.batcher_votes.specs.TrackerSteps.{kept_vote}

module _ {D : Type 0} (same : D → D → Bool) where
  -- whether a subject is the one that is asked for, where one is
  abbrev pub is_about : Option (Subject D) → Subject D → Bool
  is_about None subject = true
  is_about (Some wanted) subject = same_subject same wanted subject

module _ {G D : Type 0} (same : D → D → Bool) (number : Round) where
  -- Whether the vote may be there in the buffers of a kind: it is of the kind, and about its
  -- subject where that is known.
  abbrev pub may_be_buffered : Option (Proposal D) → Kind → Vote G D → Bool
  may_be_buffered proposal kind vote =
      is_of_kind kind vote && is_about same (subject_from kind number proposal) (subject_of vote)

module _ {D K G C : Type 0} (m : Meaning D K G C) (same : D → D → Bool) (number : Round) where
  abbrev pub attests_itself : Vote G D → Bool
  attests_itself vote = m.attests (subject_of vote) (attestation_of vote)

  -- The buffers of one kind.
  pub record IsSoundKind (held : VerifierState G D) (kind : Kind) : Type 0 where
    pub pending : AllPass (may_be_buffered same number (proposal_of held.selection) kind)
        (of_kind held.pending kind)
    pub verified : AllPass (may_be_buffered same number (proposal_of held.selection) kind)
        (of_kind held.verified kind)
    pub attested : AllPass attests_itself (of_kind held.verified kind)
    pub once : EachOnce signer_of (of_kind held.verified kind ++ of_kind held.pending kind)
    pub none_pending : of_kind held.certified kind ≡ true → of_kind held.pending kind ≡ []
    pub none_verified : of_kind held.certified kind ≡ true → of_kind held.verified kind ≡ []

  -- With some participants and a quorum that is high enough, the buffers of each kind.
  pub record IsSound (q : ℕ) (held : VerifierState G D) : Type 0 where
    pub some : 1 ≤ length m.participants
    pub enough : quorum_of (length m.participants) ≤ q
    pub kinds : (kind : Kind) → IsSoundKind held kind

-- Where the kind isn't certified, there is room for those of the votes that wait with the proposal.
abbrev pub HasRoomFor : {G D : Type 0} → (D → D → Bool) → PerKind Bool → PerKind (List (Vote G D))
    → Proposal D → PerKind ℕ → Kind → Type 0
HasRoomFor same certified kept p room kind =
    of_kind certified kind ≡ false → length (filter (is_eligible same (Some p)) (of_kind kept kind))
    ≤ of_kind room kind

-- the room stays, but that of the pending votes of a kind
pub record RestoresRoom (restored : Kind)
    (old_pending old_verified new_pending new_verified : PerKind ℕ) : Type 0 where
  pub pending : (kind : Kind) → is_kind restored kind ≡ false → of_kind old_pending kind
      ≤ of_kind new_pending kind
  pub verified : (kind : Kind) → of_kind old_verified kind ≤ of_kind new_verified kind

-- the room stays, but that of the votes of a kind
pub record KeepsOtherRoom (freed : Kind)
    (old_pending old_verified new_pending new_verified : PerKind ℕ) : Type 0 where
  pub pending : (kind : Kind) → is_kind freed kind ≡ false → of_kind old_pending kind
      ≤ of_kind new_pending kind
  pub verified : (kind : Kind) → is_kind freed kind ≡ false → of_kind old_verified kind
      ≤ of_kind new_verified kind

-- whether there is at least the room that there was, in each buffer
pub record KeepsRoom (old_pending old_verified new_pending new_verified : PerKind ℕ) : Type 0 where
  pub pending : (kind : Kind) → of_kind old_pending kind ≤ of_kind new_pending kind
  pub verified : (kind : Kind) → of_kind old_verified kind ≤ of_kind new_verified kind

-- the same of two verifiers
abbrev pub KeepsAllRoom : {S G D : Type 0} → VerifierView S G D → VerifierView S G D → Type 0
KeepsAllRoom old new =
    KeepsRoom old.pending_room old.verified_room new.pending_room new.verified_room

-- It holds of each proposal that is fixed and takes another's place, and each kind with proposals.
abbrev pub WhereItReplaces : {D : Type 0} → (D → D → Bool) → ProposalState D
    → Option (Proposal D) → (Proposal D → Kind → Type 0) → Type 0
WhereItReplaces {D} same selection proposal holds =
    (fixed : Proposal D) → proposal ≡ Some fixed → replaces same selection fixed ≡ true
    → (kind : Kind) → has_proposals kind ≡ true → holds fixed kind

-- A vote waits once at most, and only where it is kept.
abbrev pub BuffersOnlyKept : {G D : Type 0} → TrackerState G D → VerifierState G D → Type 0
BuffersOnlyKept tracked held =
    (kind : Kind) (i : ℕ)
    → count (λ v. signer_of v == i) (of_kind held.verified kind ++ of_kind held.pending kind)
    ≤ cond (is_some (kept_vote tracked kind i)) 1 0
