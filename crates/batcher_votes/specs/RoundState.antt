-- What a round holds: the votes that it tracks, and those that wait for a certificate.
use Rattle.std.specs.Prelude.{◌≡◌, ℕ, Bool, false, List, Option}
use Rattle.batcher_types.specs.declared.positions.Participant.{Participant}
use Rattle.batcher_types.specs.declared.positions.Round.{Round}
use Rattle.batcher_types.specs.declared.messages.Vote.{Vote}
use Rattle.batcher_types.specs.declared.messages.Kind.{Kind}
use Rattle.batcher_types.specs.declared.messages.Kind.TheVariants.{Notarization, Nullification}
use Rattle.batcher_types.specs.declared.messages.Kind.TheVariants.{Finalization}
use Rattle.batcher_votes.specs.declared.verifier.ProposalState.{ProposalState}
use Rattle.batcher_votes.specs.declared.votes.Mode.{Mode}

-- one of each kind
pub record PerKind (X : Type 0) : Type 0 where
  pub notarize : X
  pub nullify : X
  pub finalize : X

abbrev pub of_kind : {X : Type 0} → PerKind X → Kind → X
of_kind all Notarization = all.notarize
of_kind all Nullification = all.nullify
of_kind all Finalization = all.finalize

abbrev pub for_each : {X : Type 0} → X → PerKind X
for_each one = record { notarize = one; nullify = one; finalize = one }

-- what is known of a signer whose vote was seen and isn't kept: whether one was compared with the
-- selected proposal, and one was for it
pub record Facts : Type 0 where
  pub signer : ℕ
  pub has_compared : Bool
  pub has_matched : Bool

-- What a tracker holds, in the order of the signers: of a kind that is compacted facts, of another
-- the first votes in full.
pub record TrackerState (G D : Type 0) : Type 0 where
  pub compacted : PerKind Bool
  pub kept : PerKind (List (Vote G D))
  pub facts : PerKind (List Facts)

-- What a verifier holds: the leader and the selected proposal, which kinds are certified, and two
-- buffers of votes a kind.
pub record VerifierState (G D : Type 0) : Type 0 where
  pub leader : Option Participant
  pub selection : ProposalState D
  pub certified : PerKind Bool
  pub pending : PerKind (List (Vote G D))
  pub verified : PerKind (List (Vote G D))

-- a tracker of the signers below a bound: those of whom it has an entry, ascending, and room for so
-- many more, and for so many more votes of each kind
pub record TrackerView (G D : Type 0) : Type 0 where
  pub participants : ℕ
  pub mode : Mode
  pub holds : TrackerState G D
  pub signers : List ℕ
  pub room : ℕ
  pub vote_room : PerKind ℕ

-- a verifier of a round, with room for so many votes a buffer
pub record VerifierView (S G D : Type 0) : Type 0 where
  pub scheme : S
  pub number : Round
  pub quorum : ℕ
  pub holds : VerifierState G D
  pub pending_room : PerKind ℕ
  pub verified_room : PerKind ℕ

-- What a round holds. It has forwarded its proposal at most once.
pub record RoundState (G D : Type 0) : Type 0 where
  pub tracked : TrackerState G D
  pub buffered : VerifierState G D
  pub forwarded : Bool

-- a round, as contracts see it
pub record RoundView (S G D : Type 0) : Type 0 where
  pub scheme : S
  pub number : Round
  pub mode : Mode
  pub holds : RoundState G D

-- A call changes nothing of them but what is held, and the room for more.
abbrev pub SameRound : {S G D : Type 0} → RoundView S G D → RoundView S G D → Type 0
SameRound old new =
    (new.scheme ≡ old.scheme) × (new.number ≡ old.number) × (new.mode ≡ old.mode)

abbrev pub SameVerifier : {S G D : Type 0} → VerifierView S G D → VerifierView S G D → Type 0
SameVerifier old new =
    (new.scheme ≡ old.scheme) × (new.number ≡ old.number) × (new.quorum ≡ old.quorum)

abbrev pub SameTracker : {G D : Type 0} → TrackerView G D → TrackerView G D → Type 0
SameTracker old new = (new.mode ≡ old.mode) × (new.participants ≡ old.participants)

-- a verifier and a tracker, as a round's configuration takes them
abbrev pub round_of : {S G D : Type 0} → VerifierView S G D → TrackerView G D → RoundView S G D
round_of verifier votes =
    record {
      scheme = verifier.scheme;
      number = verifier.number;
      mode = votes.mode;
      holds = record { tracked = votes.holds; buffered = verifier.holds; forwarded = false };
    }
