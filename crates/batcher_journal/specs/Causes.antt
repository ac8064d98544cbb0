-- Why a journal isn't opened.
use Rattle.std.specs.Prelude.{◌≡◌, ◌≢◌, ◌⊎◌, ℕ, Bool, List, [], Ok, Err}
use Rattle.batcher_bytes.specs.Format.{Format}
use Rattle.batcher_bytes.specs.declared.fault.DecodeFault.{DecodeFault}
use Rattle.batcher_bytes.specs.declared.fault.DecodeFault.TheVariants.{Version}
use Rattle.batcher_types.specs.declared.messages.Vote.{Vote}
use Rattle.batcher_types.specs.declared.positions.Round.{Round}
use Rattle.batcher_journal.specs.Answers.{MayBeWrittenBehind}
use Rattle.batcher_journal.specs.Text.{Contents, IsText, OwnerFields, owner_format}
use Rattle.batcher_journal.specs.declared.journal.OpenFault.{OpenFault}
use Rattle.batcher_journal.specs.declared.journal.OpenFault.TheVariants.{Contradiction, Malformed}
use Rattle.batcher_journal.specs.declared.journal.OpenFault.TheVariants.{NotBegun, OtherKeys}
use Rattle.batcher_journal.specs.declared.journal.OpenFault.TheVariants.{OtherLengths}
use Rattle.batcher_journal.specs.declared.journal.OpenFault.TheVariants.{OtherNamespace}
use Rattle.batcher_journal.specs.declared.journal.OpenFault.TheVariants.{OtherParticipant}
use Rattle.batcher_journal.specs.declared.journal.OpenFault.TheVariants.{OtherVersion, OutOfMemory}

-- what differs between two owners, by the fault
abbrev pub Differ : OwnerFields → OwnerFields → OpenFault → Type 0
Differ x y OtherLengths = (x.0 ≢ y.0) ⊎ (x.1.0 ≢ y.1.0)
Differ x y OtherParticipant = x.1.1.0 ≢ y.1.1.0
Differ x y OtherKeys = x.1.1.1.0 ≢ y.1.1.1.0
Differ x y OtherNamespace = x.1.1.1.1 ≢ y.1.1.1.1
Differ x y fault = ⊥

-- why bytes don't say whose journal they are
abbrev pub SaysNoOwner : DecodeFault → OpenFault → Type 0
SaysNoOwner read fault =
    ((read ≡ Version) × (fault ≡ OtherVersion)) ⊎ ((read ≢ Version) × (fault ≡ Malformed))

-- why votes aren't those of a journal with this floor
abbrev pub Unfollowed : {G D : Type 0} → (D → D → Bool) → Round → List (Vote G D) → OpenFault
    → Type 0
Unfollowed same floor votes OutOfMemory = Unit {0}
Unfollowed same floor votes Contradiction = MayBeWrittenBehind same floor [] votes → ⊥
Unfollowed same floor votes fault = ⊥

-- the bytes are of another owner
pub record IsAnothers (written : List ℕ) (owner : OwnerFields) (fault : OpenFault) : Type 0 where
  pub other : OwnerFields
  pub rest : List ℕ
  pub read : owner_format.decoding written ≡ Ok (other, rest)
  pub differ : Differ other owner fault

-- Bytes are there, of this version, and if they say whose they are, they are this owner's.
pub record MayBeOf (written : List ℕ) (owner : OwnerFields) : Type 0 where
  pub some : written ≢ []
  pub of_version : owner_format.decoding written ≢ Err Version
  pub of_owner : (other : OwnerFields) (rest : List ℕ)
      → owner_format.decoding written ≡ Ok (other, rest) → other ≡ owner

module _ {G D : Type 0} (format : Format (Vote G D)) (written : List ℕ) (owner : OwnerFields) where
  -- They are a journal's, in which a vote contradicts one before it, or is of a round that is over.
  pub record Contradicts (same : D → D → Bool) : Type 0 where
    pub contents : Contents G D
    pub owner_is : contents.owner ≡ owner
    pub text : IsText format written contents
    pub unfollowed : MayBeWrittenBehind same contents.floor [] contents.votes → ⊥

  -- They are no journal's.
  pub record AreNoText : Type 0 where
    pub may_be : MayBeOf written owner
    pub none : (contents : Contents G D) → IsText format written contents → ⊥

  abbrev pub Cause : (D → D → Bool) → OpenFault → Type 0
  Cause same OutOfMemory = Unit {0}
  Cause same NotBegun = written ≡ []
  Cause same OtherVersion = owner_format.decoding written ≡ Err Version
  Cause same Malformed = AreNoText
  Cause same Contradiction = Contradicts same
  Cause same fault = IsAnothers written owner fault

-- Bytes are of one journal at most, with one owner and one contents.
abbrev pub IsOneText : {G D : Type 0} → Format (Vote G D) → Type 0
IsOneText {G} {D} format = (written : List ℕ) (x y : Contents G D)
    → IsText format written x → IsText format written y → x ≡ y
