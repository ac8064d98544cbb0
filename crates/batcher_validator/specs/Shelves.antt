-- Certificates that are kept: of each kind and round one.
use Rattle.std.specs.Prelude.{◌≡◌, ◌<◌, ◌≤◌, ◌⊎◌, ◌++◌, ℕ, Bool, List, [], ◌∷◌, Contains, Some}
use Rattle.std.specs.Prelude.{IsPermutation, false, length, nat_le, take}
use Rattle.std.specs.List.{slice_get}
use Rattle.batcher.specs.Votes.{kind_certified, round_in, subject_certified}
use Rattle.batcher.specs.messages.Certificate.{Certificate}
use Rattle.batcher.specs.messages.Kind.{Kind}
use Rattle.batcher.specs.messages.Kind.TheVariants.{Finalization, Notarization, Nullification}
use Rattle.batcher.specs.messages.Proposal.{Proposal}
use Rattle.batcher.specs.messages.Subject.TheVariants.{Finalize}
use Rattle.batcher.specs.positions.Epoch.{Epoch}
use Rattle.batcher.specs.positions.Round.{Round}
use Rattle.batcher_validator.specs.Queues.{AreDistinct, HasKey}

-- The certificates, how many of them were given to be sent, and for how many more there is room.
pub record ShelfView (C D : Type 0) : Type 0 where
  pub certificates : List (Certificate C D)
  pub handed : ℕ
  pub room : ℕ

-- the view up to which those of a kind are, where this is so of each kind
abbrev pub last_of : ℕ → ℕ → ℕ → Kind → ℕ
last_of final notarized nullified Finalization = final
last_of final notarized nullified Notarization = notarized
last_of final notarized nullified Nullification = nullified

module _ {C D : Type 0} where
  -- the kind and the round of a certificate
  abbrev pub kind_and_round : Certificate C D → Kind × Round
  kind_and_round c = (kind_certified c, round_in (subject_certified c))

  -- whether its view is this one or a later one
  abbrev pub is_from : ℕ → Certificate C D → Bool
  is_from first c = nat_le first (round_in (subject_certified c)).view.0

  -- the one at this place is of the kind and the round
  pub record IsAt (kept : List (Certificate C D)) (i : ℕ) (key : Kind × Round) : Type 0 where
    pub certificate : Certificate C D
    pub there : slice_get kept i ≡ Some certificate
    pub is_of : kind_and_round certificate ≡ key

  -- with this one behind them, unless there is one of its kind and round
  abbrev pub ShelvesOne : Certificate C D → List (Certificate C D) → List (Certificate C D) → Type 0
  ShelvesOne c old new =
      (HasKey kind_and_round old (kind_and_round c) × (new ≡ old))
      ⊎ ((HasKey kind_and_round old (kind_and_round c) → ⊥) × (new ≡ old ++ c ∷ []))

  -- Whether it is of the epoch, and of this view or a later one.
  pub record IsLookedAt (epoch : Epoch) (first : ℕ) (c : Certificate C D) : Type 0 where
    pub of_epoch : (round_in (subject_certified c)).epoch ≡ epoch
    pub from_first : first ≤ (round_in (subject_certified c)).view.0

  -- It is taken in where it is looked at.
  abbrev pub Shelves : Epoch → ℕ → Certificate C D → List (Certificate C D)
      → List (Certificate C D) → Type 0
  Shelves epoch first c old new =
      (IsLookedAt epoch first c × ShelvesOne c old new)
      ⊎ ((IsLookedAt epoch first c → ⊥) × (new ≡ old))

  -- Of the first ones, which were given, those that are to be given again come behind the others.
  pub record PutsBehind (is_given_again : Certificate C D → Bool) (old new : ShelfView C D)
      : Type 0 where
    pub moves : IsPermutation old.certificates new.certificates
    pub within : new.handed ≤ length new.certificates
    pub stay_given :
        (c : Certificate C D) → Contains (take old.handed old.certificates) c
        → is_given_again c ≡ false → Contains (take new.handed new.certificates) c
    pub no_others :
        (c : Certificate C D) → Contains (take new.handed new.certificates) c
        → Contains (take old.handed old.certificates) c × (is_given_again c ≡ false)

  -- at this place is a finalization of the proposal, of a view after this one
  pub record IsFinalAt (view : ℕ) (kept : List (Certificate C D)) (i : ℕ) (p : Proposal D) : Type 0
    where
      pub certificate : Certificate C D
      pub there : slice_get kept i ≡ Some certificate
      pub is_of : subject_certified certificate ≡ Finalize p
      pub after : view < p.round.view.0

  -- no finalization of a view after this one is of a lower view than the proposal
  abbrev pub IsLowestFinal : ℕ → List (Certificate C D) → Proposal D → Type 0
  IsLowestFinal view kept p =
      (c : Certificate C D) → Contains kept c → (q : Proposal D)
      → subject_certified c ≡ Finalize q → view < q.round.view.0
      → p.round.view.0 ≤ q.round.view.0

  -- there is one
  pub record IsToAnnounce (view : ℕ) (kept : List (Certificate C D)) : Type 0 where
    pub place : ℕ
    pub proposal : Proposal D
    pub final : IsFinalAt view kept place proposal

  -- no finalization is of a view after this one
  abbrev pub HaveNoFinal : ℕ → List (Certificate C D) → Type 0
  HaveNoFinal view kept =
      (c : Certificate C D) → Contains kept c → (p : Proposal D)
      → subject_certified c ≡ Finalize p → p.round.view.0 ≤ view

  -- They are of each kind and round one, no finalization is of a view after this one, and none of a
  -- kind is after the last of that.
  pub record AreShelved (last_final : ℕ) (last : Kind → ℕ) (kept : List (Certificate C D)) : Type 0
    where
      pub distinct : AreDistinct kind_and_round kept
      pub no_later : HaveNoFinal last_final kept
      pub up_to :
          (c : Certificate C D) → Contains kept c
          → (round_in (subject_certified c)).view.0 ≤ last (kind_certified c)
