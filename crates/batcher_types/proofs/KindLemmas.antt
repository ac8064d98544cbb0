-- The three kinds of votes, and the test that two are the same.
use Rattle.batcher_types.proofs.Words.{◌≡◌, true, refl, Kind, Notarization, Nullification, Finalization, is_kind}

-- a fact for each kind
pub each_kind : (P : Kind → Type 0) → P Notarization → P Nullification → P Finalization
    → (kind : Kind) → P kind
each_kind P a b c Notarization = a
each_kind P a b c Nullification = b
each_kind P a b c Finalization = c

pub is_kind-true : (a b : Kind) → is_kind a b ≡ true → a ≡ b
is_kind-true Notarization Notarization h = refl
is_kind-true Notarization Nullification h = absurd (cc)
is_kind-true Notarization Finalization h = absurd (cc)
is_kind-true Nullification Notarization h = absurd (cc)
is_kind-true Nullification Nullification h = refl
is_kind-true Nullification Finalization h = absurd (cc)
is_kind-true Finalization Notarization h = absurd (cc)
is_kind-true Finalization Nullification h = absurd (cc)
is_kind-true Finalization Finalization h = refl

pub is_kind-refl : (kind : Kind) → is_kind kind kind ≡ true
is_kind-refl Notarization = refl
is_kind-refl Nullification = refl
is_kind-refl Finalization = refl
