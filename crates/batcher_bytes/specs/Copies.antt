-- Bytes of which somebody else keeps a copy.
use Rattle.std.specs.Prelude.{ℕ, List, Option, Some, None, take}

pub record CopyView : Type 0 where
  -- what the copy has
  pub lasting : List ℕ
  -- what it will have once the write is done that is under way, whose number comes first
  pub under_way : Option (ℕ × List ℕ)

pub record CopiedView : Type 0 where
  pub bytes : List ℕ
  pub copy : CopyView

-- The copy has the first bytes, or others.
abbrev pub copy_in : Option (List ℕ) → ℕ → List ℕ → List ℕ
copy_in None copied bytes = take copied bytes
copy_in (Some others) copied bytes = others

-- a write of all that the copy lacks is under way
abbrev pub is_given : ℕ → CopiedView → CopiedView
is_given number log = record log {
  copy = record log.copy { under_way = Some (number, log.bytes) };
}

-- the write that was under way is done, if one was
abbrev pub is_done : CopyView → Option (ℕ × List ℕ) → CopyView
is_done copy None = copy
is_done copy (Some (number, bytes)) = record { lasting = bytes; under_way = None }

abbrev pub is_done_in : CopiedView → CopiedView
is_done_in log = record log { copy = is_done log.copy log.copy.under_way }

-- the same copy is kept
abbrev pub KeepsCopy : {L : Type 0} → (L → CopyView → Type 0) → L → L → Type 0
KeepsCopy is_copied_as old new =
    (copy : CopyView) → is_copied_as old copy → is_copied_as new copy
