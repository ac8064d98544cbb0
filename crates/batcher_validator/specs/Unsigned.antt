-- What isn't given to be signed, since its signature wasn't good.
use Rattle.std.specs.Prelude.{ℕ, Bool, Option, Some, None, false, max, nat_le}
use Rattle.batcher.specs.messages.Subject.{Subject}
use Rattle.batcher.specs.messages.Subject.TheVariants.{Finalize, Notarize, Nullify}
use Rattle.batcher_validator.specs.declared.unsigned.Unsigned.{Unsigned}

-- no signature was refused
abbrev pub nothing_unsigned : Unsigned
nothing_unsigned = record { notarize = None; nullify = None; finalize = None }

-- the higher of two views
abbrev pub higher_of : Option ℕ → ℕ → Option ℕ
higher_of None view = Some view
higher_of (Some before) view = Some (max before view)

-- whether a view is this one or an earlier one
abbrev pub is_up_to : Option ℕ → ℕ → Bool
is_up_to None view = false
is_up_to (Some before) view = nat_le view before

module _ {D : Type 0} where
  -- the signature of a subject is refused too
  abbrev pub with_refused : Unsigned → Subject D → Unsigned
  with_refused unsigned (Notarize p) =
      record unsigned { notarize = higher_of unsigned.notarize p.round.view.0 }
  with_refused unsigned (Nullify r) =
      record unsigned { nullify = higher_of unsigned.nullify r.view.0 }
  with_refused unsigned (Finalize p) =
      record unsigned { finalize = higher_of unsigned.finalize p.round.view.0 }

  -- whether one of its kind was refused, of its view or a later one
  abbrev pub is_unsigned : Unsigned → Subject D → Bool
  is_unsigned unsigned (Notarize p) = is_up_to unsigned.notarize p.round.view.0
  is_unsigned unsigned (Nullify r) = is_up_to unsigned.nullify r.view.0
  is_unsigned unsigned (Finalize p) = is_up_to unsigned.finalize p.round.view.0
