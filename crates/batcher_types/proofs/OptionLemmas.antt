-- Whether an option is given, and what it is then.
use Rattle.batcher_types.proofs.Words.{◌≡◌, Bool, true, false, cond, Option, Some, None, is_some, refl, option_map}

pub is_some-false : {X : Type 0} (o : Option X) → is_some o ≡ false → o ≡ None
is_some-false None h = refl
is_some-false (Some x) h = absurd (cc)

pub is_some-option_map : {X Y : Type 0} (f : X → Y) (o : Option X) → is_some (option_map f o)
    ≡ is_some o
is_some-option_map f None = refl
is_some-option_map f (Some x) = refl

-- what is given on a condition
pub given : {X : Type 0} (b : Bool) (o : Option X) (x : X) → cond b o None ≡ Some x → (b ≡ true)
    × (o ≡ Some x)
given true o x h = (refl, h)
given false o x h = absurd (cc)
