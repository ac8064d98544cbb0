-- Bytes that begin with others.
use Rattle.std.specs.Prelude.{◌≡◌, ◌≤◌, ◌++◌, ℕ, List, length, take}
use Rattle.std.proofs.Common.{◌∙◌, ap, refl, sym, arith}
use Rattle.std.proofs.lemmas.List.{length-append, take-take, take_all, take_at}
use Rattle.batcher_bytes.specs.Format.{StartsWith}

pub starts_same : (old new : List ℕ) → new ≡ old → StartsWith old new
starts_same old new e = ap (take (length old)) e ∙ take_all (length old) old (omega arith)

pub starts_after : (old x mid new : List ℕ) → mid ≡ old ++ x → StartsWith mid new
    → StartsWith old new
starts_after old x mid new e s =
    let longer : length old ≤ length mid = omega (arith, ap length e, length-append old x) in
    sym (take-take (length old) (length mid) new longer) ∙ ap (take (length old)) s
    ∙ ap (take (length old)) e ∙ take_at old x (length old) refl

pub ruleset starts = (starts_same, starts_after)
