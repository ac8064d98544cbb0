-- What a call does to a handle, and to what it is of.
use Rattle.std.specs.Prelude.{◌≡◌, ◌≢◌, ℕ, Option, Some, None}
use Rattle.batcher_ffi.specs.declared.codes.TheConstants.{NONE}
use Rattle.batcher_ffi.specs.Files.{CFiles}
use Rattle.batcher_node.specs.Nodes.{SameNode}
use Rattle.batcher_ffi.specs.Judging.{DropsRested, JudgedValidatorView}
use Rattle.batcher_ffi.specs.Validators.{CValidator}
use Rattle.batcher_ffi.specs.Rounds.{CRound}

-- A call on an empty handle leaves it empty, and what it writes to as it was, and the code says so.
-- Else the handle has a value before and after, of which it holds.
abbrev pub OnHandle : {V : Type 0} → Option V → Option V → ℕ → Type 0 → (V → V → Type 0) → Type 0
OnHandle None None code stays holds = (code ≡ NONE) × stays
OnHandle (Some before) (Some after) code stays holds = (code ≢ NONE) × holds before after
OnHandle before after code stays holds = ⊥

-- of a round
abbrev pub OnRound : Option CRound → Option CRound → ℕ → Type 0 → (CRound → CRound → Type 0)
    → Type 0
OnRound = OnHandle

-- of a validator, with what was handed out of it to be verified; its keys and its epoch stay
abbrev pub OnJudged : Option JudgedValidatorView → Option JudgedValidatorView → ℕ → Type 0
    → (JudgedValidatorView → JudgedValidatorView → Type 0) → Type 0
OnJudged old new code stays holds =
    OnHandle old new code stays (λ before after.
    SameNode before.validator.voter.node after.validator.voter.node × holds before after)

-- of a validator alone: what was handed out stays
abbrev pub OnValidator : Option JudgedValidatorView → Option JudgedValidatorView → ℕ → Type 0
    → (CValidator → CValidator → Type 0) → Type 0
OnValidator old new code stays holds =
    OnJudged old new code stays (λ before after.
    (after.requests ≡ before.requests) × holds before.validator after.validator)

-- of a view that it enters: what was handed out of views in which nothing is due is dropped
abbrev pub OnEntering : Option JudgedValidatorView → Option JudgedValidatorView → ℕ
    → (CValidator → CValidator → Type 0) → Type 0
OnEntering old new code holds =
    OnJudged old new code (Unit {0}) (λ before after.
    DropsRested before.requests after.requests after.validator
    × holds before.validator after.validator)

-- of files
abbrev pub OnFiles : Option CFiles → Option CFiles → ℕ → Type 0 → (CFiles → CFiles → Type 0)
    → Type 0
OnFiles = OnHandle
