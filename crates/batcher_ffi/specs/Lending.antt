-- What becomes of a handle that lends its value: it has what the borrow left. One that lends
-- nothing is as it was.
use Rattle.std.specs.Prelude.{Option, Some}
use Rattle.std.specs.Borrow.{Fml, LendsIf, MutBor}
use Rattle.batcher_ffi.specs.Files.{CFiles}
use Rattle.batcher_ffi.specs.Judging.{JudgedValidatorView}
use Rattle.batcher_ffi.specs.Rounds.{CRound}
use Rattle.batcher_ffi.specs.Rows.{files_row, validator_row, round_row}
use Rattle.batcher_ffi.specs.contracts.handle.FilesHandle as files_handle
use Rattle.batcher_ffi.specs.contracts.handle.ValidatorHandle as validator_handle
use Rattle.batcher_ffi.specs.contracts.handle.RoundHandle as round_handle
use Rattle.batcher_ffi.specs.declared.handle.FilesHandle.{FilesHandle}
use Rattle.batcher_ffi.specs.declared.handle.ValidatorHandle.{ValidatorHandle}
use Rattle.batcher_ffi.specs.declared.handle.RoundHandle.{RoundHandle}

abbrev pub LendsRound : MutBor RoundHandle → Option (MutBor CRound) → Fml
LendsRound s r =
    LendsIf round_handle.the_row round_row s r (λ w. record s.now { value = Some w }) s.now

abbrev pub LendsValidator : MutBor ValidatorHandle → Option (MutBor JudgedValidatorView) → Fml
LendsValidator s r =
    LendsIf validator_handle.the_row validator_row s r (λ w. record s.now { value = Some w }) s.now

abbrev pub LendsFiles : MutBor FilesHandle → Option (MutBor CFiles) → Fml
LendsFiles s r =
    LendsIf files_handle.the_row files_row s r (λ w. record s.now { value = Some w }) s.now
