-- What proofs of this crate use of definitions, and of lemmas from below it.
pub use Rattle.std.proofs.Common.{◌∙◌, ap, arith, inl, inr, refl, subst, sym, append_assoc, Fits, eqb, eq-eqb, get_or, w8, rules}
pub use Rattle.std.proofs.hash.Loops.{byte_more}
pub use Rattle.std.proofs.lemmas.Bool.{cases_lt, eqb-true, cases_eq}
pub use Rattle.std.proofs.lemmas.List.{length-append, append_cancel_left, drop_at, get_or_append_left, get_or_past, take_at, drop_more, take_rest}
pub use Rattle.std.proofs.lemmas.List.{take-append-drop, append-nil, length_push, drop_all, take_all, drop-drop, get_or-drop, get_or-take, get_or_at}
pub use Rattle.std.proofs.lemmas.List.{get_or_default, length-drop, length-take, same_lists}
pub use Rattle.std.proofs.lemmas.List.Sums.{fold-append}
pub use Rattle.std.proofs.lemmas.Nat.{mod_below, mul-mod_first, xor_comm, xor_lt}
pub use Rattle.std.proofs.lemmas.Nat.Bits.{bit_at_xor, same_from_bits}
pub use Rattle.std.proofs.lemmas.Option.{get_or_from_slice_get, slice_get_within}
pub use Rattle.std.proofs.lemmas.Result.{on_ok_weaker, on_err_weaker}
pub use Rattle.std.specs.Int.{w64, bit_at}
pub use Rattle.std.specs.Int.Bits.{xor_self}
pub use Rattle.std.specs.List.{concat, fold}
pub use Rattle.std.specs.Prelude.{◌≡◌, ◌≢◌, ℕ, List, ◌∷◌, length, bit_xor, count_ones, Bool, true, false, Result, Err, min, ◌⊎◌, ◌^◌, ◌<◌, ◌++◌, [], drop, take}
pub use Rattle.std.specs.Prelude.{◌+◌, Some, Ok, slice_get, IsTrue, OnErr, ◌-◌, ◌≤◌, cond, ◌*◌, ◌%◌, ◌/◌, suc}
pub use Rattle.batcher_bytes.specs.Exact.{AreBytes-rest, exact_is_prefix_free, u64_is_exact, bind_ok, fixed_is_exact, ok_is, pair_is_exact}
pub use Rattle.batcher_bytes.specs.Format.{AreBytes, u64_format, Format, IsExact, fixed, number_bytes, pair}
pub use Rattle.batcher_bytes.specs.declared.fault.DecodeFault.{DecodeFault}
pub use Rattle.batcher_bytes.specs.declared.fault.DecodeFault.TheVariants.{Malformed}
pub use Rattle.batcher_file.specs.Carrying.{IsBegun, IsCarriedOut, put_first}
pub use Rattle.batcher_file.specs.Checksums.{checksum, sealed, sealed_format, summed}
pub use Rattle.batcher_file.specs.Disks.{IsBlank, Finishes, IsSyncedAs, IsShutting, MayBe, MayHave, MayRetire, MayStart}
pub use Rattle.batcher_file.specs.Frames.{HasFrames, AreContents, IsUnread, AreTwoFrames, IsFrame, frame, frame_format, frames, AreFrames, header, IsReadTo}
pub use Rattle.batcher_file.specs.Near.{IsChanged, IsNear}
pub use Rattle.batcher_file.specs.Opened.{IsClosed, IsOpenGate}
pub use Rattle.batcher_file.specs.Pairs.{AreCurrent, Hold, HoldNone, IsOther, IsTidied, AreAtRest, IsTornIntoTwo, IsOlder, CanBeOpened, HoldOne, IsFound}
pub use Rattle.batcher_file.specs.Plans.{IsAddition, IsFramed, IsReplacement, SameBytes, Tidies, MakesFiles, IsOpened}
pub use Rattle.batcher_file.specs.Refusals.{IsWholeBefore, FaultShows, IsUnopened}
pub use Rattle.batcher_file.specs.Rot.{IsOneBit, NoBitIsMissed}
pub use Rattle.batcher_file.specs.Settled.{AreHonestDisks, IsSettled, MayLeave, MayLose, rest_opens, rest_settled, IsSynced}
pub use Rattle.batcher_file.specs.Steps.{AreBegun, AreDone, IsDone, IsFailed, IsOneOn, IsTried, add, on, renew, retire, steps, start_over}
pub use Rattle.batcher_file.specs.declared.contents.Contents.{Contents}
pub use Rattle.batcher_file.specs.declared.contents.Unreadable.{Unreadable}
pub use Rattle.batcher_file.specs.declared.files.TwoFiles.{TwoFiles}
pub use Rattle.batcher_file.specs.declared.log.FileLog.{FileLog}
pub use Rattle.batcher_file.specs.declared.opening.OpenFault.{OpenFault}
pub use Rattle.batcher_file.specs.declared.opening.OpenFault.TheVariants.{Apart, Damaged, Empty, Failed, OutOfMemory, Taken, TooLong}
pub use Rattle.batcher_file.specs.declared.steps.Plan.{Plan}
pub use Rattle.batcher_file.specs.declared.steps.Step.{Step}
pub use Rattle.batcher_file.specs.declared.steps.Step.TheVariants.{Byte, Frame, SetLen}
pub use Rattle.sqlite_disk.specs.Disk.{CountsFault, Cut, Mixed, Only, Torn, Holds}
