-- The texts of the reasons for a block.
use Rattle.std.specs.Prelude.{ℕ, List, codes}
use Rattle.batcher_histories.specs.declared.answers.BlockReason.{BlockReason}
use Rattle.batcher_histories.specs.declared.answers.BlockReason.TheVariants.{UnknownParticipant}
use Rattle.batcher_histories.specs.declared.answers.BlockReason.TheVariants.{NotarizeSignerMismatch}
use Rattle.batcher_histories.specs.declared.answers.BlockReason.TheVariants.{NullifySignerMismatch}
use Rattle.batcher_histories.specs.declared.answers.BlockReason.TheVariants.{FinalizeSignerMismatch}
use Rattle.batcher_histories.specs.declared.answers.BlockReason.TheVariants.{ConflictingNotarize}
use Rattle.batcher_histories.specs.declared.answers.BlockReason.TheVariants.{ConflictingNullify}
use Rattle.batcher_histories.specs.declared.answers.BlockReason.TheVariants.{ConflictingFinalize}
use Rattle.batcher_histories.specs.declared.answers.BlockReason.TheVariants.{InvalidSignature}
use Rattle.batcher_histories.specs.declared.answers.BlockReason.TheVariants.{NullifyAfterFinalize}
use Rattle.batcher_histories.specs.declared.answers.BlockReason.TheVariants.{FinalizeAfterNullify}

abbrev pub text_of : BlockReason → List ℕ
text_of UnknownParticipant = codes "unknown participant"
text_of NotarizeSignerMismatch = codes "notarize signer mismatch"
text_of NullifySignerMismatch = codes "nullify signer mismatch"
text_of FinalizeSignerMismatch = codes "finalize signer mismatch"
text_of ConflictingNotarize = codes "conflicting notarize"
text_of ConflictingNullify = codes "conflicting nullify"
text_of ConflictingFinalize = codes "conflicting finalize"
text_of InvalidSignature = codes "invalid signature"
text_of NullifyAfterFinalize = codes "nullify after finalize"
text_of FinalizeAfterNullify = codes "finalize after nullify"
