use Rattle.batcher_ffi.proofs.Words.{arith}
use Rattle.batcher_ffi.proofs.Puts.{round_long}
use Rattle.batcher_ffi.proofs.signing.subject_len.Goals as goal

pub returns-in-Nullify-clause-is : goal.returns-in-Nullify-clause-is
returns-in-Nullify-clause-is c =
    rw c.in-Nullify.is (omega (arith, round_long c.in-Nullify.round))

pub returns-in-Notarize-clause-is : goal.returns-in-Notarize-clause-is
returns-in-Notarize-clause-is c =
    rw c.in-Notarize.is (omega (arith, c.proposal_len.ensures.is))

pub returns-in-Finalize-clause-is : goal.returns-in-Finalize-clause-is
returns-in-Finalize-clause-is c =
    rw c.in-Finalize.is (omega (arith, c.proposal_len-in-Finalize.ensures.is))
