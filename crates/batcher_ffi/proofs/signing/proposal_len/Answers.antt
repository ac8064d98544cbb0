use Rattle.batcher_ffi.proofs.Words.{◌∙◌, ap, sym}
use Rattle.std.proofs.Common.{◌+◌}
use Rattle.batcher_ffi.proofs.Puts.{proposal_long}
use Rattle.batcher_ffi.proofs.signing.proposal_len.Goals as goal

pub returns-clause-is : goal.returns-clause-is
returns-clause-is c =
    ap (λ n. 24 + n) c.digest_len.ensures.is ∙ sym (proposal_long c.args.proposal.now)
