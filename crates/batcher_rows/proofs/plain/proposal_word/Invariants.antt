use Rattle.batcher_rows.proofs.Words.{◌≡◌, fold, take, mixed}
use Rattle.batcher_rows.proofs.plain.proposal_word.Given as goal

abbrev pub invariant-loop-byte : goal.invariant-loop-byte
invariant-loop-byte l = l.word ≡ fold mixed l.initial.word (take l.byte-index l.fn.proposal.payload.0)
