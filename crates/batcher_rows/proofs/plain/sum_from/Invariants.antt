use Rattle.batcher_rows.proofs.Words.{◌≡◌, take, sum_from}
use Rattle.batcher_rows.proofs.plain.sum_from.Given as goal

abbrev pub invariant-loop-attestation : goal.invariant-loop-attestation
invariant-loop-attestation g l = l.sum ≡ sum_from l.initial.sum (take l.attestation-index l.attestations)
