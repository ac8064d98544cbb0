use Rattle.batcher_judge.proofs.Words.{◌≡◌, length, map, take, attests}
use Rattle.batcher_judge.specs.contracts.marked.MarkedTruth.TheImpl.{ghosts}
use Rattle.batcher_judge.proofs.verifying.verify.Given as goal

abbrev pub invariant-loop-attestation : goal.invariant-loop-attestation
invariant-loop-attestation l =
    l.verdicts.items
    ≡ map (attests ghosts l.scheme.keys (length l.scheme.participants) l.subject)
    (take l.attestation-index l.list)
