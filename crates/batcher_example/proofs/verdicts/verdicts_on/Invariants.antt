use Rattle.batcher_example.proofs.Words.{◌≡◌, map, take}
use Rattle.batcher_example.proofs.verdicts.verdicts_on.Given as goal

abbrev pub invariant-loop-attestation : goal.invariant-loop-attestation
invariant-loop-attestation g l =
    l.verdicts.items ≡ map ((g.S.Scheme.meaning l.scheme).attests l.subject) (take l.attestation-index l.list)
