use Rattle.batcher_ffi.proofs.Words.{◌≡◌, ◌++◌, map, take}
use Rattle.batcher_ffi.specs.Disks.{claim_of, claims_on}
use Rattle.batcher_ffi.proofs.disks.push_claims.Given as goal

abbrev pub invariant-loop-attestation : goal.invariant-loop-attestation
invariant-loop-attestation l =
    map claim_of l.votes.items
    ≡ map claim_of l.initial.votes.items ++ claims_on l.subject (take l.attestation-index l.all)
