use Rattle.batcher_ffi.proofs.Words.{◌≡◌, take}
use Rattle.batcher_ffi.specs.Forwarding.{others_than}
use Rattle.batcher_ffi.proofs.forwarding.others_than.Given as goal

abbrev pub invariant-loop-participant : goal.invariant-loop-participant
invariant-loop-participant l =
    l.others.items ≡ others_than l.listed (take l.participant-index l.all)
