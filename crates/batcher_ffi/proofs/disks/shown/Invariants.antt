use Rattle.batcher_ffi.proofs.Words.{◌≡◌, length, map}
use Rattle.batcher_ffi.specs.Disks.{claim_of, listed_behind, shown_by}
use Rattle.batcher_ffi.proofs.disks.shown.Given as goal

abbrev pub invariant-loop-rest : goal.invariant-loop-rest
invariant-loop-rest l =
    listed_behind l.participants (map claim_of l.votes.items) l.rest ≡ shown_by l.it

abbrev pub decreases-loop-rest : goal.decreases-loop-rest
decreases-loop-rest l = length l.rest
