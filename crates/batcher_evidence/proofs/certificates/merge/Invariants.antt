use Rattle.batcher_evidence.proofs.Words.{◌≡◌, ◌+◌, ◌++◌, length, IsAscending, index_of_signer, signed_both}
use Rattle.batcher_evidence.proofs.certificates.merge.Given as goal

-- Those found, and those whom what is left of the lists shows, are all.
abbrev pub invariant-loop-a : goal.invariant-loop-a
invariant-loop-a g l = record {
  found : l.found.items ++ signed_both l.left l.right
      ≡ signed_both l.initial.first l.initial.second;
  left : IsAscending index_of_signer l.left;
  right : IsAscending index_of_signer l.right;
}

abbrev pub decreases-loop-a : goal.decreases-loop-a
decreases-loop-a g l = length l.left + length l.right
