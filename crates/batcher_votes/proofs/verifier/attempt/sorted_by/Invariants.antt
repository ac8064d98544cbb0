use Rattle.batcher_votes.proofs.Words.{◌≡◌, Bool, map, Attestation}
use Rattle.batcher_votes.proofs.VerifierLemmas.Verdicts.{AreSorted}
use Rattle.batcher_votes.proofs.verifier.attempt.sorted_by.Given as goal

abbrev pub invariant-loop-index : goal.invariant-loop-index
invariant-loop-index g l =
    (test : Attestation g.row.G.Denot → Bool) → l.verdicts ≡ map test l.pending
    → AreSorted l.pending l.index l.verified.items l.invalid.items test
