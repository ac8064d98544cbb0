use Rattle.batcher_rows.proofs.Words.{All, IsOfRound, NUMBER}
use Rattle.batcher_rows.proofs.plan.add_votes.Given as goal

abbrev pub invariant-loop-signer : goal.invariant-loop-signer
invariant-loop-signer g l = All (IsOfRound NUMBER) l.steps.items
