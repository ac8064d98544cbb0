use Rattle.batcher.proofs.Words.{worked, computed, just, honest_computed, replay_computed}
use Rattle.batcher.proofs.run.theorems.worked_examples.Goals as goal

pub returns : goal.returns
returns g = record { answers = worked; certificates = computed; blocks = just; honest = honest_computed; replays = replay_computed }
