use Rattle.batcher_validator.proofs.Ending.{comes_to_an_end}
use Rattle.batcher_validator.proofs.polling.poll_comes_to_an_end.Goals as goal

pub returns : goal.returns
returns g c = λ x validator task it. comes_to_an_end x validator task it
