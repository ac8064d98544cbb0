use Rattle.batcher_validator.proofs.Returning.{comes_again}
use Rattle.batcher_validator.proofs.polling.each_comes_again.Goals as goal

pub returns : goal.returns
returns g c = comes_again
