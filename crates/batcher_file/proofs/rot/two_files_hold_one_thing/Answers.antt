use Rattle.batcher_file.proofs.Turns.{hold_one}
use Rattle.batcher_file.proofs.rot.two_files_hold_one_thing.Goals as goal

pub returns : goal.returns
returns c = hold_one
