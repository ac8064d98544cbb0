use Rattle.batcher_file.proofs.Exact.{number_found, number_missed}
use Rattle.batcher_file.proofs.contents.first_number.Goals as goal

pub returns-in-Ok : goal.returns-in-Ok
returns-in-Ok c =
    λ number gate inside after rest parts framed.
    number_found c.args.file.now rest gate number inside after parts framed _ _ _ c.in-Ok.ensures

pub returns-in-Err : goal.returns-in-Err
returns-in-Err c =
    λ number gate inside after rest parts framed.
    absurd (number_missed c.args.file.now rest gate number inside after parts framed _ c.in-Err.ensures)
