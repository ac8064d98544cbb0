use Rattle.batcher_file.proofs.Words.{Err, ap}
use Rattle.batcher_file.proofs.opening.side.Goals as goal

pub returns-in-Err-Damaged-clause-refused : goal.returns-in-Err-Damaged-clause-refused
returns-in-Err-Damaged-clause-refused c =
    c.in-Err-Damaged.ensures.damaged c.in-Err-Damaged.at (ap (λ fault. Err fault) c.in-Err-Damaged.field-0-is)
