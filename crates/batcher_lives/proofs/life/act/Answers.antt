use Rattle.batcher_lives.proofs.life.act.Goals as goal

pub returns-in-Raise : goal.returns-in-Raise
returns-in-Raise g c = λ floor was. c.raise.ensures floor c.args.handed.now.items was

pub returns-in-BeginEpoch : goal.returns-in-BeginEpoch
returns-in-BeginEpoch g c =
    λ floor was. c.raise-in-BeginEpoch.ensures floor c.args.handed.now.items was
