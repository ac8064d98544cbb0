use Rattle.batcher_validator.proofs.Giving.{begins_again}
use Rattle.batcher_validator.proofs.validator.Validator.send_again.Goals as goal

pub returns-clause-meets : goal.returns-clause-meets
returns-clause-meets g c =
    begins_again _ c.args.self.now c.note_again.new.self c.note_again.ensures.voter
    c.place_again-resent.result c.place_again-resent.ensures c.note_again.ensures.given c.note_again.ensures.shelf
