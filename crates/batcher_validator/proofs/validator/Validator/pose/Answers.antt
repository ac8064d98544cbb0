use Rattle.batcher_validator.proofs.Words.{rules, refl}
use Rattle.batcher_validator.proofs.Choosing.{signs}
use Rattle.batcher_validator.proofs.validator.Validator.pose.Goals as goal

pub returns-in-Some-clause-gives : goal.returns-in-Some-clause-gives
returns-in-Some-clause-gives g c =
    record {
      gives =
          λ past earlier is.
          let it = c.in-Some.ensures.some past earlier is in
          signs _ c.args.self.now c.note_signing.new.self _ c.note_signing.ensures.given
          c.note_signing.ensures.voter c.note_signing.ensures.shelf past earlier is c.in-Some.subject refl
          (it.0, (it.1, c.in-Some.ensures.alone past earlier is));
      ready = search rules;
    }
