use Rattle.batcher_validator.proofs.Words.{sym}
use Rattle.batcher_validator.proofs.Looking.{read_at}
use Rattle.batcher_validator.proofs.Queueing.{key_is}
use Rattle.batcher_validator.proofs.shelf.key_at.Goals as goal

pub returns-in-Some-clause-some : goal.returns-in-Some-clause-some
returns-in-Some-clause-some g c =
    record {
      certificate = c.in-Some.certificate.now;
      there = read_at c.args.certificates.now c.args.i c.in-Some.certificate.now
          c.in-Some.ensures.lookup.3.0 c.in-Some.ensures.lookup.1;
      is_of = sym (key_is _ _ _ _ c.kind.ensures c.round.ensures);
    }
