use Rattle.batcher_validator.proofs.Words.{refl, kind_and_round}
use Rattle.batcher_validator.proofs.Looking.{none_at_all, none_at_end, none_before}
use Rattle.batcher_validator.proofs.shelf.find.Goals as goal

pub loop-i-init : goal.loop-i-init
loop-i-init g c = none_at_end kind_and_round c.args.certificates.now (c.args.kind, c.args.round)

pub loop-i-preserved : goal.loop-i-preserved
loop-i-preserved g c =
    none_before kind_and_round c.args.certificates.now (c.args.kind, c.args.round) c.loop-i.i
    c.loop-i-test.true c.loop-i.invariant (c.if-is_key_at.ensures.no refl)

pub returns-clause-none : goal.returns-clause-none
returns-clause-none g c = λ none.
    none_at_all kind_and_round c.args.certificates.now (c.args.kind, c.args.round) c.loop-i.i
    c.loop-i-test.false c.loop-i.invariant
