use Rattle.batcher_validator.proofs.Settling.{becomes_settled, both_decided}
use Rattle.batcher_validator.proofs.Words.{conduct_in, node_config}
use Rattle.batcher_validator.proofs.validator.Validator.settle.Goals as goal

pub returns-clause-stays : goal.returns-clause-stays
returns-clause-stays g c =
    becomes_settled (node_config g.S.Scheme.meaning g.S.PublicKey.Ord.cmp g.S.Signature.PartialEq.eq g.D.PartialEq.eq c.args.self.now.voter.node)
    c.args.self.now c.note_decided.new.self _ c.note_decided.ensures.voter c.note_decided.ensures.shelf
    c.note_decided.ensures.given
    (λ past earlier is. both_decided (conduct_in earlier past) c.args.self.now.voter.node.epoch
    c.decided-noted.result.first c.decided-noted.result.end c.decided_until-end.result
    (c.decided-noted.ensures.decides past earlier is) (c.decided_until-end.ensures past earlier is))
