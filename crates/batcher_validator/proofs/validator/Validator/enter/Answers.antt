use Rattle.batcher_validator.proofs.Words.{node_config, subst, sym, SameNode}
use Rattle.batcher_voter.proofs.Certifying.{config_same}
use Rattle.batcher_validator.proofs.Entering.{enters_so, enters_then_stays}
use Rattle.batcher_validator.proofs.validator.Validator.enter.Goals as goal

pub returns-in-Ok-clause-meets : goal.returns-in-Ok-clause-meets
returns-in-Ok-clause-meets g c =
    let config = node_config g.S.Scheme.meaning g.S.PublicKey.Ord.cmp g.S.Signature.PartialEq.eq g.D.PartialEq.eq in
    let old = c.args.self.now in
    let call = c.call_enter in
    let mid = c.note_entered.new.self in
    enters_then_stays config old mid c.settle.new.self c.args.view.0 c.args.leader
    (config_same g.S.Scheme.meaning g.S.PublicKey.Ord.cmp g.S.Signature.PartialEq.eq g.D.PartialEq.eq
    old.voter.node mid.voter.node (subst (λ v. SameNode old.voter.node v.node) (sym c.note_entered.ensures.voter) call.ensures.frame.voter.same))
    (enters_so (config old.voter.node) old call.new.self mid call.ensures.frame.voter.contents call.ensures.frame.voter.is_open
    call.ensures.frame.given call.ensures.frame.shelf c.note_entered.ensures.voter c.note_entered.ensures.shelf
    c.args.view.0 c.args.leader c.gives_up-is_over.result c.note_entered.ensures.given c.in-Ok.ensures.meets
    c.gives_up-is_over.ensures)
    c.settle.ensures.stays
