use Rattle.batcher_validator.proofs.Words.{rules, node_config}
use Rattle.batcher_validator.proofs.Ending.{block_less}
use Rattle.batcher_validator.proofs.Giving.{gives_block}
use Rattle.batcher_validator.proofs.validator.Validator.poll_meanwhile.Goals as goal

pub returns-in-Some-clause-gives : goal.returns-in-Some-clause-gives
returns-in-Some-clause-gives g c =
    record {
      gives =
          let old = c.args.self.now in
          gives_block (node_config g.S.Scheme.meaning g.S.PublicKey.Ord.cmp g.S.Signature.PartialEq.eq
          g.D.PartialEq.eq old.voter.node) old c.note_block.new.self c.note_block.ensures.voter
          c.note_block.ensures.shelf c.in-Some.who c.in-Some.cause c.in-Some.ensures.within c.note_block.ensures.same
          c.in-Some.ensures.cause c.in-Some.ensures.not_yet c.note_block.ensures.given;
      ready = search rules;
    }

pub returns-in-Some-clause-less : goal.returns-in-Some-clause-less
returns-in-Some-clause-less g c =
    let old = c.args.self.now in
    block_less (node_config g.S.Scheme.meaning g.S.PublicKey.Ord.cmp g.S.Signature.PartialEq.eq
    g.D.PartialEq.eq old.voter.node) old c.note_block.new.self c.note_block.ensures.voter
    c.note_block.ensures.shelf c.in-Some.who c.in-Some.cause c.in-Some.ensures.not_yet
    c.note_block.ensures.given
