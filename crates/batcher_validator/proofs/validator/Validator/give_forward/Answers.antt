use Rattle.batcher_validator.proofs.Words.{rules, ◌∙◌, sym, node_config}
use Rattle.batcher_validator.proofs.Giving.{gives_forward}
use Rattle.batcher_validator.proofs.validator.Validator.give_forward.Goals as goal

pub returns-in-Some-clause-gives : goal.returns-in-Some-clause-gives
returns-in-Some-clause-gives g c =
    record {
      some = record {
        gives =
            let old = c.args.self.now in
            gives_forward (node_config g.S.Scheme.meaning g.S.PublicKey.Ord.cmp g.S.Signature.PartialEq.eq
            g.D.PartialEq.eq old.voter.node) old c.note_forwarded.new.self c.note_forwarded.ensures.voter
            c.note_forwarded.ensures.shelf c.in-Some.round (sym c.forwarding.ensures ∙ c.in-Some.is)
            c.note_forwarded.ensures.given;
        ready = search rules;
      };
      nothing = search rules;
      rests = search rules;
      voter = search rules;
    }
