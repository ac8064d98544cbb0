use Rattle.batcher_voter.proofs.Words.{◌∙◌, ap, rules, subst, node_config, Shows, WhyNotShown}
use Rattle.batcher_voter.proofs.Noding.{why_not_shown, wrote_alone, wrote_and_shown}
use Rattle.batcher_voter.proofs.voter.Voter.write_and_show.Goals as goal

pub returns-in-Ok-show-clause-casts : goal.returns-in-Ok-show-clause-casts
returns-in-Ok-show-clause-casts g c =
    record {
      meets =
          wrote_and_shown _ c.args.self.now c.write.new.self c.show.new.self c.args.vote c.in-Ok.ensures.ok
          c.in-Ok-show.cast
          (subst (λ node. Shows (node_config g.S.Scheme.meaning g.S.PublicKey.Ord.cmp
          g.S.Signature.PartialEq.eq g.D.PartialEq.eq node) c.write.new.self c.args.vote c.in-Ok-show.cast
          c.show.new.self) c.in-Ok.ensures.node c.in-Ok-show.ensures.meets)
          c.in-Ok.ensures.node c.requires.says.1.1;
      in_journal = search rules;
      refused = search rules;
      why = search rules;
      full = search rules;
      leaves = search rules;
      same = search rules;
      gains = search rules;
      copied = search rules;
    }

pub returns-in-Err-show-clause-casts : goal.returns-in-Err-show-clause-casts
returns-in-Err-show-clause-casts g c =
    let config = node_config g.S.Scheme.meaning g.S.PublicKey.Ord.cmp g.S.Signature.PartialEq.eq
    g.D.PartialEq.eq in
    record {
      refused =
          wrote_alone _ c.args.self.now c.write.new.self c.show.new.self c.args.vote c.in-Ok.ensures.ok
          c.in-Err-show.ensures.refused;
      why =
          why_not_shown (config c.args.self.now.node) g.D.PartialEq.eq c.args.self.now c.show.new.self c.args.vote
          c.in-Err-show.fault (ap (λ j. j.is_open) c.show.ensures.journal ∙ c.in-Ok.ensures.is_open)
          (subst (λ node. WhyNotShown (config node) node c.args.vote c.in-Err-show.fault) c.in-Ok.ensures.node
          c.in-Err-show.ensures.why);
      meets = search rules;
      in_journal = search rules;
      full = search rules;
      leaves = search rules;
      same = search rules;
      gains = search rules;
      copied = search rules;
    }
