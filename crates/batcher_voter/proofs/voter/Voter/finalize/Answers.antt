use Rattle.batcher_voter.proofs.Words.{certificate_format, node_config, rules, vote_format}
use Rattle.batcher_voter.proofs.Finalizing.{why_still_not_final}
use Rattle.batcher_voter.proofs.voter.Voter.finalize.Goals as goal

pub returns-in-Ok : goal.returns-in-Ok
returns-in-Ok g c =
    record {
      meets = search rules;
      begins = search rules;
      kind = search rules;
      raised = search rules;
      why =
          why_still_not_final (node_config g.S.Scheme.meaning g.S.PublicKey.Ord.cmp g.S.Signature.PartialEq.eq
          g.D.PartialEq.eq) (vote_format g.S.Signature.Codec.format g.D.Codec.format)
          (certificate_format g.S.Certificate.OwnedCodec.format g.D.Codec.format) g.L.Log.is_too_small
          g.L.Log.is_honest g.L.Log.may_leave g.L.Log.is_copied_as c.args.self.now c.make_room.new.self
          c.make_room.ensures.node c.make_room.ensures.journal c.args.finalization.now c.move_by.new.self
          c.move_by.result c.move_by.ensures.why;
      stays = search rules;
      refused = search rules;
      unraised = search rules;
      leaves = search rules;
      same = search rules;
      copied = search rules;
    }
