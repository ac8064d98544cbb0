use Rattle.batcher_voter.proofs.Words.{ap, ◌∙◌, Err, round_in, rules, subject_of, node_config}
use Rattle.batcher_voter.proofs.Leaving.{leaves_vote}
use Rattle.batcher_voter.proofs.Voting.{may_follow_one, there_at_end, wrote}
use Rattle.batcher_voter.proofs.Windowed.{above_floor}
use Rattle.batcher_voter.proofs.voter.Voter.write_kept.Goals as goal

pub returns-in-Ok : goal.returns-in-Ok
returns-in-Ok g c =
    record {
      ok = λ past earlier is.
          wrote _ c.args.self.now c.put.new.self c.args.vote c.requires.says.0 c.in-Ok.ensures.ok.contents_are
          c.in-Ok.ensures.node c.in-Ok.ensures.knowledge past earlier (c.requires.permits past earlier is).0 is;
      there =
          there_at_end c.args.self.now.journal.contents.votes c.put.new.self.journal.contents.votes c.args.vote
          (ap (λ it. it.votes) c.in-Ok.ensures.ok.contents_are);
      leaves = λ left honest may.
          leaves_vote (node_config g.S.Scheme.meaning g.S.PublicKey.Ord.cmp g.S.Signature.PartialEq.eq
          g.D.PartialEq.eq c.args.self.now.node) _ g.D.PartialEq.eq c.bytes_are_of_one_journal.ensures c.args.self.now
          c.requires.says.0 left c.args.vote (c.put.ensures.leaves left honest may)
          (λ past earlier is. (c.requires.permits past earlier is).0);
      err = search rules;
      is_open = search rules;
      all = search rules;
      closed = search rules;
      why = search rules;
      full = search rules;
      gains = search rules;
      node = search rules;
      copied = search rules;
    }

pub returns-in-Err-OutOfMemory : goal.returns-in-Err-OutOfMemory
returns-in-Err-OutOfMemory g c =
    record {
      leaves = λ left honest may.
          leaves_vote (node_config g.S.Scheme.meaning g.S.PublicKey.Ord.cmp g.S.Signature.PartialEq.eq
          g.D.PartialEq.eq c.args.self.now.node) _ g.D.PartialEq.eq c.bytes_are_of_one_journal.ensures c.args.self.now
          c.requires.says.0 left c.args.vote (c.put.ensures.leaves left honest may)
          (λ past earlier is. (c.requires.permits past earlier is).0);
      ok = search rules;
      err = search rules;
      is_open = search rules;
      there = search rules;
      all = search rules;
      closed = search rules;
      why = search rules;
      full = search rules;
      gains = search rules;
      node = search rules;
      copied = search rules;
    }

pub returns-in-Err-Full : goal.returns-in-Err-Full
returns-in-Err-Full g c =
    record {
      leaves = λ left honest may.
          leaves_vote (node_config g.S.Scheme.meaning g.S.PublicKey.Ord.cmp g.S.Signature.PartialEq.eq
          g.D.PartialEq.eq c.args.self.now.node) _ g.D.PartialEq.eq c.bytes_are_of_one_journal.ensures c.args.self.now
          c.requires.says.0 left c.args.vote (c.put.ensures.leaves left honest may)
          (λ past earlier is. (c.requires.permits past earlier is).0);
      ok = search rules;
      err = search rules;
      is_open = search rules;
      there = search rules;
      all = search rules;
      closed = search rules;
      why = search rules;
      full = search rules;
      gains = search rules;
      node = search rules;
      copied = search rules;
    }

pub returns-in-Err-Closed : goal.returns-in-Err-Closed
returns-in-Err-Closed g c =
    record {
      leaves = λ left honest may.
          leaves_vote (node_config g.S.Scheme.meaning g.S.PublicKey.Ord.cmp g.S.Signature.PartialEq.eq
          g.D.PartialEq.eq c.args.self.now.node) _ g.D.PartialEq.eq c.bytes_are_of_one_journal.ensures c.args.self.now
          c.requires.says.0 left c.args.vote (c.put.ensures.leaves left honest may)
          (λ past earlier is. (c.requires.permits past earlier is).0);
      ok = search rules;
      err = search rules;
      is_open = search rules;
      there = search rules;
      all = search rules;
      closed = search rules;
      why = search rules;
      full = search rules;
      gains = search rules;
      node = search rules;
      copied = search rules;
    }

pub returns-in-Err-NotFree : goal.returns-in-Err-NotFree
returns-in-Err-NotFree g c =
    absurd (c.put.ensures.not_free (c.in-Err-NotFree.is ∙ ap Err c.in-Err-NotFree.field-0-is)
    (may_follow_one g.D.PartialEq.eq c.args.self.now.journal.contents.floor c.args.self.now.journal.contents.votes
    c.args.vote c.requires.says.1.0
    (above_floor c.args.self.now.node.epoch c.args.self.now.node.window (round_in (subject_of c.args.vote))
    c.args.self.now.journal.contents.floor c.requires.says.1.1
    (c.begins.ensures.begins.floor_is c.requires.says.0))))
