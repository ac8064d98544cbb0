use Rattle.batcher_voter.proofs.Words.{◌++◌, conduct_of, Finalize, Notarize}
use Rattle.batcher_voter.proofs.Appending.{knows_before}
use Rattle.batcher_voter.proofs.Clearing.{free_is_new, no_nullify_beside}
use Rattle.batcher_voter.proofs.Windowed.{above_floor}
use Rattle.batcher_voter.proofs.voter.Voter.may_finalize.Goals as goal

pub returns-then-is_notarized-clause-permits : goal.returns-then-is_notarized-clause-permits
returns-then-is_notarized-clause-permits g c = λ past earlier is.
    let it = is.remembers c.requires.open in
    let votes = c.args.self.now.journal.contents.votes in
    let floor = c.args.self.now.journal.contents.floor in
    let p = c.args.proposal.now in
    let all = conduct_of past ++ earlier in
    let above = above_floor c.args.self.now.node.epoch c.args.self.now.node.window p.round floor c.requires.within
    (c.begins.ensures.begins.floor_is c.requires.open) in (
      record {
        notarized = knows_before (conduct_of past) earlier (Notarize p)
            (c.if-is_notarized.ensures.known (conduct_of past) is.has_learned);
        not_nullified = no_nullify_beside g.D.PartialEq.eq g.met.D.Digest.identical
            g.met.D.Eq.laws.refl all votes floor it.are_there it.no_others p above c.requires.free;
      },
      (
        free_is_new g.D.PartialEq.eq g.met.D.Digest.identical g.met.D.Eq.laws.refl all votes floor
            it.are_there it.no_others (Finalize p) above c.requires.free,
        c.if-is_notarized.ensures.known (conduct_of past) is.has_learned,
      ),
    )

pub returns-clause-permits : goal.returns-clause-permits
returns-clause-permits g c = λ past earlier is. c.if-is_notarized.ensures.known (conduct_of past) is.has_learned
