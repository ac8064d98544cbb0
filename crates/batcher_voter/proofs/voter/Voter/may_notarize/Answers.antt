use Rattle.batcher_voter.proofs.Words.{◌++◌, conduct_of, Notarize}
use Rattle.batcher_voter.proofs.Appending.{grounded_before}
use Rattle.batcher_voter.proofs.Clearing.{free_is_new, no_other_notarize}
use Rattle.batcher_voter.proofs.Grounding.{refused_by_ground}
use Rattle.batcher_voter.proofs.Windowed.{above_floor}
use Rattle.batcher_voter.proofs.voter.Voter.may_notarize.Goals as goal

pub returns-in-Some-clause-permits : goal.returns-in-Some-clause-permits
returns-in-Some-clause-permits g c = λ past earlier is.
    refused_by_ground g.D.PartialEq.eq (conduct_of past ++ earlier) (conduct_of past)
    c.args.self.now.knowledge.floor c.in-Some.rule c.args.proposal.now
    (c.in-Some.ensures (conduct_of past) is.has_learned)

pub returns-in-None-clause-permits : goal.returns-in-None-clause-permits
returns-in-None-clause-permits g c = λ past earlier is.
    let it = is.remembers c.requires.open in
    let votes = c.args.self.now.journal.contents.votes in
    let floor = c.args.self.now.journal.contents.floor in
    let p = c.args.proposal.now in
    let all = conduct_of past ++ earlier in
    let above = above_floor c.args.self.now.node.epoch c.args.self.now.node.window p.round floor c.requires.within
    (c.begins.ensures.begins.floor_is c.requires.open) in (
      record {
        grounded = grounded_before (conduct_of past) earlier p (c.in-None.ensures (conduct_of past) is.has_learned).1;
        no_other = λ q same voted. no_other_notarize g.D.PartialEq.eq g.met.D.Digest.identical
            g.met.D.Eq.laws.refl all votes floor it.are_there it.no_others p q above c.requires.free same voted;
        not_nullified = c.if-has_nullified.ensures past earlier is;
      },
      (
        free_is_new g.D.PartialEq.eq g.met.D.Digest.identical g.met.D.Eq.laws.refl all votes floor
            it.are_there it.no_others (Notarize p) above c.requires.free,
        c.in-None.ensures (conduct_of past) is.has_learned,
      ),
    )
