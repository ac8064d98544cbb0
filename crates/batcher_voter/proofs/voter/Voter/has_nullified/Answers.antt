use Rattle.batcher_voter.proofs.Words.{◌++◌, subst, conduct_of, Answers, Refused}
use Rattle.batcher_voter.proofs.Clearing.{not_nullified}
use Rattle.batcher_voter.proofs.voter.Voter.has_nullified.Goals as goal
use Rattle.batcher_voter.proofs.Words.{Nullify}

pub returns-in-Refused : goal.returns-in-Refused
returns-in-Refused g c = λ past earlier is voted.
    let journal = c.args.self.now.journal in
    let vote = c.in-Refused.field-0 in
    let it = is.remembers c.requires.open in
    let answer = subst (λ is_open. Answers g.D.PartialEq.eq journal.contents.floor is_open
    journal.contents.votes (Nullify c.args.round) (Refused vote)) c.requires.open c.in-Refused.ensures in
    not_nullified g.D.PartialEq.eq (conduct_of past ++ earlier)
    journal.contents.votes it.no_others c.args.round vote is.keeps_policy answer.0 answer.1 voted
