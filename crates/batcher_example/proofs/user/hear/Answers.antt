use Rattle.batcher_example.proofs.Words.{◌∷◌, NetworkCall, NetworkAnswer}
use Rattle.batcher_example.proofs.user.hear.Goals as goal

pub returns-clause-cause : goal.returns-clause-cause
returns-clause-cause g c = λ past represents.
    let round = c.args.round.now in
    let answer = NetworkAnswer c.in_ok-admission.admission in
    let longer = (NetworkCall c.args.sender c.args.vote, answer) ∷ past in
    -- The round represents the longer history, so this is possible,
    let possible = (c.in_ok-admission.ensures.meets past represents).represents.possible in
    -- and keeps what the library promises of every possible one,
    let kept = c.possible_histories_are_promised.ensures round.scheme round.number round.mode c.number.ensures.participants longer possible in
    -- here of its last vote.
    kept.promises.honest_are_never_blocked.0
