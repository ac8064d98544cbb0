use Rattle.batcher_round.proofs.Words.{◌≡◌, ◌∙◌, ap, length, quorum_of, nothing_tracked, right_at_first}
use Rattle.batcher_round.proofs.round.ballots.Ballots.new.Goals as goal

pub invariant_of-result : goal.invariant_of-result
invariant_of-result g c =
    let participants = (g.S.Scheme.meaning c.args.scheme.value).participants in
    let count : c.len-participants.result ≡ length participants =
    c.len-participants.ensures.count ∙ ap length (c.participants.ensures ∙ ap (λ s. (g.S.Scheme.meaning s).participants) c.deref.ensures) in
    let tracker = c.new-tracker.ensures in
    let fresh : c.new-tracker.result.holds ≡ nothing_tracked c.new-tracker.result.mode = rw tracker.mode tracker.holds in
    let quorum = c.new-verifier.ensures.quorum ∙ c.quorum.ensures ∙ ap quorum_of count in
    rw (c.new-verifier.ensures.scheme, c.new-verifier.ensures.holds)
    (right_at_first (g.S.Scheme.meaning c.args.scheme.value) c.new-tracker.result c.new-verifier.result.quorum c.requires quorum
    (tracker.participants ∙ count) fresh)
