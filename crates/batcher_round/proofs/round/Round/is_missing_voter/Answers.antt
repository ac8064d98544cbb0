use Rattle.batcher_round.proofs.Words.{◌∙◌, not, ap, RoundState, config, block_same}
use Rattle.batcher_round.proofs.round.Round.is_missing_voter.Goals as goal

pub returns-clause-meets : goal.returns-clause-meets
returns-clause-meets g c =
    let b = c.self.inside in
    let v = b.ballots.verifier in
    let x = config (g.S.Scheme.meaning v.scheme) g.S.PublicKey.Ord.cmp g.S.Signature.PartialEq.eq g.D.PartialEq.eq v.number b.ballots.tracker.mode in
    let held : RoundState g.row.S-Signature.Denot g.row.D.Denot = record { tracked = b.ballots.tracker.holds; buffered = v.holds; forwarded = b.forwarded } in
    rw (← c.self.view_is) (λ past represents. ap not (c.has_block.ensures ∙ block_same x past held c.args.participant.0 c.args.proposal.now represents))
