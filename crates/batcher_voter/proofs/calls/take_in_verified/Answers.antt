use Rattle.batcher_voter.proofs.Certifying.{recorded_certifies, window_stays}
use Rattle.batcher_voter.proofs.calls.take_in_verified.Goals as goal

pub returns-clause-certifies : goal.returns-clause-certifies
returns-clause-certifies g c =
    recorded_certifies g.S.Scheme.meaning g.S.PublicKey.Ord.cmp g.S.Signature.PartialEq.eq g.D.PartialEq.eq
    c.senders_of_votes_to_send_are_never_blocked.ensures.held_certify c.args.node.now c.receive_certificate.new.self
    c.receive_certificate.ensures.same c.requires c.promises.ensures.some.0 c.receive_certificate.result c.args.peer
    c.args.certificate.now c.receive_certificate.ensures.meets

pub returns-clause-window : goal.returns-clause-window
returns-clause-window g c =
    window_stays g.S.Scheme.meaning g.S.PublicKey.Ord.cmp g.S.Signature.PartialEq.eq g.D.PartialEq.eq
    c.senders_of_votes_to_send_are_never_blocked.ensures.held_certify c.args.node.now c.receive_certificate.new.self
    c.receive_certificate.ensures.same c.requires c.promises.ensures.some.0 c.receive_certificate.result c.args.peer
    c.args.certificate.now c.receive_certificate.ensures.meets c.receive_certificate.ensures.refused
