use Rattle.batcher_agreement.proofs.Words.{refl, node_config}
use Rattle.batcher_agreement.proofs.Agreeing.{agree}
use Rattle.batcher_agreement.proofs.Living.{voters_are_sound}
use Rattle.batcher_agreement.proofs.honest_voters_agree.Goals as goal

pub returns : goal.returns
returns g c = λ scheme is_faulty lives few are backed.
    let meaning = g.S.Scheme.meaning in
    let config = node_config meaning g.S.PublicKey.Ord.cmp g.S.Signature.PartialEq.eq g.D.PartialEq.eq in
    agree (meaning scheme) is_faulty _ _
    (voters_are_sound meaning config (λ node. refl)
    c.senders_of_votes_to_send_are_never_blocked.ensures.held_certify
    (meaning scheme) is_faulty lives few are backed)
