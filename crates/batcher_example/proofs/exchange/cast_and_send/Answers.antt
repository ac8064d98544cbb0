use Rattle.batcher_example.proofs.Words.{⊎_elim, node_config, keeps_known, keeps_unheard, keeps_heard, still_unblocked}
use Rattle.batcher_example.proofs.exchange.cast_and_send.Goals as goal

pub returns-in_err-receive_vote-in-ToSend-clause-keeps :
    goal.returns-in_err-receive_vote-in-ToSend-clause-keeps
returns-in_err-receive_vote-in-ToSend-clause-keeps g c = λ h.
    let x = node_config g.S.Scheme.meaning g.S.PublicKey.Ord.cmp
    g.S.Signature.PartialEq.eq g.D.PartialEq.eq c.args.own.now in
    let y = node_config g.S.Scheme.meaning g.S.PublicKey.Ord.cmp
    g.S.Signature.PartialEq.eq g.D.PartialEq.eq c.args.other.now in
    rw c.in_err-receive_vote-in-ToSend.ensures.refused
    (keeps_unheard x y c.args.own.now c.cast_vote.new.self c.args.other.now c.args.other.now
    c.args.vote c.in-ToSend.field-0 (rw c.in-ToSend.is at c.in_ok-cast.ensures.meets) h)

pub returns-in_ok-receive_vote-in-ToSend-clause-keeps :
    goal.returns-in_ok-receive_vote-in-ToSend-clause-keeps
returns-in_ok-receive_vote-in-ToSend-clause-keeps g c = λ h.
    let x = node_config g.S.Scheme.meaning g.S.PublicKey.Ord.cmp
    g.S.Signature.PartialEq.eq g.D.PartialEq.eq c.args.own.now in
    let y = node_config g.S.Scheme.meaning g.S.PublicKey.Ord.cmp
    g.S.Signature.PartialEq.eq g.D.PartialEq.eq c.args.other.now in
    keeps_heard x y c.args.own.now c.cast_vote.new.self c.args.other.now c.receive_vote.new.self
    c.args.vote c.in-ToSend.field-0 c.args.key c.in_ok-receive_vote-in-ToSend.field-0
    (rw c.in-ToSend.is at c.in_ok-cast.ensures.meets)
    c.in_ok-receive_vote-in-ToSend.ensures.meets h

pub returns-in_ok-receive_vote-in-ToSend-clause-not_blocked :
    goal.returns-in_ok-receive_vote-in-ToSend-clause-not_blocked
returns-in_ok-receive_vote-in-ToSend-clause-not_blocked g c = λ alike within h.
    still_unblocked g.S.Scheme.meaning g.S.PublicKey.Ord.cmp
    g.S.Signature.PartialEq.eq g.D.PartialEq.eq
    c.senders_of_votes_to_send_are_never_blocked.ensures.not_blocked
    c.args.own.now c.cast_vote.new.self c.args.other.now c.receive_vote.new.self
    c.cast_vote.ensures.same c.receive_vote.ensures.same
    alike _ within (returns-in_ok-receive_vote-in-ToSend-clause-keeps g c h)

pub returns-in-Known-clause-keeps : goal.returns-in-Known-clause-keeps
returns-in-Known-clause-keeps g c = λ h.
    let x = node_config g.S.Scheme.meaning g.S.PublicKey.Ord.cmp
    g.S.Signature.PartialEq.eq g.D.PartialEq.eq c.args.own.now in
    let y = node_config g.S.Scheme.meaning g.S.PublicKey.Ord.cmp
    g.S.Signature.PartialEq.eq g.D.PartialEq.eq c.args.other.now in
    ⊎_elim
    (λ known. keeps_known x y c.args.own.now c.cast_vote.new.self c.args.other.now c.args.other.now
    c.args.vote (rw known at c.in_ok-cast.ensures.meets) _ h)
    (λ outside. rw (rw outside at c.in_ok-cast.ensures.meets).1 h)
    c.in-Known.is

pub returns-in_ok-receive_vote-in-ToSend-clause-sent :
    goal.returns-in_ok-receive_vote-in-ToSend-clause-sent
returns-in_ok-receive_vote-in-ToSend-clause-sent g c = λ is. (
  c.in_ok-receive_vote-in-ToSend.field-0,
  c.in_ok-receive_vote-in-ToSend.ensures.meets,
)
