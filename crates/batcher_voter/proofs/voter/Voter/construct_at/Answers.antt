use Rattle.batcher_voter.proofs.Words.{◌≡◌, ◌∙◌, ap, subst, sym, true, subject_certified, constructed, certifies_itself, NodeMeets, Learns}
use Rattle.batcher_voter.proofs.Certifying.{given_by_node}
use Rattle.batcher_voter.proofs.Calling.{given_is_learned, given_is_of, learning}
use Rattle.batcher_voter.proofs.voter.Voter.construct_at.Goals as goal

pub returns-in-Some-clause-meets : goal.returns-in-Some-clause-meets
returns-in-Some-clause-meets g c =
    let certificate = c.in-Some.certificate.now in
    let s = subject_certified certificate in
    let made = c.in-Ok.made in
    learning _ c.args.self.now c.learn.new.self (constructed made.view.0 made.batch)
    (subst (NodeMeets _ c.args.self.now.node _) (sym c.learn.ensures.frame.node) c.in-Ok.ensures.meets)
    (c.learn.ensures.frame.contents ∙ ap (λ j. j.contents) c.in-Ok.ensures.frame.journal)
    (c.learn.ensures.frame.is_open ∙ ap (λ j. j.is_open) c.in-Ok.ensures.frame.journal)
    (λ earlier past h. h) s
    (given_is_learned g.row.S-PublicKey.Denot g.row.S-Signature.Denot certificate made.view.0 made.batch
    c.in-Some.ensures)
    (subst (λ k. Learns s k c.learn.new.self.knowledge) c.in-Ok.ensures.frame.knowledge c.learn.ensures.learns)
    (ap (λ r. r.epoch) (given_is_of c.args.self.now.node.epoch made.view.0 made.batch certificate
    c.in-Some.ensures c.in-Ok.ensures.of_view)
    ∙ sym c.begins.ensures.begins.of_epoch)

pub learn-requires-clause-epoch : goal.learn-requires-clause-epoch
learn-requires-clause-epoch g c =
    let made = c.in-Ok.made in
    ap (λ r. r.epoch) (given_is_of c.args.self.now.node.epoch made.view.0 made.batch c.in-Some.certificate.now
    c.in-Some.ensures c.in-Ok.ensures.of_view)
    ∙ sym c.begins.ensures.begins.of_epoch ∙ ap (λ k. k.epoch) (sym c.in-Ok.ensures.frame.knowledge)

pub learn-requires-clause-certifies : goal.learn-requires-clause-certifies
learn-requires-clause-certifies g c =
    let made = c.in-Ok.made in
    let certificate = c.in-Some.certificate.now in
    let same = c.in-Ok.ensures.frame.same in
    subst (λ s. certifies_itself (g.S.Scheme.meaning s) certificate ≡ true) (sym same.0)
    (given_by_node g.S.Scheme.meaning g.S.PublicKey.Ord.cmp g.S.Signature.PartialEq.eq g.D.PartialEq.eq
    c.senders_of_votes_to_send_are_never_blocked.ensures.held_certify c.args.self.now.node c.call_construct.new.self.node
    same c.begins.ensures.some c.has_history.ensures made.view.0 made.batch certificate c.in-Ok.ensures.meets
    c.in-Some.ensures)
