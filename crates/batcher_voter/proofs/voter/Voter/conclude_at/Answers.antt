use Rattle.batcher_voter.proofs.Certifying.{given_by_node}
use Rattle.batcher_voter.proofs.Words.{◌≡◌, ◌∙◌, ap, subst, sym, true, certifies_itself, IfSome, subject_certified, constructed, node_config}
use Rattle.batcher_voter.proofs.Words.{NodeMeets, Learns, IsOfItsView}
use Rattle.batcher_voter.proofs.Calling.{given_is_learned, given_is_of, learning}
use Rattle.batcher_voter.proofs.voter.Voter.conclude_at.Goals as goal

pub returns-in-Some-clause-meets : goal.returns-in-Some-clause-meets
returns-in-Some-clause-meets g c =
    let certificate = c.in-Some.certificate.now in
    let s = subject_certified certificate in
    let made = c.in-Ok-Some.made in
    let config = node_config g.S.Scheme.meaning g.S.PublicKey.Ord.cmp g.S.Signature.PartialEq.eq g.D.PartialEq.eq in
    let old = c.args.self.now.node in
    let meets : NodeMeets (config old) old (constructed made.view.0 made.batch) c.call_conclude.new.self.node =
    subst
    (λ it. IfSome it (λ one. NodeMeets (config old) old (constructed one.view.0 one.batch) c.call_conclude.new.self.node))
    c.in-Ok-Some.field-0-is c.in-Ok-Some.ensures.meets in
    let of_view : IsOfItsView old.epoch made =
    subst (λ it. IfSome it (IsOfItsView old.epoch)) c.in-Ok-Some.field-0-is c.in-Ok-Some.ensures.of_view in
    learning _ c.args.self.now c.learn.new.self (constructed made.view.0 made.batch)
    (subst (NodeMeets (config old) old (constructed made.view.0 made.batch)) (sym c.learn.ensures.frame.node) meets)
    (c.learn.ensures.frame.contents ∙ ap (λ j. j.contents) c.in-Ok-Some.ensures.frame.journal)
    (c.learn.ensures.frame.is_open ∙ ap (λ j. j.is_open) c.in-Ok-Some.ensures.frame.journal)
    (λ earlier past h. h) s
    (given_is_learned g.row.S-PublicKey.Denot g.row.S-Signature.Denot certificate made.view.0 made.batch
    c.in-Some.ensures)
    (subst (λ k. Learns s k c.learn.new.self.knowledge) c.in-Ok-Some.ensures.frame.knowledge c.learn.ensures.learns)
    (ap (λ r. r.epoch) (given_is_of old.epoch made.view.0 made.batch certificate c.in-Some.ensures of_view)
    ∙ sym c.begins.ensures.begins.of_epoch)

pub learn-requires-clause-epoch : goal.learn-requires-clause-epoch
learn-requires-clause-epoch g c =
    let made = c.in-Ok-Some.made in
    let old = c.args.self.now.node in
    let of_view : IsOfItsView old.epoch made =
    subst (λ it. IfSome it (IsOfItsView old.epoch)) c.in-Ok-Some.field-0-is c.in-Ok-Some.ensures.of_view in
    ap (λ r. r.epoch) (given_is_of old.epoch made.view.0 made.batch c.in-Some.certificate.now c.in-Some.ensures of_view)
    ∙ sym c.begins.ensures.begins.of_epoch ∙ ap (λ k. k.epoch) (sym c.in-Ok-Some.ensures.frame.knowledge)

pub learn-requires-clause-certifies : goal.learn-requires-clause-certifies
learn-requires-clause-certifies g c =
    let made = c.in-Ok-Some.made in
    let certificate = c.in-Some.certificate.now in
    let config = node_config g.S.Scheme.meaning g.S.PublicKey.Ord.cmp g.S.Signature.PartialEq.eq g.D.PartialEq.eq in
    let old = c.args.self.now.node in
    let same = c.in-Ok-Some.ensures.frame.same in
    let meets : NodeMeets (config old) old (constructed made.view.0 made.batch) c.call_conclude.new.self.node =
    subst
    (λ it. IfSome it (λ one. NodeMeets (config old) old (constructed one.view.0 one.batch) c.call_conclude.new.self.node))
    c.in-Ok-Some.field-0-is c.in-Ok-Some.ensures.meets in
    subst (λ s. certifies_itself (g.S.Scheme.meaning s) certificate ≡ true) (sym same.0)
    (given_by_node g.S.Scheme.meaning g.S.PublicKey.Ord.cmp g.S.Signature.PartialEq.eq g.D.PartialEq.eq
    c.senders_of_votes_to_send_are_never_blocked.ensures.held_certify old c.call_conclude.new.self.node
    same c.begins.ensures.some c.has_history.ensures made.view.0 made.batch certificate meets c.in-Some.ensures)
