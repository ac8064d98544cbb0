use Rattle.batcher_voter.proofs.Words.{◌≤◌, ◌<◌, ◌∙◌, ap, subst, sym, AreNullified, IsParent, conduct_of}
use Rattle.batcher_voter.proofs.Appending.{grounded_before}
use Rattle.batcher_voter.proofs.Grounding.{ground_has_no_gap, ground_has_parent, not_above, parent_grounds}
use Rattle.batcher_voter.proofs.voter.Voter.parent_for.Goals as goal

pub returns-in-Some-clause-grounds : goal.returns-in-Some-clause-grounds
returns-in-Some-clause-grounds g c = λ past earlier is p of on.
    let knowledge = c.args.self.now.knowledge in
    let it = c.in-Some.ensures.some in
    let parent = ap (λ v. v.0) on in
    let view = ap (λ r. r.view.0) of in
    grounded_before (conduct_of past) earlier p
    (parent_grounds knowledge (conduct_of past) is.has_learned p
    (ap (λ r. r.epoch) of ∙ sym c.begins.ensures.begins.of_epoch)
    (subst (λ n. knowledge.floor ≤ n) (sym parent) it.1.0)
    (subst (λ n. n < p.round.view.0) (sym parent) (subst (λ n. c.in-Some.parent < n) (sym view) it.0))
    (subst (IsParent knowledge) (sym parent) it.1.1.0)
    (subst (λ n. AreNullified knowledge n p.round.view.0) (sym parent)
    (subst (AreNullified knowledge c.in-Some.parent) (sym view) it.1.1.1.0)))

pub returns-in-None-clause-none : goal.returns-in-None-clause-none
returns-in-None-clause-none g c = λ none past earlier is p of from ground.
    let knowledge = c.args.self.now.knowledge in
    let epoch = ap (λ r. r.epoch) of ∙ sym c.begins.ensures.begins.of_epoch in
    let view = ap (λ r. r.view.0) of in
    let kept = subst (λ n. n ≤ p.parent.0) (sym c.begins.ensures.begins.from_final) from in
    c.parent_below.ensures.none c.in-None.is p.parent.0 kept
    (subst (λ n. p.parent.0 < n) view ground.earlier)
    (ground_has_parent knowledge (conduct_of past) is.has_learned p epoch kept ground)
    (subst (AreNullified knowledge p.parent.0) view
    (ground_has_no_gap knowledge (conduct_of past) is.has_learned p epoch kept ground))

pub returns-in-Some-clause-highest : goal.returns-in-Some-clause-highest
returns-in-Some-clause-highest g c = λ past earlier is p of from ground.
    let knowledge = c.args.self.now.knowledge in
    let epoch = ap (λ r. r.epoch) of ∙ sym c.begins.ensures.begins.of_epoch in
    let view = ap (λ r. r.view.0) of in
    let kept = subst (λ n. n ≤ p.parent.0) (sym c.begins.ensures.begins.from_final) from in
    not_above c.in-Some.parent p.parent.0 (λ above.
    c.in-Some.ensures.some.1.1.1.1 p.parent.0 above (subst (λ n. p.parent.0 < n) view ground.earlier)
    (ground_has_parent knowledge (conduct_of past) is.has_learned p epoch kept ground))
