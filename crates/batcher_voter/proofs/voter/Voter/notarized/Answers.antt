use Rattle.batcher_voter.proofs.Words.{◌≤◌, ◌∙◌, ap, subst, sym, conduct_of, numbered}
use Rattle.batcher_voter.proofs.Grounding.{not_notarized_here, notarized_here}
use Rattle.batcher_voter.proofs.voter.Voter.notarized.Goals as goal

pub returns-in-Some-clause-some : goal.returns-in-Some-clause-some
returns-in-Some-clause-some g c = λ past earlier is from.
    let knowledge = c.args.self.now.knowledge in
    let begins = c.begins.ensures.begins in
    let it = notarized_here knowledge (conduct_of past) is.has_learned c.args.view.0
    (subst (λ n. n ≤ c.args.view.0) (sym begins.from_final) from) c.in-Some.proposal
    (sym c.notarized_at.ensures ∙ c.in-Some.is) in
    (it.0 ∙ ap (λ e. numbered e c.args.view.0) begins.of_epoch, it.1)

pub returns-in-None-clause-none : goal.returns-in-None-clause-none
returns-in-None-clause-none g c = λ none past earlier is from p of.
    let knowledge = c.args.self.now.knowledge in
    let begins = c.begins.ensures.begins in
    not_notarized_here knowledge (conduct_of past) is.has_learned c.args.view.0
    (subst (λ n. n ≤ c.args.view.0) (sym begins.from_final) from)
    (sym c.notarized_at.ensures ∙ c.in-None.is) p
    (of ∙ ap (λ e. numbered e c.args.view.0) (sym begins.of_epoch))
