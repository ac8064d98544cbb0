use Rattle.batcher_votes.proofs.Words.{◌≡◌, ◌∙◌, true, not, None, is_some, refl, ap, sym, proposal_of, leaders_vote, verifier_holding}
use Rattle.batcher_votes.proofs.VerifierLemmas.Soundness.{tidy_from}
use Rattle.batcher_votes.proofs.VerifierLemmas.EligibleVotes.{sets_same, selects_again, some_copied}
use Rattle.batcher_votes.proofs.verifier.Verifier.select_by.Goals as goal

pub returns-in_default-clause-sets : goal.returns-in_default-clause-sets
returns-in_default-clause-sets g c =
    let v = c.self.inside in
    let same = g.D.PartialEq.eq in
    let held = verifier_holding v.leader v.proposal v.kinds in
    let none : leaders_vote same held c.args.vote.now ≡ None = rw (← c.self.view_is) at (sym c.leaders_proposal.ensures ∙ c.in_default.is) in
    rw (← c.self.view_is, none)
    (sets_same same held v.proposal refl (λ kind. tidy_from (g.S.Scheme.meaning v.scheme.value) same v.round held kind (c.self.invariant.kinds kind)))

pub returns-else-is_none-clause-sets : goal.returns-else-is_none-clause-sets
returns-else-is_none-clause-sets g c =
    let v = c.self.inside in
    let same = g.D.PartialEq.eq in
    let held = verifier_holding v.leader v.proposal v.kinds in
    let some : is_some (proposal_of v.proposal) ≡ true = some_copied c.selected.result _ c.selected.ensures ∙ (c.is_none.ensures ∙ ap not c.if-is_none.false) in
    rw (← c.self.view_is, selects_again v.proposal (leaders_vote same held c.args.vote.now) some)
    (sets_same same held v.proposal refl (λ kind. tidy_from (g.S.Scheme.meaning v.scheme.value) same v.round held kind (c.self.invariant.kinds kind)))
