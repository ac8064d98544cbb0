use Rattle.batcher_votes.proofs.Words.{◌∙◌, filter, Some, ap, sym, TheNullification, is_eligible, proposal_of, updated, SetsProposal, is_complete, pending_of}
use Rattle.batcher_votes.proofs.Words.{verified_of, verifier_holding}
use Rattle.batcher_votes.proofs.VerifierLemmas.KindChanges.{retains}
use Rattle.batcher_votes.proofs.VerifierLemmas.Soundness.{nullifies_stay, sound_sets, tidy_from}
use Rattle.batcher_votes.proofs.VerifierLemmas.RestoredVotes.{none_wait}
use Rattle.batcher_votes.proofs.VerifierLemmas.EligibleVotes.{no_change, a_change, changed_so, other_too, some_copied, still_selected, sets_same, sets_changed}
use Rattle.batcher_votes.proofs.verifier.Verifier.set_proposal.Goals as goal

pub returns-in-None-clause-sets : goal.returns-in-None-clause-sets
returns-in-None-clause-sets g c =
    let v = c.self.inside in
    let same = g.D.PartialEq.eq in
    let m = g.S.Scheme.meaning v.scheme.value in
    let held = verifier_holding v.leader v.proposal v.kinds in
    let after = updated v.proposal c.args.next in
    let found = rw (c.updated-self-inside.ensures) at c.in-None.ensures in
    rw (← c.self.view_is, c.updated-self-inside.ensures)
    (sets_same same held after
    (no_change same g.met.D.Digest.identical (proposal_of v.proposal) (proposal_of after) (still_selected v.proposal c.args.next) (sym found))
    (λ kind. tidy_from m same v.round held kind (c.self.invariant.kinds kind)))

pub returns-in-Some-clause-sets : goal.returns-in-Some-clause-sets
returns-in-Some-clause-sets g c =
    let v = c.self.inside in
    let same = g.D.PartialEq.eq in
    let m = g.S.Scheme.meaning v.scheme.value in
    let held = verifier_holding v.leader v.proposal v.kinds in
    let after = updated v.proposal c.args.next in
    let p = c.in-Some.proposal in
    let found = rw (c.updated-self-inside.ensures) at c.in-Some.ensures in
    let nullifies = c.self.invariant.kinds TheNullification in
    rw (← c.self.view_is, c.updated-self-inside.ensures)
    (sets_changed same held
    (verifier_holding v.leader after (record { notarize = c.retain.new.self; nullify = v.kinds.nullify; finalize = c.retain-in-Some.new.self }))
    after p (a_change _ (proposal_of after) p (sym found)) (λ kind. tidy_from m same v.round held kind (c.self.invariant.kinds kind))
    (retains v.leader after v.kinds same p c.retain.new.self c.retain-in-Some.new.self
    (c.retain.ensures.complete ∙ ap is_complete c.get_mut.ensures.value)
    (c.retain.ensures.pending ∙ ap (λ one. filter (is_eligible same (Some p)) (pending_of one)) c.get_mut.ensures.value)
    (c.retain.ensures.verified ∙ ap (λ one. filter (is_eligible same (Some p)) (verified_of one)) c.get_mut.ensures.value)
    (c.retain-in-Some.ensures.complete ∙ ap is_complete c.get_mut-in-Some.ensures.value)
    (c.retain-in-Some.ensures.pending ∙ ap (λ one. filter (is_eligible same (Some p)) (pending_of one)) c.get_mut-in-Some.ensures.value)
    (c.retain-in-Some.ensures.verified ∙ ap (λ one. filter (is_eligible same (Some p)) (verified_of one)) c.get_mut-in-Some.ensures.value)
    (nullifies_stay same v.round (proposal_of v.proposal) p (pending_of v.kinds.nullify) nullifies.pending)
    (nullifies_stay same v.round (proposal_of v.proposal) p (verified_of v.kinds.nullify) nullifies.verified)))

pub invariant_of-self-in-Some : goal.invariant_of-self-in-Some
invariant_of-self-in-Some g c =
    let v = c.self.inside in
    let same = g.D.PartialEq.eq in
    let held = verifier_holding v.leader v.proposal v.kinds in
    let kinds = record v.kinds { notarize = c.retain.new.self; finalize = c.retain-in-Some.new.self } in
    let new = verifier_holding v.leader c.updated-self-inside.result kinds in
    let sets : SetsProposal same c.args.self.now.holds (updated c.args.self.now.holds.selection c.args.next) new = returns-in-Some-clause-sets g c in
    sound_sets (g.S.Scheme.meaning v.scheme.value) same v.round v.quorum held new (updated v.proposal c.args.next) c.self.invariant
    (rw (← c.self.view_is) at sets)

pub returns-in-Some-clause-none_wait : goal.returns-in-Some-clause-none_wait
returns-in-Some-clause-none_wait g c = λ replaced kind h.
    let v = c.self.inside in
    let same = g.D.PartialEq.eq in
    let k = c.self.invariant.kinds kind in
    let held = verifier_holding v.leader v.proposal v.kinds in
    let kinds = record v.kinds { notarize = c.retain.new.self; finalize = c.retain-in-Some.new.self } in
    let new = verifier_holding v.leader c.updated-self-inside.result kinds in
    let sets : SetsProposal same c.args.self.now.holds (updated c.args.self.now.holds.selection c.args.next) new = returns-in-Some-clause-sets g c in
    none_wait same g.met.D.Digest.identical g.met.D.Eq.laws.refl v.round held new c.args.next kind (rw (← c.self.view_is) at sets)
    (other_too _ _ (changed_so _ _ c.in-Some.proposal (sym c.in-Some.ensures))
    (some_copied c.selected.result _ c.selected.ensures ∙ (sym c.is_some.ensures ∙ replaced)))
    h k.pending k.verified
