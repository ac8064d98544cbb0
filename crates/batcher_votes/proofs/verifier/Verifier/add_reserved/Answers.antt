use Rattle.batcher_votes.proofs.Words.{◌≡◌, ◌∙◌, ◌&&◌, ◌++◌, ◌∷◌, [], true, not, cond, ap, sym, is_eligible, proposal_of, is_complete, pending_of, verified_of}
use Rattle.batcher_votes.proofs.Words.{verifier_holding}
use Rattle.batcher_votes.proofs.VerifierLemmas.KindChanges.{places}
use Rattle.batcher_votes.proofs.VerifierLemmas.Soundness.{MayJoin, sound_placed}
use Rattle.batcher_votes.proofs.VerifierLemmas.EligibleVotes.{adds_placed}
use Rattle.batcher_votes.proofs.verifier.Verifier.add_reserved.Goals as goal

pub invariant_of-self : goal.invariant_of-self
invariant_of-self g c =
    let v = c.self.inside in
    let same = g.D.PartialEq.eq in
    let m = g.S.Scheme.meaning v.scheme.value in
    let old = c.args.self.now.holds in
    let mid = verifier_holding v.leader v.proposal v.kinds in
    let vote = c.args.vote.now in
    let is_verified = c.args.verified in
    let own = c.get_mut.ensures.value in
    let place_sets = rw (← c.self.view_is) at c.select_by.ensures.sets in
    let fits : is_eligible same (proposal_of v.proposal) vote ≡ true = sym c.may_be_eligible.ensures ∙ c.if-may_be_eligible.true in
    let placed = places v.leader v.proposal v.kinds c.kind.result c.push.new.self vote is_verified (sym c.kind.ensures)
    (c.push.ensures.complete ∙ ap is_complete own)
    (c.push.ensures.pending ∙ ap (λ one. pending_of one ++ cond (not is_verified && not (is_complete one)) (vote ∷ []) []) own)
    (c.push.ensures.verified ∙ ap (λ one. verified_of one ++ cond (is_verified && not (is_complete one)) (vote ∷ []) []) own) in
    let scheme = rw (← c.self.view_is) at c.select_by.ensures.same in
    let may : MayJoin m same v.round old vote is_verified
    = record { attests = rw scheme.0 c.requires.attests; of_round = rw scheme.1 c.requires.of_round; fresh = c.requires.fresh } in
    sound_placed m same v.round v.quorum old mid _ vote is_verified c.self.invariant may (λ kind. place_sets.buffers kind) placed fits

pub returns-then-may_be_eligible-clause-adds : goal.returns-then-may_be_eligible-clause-adds
returns-then-may_be_eligible-clause-adds g c =
    let v = c.self.inside in
    let same = g.D.PartialEq.eq in
    let m = g.S.Scheme.meaning v.scheme.value in
    let old = c.args.self.now.holds in
    let mid = verifier_holding v.leader v.proposal v.kinds in
    let vote = c.args.vote.now in
    let is_verified = c.args.verified in
    let own = c.get_mut.ensures.value in
    let place_sets = rw (← c.self.view_is) at c.select_by.ensures.sets in
    let fits : is_eligible same (proposal_of v.proposal) vote ≡ true = sym c.may_be_eligible.ensures ∙ c.if-may_be_eligible.true in
    let placed = places v.leader v.proposal v.kinds c.kind.result c.push.new.self vote is_verified (sym c.kind.ensures)
    (c.push.ensures.complete ∙ ap is_complete own)
    (c.push.ensures.pending ∙ ap (λ one. pending_of one ++ cond (not is_verified && not (is_complete one)) (vote ∷ []) []) own)
    (c.push.ensures.verified ∙ ap (λ one. verified_of one ++ cond (is_verified && not (is_complete one)) (vote ∷ []) []) own) in
    adds_placed same old _ vote is_verified mid place_sets placed (ap (λ s. is_eligible same (proposal_of s) vote) (sym place_sets.selection_is) ∙ fits)
