use Rattle.batcher_votes.proofs.Words.{◌≡◌, ◌∙◌, ◌++◌, [], cond, filter, Some, ap, sym, Kind, is_kind, is_eligible, proposal_of, Buffers, with_kind}
use Rattle.batcher_votes.proofs.Words.{is_complete, pending_of, verified_of, verifier_holding}
use Rattle.batcher_votes.proofs.VerifierLemmas.KindChanges.{restores}
use Rattle.batcher_votes.proofs.VerifierLemmas.Soundness.{tidy_from}
use Rattle.batcher_votes.proofs.VerifierLemmas.RestoredVotes.{restores_buffers, sound_restored}
use Rattle.batcher_votes.proofs.verifier.Verifier.restore.Goals as goal

pub returns-in-Some-clause-buffers : goal.returns-in-Some-clause-buffers
returns-in-Some-clause-buffers g c =
    let v = c.self.inside in
    let m = g.S.Scheme.meaning v.scheme.value in
    let same = g.D.PartialEq.eq in
    let held = verifier_holding v.leader v.proposal v.kinds in
    let kind = c.args.kind in
    let p = c.in-Some.proposal in
    let selected : proposal_of v.proposal ≡ Some p = sym c.selected.ensures ∙ sym c.copied.ensures ∙ c.in-Some.is in
    let own = c.get_mut.ensures.value in
    rw (← c.self.view_is)
    (restores_buffers same held _ kind p c.args.votes
    (restores v.leader v.proposal v.kinds kind c.restore.new.self same p c.args.votes (c.restore.ensures.complete ∙ ap is_complete own)
    (c.restore.ensures.pending ∙ ap (λ one. pending_of one ++ cond (is_complete one) [] (filter (is_eligible same (Some p)) c.args.votes)) own)
    (c.restore.ensures.verified ∙ ap verified_of own))
    selected (λ kind. tidy_from m same v.round held kind (c.self.invariant.kinds kind)))

pub invariant_of-self : goal.invariant_of-self
invariant_of-self g c =
    let v = c.self.inside in
    let new = verifier_holding v.leader v.proposal (with_kind v.kinds c.args.kind c.restore.new.self) in
    let buffers : (other : Kind) → Buffers g.D.PartialEq.eq c.args.self.now.holds new other (cond (is_kind c.args.kind other) c.args.votes []) []
    = returns-in-Some-clause-buffers g c in
    sound_restored (g.S.Scheme.meaning v.scheme.value) g.D.PartialEq.eq v.round (verifier_holding v.leader v.proposal v.kinds) _ c.args.kind c.args.votes
    c.requires.proposals c.requires.kinds c.requires.once (rw (← c.self.view_is) at c.requires.none_wait) v.quorum c.self.invariant
    (rw (← c.self.view_is) at buffers)
