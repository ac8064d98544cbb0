use Rattle.batcher_round.proofs.Words.{◌∙◌, false, refl, sym, kind_of, signer_of, AddsVote, IsNew, added_new, not_buffered, right_eligible, kept_outcome}
use Rattle.batcher_round.proofs.round.ballots.Ballots.admit.Goals as goal

pub record_at-requires-clause-range : goal.record_at-requires-clause-range
record_at-requires-clause-range g c =
    let range = rw (← c.self.view_is) at c.requires.vote.1 in
    rw c.self.invariant.bound range

pub add_reserved-requires-clause-fresh : goal.add_reserved-requires-clause-fresh
add_reserved-requires-clause-fresh g c =
    let b = c.self.inside in
    let held = b.tracker.holds in
    let vote = c.args.vote.now in
    let added = sym c.in_ok-outcome.ensures.outcome ∙ kept_outcome c.in_ok-outcome.outcome (sym c.is_kept.ensures ∙ c.if-is_kept.true) in
    let new : IsNew held vote = added_new _ held _ vote b.tracker.participants added in
    rw c.in_ok-make_room.ensures.holds
    (not_buffered b.verifier.holds (kind_of vote) (signer_of vote) (rw new.none at (c.self.invariant.within (kind_of vote) (signer_of vote))))

pub invariant_of-self-then-is_kept : goal.invariant_of-self-then-is_kept
invariant_of-self-then-is_kept g c =
    let b = c.self.inside in
    let same = g.D.PartialEq.eq in
    let vote = c.args.vote.now in
    let made = c.in_ok-make_room.ensures in
    let added = sym c.in_ok-outcome.ensures.outcome ∙ kept_outcome c.in_ok-outcome.outcome (sym c.is_kept.ensures ∙ c.if-is_kept.true) in
    let new : IsNew b.tracker.holds vote = added_new _ b.tracker.holds _ vote b.tracker.participants added in
    let adds : AddsVote same b.verifier.holds vote false c.add_reserved.new.self.holds = rw made.holds at c.add_reserved.ensures.adds in
    rw (c.add_reserved.ensures.same.0, made.same.0, c.add_reserved.ensures.same.2, made.same.2)
    (right_eligible (g.S.Scheme.meaning b.verifier.scheme) same b.tracker c.record_at.new.self b.verifier.holds b.verifier.quorum c.self.invariant _ _ vote
    c.in_ok-outcome.ensures.participants c.in_ok-outcome.ensures.mode c.in_ok-outcome.ensures.records c.add_reserved.new.self.holds false adds new refl)
