use Rattle.batcher_round.proofs.Words.{◌≡◌, ◌∙◌, ◌+◌, ◌≤◌, ◌||◌, ◌∷◌, [], not, nat_lt, cond, is_ok, true, false, ap, sym, subst, arith, length-append}
use Rattle.batcher_round.proofs.Words.{Notarization, Finalization, count, none_below, RoundState, is_seen_for, observed, has_block_held, missing_one}
use Rattle.batcher_round.proofs.Words.{missing_none}
use Rattle.batcher_round.proofs.round.ballots.missing_among.Goals as goal
use Rattle.batcher_round.proofs.round.ballots.missing_among.Goals.{then-is_ok, else-is_ok, then-not-has_block_at, else-not-has_block_at}

pub loop-index-init : goal.loop-index-init
loop-index-init g c = record {
  found = λ held same. c.in_ok-missing.ensures.items;
  lower = sym (none_below c.args.tracker.now.signers);
  low = omega arith;
  few = rw c.in_ok-missing.ensures.items (omega arith);
  room = c.in_ok-missing.ensures.capacity;
}

pub loop-index-preserved : goal.loop-index-preserved
loop-index-preserved g c =
    let same = g.D.PartialEq.eq in
    let p = c.args.proposal.now in
    let i = c.from_usize-participant.result in
    let signers = c.args.tracker.now.signers in
    let next = subst (λ n. count (λ s. nat_lt s (n + 1)) signers ≡ c.loop-index.lower + cond (is_ok c.place_after-place.result) 1 0)
    c.from_usize-participant.ensures c.place_after-place.ensures.next in
    let seen = c.has_block_at.ensures i.0 c.place_after-place.ensures.place in
    let block : (held : RoundState g.row.G.Denot g.row.D.Denot) → held.tracked ≡ c.args.tracker.now.holds
    → has_block_held same held i.0 p ≡ c.has_block_at.result = λ held is.
    ap (λ t. is_seen_for same p (observed t Notarization i.0) || is_seen_for same p (observed t Finalization i.0)) is ∙ sym seen in
    let lower : c.if-is_ok.lower ≡ count (λ s. nat_lt s (c.loop-index.index + 1)) signers = elim c.if-is_ok.branch [
      | then-is_ok w ↦
          let is : is_ok c.place_after-place.result ≡ true = sym c.is_ok.ensures.value ∙ w.if-is_ok.true in
          let more = rw is at next in
          omega (arith, w.lower-is, more)
      | else-is_ok w ↦
          let is : is_ok c.place_after-place.result ≡ false = sym c.is_ok.ensures.value ∙ w.if-is_ok.false in
          let more = rw is at next in
          omega (arith, w.lower-is, more)
    ] in
    let low : c.if-is_ok.lower ≤ c.loop-index.index + 1 = elim c.if-is_ok.branch [
      | then-is_ok w ↦ rw w.lower-is (omega (arith, c.loop-index.invariant.low))
      | else-is_ok w ↦ rw w.lower-is (omega (arith, c.loop-index.invariant.low))
    ] in
    elim c.if-not-has_block_at.branch [
      | then-not-has_block_at w ↦ record {
        found = λ held is.
            rw (w.missing-is, w.push_reserved.ensures.items)
            (missing_one same held p c.loop-index.index i c.loop-index.missing.items c.from_usize-participant.ensures
            (ap not (block held is ∙ w.if-not-has_block_at.true)) (c.loop-index.invariant.found held is));
        lower = lower;
        low = low;
        few =
            rw (w.missing-is, w.push_reserved.ensures.items)
            (omega (arith, length-append c.loop-index.missing.items (i ∷ []), c.loop-index.invariant.few));
        room = rw (w.missing-is, w.push_reserved.ensures.capacity) c.loop-index.invariant.room;
      }
      | else-not-has_block_at w ↦ record {
        found = λ held is.
            rw w.missing-is (missing_none same held p c.loop-index.index i c.loop-index.missing.items c.from_usize-participant.ensures
            (ap not (block held is ∙ w.if-not-has_block_at.false)) (c.loop-index.invariant.found held is));
        lower = lower;
        low = low;
        few = rw w.missing-is (omega (arith, c.loop-index.invariant.few));
        room = rw w.missing-is c.loop-index.invariant.room;
      }
    ]
