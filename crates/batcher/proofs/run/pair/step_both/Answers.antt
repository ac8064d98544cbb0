use Rattle.batcher.proofs.Words.{◌≡◌, ◌∙◌, ◌++◌, ◌∷◌, ◌+◌, [], refl, sym, ap, take, length, arith, common_steps, take_more, length-take-le, Retaining}
use Rattle.batcher.proofs.Words.{Releasing, config, history, in_mode, laws_by, Takes, pair_first, pair_more, pair_ends, pair_stops, pair_stops_later}
use Rattle.batcher.proofs.run.pair.step_both.Goals as goal

pub step-answer-requires : goal.step-answer-requires
step-answer-requires g c =
    rw (c.loop-call.invariant.scheme, c.loop-call.invariant.number, c.call-item.is) (c.requires.calls c.loop-call.call-index c.call-item.result (omega arith))

pub step-answer-requires-in-loop-call : goal.step-answer-requires-in-loop-call
step-answer-requires-in-loop-call g c =
    rw (c.loop-call.invariant.scheme_released, c.loop-call.invariant.number_released, c.call-item.is)
    (c.requires.calls c.loop-call.call-index c.call-item.result (omega arith))

pub loop-call-init : goal.loop-call-init
loop-call-init g c =
    let start = c.args.retaining.now in
    let x = config (g.S.Scheme.meaning start.scheme) g.S.PublicKey.Ord.cmp g.S.Signature.PartialEq.eq g.D.PartialEq.eq start.number Retaining in
    let stream = g.R.Rng.stream c.args.rng_a.now in
    record {
      goes =
          rw (c.requires.empty.0, c.requires.empty.1, c.requires.fresh.0, c.requires.fresh.1, c.requires.streams) (pair_first x stream);
      room = c.requires.room.0;
      room_released = c.requires.room.1;
      scheme = refl;
      number = refl;
      mode = c.requires.modes.0;
      scheme_released = c.requires.same.0;
      number_released = c.requires.same.1;
      mode_released = c.requires.modes.1;
    }

pub loop-call-preserved : goal.loop-call-preserved
loop-call-preserved g c =
    let start = c.args.retaining.now in
    let x = config (g.S.Scheme.meaning start.scheme) g.S.PublicKey.Ord.cmp g.S.Signature.PartialEq.eq g.D.PartialEq.eq start.number Retaining in
    let i = c.loop-call.invariant in
    let calls = take c.loop-call.call-index c.args.calls.now in
    let retained = c.loop-call.retained.items in
    let released = c.loop-call.released.items in
    let more : take (c.loop-call.call-index + 1) c.args.calls.now ≡ calls ++ c.call-item.result ∷ []
    = take_more c.args.calls.now c.loop-call.call-index c.call-item.result (omega arith) ∙ ap (λ y. calls ++ y ∷ []) (sym c.call-item.is) in
    let met = (rw (i.scheme, i.number, i.mode) at c.step-answer.ensures.meets) (history calls retained) i.goes.retains.represents in
    let met_released = (rw (i.scheme_released, i.number_released, i.mode_released) at c.step-answer-in-loop-call.ensures.meets) (history calls released)
    i.goes.releases.represents in
    let takes : Takes (in_mode x Retaining) (history calls retained) c.loop-call.retaining.holds (g.R.Rng.stream c.loop-call.rng_a) c.call-item.result
    c.step-answer.result c.step-answer.new.round.holds (g.R.Rng.stream c.step-answer.new.rng)
    = record { steps = rw (i.scheme, i.number, i.mode) at c.step-answer.ensures.steps; meets = met.0; answered = met.1 } in
    let taken : Takes (in_mode x Releasing) (history calls released) c.loop-call.releasing.holds (g.R.Rng.stream c.loop-call.rng_b) c.call-item.result
    c.step-answer-in-loop-call.result c.step-answer-in-loop-call.new.round.holds (g.R.Rng.stream c.step-answer-in-loop-call.new.rng)
    =
    record {
      steps = rw (i.scheme_released, i.number_released, i.mode_released) at
          c.step-answer-in-loop-call.ensures.steps;
      meets = met_released.0;
      answered = met_released.1;
    } in
    record {
      goes =
          rw (more, c.push_reserved.ensures.items, c.push_reserved-in-loop-call.ensures.items)
          (pair_more x (g.R.Rng.stream c.args.rng_a.now) calls retained released c.loop-call.retaining.holds c.loop-call.releasing.holds
          (g.R.Rng.stream c.loop-call.rng_a) (g.R.Rng.stream c.loop-call.rng_b) i.goes c.call-item.result
          c.step-answer.result c.step-answer-in-loop-call.result c.step-answer.new.round.holds c.step-answer-in-loop-call.new.round.holds
          (g.R.Rng.stream c.step-answer.new.rng) (g.R.Rng.stream c.step-answer-in-loop-call.new.rng)
          takes taken (sym c.is_refusal-is_refused.ensures ∙ c.if-is_refused.false)
          (sym c.is_refusal-is_refused-in-loop-call.ensures ∙ c.if-is_refused-2.false));
      room = rw c.push_reserved.ensures.capacity i.room;
      room_released = rw c.push_reserved-in-loop-call.ensures.capacity i.room_released;
      scheme = c.step-answer.ensures.same.0 ∙ i.scheme;
      number = c.step-answer.ensures.same.1 ∙ i.number;
      mode = c.step-answer.ensures.same.2 ∙ i.mode;
      scheme_released = c.step-answer-in-loop-call.ensures.same.0 ∙ i.scheme_released;
      number_released = c.step-answer-in-loop-call.ensures.same.1 ∙ i.number_released;
      mode_released = c.step-answer-in-loop-call.ensures.same.2 ∙ i.mode_released;
    }

pub returns-then-is_refused-clause-ran : goal.returns-then-is_refused-clause-ran
returns-then-is_refused-clause-ran g c =
    let start = c.args.retaining.now in
    let x = config (g.S.Scheme.meaning start.scheme) g.S.PublicKey.Ord.cmp g.S.Signature.PartialEq.eq g.D.PartialEq.eq start.number Retaining in
    let laws = laws_by x (g.met.S.Scheme.lawful start.scheme) c.number.ensures.participants g.met.D.Digest.identical g.met.D.Eq.laws.refl in
    let i = c.loop-call.invariant in
    let calls = take c.loop-call.call-index c.args.calls.now in
    let retained = c.loop-call.retained.items in
    let released = c.loop-call.released.items in
    let more : take (c.loop-call.call-index + 1) c.args.calls.now ≡ calls ++ c.call-item.result ∷ []
    = take_more c.args.calls.now c.loop-call.call-index c.call-item.result (omega arith) ∙ ap (λ y. calls ++ y ∷ []) (sym c.call-item.is) in
    let told : length calls ≡ c.loop-call.call-index = length-take-le c.loop-call.call-index c.args.calls.now (omega arith) in
    let index : c.len-index.result ≡ c.loop-call.call-index = omega (arith, c.len-index.ensures, c.loop-call.released.ok.0, i.goes.released_on.0, told) in
    let met = (rw (i.scheme, i.number, i.mode) at c.step-answer.ensures.meets) (history calls retained) i.goes.retains.represents in
    let takes : Takes (in_mode x Retaining) (history calls retained) c.loop-call.retaining.holds (g.R.Rng.stream c.loop-call.rng_a) c.call-item.result
    c.step-answer.result c.step-answer.new.round.holds (g.R.Rng.stream c.step-answer.new.rng)
    = record { steps = rw (i.scheme, i.number, i.mode) at c.step-answer.ensures.steps; meets = met.0; answered = met.1 } in
    rw (index, c.push_reserved.ensures.items)
    (pair_stops x laws (g.R.Rng.stream c.args.rng_a.now) c.args.calls.now calls retained released c.loop-call.retaining.holds c.loop-call.releasing.holds
    (g.R.Rng.stream c.loop-call.rng_a) (g.R.Rng.stream c.loop-call.rng_b) i.goes c.loop-call.call-index c.call-item.result (omega arith) refl more told
    c.step-answer.result c.step-answer.new.round.holds (g.R.Rng.stream c.step-answer.new.rng) takes
    (sym c.is_refusal-is_refused.ensures ∙ c.if-is_refused.true))

pub returns-then-is_refused-2-clause-ran : goal.returns-then-is_refused-2-clause-ran
returns-then-is_refused-2-clause-ran g c =
    let start = c.args.retaining.now in
    let x = config (g.S.Scheme.meaning start.scheme) g.S.PublicKey.Ord.cmp g.S.Signature.PartialEq.eq g.D.PartialEq.eq start.number Retaining in
    let laws = laws_by x (g.met.S.Scheme.lawful start.scheme) c.number.ensures.participants g.met.D.Digest.identical g.met.D.Eq.laws.refl in
    let i = c.loop-call.invariant in
    let calls = take c.loop-call.call-index c.args.calls.now in
    let retained = c.loop-call.retained.items in
    let released = c.loop-call.released.items in
    let more : take (c.loop-call.call-index + 1) c.args.calls.now ≡ calls ++ c.call-item.result ∷ []
    = take_more c.args.calls.now c.loop-call.call-index c.call-item.result (omega arith) ∙ ap (λ y. calls ++ y ∷ []) (sym c.call-item.is) in
    let told : length calls ≡ c.loop-call.call-index = length-take-le c.loop-call.call-index c.args.calls.now (omega arith) in
    let index : c.len-index.result ≡ c.loop-call.call-index = omega (arith, c.len-index.ensures, c.loop-call.released.ok.0, i.goes.released_on.0, told) in
    let met = (rw (i.scheme, i.number, i.mode) at c.step-answer.ensures.meets) (history calls retained) i.goes.retains.represents in
    let takes : Takes (in_mode x Retaining) (history calls retained) c.loop-call.retaining.holds (g.R.Rng.stream c.loop-call.rng_a) c.call-item.result
    c.step-answer.result c.step-answer.new.round.holds (g.R.Rng.stream c.step-answer.new.rng)
    = record { steps = rw (i.scheme, i.number, i.mode) at c.step-answer.ensures.steps; meets = met.0; answered = met.1 } in
    let met_released = (rw (i.scheme_released, i.number_released, i.mode_released) at c.step-answer-in-loop-call.ensures.meets) (history calls released)
    i.goes.releases.represents in
    let taken : Takes (in_mode x Releasing) (history calls released) c.loop-call.releasing.holds (g.R.Rng.stream c.loop-call.rng_b) c.call-item.result
    c.step-answer-in-loop-call.result c.step-answer-in-loop-call.new.round.holds (g.R.Rng.stream c.step-answer-in-loop-call.new.rng)
    =
    record {
      steps = rw (i.scheme_released, i.number_released, i.mode_released) at
          c.step-answer-in-loop-call.ensures.steps;
      meets = met_released.0;
      answered = met_released.1;
    } in
    rw (index, c.push_reserved.ensures.items, c.push_reserved-in-loop-call.ensures.items)
    (pair_stops_later x laws (g.R.Rng.stream c.args.rng_a.now) c.args.calls.now calls retained released c.loop-call.retaining.holds c.loop-call.releasing.holds
    (g.R.Rng.stream c.loop-call.rng_a) (g.R.Rng.stream c.loop-call.rng_b) i.goes c.loop-call.call-index c.call-item.result (omega arith) refl more told
    c.step-answer.result c.step-answer-in-loop-call.result c.step-answer.new.round.holds c.step-answer-in-loop-call.new.round.holds
    (g.R.Rng.stream c.step-answer.new.rng) (g.R.Rng.stream c.step-answer-in-loop-call.new.rng)
    takes taken (sym c.is_refusal-is_refused.ensures ∙ c.if-is_refused.false) (sym c.is_refusal-is_refused-in-loop-call.ensures ∙ c.if-is_refused-2.true))

pub returns-clause-ran : goal.returns-clause-ran
returns-clause-ran g c =
    let start = c.args.retaining.now in
    let x = config (g.S.Scheme.meaning start.scheme) g.S.PublicKey.Ord.cmp g.S.Signature.PartialEq.eq g.D.PartialEq.eq start.number Retaining in
    let laws = laws_by x (g.met.S.Scheme.lawful start.scheme) c.number.ensures.participants g.met.D.Digest.identical g.met.D.Eq.laws.refl in
    let i = c.loop-call.invariant in
    let calls = take c.loop-call.call-index c.args.calls.now in
    let retained = c.loop-call.retained.items in
    let released = c.loop-call.released.items in
    let all : c.args.calls.now ≡ calls = sym (grind (arith, common_steps)) in
    pair_ends x laws (g.R.Rng.stream c.args.rng_a.now) c.args.calls.now calls retained released c.loop-call.retaining.holds c.loop-call.releasing.holds
    (g.R.Rng.stream c.loop-call.rng_a) (g.R.Rng.stream c.loop-call.rng_b) i.goes all
