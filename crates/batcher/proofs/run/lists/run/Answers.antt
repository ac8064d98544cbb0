use Rattle.batcher.proofs.Words.{subst, ◌≡◌, ◌∙◌, ◌++◌, ◌∷◌, ◌+◌, [], refl, sym, ap, take, arith, length-append, common_steps, take_more, config, history}
use Rattle.batcher.proofs.Words.{laws_by, Goes, goes_first, goes_more, goes_to}
use Rattle.batcher.proofs.run.lists.run.Goals as goal

pub step-requires : goal.step-requires
step-requires g c =
    rw (c.loop-call.invariant.scheme, c.loop-call.invariant.number, c.call-item.is) (c.requires.calls c.loop-call.call-index c.call-item.result (omega arith))

pub loop-call-init : goal.loop-call-init
loop-call-init g c =
    let round = c.args.round in
    let x = config (g.S.Scheme.meaning round.scheme) g.S.PublicKey.Ord.cmp g.S.Signature.PartialEq.eq g.D.PartialEq.eq round.number round.mode in
    let stream = g.R.Rng.stream c.args.rng.now in
    record {
      goes = rw c.in-Ok.ensures.items (subst (λ held. Goes x stream [] [] held stream) (sym c.requires.fresh) (goes_first x stream));
      told = rw c.in-Ok.ensures.items refl;
      room = c.in-Ok.ensures.capacity;
      scheme = refl;
      number = refl;
      mode = refl;
    }

pub loop-call-preserved : goal.loop-call-preserved
loop-call-preserved g c =
    let round = c.args.round in
    let x = config (g.S.Scheme.meaning round.scheme) g.S.PublicKey.Ord.cmp g.S.Signature.PartialEq.eq g.D.PartialEq.eq round.number round.mode in
    let calls = take c.loop-call.call-index c.args.calls.now in
    let answers = c.loop-call.answers.items in
    let more : take (c.loop-call.call-index + 1) c.args.calls.now ≡ calls ++ c.call-item.result ∷ []
    = take_more c.args.calls.now c.loop-call.call-index c.call-item.result (omega arith) ∙ ap (λ y. calls ++ y ∷ []) (sym c.call-item.is) in
    let stepped = rw (c.loop-call.invariant.scheme, c.loop-call.invariant.number, c.loop-call.invariant.mode) at c.step.ensures.steps in
    let met = (rw (c.loop-call.invariant.scheme, c.loop-call.invariant.number, c.loop-call.invariant.mode) at c.step.ensures.meets) (history calls answers)
    c.loop-call.invariant.goes.represents in
    record {
      goes =
          rw (more, c.push_reserved.ensures.items)
          (goes_more x (g.R.Rng.stream c.args.rng.now) calls answers c.loop-call.round.holds (g.R.Rng.stream c.loop-call.rng) c.call-item.result c.step.result
          c.step.new.round.holds (g.R.Rng.stream c.step.new.rng)
          c.loop-call.invariant.goes stepped met.0 met.1);
      told = rw c.push_reserved.ensures.items (omega (arith, length-append answers (c.step.result ∷ []), c.loop-call.invariant.told));
      room = rw c.push_reserved.ensures.capacity c.loop-call.invariant.room;
      scheme = c.step.ensures.same.0 ∙ c.loop-call.invariant.scheme;
      number = c.step.ensures.same.1 ∙ c.loop-call.invariant.number;
      mode = c.step.ensures.same.2 ∙ c.loop-call.invariant.mode;
    }

pub returns-after-loop-call-clause-ran : goal.returns-after-loop-call-clause-ran
returns-after-loop-call-clause-ran g c =
    let round = c.args.round in
    let x = config (g.S.Scheme.meaning round.scheme) g.S.PublicKey.Ord.cmp g.S.Signature.PartialEq.eq g.D.PartialEq.eq round.number round.mode in
    let laws = laws_by x (g.met.S.Scheme.lawful round.scheme) c.number.ensures.participants g.met.D.Digest.identical g.met.D.Eq.laws.refl in
    let all : take c.loop-call.call-index c.args.calls.now ≡ c.args.calls.now = grind (arith, common_steps) in
    goes_to x laws (g.R.Rng.stream c.args.rng.now) c.args.calls.now c.loop-call.answers.items c.loop-call.round.holds (g.R.Rng.stream c.loop-call.rng)
    (rw all at c.loop-call.invariant.goes)
