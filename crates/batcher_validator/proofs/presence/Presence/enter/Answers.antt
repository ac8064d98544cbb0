use Rattle.batcher_validator.proofs.Words.{◌≡◌, ◌++◌, ◌+◌, ◌-◌, ◌^◌, ◌<◌, ◌∙◌, ℕ, arith, drop, get_or, length, map, min, set, subst, sym, take}
use Rattle.batcher_validator.proofs.Words.{get_or_default_zero, map_over_more}
use Rattle.batcher_validator.proofs.presence.Presence.enter.Goals as goal

pub loop-silence-preserved : goal.loop-silence-preserved
loop-silence-preserved c =
    let old = c.args.self.now in
    let now = c.loop-silence.silence-items in
    let i = c.loop-silence.silence-index in
    let more : ℕ → ℕ = λ silence. min (silence + 1) (2 ^ 64 - 1) in
    let items = c.deref_mut-silence-items.ensures.value ∙ c.self.view_is in
    let within = subst (λ xs. i < length xs) items c.loop-silence-test.true in
    let here : i < length now = omega (arith, c.loop-silence-test.true, c.loop-silence.auto.silence-items) in
    let it = get_or now i 0 in
    subst (λ n. set now i n ≡ map more (take (i + 1) old) ++ drop (i + 1) old) (sym c.saturating_add.ensures)
    (map_over_more more old now i it within c.loop-silence.invariant (sym (get_or_default_zero now i it here)))
