use Rattle.batcher_validator.proofs.Words.{◌≡◌, ◌++◌, ◌+◌, ◌-◌, ◌^◌, map, min, take, drop}
use Rattle.batcher_validator.proofs.presence.Presence.enter.Given as goal

abbrev pub invariant-loop-silence : goal.invariant-loop-silence
invariant-loop-silence l =
    l.silence-items ≡ map (λ silence. min (silence + 1) (2 ^ 64 - 1)) (take l.silence-index l.fn.self)
    ++ drop l.silence-index l.fn.self
