use Rattle.batcher_lives.proofs.Words.{vote_format, IsLived}
use Rattle.batcher_lives.proofs.life.live.Given as goal

abbrev pub invariant-loop-deed : goal.invariant-loop-deed
invariant-loop-deed g l =
    IsLived (vote_format g.G.Codec.format g.D.Codec.format) g.D.PartialEq.eq g.L.Log.is_honest
    g.L.Log.may_leave l.fn.floor l.place l.handed.items
