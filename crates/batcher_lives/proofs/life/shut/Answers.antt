use Rattle.batcher_lives.proofs.Words.{subst, sym, vote_format, IsLived, IsShut}
use Rattle.batcher_lives.proofs.Calls.{shut_open}
use Rattle.batcher_lives.proofs.life.shut.Goals as goal

pub returns-in-Open : goal.returns-in-Open
returns-in-Open g c =
    λ floor handed was.
    subst (λ log. IsShut (vote_format g.G.Codec.format g.D.Codec.format) g.D.PartialEq.eq g.L.Log.is_honest g.L.Log.may_leave floor log handed)
    (sym c.into_log.ensures)
    (shut_open (vote_format g.G.Codec.format g.D.Codec.format) g.D.PartialEq.eq g.L.Log.is_honest g.L.Log.may_leave g.L.Log.has_failed floor
    c.bytes_are_of_one_journal.ensures g.L.Log.is_settled g.L.Log.written g.met.L.Log.settled c.in-Open.journal handed
    (subst (λ place. IsLived (vote_format g.G.Codec.format g.D.Codec.format) g.D.PartialEq.eq g.L.Log.is_honest g.L.Log.may_leave floor place handed)
    c.in-Open.is was)
    c.is_open.ensures.on_disk)
