use Rattle.batcher_lives.proofs.Words.{subst, sym, vote_format, IsShut}
use Rattle.batcher_lives.proofs.Calls.{not_opened, opens, restart_err}
use Rattle.batcher_lives.proofs.life.restart.Goals as goal

pub returns-in-Ok-open : goal.returns-in-Ok-open
returns-in-Ok-open g c =
    λ floor handed was.
    opens (vote_format g.G.Codec.format g.D.Codec.format) g.D.PartialEq.eq g.L.Log.is_honest g.L.Log.may_leave g.L.Log.has_failed floor
    c.bytes_are_of_one_journal.ensures g.L.Log.is_settled g.L.Log.written g.met.L.Log.settled c.shut-log.result c.restart.new.self handed
    (c.shut-log.ensures floor handed was) c.in-Ok.ensures.honest c.in-Ok.ensures.settled c.in-Ok.ensures.found
    c.in-Ok-open.journal c.in-Ok-open.ensures.opened.0 c.in-Ok-open.ensures.opened.1 c.in-Ok-open.ensures.opened.4

pub returns-in-Err-open : goal.returns-in-Err-open
returns-in-Err-open g c =
    λ floor handed was.
    subst (λ log. IsShut (vote_format g.G.Codec.format g.D.Codec.format) g.D.PartialEq.eq g.L.Log.is_honest g.L.Log.may_leave floor log handed)
    (sym c.in-Err-open.ensures.refused.0)
    (not_opened (vote_format g.G.Codec.format g.D.Codec.format) g.D.PartialEq.eq g.L.Log.is_honest g.L.Log.may_leave g.L.Log.has_failed floor
    c.bytes_are_of_one_journal.ensures g.L.Log.is_settled g.L.Log.written g.met.L.Log.settled c.shut-log.result c.restart.new.self handed
    (c.shut-log.ensures floor handed was) c.in-Ok.ensures.honest c.in-Ok.ensures.settled c.in-Ok.ensures.found)

pub returns-in-Err : goal.returns-in-Err
returns-in-Err g c =
    λ floor handed was.
    restart_err (vote_format g.G.Codec.format g.D.Codec.format) g.D.PartialEq.eq g.L.Log.is_honest g.L.Log.may_leave g.L.Log.has_failed floor
    c.bytes_are_of_one_journal.ensures g.L.Log.is_settled g.L.Log.written g.met.L.Log.settled c.shut-log.result c.restart.new.self handed
    (c.shut-log.ensures floor handed was) c.in-Err.ensures.honest c.in-Err.ensures.err
