use Rattle.batcher_lives.proofs.Words.{vote_format, fields_of}
use Rattle.batcher_lives.proofs.Calls.{raise_err, raise_ok}
use Rattle.batcher_lives.proofs.life.raise.Goals as goal

pub returns-in-Ok : goal.returns-in-Ok
returns-in-Ok g c =
    λ floor handed was.
    raise_ok (vote_format g.G.Codec.format g.D.Codec.format) g.D.PartialEq.eq g.L.Log.is_honest g.L.Log.may_leave g.L.Log.has_failed floor
    c.bytes_are_of_one_journal.ensures c.args.journal.now c.begin_epoch.new.self handed was
    c.in-Ok.ensures.honest (fields_of c.in-Some.owner.now) c.args.to c.args.finalization.now c.in-Ok.ensures.raised.0 c.in-Ok.ensures.raised.1
    c.in-Ok.ensures.raised.2

pub returns-in-Err : goal.returns-in-Err
returns-in-Err g c =
    λ floor handed was.
    raise_err (vote_format g.G.Codec.format g.D.Codec.format) g.D.PartialEq.eq g.L.Log.is_honest g.L.Log.may_leave g.L.Log.has_failed floor
    c.bytes_are_of_one_journal.ensures c.args.journal.now c.begin_epoch.new.self handed was
    c.in-Err.ensures.honest (fields_of c.in-Some.owner.now) c.args.to c.args.finalization.now c.in-Err.field-0 c.in-Err.ensures.memory c.in-Err.ensures.full
    c.in-Err.ensures.lower c.in-Err.ensures.closed c.in-Err.ensures.shut c.in-Err.ensures.leaves

pub returns-in-Ok-raise_floor : goal.returns-in-Ok-raise_floor
returns-in-Ok-raise_floor g c =
    λ floor handed was.
    raise_ok (vote_format g.G.Codec.format g.D.Codec.format) g.D.PartialEq.eq g.L.Log.is_honest g.L.Log.may_leave g.L.Log.has_failed floor
    c.bytes_are_of_one_journal.ensures c.args.journal.now c.raise_floor.new.self handed was
    c.in-Ok-raise_floor.ensures.honest c.args.journal.now.contents.owner c.args.to c.args.finalization.now c.in-Ok-raise_floor.ensures.raised.0
    c.in-Ok-raise_floor.ensures.raised.1
    c.in-Ok-raise_floor.ensures.raised.2

pub returns-in-Err-raise_floor : goal.returns-in-Err-raise_floor
returns-in-Err-raise_floor g c =
    λ floor handed was.
    raise_err (vote_format g.G.Codec.format g.D.Codec.format) g.D.PartialEq.eq g.L.Log.is_honest g.L.Log.may_leave g.L.Log.has_failed floor
    c.bytes_are_of_one_journal.ensures c.args.journal.now c.raise_floor.new.self handed was
    c.in-Err-raise_floor.ensures.honest c.args.journal.now.contents.owner c.args.to c.args.finalization.now c.in-Err-raise_floor.field-0
    c.in-Err-raise_floor.ensures.memory c.in-Err-raise_floor.ensures.full
    c.in-Err-raise_floor.ensures.lower c.in-Err-raise_floor.ensures.closed c.in-Err-raise_floor.ensures.shut c.in-Err-raise_floor.ensures.leaves
