use Rattle.batcher_lives.proofs.Words.{[], inr, subst, sym, ◌≡◌, ◌⊎◌, vote_format, IsShut, begun, IsText, fields_of}
use Rattle.batcher_lives.proofs.Calls.{begin_err, begin_ok}
use Rattle.batcher_lives.proofs.life.first.Goals as goal

pub returns-in-Ok-open : goal.returns-in-Ok-open
returns-in-Ok-open g c =
    begin_ok (vote_format g.G.Codec.format g.D.Codec.format) g.D.PartialEq.eq g.L.Log.is_honest g.L.Log.may_leave g.L.Log.has_failed c.args.floor
    c.bytes_are_of_one_journal.ensures (fields_of c.args.owner.now) c.args.finalization.now c.in-Ok-open.journal
    (g.L.Log.written c.begin.new.log) c.in-Ok-open.ensures.opened.0 c.in-Ok.ensures.begun.1 c.in-Ok-open.ensures.opened.4

pub returns-in-Err-open : goal.returns-in-Err-open
returns-in-Err-open g c =
    subst (λ log. IsShut (vote_format g.G.Codec.format g.D.Codec.format) g.D.PartialEq.eq g.L.Log.is_honest g.L.Log.may_leave c.args.floor log [])
    (sym c.in-Err-open.ensures.refused.0)
    (begin_err (vote_format g.G.Codec.format g.D.Codec.format) g.D.PartialEq.eq g.L.Log.is_honest g.L.Log.may_leave g.L.Log.has_failed c.args.floor
    c.bytes_are_of_one_journal.ensures (fields_of c.args.owner.now) c.args.finalization.now
    c.begin.new.log (λ left honest may. inr (subst (λ t. IsText (vote_format g.G.Codec.format g.D.Codec.format) t
    (begun (fields_of c.args.owner.now) c.args.floor c.args.finalization.now))
    (sym (g.met.L.Log.settled c.begin.new.log left honest c.in-Ok.ensures.begun.0 may)) c.in-Ok.ensures.begun.1)))

pub returns-in-Err : goal.returns-in-Err
returns-in-Err g c =
    begin_err (vote_format g.G.Codec.format g.D.Codec.format) g.D.PartialEq.eq g.L.Log.is_honest g.L.Log.may_leave g.L.Log.has_failed c.args.floor
    c.bytes_are_of_one_journal.ensures (fields_of c.args.owner.now) c.args.finalization.now
    c.begin.new.log (λ left honest may. subst (λ t. (left ≡ t) ⊎ IsText (vote_format g.G.Codec.format g.D.Codec.format) left
    (begun (fields_of c.args.owner.now) c.args.floor c.args.finalization.now)) c.requires.empty
    (c.in-Err.ensures.leaves left honest may))
