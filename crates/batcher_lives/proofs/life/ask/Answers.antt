use Rattle.batcher_lives.proofs.Words.{subst, sym, vote_format, LeadsToOpen}
use Rattle.batcher_lives.proofs.Calls.{ask_open}
use Rattle.batcher_lives.proofs.life.ask.Goals as goal

pub returns-in-Ok : goal.returns-in-Ok
returns-in-Ok g c =
    λ floor was.
    subst (λ vs. LeadsToOpen (vote_format g.G.Codec.format g.D.Codec.format) g.D.PartialEq.eq g.L.Log.is_honest g.L.Log.may_leave floor c.args.journal.now vs)
    (sym c.in-Ok.ensures.items)
    (ask_open (vote_format g.G.Codec.format g.D.Codec.format) g.D.PartialEq.eq g.L.Log.is_honest g.L.Log.may_leave floor c.args.journal.now
    c.args.handed.now.items c.args.subject.now c.in-Known.vote was c.in-Known.ensures)
