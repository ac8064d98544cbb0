use Rattle.batcher_lives.proofs.Words.{subst, vote_format, IsLived}
use Rattle.batcher_lives.proofs.life.go_on.Goals as goal

pub returns-in-Restart : goal.returns-in-Restart
returns-in-Restart g c = λ floor was. c.restart.ensures floor c.args.handed.now.items was

pub returns-in-Open : goal.returns-in-Open
returns-in-Open g c =
    λ floor was.
    c.act.ensures floor (subst (λ place. IsLived (vote_format g.G.Codec.format g.D.Codec.format) g.D.PartialEq.eq
    g.L.Log.is_honest g.L.Log.may_leave floor place c.args.handed.now.items) c.in-Open.is was)
