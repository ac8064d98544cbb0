use Rattle.batcher_lives.proofs.Words.{subst, sym, vote_format, IsLived}
use Rattle.batcher_lives.proofs.Calls.{all_compatible, all_kept, all_once}
use Rattle.batcher_lives.proofs.life.live.Goals as goal

pub loop-deed-init : goal.loop-deed-init
loop-deed-init g c =
    subst (λ vs. IsLived (vote_format g.G.Codec.format g.D.Codec.format) g.D.PartialEq.eq g.L.Log.is_honest
    g.L.Log.may_leave c.args.floor c.first-place.result vs) (sym c.new-handed.ensures.items) c.first-place.ensures

pub loop-deed-preserved : goal.loop-deed-preserved
loop-deed-preserved g c = c.go_on-place.ensures c.args.floor c.loop-deed.invariant

pub returns-clause-compatible : goal.returns-clause-compatible
returns-clause-compatible g c =
    λ honestly.
    all_compatible (vote_format g.G.Codec.format g.D.Codec.format) g.D.PartialEq.eq g.L.Log.is_honest g.L.Log.may_leave
    c.args.floor c.handed_out_never_contradict.ensures c.shut.result c.loop-deed.handed.items
    (c.shut.ensures c.args.floor c.loop-deed.handed.items c.loop-deed.invariant) honestly

pub returns-clause-once : goal.returns-clause-once
returns-clause-once g c =
    λ honestly.
    all_once (vote_format g.G.Codec.format g.D.Codec.format) g.D.PartialEq.eq g.L.Log.is_honest g.L.Log.may_leave
    c.args.floor c.handed_out_never_contradict.ensures c.shut.result c.loop-deed.handed.items
    (c.shut.ensures c.args.floor c.loop-deed.handed.items c.loop-deed.invariant) honestly

pub returns-clause-kept : goal.returns-clause-kept
returns-clause-kept g c =
    λ honestly.
    all_kept (vote_format g.G.Codec.format g.D.Codec.format) g.D.PartialEq.eq g.L.Log.is_honest g.L.Log.may_leave
    c.args.floor c.handed_out_never_contradict.ensures c.shut.result c.loop-deed.handed.items
    (c.shut.ensures c.args.floor c.loop-deed.handed.items c.loop-deed.invariant) honestly
