-- One of each kind, of which one changes or all do.
use Rattle.std.specs.Borrow.{Lends, MutBor, Fml, RattleType}
use Rattle.batcher_types.specs.declared.messages.Kind.{Kind}
use Rattle.batcher_types.specs.declared.messages.Kind.TheVariants.{Notarization, Nullification}
use Rattle.batcher_types.specs.declared.messages.Kind.TheVariants.{Finalization}
use Rattle.batcher_votes.specs.RoundState.{PerKind}
use Rattle.batcher_votes.specs.contracts.per_kind.PerKind.{the_row}

-- the same with another one of a kind
abbrev pub with_kind : {X : Type 0} → PerKind X → Kind → X → PerKind X
with_kind all Notarization one = record all { notarize = one }
with_kind all Nullification one = record all { nullify = one }
with_kind all Finalization one = record all { finalize = one }

-- what is left behind the borrowed one of a kind takes its place
abbrev pub LendsKind : (T : RattleType) → MutBor (PerKind T.Denot) → Kind → MutBor T.Denot → Fml
LendsKind T all kind one = Lends (the_row T) T all one (with_kind all.now kind)
