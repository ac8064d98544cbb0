use Rattle.batcher_bytes.proofs.Words.{◌≡◌, ◌-◌, items_at}
use Rattle.batcher_bytes.proofs.Items.{with_front}
use Rattle.batcher_bytes.proofs.owned.items_of.Given as goal

abbrev pub invariant-loop : goal.invariant-loop
invariant-loop g l =
    with_front g.T.Codec.format l.items.items
    (items_at g.T.Codec.format (l.count - l.counter) l.rest)
    ≡ items_at g.T.Codec.format l.count l.bytes
