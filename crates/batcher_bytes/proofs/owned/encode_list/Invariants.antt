use Rattle.batcher_bytes.proofs.Words.{◌≡◌, ◌++◌, length, take, w64, flat_map, number_bytes, AreValues}
use Rattle.batcher_bytes.proofs.owned.encode_list.Given as goal

abbrev pub invariant-loop-item : goal.invariant-loop-item
invariant-loop-item g l =
    (l.out.items ≡ l.fn.out.items ++ (number_bytes w64 (length l.list)
    ++ flat_map g.T.Codec.format.encoding (take l.item-index l.list)))
    × AreValues g.T.Codec.format (take l.item-index l.list)
