use Rattle.batcher_reader.proofs.Words.{◌≡◌, ◌≤◌, All, length, take, vec_capacity, AllZip, MayCall, IsCallOf}
use Rattle.batcher_reader.proofs.calls.calls_of.Given as goal

abbrev pub invariant-loop-command : goal.invariant-loop-command
invariant-loop-command g l = record {
  may : All (MayCall (g.S.Scheme.meaning l.scheme) l.round) l.calls.items;
  each : AllZip (IsCallOf (g.S.Scheme.meaning l.scheme) l.round) (take l.command-index l.commands)
      l.calls.items;
  told : length l.calls.items ≡ l.command-index;
  room : length l.commands ≤ vec_capacity l.calls;
}
