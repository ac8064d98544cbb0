use Rattle.batcher_reader.proofs.Words.{◌≡◌, ◌<◌, All, length, AllPass, quorum_of, EachOnce, index_of_signer}
use Rattle.batcher_reader.proofs.calls.quorum_of.Given as goal

abbrev pub invariant-loop-index : goal.invariant-loop-index
invariant-loop-index g l = record {
  end : l.index-end ≡ quorum_of (length (g.S.Scheme.meaning l.scheme).participants);
  told : length l.attestations.items ≡ l.index;
  attested : AllPass ((g.S.Scheme.meaning l.scheme).attests l.subject) l.attestations.items;
  below : All (λ a. index_of_signer a < l.index) l.attestations.items;
  once : EachOnce index_of_signer l.attestations.items;
}
