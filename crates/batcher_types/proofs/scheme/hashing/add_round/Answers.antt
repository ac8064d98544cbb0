use Rattle.batcher_types.proofs.Words.{◌∙◌, w64, to_be_bytes, Holds256}
use Rattle.batcher_types.specs.Hashed.{round_bytes}
use Rattle.batcher_types.proofs.HashingLemmas.{fed_both}
use Rattle.batcher_types.proofs.scheme.hashing.add_round.Goals as goal

pub returns : goal.returns
unfolding round_bytes
returns c = λ m h.
    fed_both (λ t. Holds256 c.update-2.new.self t) m (to_be_bytes w64 c.args.round.epoch.0) (to_be_bytes w64 c.args.round.view.0) c.as_slice.result.now
    c.as_slice-2.result.now
    (c.as_slice.ensures ∙ c.to_be_bytes.ensures) (c.as_slice-2.ensures ∙ c.to_be_bytes-2.ensures)
    (c.update-2.ensures _ (c.update.ensures m h))
