use Rattle.batcher_types.proofs.Words.{◌∙◌, ◌++◌, w64, refl, to_be_bytes, Holds256, round_bytes}
use Rattle.batcher_types.specs.Hashed.{proposal_bytes}
use Rattle.batcher_types.proofs.HashingLemmas.{fed_both}
use Rattle.batcher_types.proofs.scheme.hashing.add_proposal.Goals as goal

pub returns : goal.returns
unfolding proposal_bytes
returns c = λ m h.
    let round = round_bytes c.args.proposal.round in
    let parent = to_be_bytes w64 c.args.proposal.parent.0 in
    let payload = c.args.proposal.payload.0 in
    let first = fed_both (λ t. Holds256 c.update.new.self t) m round parent round c.as_slice.result.now
    refl (c.as_slice.ensures ∙ c.to_be_bytes.ensures) (c.update.ensures _ (c.add_round.ensures m h)) in
    fed_both (λ t. Holds256 c.update-2.new.self t) m (round ++ parent) payload (round ++ parent) c.as_slice-2.result.now
    refl c.as_slice-2.ensures (c.update-2.ensures _ first)
