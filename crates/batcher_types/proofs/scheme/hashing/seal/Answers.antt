use Rattle.batcher_types.proofs.Words.{◌∙◌, [], ap, ◌++◌, sha256, hashed_subject}
use Rattle.batcher_types.specs.Hashed.{seal_of}
use Rattle.batcher_types.proofs.scheme.hashing.seal.Goals as goal

pub returns : goal.returns
unfolding seal_of
returns c =
    c.finalize.ensures _ (c.add_subject.ensures _ (c.update.ensures [] c.new-hasher.ensures))
    ∙ ap (λ k. sha256 (k ++ hashed_subject c.args.subject)) (c.as_slice.ensures ∙ c.key-key.ensures)
