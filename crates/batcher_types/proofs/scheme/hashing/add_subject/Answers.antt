use Rattle.batcher_types.proofs.Words.{refl, [], ◌∷◌, Holds256, round_bytes, proposal_bytes}
use Rattle.batcher_types.specs.Hashed.{hashed_subject}
use Rattle.batcher_types.proofs.HashingLemmas.{fed_both}
use Rattle.batcher_types.proofs.scheme.hashing.add_subject.Goals as goal

pub returns-in-Notarize : goal.returns-in-Notarize
unfolding hashed_subject
returns-in-Notarize c = λ m h.
    rw c.in-Notarize.is (fed_both (λ t. Holds256 c.add_proposal.new.hasher t) m (0 ∷ []) (proposal_bytes c.in-Notarize.proposal) c.as_slice.result.now
    (proposal_bytes c.in-Notarize.proposal)
    c.as_slice.ensures refl (c.add_proposal.ensures _ (c.update.ensures m h)))

pub returns-in-Nullify : goal.returns-in-Nullify
unfolding hashed_subject
returns-in-Nullify c = λ m h.
    rw c.in-Nullify.is (fed_both (λ t. Holds256 c.add_round.new.hasher t) m (1 ∷ []) (round_bytes c.in-Nullify.round) c.as_slice-in-Nullify.result.now
    (round_bytes c.in-Nullify.round)
    c.as_slice-in-Nullify.ensures refl (c.add_round.ensures _ (c.update-in-Nullify.ensures m h)))

pub returns-in-Finalize : goal.returns-in-Finalize
unfolding hashed_subject
returns-in-Finalize c = λ m h.
    rw c.in-Finalize.is (fed_both (λ t. Holds256 c.add_proposal-in-Finalize.new.hasher t) m (2 ∷ []) (proposal_bytes c.in-Finalize.proposal)
    c.as_slice-in-Finalize.result.now (proposal_bytes c.in-Finalize.proposal)
    c.as_slice-in-Finalize.ensures refl (c.add_proposal-in-Finalize.ensures _ (c.update-in-Finalize.ensures m h)))
