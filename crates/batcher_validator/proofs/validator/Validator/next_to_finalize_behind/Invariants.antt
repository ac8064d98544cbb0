use Rattle.batcher_validator.proofs.Words.{◌≡◌, ◌<◌, ℕ, Proposal, Finalize, node_config, IsNotToSign}
use Rattle.batcher_validator.proofs.validator.Validator.next_to_finalize_behind.Given as goal

abbrev pub invariant-loop-view : goal.invariant-loop-view
invariant-loop-view g l =
    (k : ℕ) → k < l.view → (p : Proposal g.row.D.Denot) → p.round.view.0 ≡ k
    → IsNotToSign (node_config g.S.Scheme.meaning g.S.PublicKey.Ord.cmp g.S.Signature.PartialEq.eq
    g.D.PartialEq.eq) l.fn.self (Finalize p)
