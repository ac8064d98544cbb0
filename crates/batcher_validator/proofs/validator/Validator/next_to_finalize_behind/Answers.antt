use Rattle.batcher_validator.proofs.Words.{◌≡◌, arith, cases_lt, inl, inr, refl, Proposal, Finalize, node_config, IsNotToSign}
use Rattle.batcher_validator.proofs.Deciding.{all_views, before_final, one_more}
use Rattle.batcher_validator.proofs.Settling.{decided_not_signed}
use Rattle.batcher_validator.proofs.validator.Validator.next_to_finalize_behind.Goals.{else-loop-view-test, then-loop-view-test+in-None+else-view-view-end}
use Rattle.batcher_validator.proofs.validator.Validator.next_to_finalize_behind.Goals as goal

pub loop-view-init : goal.loop-view-init
loop-view-init g c = λ k lt.
    let config = node_config g.S.Scheme.meaning g.S.PublicKey.Ord.cmp g.S.Signature.PartialEq.eq g.D.PartialEq.eq in
    let old = c.args.self.now in
    elim (cases_lt k old.voter.node.window.finalized) [
      | inl below ↦ before_final config old k below
      | inr from ↦ elim (cases_lt old.voter.node.window.finalized k) [
        | inl behind ↦ decided_not_signed config old refl k
            (λ past earlier is. c.decided-view.ensures.decides past earlier is k
            (omega (arith, behind, c.decided-view.ensures.first)) lt)
        | inr up_to ↦ λ p here. c.requires.not_there p (omega (arith, from, up_to, here))
      ]
    ]

pub loop-view-preserved : goal.loop-view-preserved
loop-view-preserved g c =
    one_more (λ k. (p : Proposal g.row.D.Denot) → p.round.view.0 ≡ k
    → IsNotToSign (node_config g.S.Scheme.meaning g.S.PublicKey.Ord.cmp g.S.Signature.PartialEq.eq
    g.D.PartialEq.eq) c.args.self.now (Finalize p)) c.loop-view.view c.loop-view.invariant
    (c.to_finalize_in.ensures.none c.in-None.is)

pub returns-clause-none : goal.returns-clause-none
returns-clause-none g c = λ none.
    let config = node_config g.S.Scheme.meaning g.S.PublicKey.Ord.cmp g.S.Signature.PartialEq.eq g.D.PartialEq.eq in
    let old = c.args.self.now in
    all_views config old c.last_parent-view-end.result c.last_parent-view-end.ensures refl
    (elim c.loop-view-test.branch [
      | else-loop-view-test w ↦ λ k lt. c.loop-view.invariant k (omega (arith, lt, w.loop-view-test.false))
      | then-loop-view-test+in-None+else-view-view-end w ↦ λ k lt. one_more
          (λ n. (p : Proposal g.row.D.Denot) → p.round.view.0 ≡ n → IsNotToSign config old (Finalize p))
          c.loop-view.view c.loop-view.invariant (w.to_finalize_in.ensures.none w.in-None.is) k
          (omega (arith, lt))
    ])
