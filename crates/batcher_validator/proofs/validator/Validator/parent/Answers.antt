use Rattle.batcher_validator.proofs.Words.{◌≡◌, ◌≤◌, ◌++◌, refl, subst, Proposal, conduct_of, IsGrounded, node_config, numbered, ForEachLife}
use Rattle.batcher_validator.proofs.Leading.{grounds_by, no_parent}
use Rattle.batcher_validator.proofs.validator.Validator.parent.Goals as goal

pub returns-in-Some-clause-grounds : goal.returns-in-Some-clause-grounds
returns-in-Some-clause-grounds g c =
    let config = node_config g.S.Scheme.meaning g.S.PublicKey.Ord.cmp g.S.Signature.PartialEq.eq g.D.PartialEq.eq in
    let old = c.args.self.now in
    grounds_by config old c.in-Some.parent refl
    (subst (λ view. ForEachLife (config old.voter.node) old.voter
    (λ past earlier. (p : Proposal g.row.D.Denot) → p.round ≡ numbered old.voter.node.epoch view
    → p.parent ≡ c.in-Some.parent → IsGrounded (conduct_of past ++ earlier) p))
    c.current.ensures c.in-Some.ensures.grounds)

pub returns-in-None-clause-none : goal.returns-in-None-clause-none
returns-in-None-clause-none g c = λ none.
    let config = node_config g.S.Scheme.meaning g.S.PublicKey.Ord.cmp g.S.Signature.PartialEq.eq g.D.PartialEq.eq in
    let old = c.args.self.now in
    no_parent config old refl
    (subst (λ view. ForEachLife (config old.voter.node) old.voter
    (λ past earlier. (p : Proposal g.row.D.Denot) → p.round ≡ numbered old.voter.node.epoch view
    → old.voter.node.window.finalized ≤ p.parent.0 → IsGrounded (conduct_of past) p → ⊥))
    c.current.ensures (c.parent_for.ensures.none c.in-None.is))
