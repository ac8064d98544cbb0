use Rattle.batcher_validator.proofs.Words.{◌<◌, ◌≤◌, ◌∙◌, ap, le-ltb, node_config, subst, sym}
use Rattle.batcher_validator.proofs.Entering.{absent_is, blocked_is, itself_isnt, outside_isnt}
use Rattle.batcher_validator.proofs.validator.Validator.gives_up.Goals as goal

pub returns-then-leader-participants : goal.returns-then-leader-participants
returns-then-leader-participants g c =
    outside_isnt (node_config g.S.Scheme.meaning g.S.PublicKey.Ord.cmp g.S.Signature.PartialEq.eq
    g.D.PartialEq.eq c.args.self.now.voter.node) c.args.self.now c.args.leader
    (le-ltb c.args.leader.0 _
    (subst (λ n. n ≤ c.args.leader.0) c.participants.ensures c.if-leader-participants.true))

pub returns-then-leader-me : goal.returns-then-leader-me
returns-then-leader-me g c =
    itself_isnt (node_config g.S.Scheme.meaning g.S.PublicKey.Ord.cmp g.S.Signature.PartialEq.eq
    g.D.PartialEq.eq c.args.self.now.voter.node) c.args.self.now c.args.leader
    (subst (λ n. c.args.leader.0 < n) c.participants.ensures c.if-leader-participants.false)
    (c.if-leader-me.true ∙ ap (λ p. p.0) c.me.ensures)

pub returns-then-is_blocked : goal.returns-then-is_blocked
returns-then-is_blocked g c =
    blocked_is (node_config g.S.Scheme.meaning g.S.PublicKey.Ord.cmp g.S.Signature.PartialEq.eq
    g.D.PartialEq.eq c.args.self.now.voter.node) c.args.self.now c.args.leader
    (subst (λ n. c.args.leader.0 < n) c.participants.ensures c.if-leader-participants.false)
    (λ same. c.if-leader-me.false (same ∙ sym (ap (λ p. p.0) c.me.ensures)))
    (sym c.is_blocked.ensures ∙ c.if-is_blocked.true)

pub returns : goal.returns
returns g c =
    absent_is (node_config g.S.Scheme.meaning g.S.PublicKey.Ord.cmp g.S.Signature.PartialEq.eq
    g.D.PartialEq.eq c.args.self.now.voter.node) c.args.self.now c.args.leader
    (subst (λ n. c.args.leader.0 < n) c.participants.ensures c.if-leader-participants.false)
    (λ same. c.if-leader-me.false (same ∙ sym (ap (λ p. p.0) c.me.ensures)))
    (sym c.is_blocked.ensures ∙ c.if-is_blocked.false)
    c.is_absent.result c.is_absent.ensures.absent c.is_absent.ensures.few
