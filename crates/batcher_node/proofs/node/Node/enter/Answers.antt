use Rattle.batcher_node.proofs.Words.{◌∷◌, refl, arith, rules, sym, ap, subst, ◌∙◌, LeaderChangedFault, WhyNotEntered, round_config, IsNode, entered}
use Rattle.batcher_node.proofs.Words.{view_entered}
use Rattle.batcher_node.proofs.Calling.{err_fact, err_known, if_ok, led_refused}
use Rattle.batcher_node.proofs.Answering.{entered_told}
use Rattle.batcher_node.proofs.node.Node.enter.Goals as goal

pub returns-clause-meets : goal.returns-clause-meets
returns-clause-meets g c = λ past.
    rw (← c.self.view_is)
    (entered_told g.S.Scheme.meaning g.S.PublicKey.Ord.cmp
    g.S.Signature.PartialEq.eq g.D.PartialEq.eq past _ _ c.args.view.0 c.args.leader _
    c.self.invariant.0.tended (omega arith) (if_ok _ _ _ c.in_ok-branch.was c.in_ok-call.ensures.makes_call)
    (c.enter.ensures ∙ ap (λ r. entered r.window c.args.view.0) c.call.ensures.same) refl)

pub returns-in_err-branch-clause-why : goal.returns-in_err-branch-clause-why
returns-in_err-branch-clause-why g c =
    err_known (WhyNotEntered c.args.self.now c.args.view.0 c.args.leader) LeaderChangedFault
    (rw (← c.self.view_is)
    (led_refused (round_config g.S.Scheme.meaning g.S.PublicKey.Ord.cmp
    g.S.Signature.PartialEq.eq g.D.PartialEq.eq) _ _ c.args.leader _ refl
    (err_fact _ _ c.in_ok-call.ensures.named _ c.in_err-branch.was)))
    _ c.from_residual-in_err-branch.ensures.1

pub invariant_of-self-2 : goal.invariant_of-self-2
invariant_of-self-2 g c = (
  let h = c.self.invariant.0.history in
      rw c.enter.ensures (subst (λ r. IsNode g.S.Scheme.meaning g.S.PublicKey.Ord.cmp g.S.Signature.PartialEq.eq
      g.D.PartialEq.eq (record {
        scheme = r.scheme.value;
        epoch = r.epoch;
        retains = r.retains;
        window = entered r.window c.args.view.0;
        rounds = r.slots.entries;
        blocked = c.self.inside.blocked.items;
      })) (sym c.call.ensures.same)
      (record {
        tended = search rules;
        each = search rules;
        history =
            record {
              past = view_entered c.args.view.0 c.args.leader ∷ h.past;
              represents =
                  entered_told g.S.Scheme.meaning g.S.PublicKey.Ord.cmp g.S.Signature.PartialEq.eq
                  g.D.PartialEq.eq h.past _ _ c.args.view.0 c.args.leader _
                  c.self.invariant.0.tended (omega arith) (if_ok _ _ _ c.in_ok-branch.was c.in_ok-call.ensures.makes_call)
                  refl refl h.represents;
            };
      })),
  c.call.ensures.listed,
)
