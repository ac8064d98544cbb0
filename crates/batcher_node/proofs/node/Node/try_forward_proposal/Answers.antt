use Rattle.batcher_node.proofs.Words.{refl, sym, ap, subst, IsNode}
use Rattle.batcher_node.proofs.Answering.{forwards_there, forwards_nothing}
use Rattle.batcher_node.proofs.Forwarding.{still_node}
use Rattle.batcher_node.proofs.node.Node.try_forward_proposal.Goals.{in-Some, in-None}
use Rattle.batcher_node.proofs.node.Node.try_forward_proposal.Goals as goal

pub returns-clause-meets : goal.returns-clause-meets
returns-clause-meets g c =
    rw (← c.self.view_is) (elim c.match-try_forward_proposal.branch [
      | in-Some w ↦ forwards_there g.S.Scheme.meaning g.S.PublicKey.Ord.cmp
          g.S.Signature.PartialEq.eq g.D.PartialEq.eq _ c.args.view.0 c.args.me _ _ w.result-is _ _
          c.self.invariant.0.tended w.in-Some.ensures.makes_call
          (ap (λ r. r.window) c.try_forward_proposal.ensures.same) refl
      | in-None w ↦ forwards_nothing g.S.Scheme.meaning g.S.PublicKey.Ord.cmp
          g.S.Signature.PartialEq.eq g.D.PartialEq.eq _ c.args.view.0 c.args.me _ w.result-is
          w.in-None.ensures.absent _ _ (ap (λ r. record {
            scheme = r.scheme.value;
            epoch = r.epoch;
            retains = r.retains;
            window = r.window;
            rounds = r.slots.entries;
            blocked = c.self.inside.blocked.items;
          }) c.try_forward_proposal.ensures.same) w.in-None.ensures.uncalled
    ])

pub invariant_of-self : goal.invariant_of-self
invariant_of-self g c = (
  subst (λ r. IsNode g.S.Scheme.meaning g.S.PublicKey.Ord.cmp g.S.Signature.PartialEq.eq
      g.D.PartialEq.eq (record {
        scheme = r.scheme.value;
        epoch = r.epoch;
        retains = r.retains;
        window = r.window;
        rounds = r.slots.entries;
        blocked = c.self.inside.blocked.items;
      })) (sym c.try_forward_proposal.ensures.same)
      (still_node g.S.Scheme.meaning g.S.PublicKey.Ord.cmp g.S.Signature.PartialEq.eq
      g.D.PartialEq.eq _ c.try_forward_proposal.new.self.slots.entries c.args.view.0 c.args.me
      c.try_forward_proposal.result c.try_forward_proposal.ensures.makes_call
      c.try_forward_proposal.ensures.uncalled c.self.invariant.0),
  c.try_forward_proposal.ensures.listed,
)
