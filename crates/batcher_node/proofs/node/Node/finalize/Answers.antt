use Rattle.batcher_node.proofs.Words.{◌∷◌, refl, rules, sym, subst, IsNode, view_finalized}
use Rattle.batcher_node.proofs.Answering.{finalized_told}
use Rattle.batcher_node.proofs.node.Node.finalize.Goals as goal

pub returns-clause-meets : goal.returns-clause-meets
returns-clause-meets g c = λ past.
    rw (← c.self.view_is)
    (finalized_told g.S.Scheme.meaning g.S.PublicKey.Ord.cmp
    g.S.Signature.PartialEq.eq g.D.PartialEq.eq past _ _ c.args.view.0
    c.finalize.ensures.window refl c.finalize.ensures.kept)

pub invariant_of-self : goal.invariant_of-self
invariant_of-self g c = (
  let h = c.self.invariant.0.history in
      subst (λ r. IsNode g.S.Scheme.meaning g.S.PublicKey.Ord.cmp g.S.Signature.PartialEq.eq
      g.D.PartialEq.eq (record {
        scheme = r.scheme.value;
        epoch = r.epoch;
        retains = r.retains;
        window = r.window;
        rounds = r.slots.entries;
        blocked = c.self.inside.blocked.items;
      })) (sym c.finalize.ensures.same)
      (record {
        tended = search rules;
        each = search rules;
        history =
            record {
              past = view_finalized c.args.view.0 ∷ h.past;
              represents =
                  finalized_told g.S.Scheme.meaning g.S.PublicKey.Ord.cmp g.S.Signature.PartialEq.eq
                  g.D.PartialEq.eq h.past _ _ c.args.view.0
                  c.finalize.ensures.window refl c.finalize.ensures.kept h.represents;
            };
      }),
  c.finalize.ensures.listed,
)
