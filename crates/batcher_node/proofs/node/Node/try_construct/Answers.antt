use Rattle.batcher_node.proofs.Words.{◌∷◌, refl, rules, sym, ap, subst, IsNode, constructed}
use Rattle.batcher_node.proofs.Calling.{if_some, on_err}
use Rattle.batcher_node.proofs.Answering.{construction_told, next_needed}
use Rattle.batcher_node.proofs.node.Node.try_construct.Goals as goal

pub returns-clause-meets : goal.returns-clause-meets
returns-clause-meets g c = λ past.
    rw (← c.self.view_is)
    (construction_told g.S.Scheme.meaning g.S.PublicKey.Ord.cmp
    g.S.Signature.PartialEq.eq g.D.PartialEq.eq past _ _ _ _ _
    c.self.invariant.0.tended (search rules) (search rules) (search rules)
    (ap (λ r. r.window) c.try_construct.ensures.same)
    (λ i within. c.block_named.ensures.blocks i (search rules)))

pub returns-clause-draws : goal.returns-clause-draws
returns-clause-draws g c =
    rw (← c.self.view_is) (if_some _ _ _ c.in-Some-2.is c.in_ok-batch.ensures.draws)

pub invariant_of-self-2 : goal.invariant_of-self-2
invariant_of-self-2 g c = (
  let h = c.self.invariant.0.history in
      subst (λ r. IsNode g.S.Scheme.meaning g.S.PublicKey.Ord.cmp g.S.Signature.PartialEq.eq
      g.D.PartialEq.eq (record {
        scheme = r.scheme.value;
        epoch = r.epoch;
        retains = r.retains;
        window = r.window;
        rounds = r.slots.entries;
        blocked = c.block_named.new.blocked.items;
      })) (sym c.try_construct.ensures.same)
      (record {
        tended = search rules;
        each = search rules;
        history =
            record {
              past = constructed c.in-Some.number c.in-Some-2.batch ∷ h.past;
              represents =
                  construction_told g.S.Scheme.meaning g.S.PublicKey.Ord.cmp g.S.Signature.PartialEq.eq
                  g.D.PartialEq.eq h.past _ _ _ _ _
                  c.self.invariant.0.tended (search rules) (search rules) (search rules) refl
                  (λ i within. c.block_named.ensures.blocks i (search rules)) h.represents;
            };
      }),
  c.try_construct.ensures.listed,
)

pub returns-in_default-clause-complete : goal.returns-in_default-clause-complete
returns-in_default-clause-complete g c = λ is past represents.
    (c.promises.ensures.each past represents).complete_at_rest (search rules)

pub returns-in_err-batch-clause-needed : goal.returns-in_err-batch-clause-needed
returns-in_err-batch-clause-needed g c =
    rw (← c.self.view_is) (on_err _ (next_needed g.S.Scheme.meaning g.S.PublicKey.Ord.cmp g.S.Signature.PartialEq.eq g.D.PartialEq.eq _ c.in-Some.number _
    c.self.invariant.0.tended (record { changed = search rules; lowest = search rules })
    c.in_err-batch.ensures.needed))
