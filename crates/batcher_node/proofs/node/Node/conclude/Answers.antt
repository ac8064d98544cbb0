use Rattle.batcher_node.proofs.Words.{◌∷◌, ◌∙◌, Some, inl, refl, rules, sym, ap, subst, is_some, round_config, slot_at, LooksAtThere, IsNode, constructed}
use Rattle.batcher_node.proofs.Calling.{if_some, on_err}
use Rattle.batcher_node.proofs.Lowest.{one_next}
use Rattle.batcher_node.proofs.Tending.{still_tended}
use Rattle.batcher_node.proofs.Answering.{construction_told, next_needed}
use Rattle.batcher_node.proofs.node.Node.conclude.Goals as goal

pub returns-clause-meets : goal.returns-clause-meets
returns-clause-meets g c = λ past.
    let makes = rw c.in-Some-2.is at c.in_ok-batch.ensures.makes_call in
    rw (← c.self.view_is)
    (construction_told g.S.Scheme.meaning g.S.PublicKey.Ord.cmp
    g.S.Signature.PartialEq.eq g.D.PartialEq.eq past _ _ _ _ _
    c.self.invariant.0.tended (search rules) (search rules) (search rules)
    (ap (λ r. r.window) c.conclude.ensures.same)
    (λ i within. c.block_named.ensures.blocks i (search rules)))

pub invariant_of-self-2 : goal.invariant_of-self-2
invariant_of-self-2 g c = (
  let h = c.self.invariant.0.history in
      let makes = rw c.in-Some-2.is at c.in_ok-batch.ensures.makes_call in
      let t = c.self.invariant.0.tended in
      let own = if_some _ _ makes.slot makes.there (t.own c.in-Some.next) in
      subst (λ r. IsNode g.S.Scheme.meaning g.S.PublicKey.Ord.cmp g.S.Signature.PartialEq.eq
      g.D.PartialEq.eq (record {
        scheme = r.scheme.value;
        epoch = r.epoch;
        retains = r.retains;
        window = r.window;
        rounds = r.slots.entries;
        blocked = c.block_named.new.blocked.items;
      })) (sym c.conclude.ensures.same)
      (record {
        tended =
            still_tended (round_config g.S.Scheme.meaning g.S.PublicKey.Ord.cmp g.S.Signature.PartialEq.eq g.D.PartialEq.eq) _ _ _ _ _ _ t
            _ _ c.self.inside.rounds.retains c.in-Some.next own.1.1 (inl makes);
        each = search rules;
        history =
            record {
              past = constructed c.in-Some.next (Some c.in-Some-2.batch) ∷ h.past;
              represents =
                  construction_told g.S.Scheme.meaning g.S.PublicKey.Ord.cmp g.S.Signature.PartialEq.eq
                  g.D.PartialEq.eq h.past _ _ _ _ _
                  c.self.invariant.0.tended (search rules) (search rules) (search rules) refl
                  (λ i within. c.block_named.ensures.blocks i (search rules)) h.represents;
            };
      }),
  c.conclude.ensures.listed,
)

pub returns-in_default-2-clause-given : goal.returns-in_default-2-clause-given
returns-in_default-2-clause-given g c =
    record {
      gives = tt;
      assembled = tt;
      next = tt;
      looks_at = tt;
      not_stale = λ view next looks.
          let is = one_next c.args.self.now.rounds view c.in-Some.next next
          (record { changed = search rules; lowest = search rules }) in
          sym (ap is_some c.in_default-2.is)
          ∙ (c.in_ok-batch.ensures.not_stale (rw (← c.self.view_is) at (subst (λ v. LooksAtThere (round_config g.S.Scheme.meaning g.S.PublicKey.Ord.cmp
          g.S.Signature.PartialEq.eq g.D.PartialEq.eq) (slot_at c.args.self.now.rounds v) c.args.subject c.args.list.now) is looks)));
    }

pub returns-clause-given : goal.returns-clause-given
returns-clause-given g c =
    record {
      gives = search rules;
      assembled = search rules;
      next = search rules;
      looks_at = rw (← c.self.view_is) (rw c.in-Some-2.is at c.in_ok-batch.ensures.looks_at);
      not_stale = λ view next looks. refl;
    }

pub returns-in_err-batch-clause-needed : goal.returns-in_err-batch-clause-needed
returns-in_err-batch-clause-needed g c =
    rw (← c.self.view_is) (on_err _ (next_needed g.S.Scheme.meaning g.S.PublicKey.Ord.cmp g.S.Signature.PartialEq.eq g.D.PartialEq.eq _ c.in-Some.next _
    c.self.invariant.0.tended (record { changed = search rules; lowest = search rules })
    c.in_err-batch.ensures.needed))
