use Rattle.batcher_node.proofs.Words.{◌∷◌, ◌∙◌, sym, refl, rules, ap, forgery_came, is_ahead}
use Rattle.batcher_node.proofs.Answering.{forged_ahead}
use Rattle.batcher_node.proofs.node.Node.receive_ahead.Goals as goal

pub invariant_of-self : goal.invariant_of-self
invariant_of-self g c = (
  let h = c.self.invariant.0.history in
      record {
        tended = search rules;
        each = search rules;
        history =
            record {
              past = forgery_came c.args.peer c.args.certificate.now ∷ h.past;
              represents =
                  forged_ahead g.S.Scheme.meaning g.S.PublicKey.Ord.cmp g.S.Signature.PartialEq.eq
                  g.D.PartialEq.eq h.past _ _ c.args.peer c.args.certificate.now c.in-Some.who
                  (search rules) (search rules) (search rules)
                  (ap (λ r. is_ahead c.self.inside.rounds.epoch c.self.inside.rounds.window r)
                  (sym c.round.ensures) ∙ (sym c.is_ahead.ensures ∙ c.if-not-is_ahead.false))
                  (sym c.verifies.ensures ∙ c.if-verifies.false)
                  refl refl (λ i within. c.block.ensures.blocks i (search rules)) h.represents;
            };
      },
  c.self.invariant.1,
)
