use Rattle.batcher_validator.proofs.Words.{◌∙◌, ap, rules, subst, sym, filter_same, filter, AreShelved, is_from, last_of}
use Rattle.batcher_validator.proofs.Looking.{shelved_left}
use Rattle.batcher_validator.proofs.shelf.Shelf.drop_before.Goals as goal

pub invariant_of-self : goal.invariant_of-self
invariant_of-self g c =
    subst (AreShelved c.self.inside.last_final (last_of c.self.inside.last_final c.self.inside.last_notarized
    c.self.inside.last_nullified))
    (sym (filter_same _ (is_from c.args.first) _ (λ x b f' k. search rules) _ _ c.retain.ensures.filtered))
    (shelved_left c.self.inside.last_final (last_of c.self.inside.last_final c.self.inside.last_notarized
    c.self.inside.last_nullified) (is_from c.args.first) c.self.inside.certificates.items c.self.invariant)

pub returns-clause-certificates : goal.returns-clause-certificates
returns-clause-certificates g c =
    filter_same _ (is_from c.args.first) _ (λ x b f' k. search rules) _ _ c.retain.ensures.filtered
    ∙ ap (λ s. filter (is_from c.args.first) s.certificates) c.self.view_is
