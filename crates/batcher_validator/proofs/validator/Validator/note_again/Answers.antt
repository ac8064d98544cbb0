use Rattle.batcher_validator.proofs.Words.{◌∙◌, ap, subst, PutsBehind, is_again, kind_and_round}
use Rattle.batcher_validator.proofs.validator.Validator.note_again.Goals as goal

pub returns-clause-shelf : goal.returns-clause-shelf
returns-clause-shelf g c =
    let old = c.args.self.now in
    let new = c.begin_again.new.self in
    let window = c.window-window.result in
    let one = c.self.view_is in
    let two = c.self-inside.view_is in
    let three = c.self-inside-inside.view_is in
    subst (λ w. PutsBehind (λ it. is_again w old.given.resending.turn (kind_and_round it)) old.shelf new)
    (c.window-window.ensures ∙ (ap (λ n. n.window) c.node.ensures ∙ (ap (λ i. i.0.0.node.window) three
    ∙ (ap (λ i. i.voter.node.window) two ∙ ap (λ i. i.voter.node.window) one))))
    (subst (λ i. PutsBehind (λ it. is_again window i.given.resending.turn (kind_and_round it)) i.shelf new) one
    (subst (λ i. PutsBehind (λ it. is_again window i.given.resending.turn (kind_and_round it)) i.shelf new) two
    (subst (λ i. PutsBehind (λ it. is_again window i.0.1.0.resending.turn (kind_and_round it)) i.0.1.1.0 new) three
    c.begin_again.ensures)))
