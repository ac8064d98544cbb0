use Rattle.batcher_bytes.proofs.Words.{◌∙◌, Ok, ap, sym}
use Rattle.batcher_bytes.proofs.Front.{at_front}
use Rattle.batcher_bytes.proofs.codec.decode_front.Goals as goal

pub overflow_sub-result : goal.overflow_sub-result
overflow_sub-result g c =
    (at_front _ g.met.T.Codec.exact _ _ _ c.type_inv.bytes c.in_ok-value.ensures).shorter

pub returns-clause-found : goal.returns-clause-found
returns-clause-found g c =
    (at_front _ g.met.T.Codec.exact _ _ _ c.type_inv.bytes c.in_ok-value.ensures).encoded

pub returns-clause-exact : goal.returns-clause-exact
returns-clause-exact g c =
    let here = at_front _ g.met.T.Codec.exact _ _ _ c.type_inv.bytes c.in_ok-value.ensures in
    c.in_ok-value.ensures ∙ ap (λ r. Ok (c.in_ok-value.value, r)) (sym here.left)
