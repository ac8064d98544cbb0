use Rattle.batcher_validator.proofs.Words.{◌≡◌, ◌∙◌, Some, certificate_format, node_config, same_Some, slice_get, subst, sym, vote_format, Finalizes}
use Rattle.batcher_validator.proofs.validator.Validator.finalize_at.Goals as goal

pub returns-clause-finalizes : goal.returns-clause-finalizes
returns-clause-finalizes g c = λ certificate there.
    let config = node_config g.S.Scheme.meaning g.S.PublicKey.Ord.cmp g.S.Signature.PartialEq.eq g.D.PartialEq.eq in
    let votes = vote_format g.S.Signature.Codec.format g.D.Codec.format in
    let certificates = certificate_format g.S.Certificate.OwnedCodec.format g.D.Codec.format in
    let old = c.args.self.now.voter in
    let here : slice_get c.args.self.now.shelf.certificates c.args.i ≡ Some c.at.result.now =
    subst (λ v. slice_get v.shelf.certificates c.args.i ≡ Some c.at.result.now) c.self.view_is c.at.ensures in
    subst (λ it. Finalizes (config old.node) votes certificates g.L.Log.is_too_small g.L.Log.is_honest
    g.L.Log.may_leave g.L.Log.is_copied_as old it c.finalize.new.self c.finalize.result)
    (same_Some _ _ (sym here ∙ there))
    (subst (λ v. Finalizes (config v.voter.node) votes certificates g.L.Log.is_too_small g.L.Log.is_honest
    g.L.Log.may_leave g.L.Log.is_copied_as v.voter c.at.result.now c.finalize.new.self c.finalize.result)
    c.self.view_is c.finalize.ensures)
