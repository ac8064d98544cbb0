use Rattle.batcher_types.proofs.Words.{◌∙◌, ◌<◌, sym, ap, arith, length, get_or, All-set}
use Rattle.batcher_types.specs.Items.{replace_by}
use Rattle.batcher_types.proofs.AscendingLemmas.{set_ascending, replace_at, replace_none, found_key}
use Rattle.batcher_types.proofs.messages.map.AttributableMap.replace.Goals as goal

pub invariant_of-self : goal.invariant_of-self
invariant_of-self g c =
    let now = ap (λ v. v.items) c.self.view_is in
    let below : c.in-Ok.place < length c.self.inside.items.items = omega (arith, ap (λ v. length v.items) c.self.view_is, c.in-Ok.ensures.found.0) in
    let same = rw (← now) at (found_key (λ x. (g.T.Attributable.signed_by x).0) c.args.self.now.items c.signer.result.0
    (get_or c.args.self.now.items c.in-Ok.place c.args.item) (c.in-Ok.ensures.found.1 c.args.item) ∙ ap (λ p. p.0) c.signer.ensures) in
    rw c.replace.ensures.after (
      set_ascending (λ x. (g.T.Attributable.signed_by x).0) c.self.inside.items.items c.in-Ok.place c.args.item c.args.item c.self.invariant.0 below same,
      All-set (λ x. (g.T.Attributable.signed_by x).0 < c.self.inside.participants) c.self.inside.items.items c.in-Ok.place c.args.item
          (omega (arith, same, c.self.invariant.1 c.in-Ok.place c.args.item below)) c.self.invariant.1,
    )

pub returns-in-Ok-clause-items : goal.returns-in-Ok-clause-items
unfolding replace_by
returns-in-Ok-clause-items g c =
    let now = ap (λ v. v.items) c.self.view_is in
    let below : c.in-Ok.place < length c.self.inside.items.items = omega (arith, ap (λ v. length v.items) c.self.view_is, c.in-Ok.ensures.found.0) in
    let same = rw (← now) at (found_key (λ x. (g.T.Attributable.signed_by x).0) c.args.self.now.items c.signer.result.0
    (get_or c.args.self.now.items c.in-Ok.place c.args.item) (c.in-Ok.ensures.found.1 c.args.item) ∙ ap (λ p. p.0) c.signer.ensures) in
    rw (c.replace.ensures.after, ← now)
    (replace_at (λ x. (g.T.Attributable.signed_by x).0) c.self.inside.items.items c.in-Ok.place c.args.item c.args.item c.self.invariant.0 below same)

pub returns-in-Err-clause-items : goal.returns-in-Err-clause-items
unfolding replace_by
returns-in-Err-clause-items g c =
    sym (replace_none (λ x. (g.T.Attributable.signed_by x).0) c.args.item c.args.self.now.items (rw c.signer.ensures at c.in-Err.ensures.absent.1))
