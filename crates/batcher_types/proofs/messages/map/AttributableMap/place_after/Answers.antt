use Rattle.batcher_types.proofs.Words.{true, false}
use Rattle.batcher_types.proofs.PlaceLemmas.{look_place, look_next}
use Rattle.batcher_types.proofs.messages.map.AttributableMap.place_after.Goals as goal

pub returns-then-is_at-clause-place : goal.returns-then-is_at-clause-place
returns-then-is_at-clause-place g c =
    look_place (λ x. (g.T.Attributable.signed_by x).0) c.args.self.now.items c.args.signer.0 c.args.lower true c.is_at.ensures.ascending
    c.requires c.if-is_at.ensures.test

pub returns-then-is_at-clause-next : goal.returns-then-is_at-clause-next
returns-then-is_at-clause-next g c =
    look_next (λ x. (g.T.Attributable.signed_by x).0) c.args.self.now.items c.args.signer.0 c.args.lower true c.is_at.ensures.ascending
    c.requires c.if-is_at.ensures.test

pub returns-else-is_at-clause-place : goal.returns-else-is_at-clause-place
returns-else-is_at-clause-place g c =
    look_place (λ x. (g.T.Attributable.signed_by x).0) c.args.self.now.items c.args.signer.0 c.args.lower false c.is_at.ensures.ascending
    c.requires c.if-is_at.ensures.test

pub returns-else-is_at-clause-next : goal.returns-else-is_at-clause-next
returns-else-is_at-clause-next g c =
    look_next (λ x. (g.T.Attributable.signed_by x).0) c.args.self.now.items c.args.signer.0 c.args.lower false c.is_at.ensures.ascending
    c.requires c.if-is_at.ensures.test
