use Rattle.batcher_round.proofs.Words.{[], ap, sym, subst, fresh_represents, round_config, Represents}
use Rattle.batcher_round.proofs.round.Round.in_mode.Goals as goal

pub invariant_of-result : goal.invariant_of-result
invariant_of-result g c = rw (ap (λ r. r.scheme) c.new.ensures) c.requires

pub returns-clause-represents : goal.returns-clause-represents
returns-clause-represents g c =
    subst (λ r. Represents (round_config g.S.Scheme.meaning g.S.PublicKey.Ord.cmp g.S.Signature.PartialEq.eq g.D.PartialEq.eq r) [] r.holds) (sym c.new.ensures)
    (fresh_represents _)
