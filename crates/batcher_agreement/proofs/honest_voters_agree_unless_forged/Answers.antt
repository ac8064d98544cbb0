use Rattle.batcher_agreement.proofs.Certifying.{unforged_are_backed}
use Rattle.batcher_agreement.proofs.honest_voters_agree_unless_forged.Goals as goal

pub returns : goal.returns
returns g c = λ scheme is_faulty lives few are unforged.
    c.honest_voters_agree.ensures scheme is_faulty lives few are
    (unforged_are_backed (g.S.Scheme.meaning scheme) is_faulty _ _ (g.met.S.Scheme.lawful scheme)
    g.S.Accountable.shown (g.met.S.Accountable.shows scheme) unforged)
