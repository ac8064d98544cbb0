use Rattle.batcher.proofs.Words.{config, senders_of_added}
use Rattle.batcher.proofs.run.theorems.senders_of_added_give_no_cause.Goals as goal

pub returns : goal.returns
returns g c = λ scheme number mode.
    senders_of_added
    (config (g.S.Scheme.meaning scheme) g.S.PublicKey.Ord.cmp g.S.Signature.PartialEq.eq g.D.PartialEq.eq number mode)
    g.met.D.Eq.laws.refl g.met.S.Signature.Eq.laws.refl
