use Rattle.batcher.proofs.Words.{config, HasLaws, order_is_free}
use Rattle.batcher.proofs.run.theorems.order_is_free.Goals as goal

pub returns : goal.returns
returns g c = λ scheme number mode some.
    let x = config (g.S.Scheme.meaning scheme) g.S.PublicKey.Ord.cmp g.S.Signature.PartialEq.eq g.D.PartialEq.eq number mode in
    let laws : HasLaws x =
    record {
      scheme = g.met.S.Scheme.lawful scheme;
      some_participant = some;
      digests_equal = g.met.D.Digest.identical;
      digests_same = g.met.D.Eq.laws.refl;
    } in
    order_is_free x laws some
