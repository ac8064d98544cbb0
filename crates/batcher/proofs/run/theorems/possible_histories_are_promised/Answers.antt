use Rattle.batcher.proofs.Words.{config, HasLaws, is_promised}
use Rattle.batcher.proofs.run.theorems.possible_histories_are_promised.Goals as goal

pub returns : goal.returns
returns g c = λ scheme number mode some.
    let x = config (g.S.Scheme.meaning scheme) g.S.PublicKey.Ord.cmp g.S.Signature.PartialEq.eq
    g.D.PartialEq.eq number mode in
    let laws : HasLaws x =
    record {
      scheme = g.met.S.Scheme.lawful scheme;
      some_participant = some;
      digests_equal = g.met.D.Digest.identical;
      digests_same = g.met.D.Eq.laws.refl;
    } in
    is_promised x laws
