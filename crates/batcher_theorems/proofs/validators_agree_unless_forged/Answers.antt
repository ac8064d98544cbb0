use Rattle.batcher_theorems.proofs.Finals.{are_voters, given_is_final}
use Rattle.batcher_theorems.specs.Lives.{voter_lives}
use Rattle.batcher_theorems.proofs.validators_agree_unless_forged.Goals as goal

pub returns : goal.returns
returns g c = λ scheme is_faulty lives few are backed i j honest other p q given also epoch view.
    let meaning = g.S.Scheme.meaning in
    let m = meaning scheme in
    let voters =
    are_voters meaning g.S.PublicKey.Ord.cmp g.S.Signature.PartialEq.eq g.D.PartialEq.eq m is_faulty lives are in
    let final =
    given_is_final meaning g.S.PublicKey.Ord.cmp g.S.Signature.PartialEq.eq g.D.PartialEq.eq m is_faulty lives are in
    (c.honest_voters_agree_unless_forged.ensures scheme is_faulty (λ k. voter_lives (lives k)) few voters backed).in_later_final_chains
    p q epoch view (final i honest p given) (final j other q also)
