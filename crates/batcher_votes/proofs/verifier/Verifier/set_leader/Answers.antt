use Rattle.batcher_votes.proofs.Words.{refl, verifier_holding}
use Rattle.batcher_votes.proofs.VerifierLemmas.Soundness.{tidy_from}
use Rattle.batcher_votes.proofs.VerifierLemmas.EligibleVotes.{sets_same}
use Rattle.batcher_votes.proofs.verifier.Verifier.set_leader.Goals as goal

pub returns-in-None-clause-sets : goal.returns-in-None-clause-sets
returns-in-None-clause-sets g c = λ first.
    let v = c.self.inside in
    let same = g.D.PartialEq.eq in
    let held = verifier_holding v.leader v.proposal v.kinds in
    let m = g.S.Scheme.meaning v.scheme.value in
    let sets = sets_same same held v.proposal refl (λ kind. tidy_from m same v.round held kind (c.self.invariant.kinds kind)) in
    rw (← c.self.view_is, c.in-None.is) (record {
      leader_is = refl;
      selection = refl;
      buffers = λ kind. record
          { certified = refl; pending = (sets.buffers kind).pending; verified = (sets.buffers kind).verified };
    })
