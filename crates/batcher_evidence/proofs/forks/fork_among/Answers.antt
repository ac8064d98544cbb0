use Rattle.batcher_evidence.proofs.Words.{refl, sym}
use Rattle.batcher_evidence.proofs.Forked.{fork_contradicts}
use Rattle.batcher_evidence.proofs.forks.fork_among.Goals as goal

pub returns-in-Ok-clause-culprits : goal.returns-in-Ok-clause-culprits
returns-in-Ok-clause-culprits g c =
    record {
      first = c.in-Some.a.now;
      second = c.in-Some.b.now;
      first_is_of = sym c.subject.ensures;
      second_is_of = sym c.subject-in-Ok.ensures;
      contradiction = c.in-Some.ensures.some;
      culprits = c.in-Ok.ensures;
    }

pub returns-in-None-clause-forks : goal.returns-in-None-clause-forks
returns-in-None-clause-forks g c is final chain fork =
    fork_contradicts (g.S.Scheme.meaning c.args.scheme.now) c.args.certificates.now g.D.PartialEq.eq
    g.met.D.Digest.identical final chain fork (c.in-None.ensures.none refl)
