use Rattle.batcher_round.proofs.Words.{◌∙◌, ap, sym, refl, is_some, false≢true, and_parts, not-true, Retaining, given, judged, made_for, no_stream, config}
use Rattle.batcher_round.proofs.Words.{Fixes, right_without, right_given}
use Rattle.batcher_round.proofs.Otherwise.{right_otherwise, otherwise_right}
use Rattle.batcher_round.proofs.OwnCertificates.{made_is, takes_none, fixes_only}
use Rattle.batcher_round.proofs.round.ballots.Ballots.conclude.Goals as goal
use Rattle.batcher_round.proofs.round.ballots.Ballots.conclude.Goals.{in-Some-certificate, in_default-certificate}

pub fix_proposal-requires : goal.fix_proposal-requires
fix_proposal-requires g c = λ fixed is takes kind has uncertified.
    let b = c.self.inside in
    let tries = (rw c.in-Some.is at c.in_ok-batch.ensures.tries) no_stream in
    let never = takes_none (judged (g.S.Scheme.meaning b.verifier.scheme)) g.D.PartialEq.eq g.met.D.Eq.laws.refl b.verifier.number
    b.verifier.quorum b.verifier.holds
    c.conclude.new.self.holds c.args.kind _ _ c.in-Some.batch tries c.in-Some-certificate.certificate c.in-Some-certificate.is
    c.proposal-proposal.result c.proposal-proposal.ensures fixed is in
    absurd (false≢true (sym never ∙ takes))

pub invariant_of-self-in-Some-certificate : goal.invariant_of-self-in-Some-certificate
invariant_of-self-in-Some-certificate g c =
    let b = c.self.inside in
    let m = judged (g.S.Scheme.meaning b.verifier.scheme) in
    let left = c.conclude.new.self in
    let tries = (rw c.in-Some.is at c.in_ok-batch.ensures.tries) no_stream in
    let looks = rw c.in-Some.is at c.in_ok-batch.ensures.looks_at in
    let was = not-true _ ((and_parts _ _ (given _ _ c.args.subject looks.0).0).0) in
    let x = config (g.S.Scheme.meaning left.scheme) g.S.PublicKey.Ord.cmp g.S.Signature.PartialEq.eq g.D.PartialEq.eq left.number Retaining in
    let made = made_is m g.D.PartialEq.eq g.met.D.Eq.laws.refl b.verifier.number b.verifier.quorum b.verifier.holds left.holds c.args.kind _ _ c.in-Some.batch
    tries c.in-Some-certificate.certificate c.in-Some-certificate.is c.proposal-proposal.result c.proposal-proposal.ensures in
    let fixes : Fixes x left.holds c.proposal-proposal.result c.fix_proposal.new.verifier.holds =
    fixes_only m g.D.PartialEq.eq g.met.D.Eq.laws.refl b.verifier.number b.verifier.quorum b.verifier.holds left.holds c.args.kind _ _ c.in-Some.batch
    tries c.in-Some-certificate.certificate c.in-Some-certificate.is c.proposal-proposal.result c.proposal-proposal.ensures x refl b.tracker.holds
    c.fix_proposal.new.verifier.holds c.fix_proposal.ensures.fixes in
    let s = c.in_ok-batch.ensures.same in
    rw (c.fix_proposal.ensures.same.0, c.fix_proposal.ensures.same.2, s.0, s.2)
    (otherwise_right (g.S.Scheme.meaning b.verifier.scheme) (judged (g.S.Scheme.meaning b.verifier.scheme)).left_by_verifying (judged
    (g.S.Scheme.meaning b.verifier.scheme)).assembled_at_once _ _ _ (right_given m b.verifier.number b.verifier.quorum b.verifier.holds left.holds
    c.args.kind _ _ c.in-Some.batch tries
    x c.proposal-proposal.result c.fix_proposal.new.verifier.holds b.tracker c.release.new.self fixes (ap is_some c.in-Some-certificate.is)
    (λ h. ap is_some c.proposal-proposal.ensures
    ∙ made_for c.args.kind b.verifier.number _ tries.subject tries.outcome.certificate c.in-Some-certificate.certificate tries.subject_is made h)
    (right_otherwise (g.S.Scheme.meaning b.verifier.scheme) (judged (g.S.Scheme.meaning b.verifier.scheme)).left_by_verifying (judged
    (g.S.Scheme.meaning b.verifier.scheme)).assembled_at_once _ _ _ c.self.invariant) c.release.ensures.mode c.release.ensures.participants was
    c.release.ensures.releases c.release.ensures.others))

pub invariant_of-self-in_default-certificate : goal.invariant_of-self-in_default-certificate
invariant_of-self-in_default-certificate g c =
    let b = c.self.inside in
    let tries = (rw c.in-Some.is at c.in_ok-batch.ensures.tries) no_stream in
    let looks = rw c.in-Some.is at c.in_ok-batch.ensures.looks_at in
    let was = not-true _ ((and_parts _ _ (given _ _ c.args.subject looks.0).0).0) in
    let s = c.in_ok-batch.ensures.same in
    rw (s.0, s.2)
    (otherwise_right (g.S.Scheme.meaning b.verifier.scheme) (judged (g.S.Scheme.meaning b.verifier.scheme)).left_by_verifying (judged
    (g.S.Scheme.meaning b.verifier.scheme)).assembled_at_once _ _ _ (right_without (judged (g.S.Scheme.meaning b.verifier.scheme))
    b.verifier.number b.verifier.quorum b.verifier.holds c.conclude.new.self.holds c.args.kind _ _
    c.in-Some.batch tries
    b.tracker b.verifier.quorum (right_otherwise (g.S.Scheme.meaning b.verifier.scheme) (judged (g.S.Scheme.meaning
    b.verifier.scheme)).left_by_verifying (judged (g.S.Scheme.meaning b.verifier.scheme)).assembled_at_once _ _ _ c.self.invariant) was (ap is_some
    c.in_default-certificate.is)))

pub returns-clause-tries : goal.returns-clause-tries
returns-clause-tries g c =
    let b = c.self.inside in
    let m = judged (g.S.Scheme.meaning b.verifier.scheme) in
    let left = c.conclude.new.self in
    let x = config m g.S.PublicKey.Ord.cmp g.S.Signature.PartialEq.eq g.D.PartialEq.eq b.verifier.number b.tracker.mode in
    let each = rw c.in-Some.is at c.in_ok-batch.ensures.tries in
    let tries = each no_stream in
    let by_quorum = rw c.self.invariant.quorum_is at each in
    elim c.match-batch.branch [
      | in-Some-certificate w ↦
          let fixes : Fixes x left.holds w.proposal-proposal.result w.fix_proposal.new.verifier.holds =
          fixes_only m g.D.PartialEq.eq g.met.D.Eq.laws.refl b.verifier.number b.verifier.quorum b.verifier.holds left.holds c.args.kind _ _ c.in-Some.batch
          tries w.in-Some-certificate.certificate w.in-Some-certificate.is w.proposal-proposal.result w.proposal-proposal.ensures x refl b.tracker.holds
          w.fix_proposal.new.verifier.holds w.fix_proposal.ensures.fixes in
          rw (← c.self.view_is, w.self-is)
          (λ stream. record {
            left = left.holds;
            tries = by_quorum stream;
            given = rw w.in-Some-certificate.is
                (record {
                  buffered = rw w.proposal-proposal.ensures at fixes;
                  tracked = rw w.proposal-proposal.ensures at w.release.ensures.releases;
                  forwarded = refl;
                });
          })
      | in_default-certificate w ↦
          rw (← c.self.view_is, w.self-is)
          (λ stream. record {
            left = left.holds;
            tries = by_quorum stream;
            given = rw w.in_default-certificate.is refl;
          })
    ]

pub returns-clause-looks_at : goal.returns-clause-looks_at
returns-clause-looks_at g c =
    let looks = rw c.in-Some.is at c.in_ok-batch.ensures.looks_at in
    let ready = given _ _ c.args.subject looks.0 in
    rw (← c.self.view_is, ← c.self.invariant.quorum_is) (ready.0, ready.1, looks.1)
