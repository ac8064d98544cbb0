use Rattle.batcher_votes.proofs.VerifierLemmas.Verdicts.{handed_tries}
use Rattle.batcher_votes.proofs.verifier.Verifier.conclude_with.Goals as goal

pub returns-clause-tries : goal.returns-clause-tries
returns-clause-tries g c =
    let old = c.args.self.now in
    let takes = rw (c.unwrap.ensures, c.given-tried.ensures.batch) at c.take_in.ensures.takes in
    let looks = c.looks_at.ensures.looks_at.0 c.if-not-looks_at.false in
    handed_tries (g.S.Scheme.meaning old.scheme) old.number old.quorum old.holds c.take_in.new.self.holds c.args.kind c.args.subject
    c.args.list.now c.args.certificate c.unwrap.result takes looks.1 (c.may_be_quorum.ensures.0 c.if-not-may_be_quorum.false) c.requires
