use Rattle.batcher_evidence.proofs.Words.{sym, ap, ◌∙◌, option_copied}
use Rattle.batcher_evidence.proofs.Finding.{no_two, second_found, two_found}
use Rattle.batcher_evidence.proofs.forks.contradicting.Goals as goal

pub unreachable-requires : goal.unreachable-requires
unreachable-requires g c =
    second_found (g.S.Scheme.meaning c.args.scheme.now) g.D.PartialEq.eq c.args.certificates.now c.in-Some.a.now
    (sym (ap option_copied c.in-Some.is) ∙ c.contradicted.ensures)
    (sym (ap option_copied c.in-None-contrary_to.is) ∙ c.contrary_to.ensures)

pub returns-in-Some-contrary_to-clause-some : goal.returns-in-Some-contrary_to-clause-some
returns-in-Some-contrary_to-clause-some g c =
    two_found (g.S.Scheme.meaning c.args.scheme.now) g.D.PartialEq.eq c.args.certificates.now c.in-Some.a.now
    c.in-Some-contrary_to.b.now (sym (ap option_copied c.in-Some.is) ∙ c.contradicted.ensures)
    (sym (ap option_copied c.in-Some-contrary_to.is) ∙ c.contrary_to.ensures)

pub returns-in-None-clause-none : goal.returns-in-None-clause-none
returns-in-None-clause-none g c is a b two =
    no_two (g.S.Scheme.meaning c.args.scheme.now) g.D.PartialEq.eq c.args.certificates.now
    (sym (ap option_copied c.in-None.is) ∙ c.contradicted.ensures) a b two
