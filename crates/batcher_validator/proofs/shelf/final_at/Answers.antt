use Rattle.batcher_validator.proofs.Words.{◌∙◌, ap, sym, subject_certified}
use Rattle.batcher_validator.proofs.Looking.{not_after, not_notarize, not_nullify, one_at, read_at}
use Rattle.batcher_validator.proofs.shelf.final_at.Goals as goal

pub returns-then-view-proposal-clause-some : goal.returns-then-view-proposal-clause-some
returns-then-view-proposal-clause-some g c =
    record {
      certificate = c.index-certificates-i.result;
      there = read_at c.args.certificates.now c.args.i c.index-certificates-i.result c.requires
          c.index-certificates-i.is;
      is_of = sym c.subject.ensures ∙ c.in-Finalize.is;
      after = c.if-view-proposal.true;
    }

pub returns-else-view-proposal-clause-none : goal.returns-else-view-proposal-clause-none
returns-else-view-proposal-clause-none g c = λ none it there p is_of.
    not_after c.args.view p c.in-Finalize.proposal c.subject.result c.in-Finalize.is c.if-view-proposal.false
    (c.subject.ensures
    ∙ ap subject_certified (one_at c.args.certificates.now c.args.i c.index-certificates-i.result it
    (read_at c.args.certificates.now c.args.i c.index-certificates-i.result c.requires
    c.index-certificates-i.is) there)
    ∙ is_of)

pub returns-in-Notarize-clause-none : goal.returns-in-Notarize-clause-none
returns-in-Notarize-clause-none g c = λ none it there p is_of.
    let e = sym c.in-Notarize.is ∙ c.subject.ensures
    ∙ ap subject_certified (one_at c.args.certificates.now c.args.i c.index-certificates-i.result it
    (read_at c.args.certificates.now c.args.i c.index-certificates-i.result c.requires
    c.index-certificates-i.is) there)
    ∙ is_of in
    absurd (not_notarize c.in-Notarize.proposal p e)

pub returns-in-Nullify-clause-none : goal.returns-in-Nullify-clause-none
returns-in-Nullify-clause-none g c = λ none it there p is_of.
    let e = sym c.in-Nullify.is ∙ c.subject.ensures
    ∙ ap subject_certified (one_at c.args.certificates.now c.args.i c.index-certificates-i.result it
    (read_at c.args.certificates.now c.args.i c.index-certificates-i.result c.requires
    c.index-certificates-i.is) there)
    ∙ is_of in
    absurd (not_nullify c.in-Nullify.round p e)
