use Rattle.batcher_journal.proofs.Words.{ap, drop, subst, sym, take, ◌-◌, ◌∙◌, Keeps}
use Rattle.batcher_journal.proofs.Keeping.{left_before, same_journal, same_written}
use Rattle.batcher_journal.proofs.Sorting.{made}
use Rattle.batcher_journal.proofs.journal.Journal.take_back.Goals as goal

pub returns-then-self-len-clause-back : goal.returns-then-self-len-clause-back
returns-then-self-len-clause-back g c = λ before it keeps.
    let kept = c.self.inside.kept in
    let all = kept.certificates.items in
    let written = c.self.inside.written in
    let one = subst (λ v. Keeps before v it) (sym c.self.view_is) keeps in
    let cut = c.truncate.ensures.items ∙ ap (λ n. take (n - 1) all) (c.len-len.ensures ∙ kept.certificates.ok.0) in
    same_journal _ before one.log
    (ap (λ its. made kept.owner kept.floor kept.finalization.items kept.votes (take written its)) cut
    ∙ ap (λ its. made kept.owner kept.floor kept.finalization.items kept.votes its)
    (same_written written all before.unwritten it c.self.invariant.0 one.unwritten_are)
    ∙ one.contents)
    (ap (λ its. drop written its) cut
    ∙ left_before written all before.unwritten it c.self.invariant.0 one.unwritten_are)
    one.is_open
