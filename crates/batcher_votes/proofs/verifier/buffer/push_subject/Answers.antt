use Rattle.batcher_votes.proofs.Words.{◌≡◌, ◌<◌, ◌+◌, ◌-◌, ◌∙◌, ap, sym, length, arith, subject_of, same_subject-true}
use Rattle.batcher_votes.proofs.VerifierLemmas.Runs.{same_item, subjects_of_runs-grow}
use Rattle.batcher_votes.proofs.verifier.buffer.push_subject.Goals as goal

pub returns-then-is_about-clause-subjects : goal.returns-then-is_about-clause-subjects
returns-then-is_about-clause-subjects g c =
    let runs = c.args.runs.now in
    let last = c.len-len.result - 1 in
    let long : length runs.items ≡ last + 1 = omega (arith, runs.ok.0, c.len-len.ensures) in
    let below : last < length runs.items = omega (arith, long) in
    let same = same_subject-true g.D.PartialEq.eq g.met.D.Digest.identical _ _ (sym c.is_about.ensures ∙ c.if-is_about.true) in
    let one = same_item runs.items last c.index_mut.result.now c.index-then-index-lt18446744073709551615.result.now below c.index_mut.ensures.value
    c.index-then-index-lt18446744073709551615.ensures in
    subjects_of_runs-grow runs.items last c.index_mut.result.now (subject_of c.args.vote.now) long c.index_mut.ensures.value
    (ap (λ run. run.subject) one ∙ same)
