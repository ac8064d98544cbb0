use Rattle.batcher_verdicts.proofs.Words.{◌∙◌, rules, sym}
use Rattle.batcher_verdicts.proofs.Requesting.{same_put}
use Rattle.batcher_verdicts.proofs.requests.Requests.judge.Goals as goal
use Rattle.batcher_verdicts.proofs.requests.Requests.judge.Goals.{in-Some, in-None}

pub returns-clause-stale : goal.returns-clause-stale
returns-clause-stale g c =
    elim c.match-get_mut.branch [
      | in-Some w ↦ rw (w.self-inside-is, sym c.self.view_is) (λ stale. same_put _ _ c.key_in-key.result _ _
          (c.get_mut.follows.holds w.judge_by.new.self).0 (sym w.in-Some.ensures.value)
          (w.judge_by.ensures.stale (sym w.result-is ∙ stale)))
      | in-None w ↦ rw w.self-inside-is (λ _. search rules)
    ]
