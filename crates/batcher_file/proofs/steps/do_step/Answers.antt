use Rattle.batcher_file.proofs.Words.{on_err_weaker}
use Rattle.batcher_file.proofs.Doing.{counted}
use Rattle.batcher_file.proofs.steps.do_step.Goals as goal

pub returns-clause-failed : goal.returns-clause-failed
returns-clause-failed g c =
    on_err_weaker c.sync.result
    (λ failed. record {
      tried = record {
        crash = λ file left. c.begin_step.ensures.tried.crash file (c.sync.ensures.crash file left);
        mixed = λ mixing fits file left.
            c.begin_step.ensures.tried.mixed mixing fits file (c.sync.ensures.crash file left);
        clean = λ clean. c.begin_step.ensures.tried.clean (c.sync.ensures.clean clean);
      };
      failed = failed;
    })
    (counted c.sync.result _ _ c.sync.ensures.faults)
