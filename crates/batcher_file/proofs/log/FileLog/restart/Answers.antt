use Rattle.batcher_file.proofs.Words.{on_ok_weaker}
use Rattle.batcher_file.proofs.log.FileLog.restart.Goals as goal

pub returns-clause-found : goal.returns-clause-found
returns-clause-found g c =
    on_ok_weaker c.open.result
    (λ found honest. record {
      current = _;
      other = _;
      current_left = c.crash.ensures.left;
      other_left = c.crash-2.ensures.left;
      hold = found honest;
    })
    c.open.ensures.found

pub returns-clause-leaves : goal.returns-clause-leaves
returns-clause-leaves g c =
    λ left honest may.
    let was = c.open.ensures.leaves left honest may in
    record {
      current = was.current;
      other = was.other;
      current_left = c.crash.ensures.crash was.current was.current_left;
      other_left = c.crash-2.ensures.crash was.other was.other_left;
      hold = was.hold;
    }
