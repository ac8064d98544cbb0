use Rattle.batcher_ffi.proofs.Words.{◌≡◌, Some, rules, sym}
use Rattle.batcher_ffi.proofs.Judged.{takes_of}
use Rattle.batcher_ffi.specs.Flat.{kind_in}
use Rattle.batcher_ffi.proofs.judging.conclude.Goals as goal

pub returns-clause-takes : goal.returns-clause-takes
returns-clause-takes c =
    let kind : kind_in c.args.kind ≡ Some c.in-Some.kind = search rules in
    rw (kind, sym c.it.view_is)
    (takes_of (record { validator = c.it.inside.validator; requests = c.it.inside.requests }) _ _ c.judge.new.self _ _ _ _
    (c.judge.ensures.judges (search rules)) (c.judge.ensures.complete (search rules)) c.conclude_judged.ensures.concludes)
