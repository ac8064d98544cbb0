use Rattle.batcher_file.proofs.Words.{refl}
use Rattle.batcher_file.proofs.Exact.{are_two, not_two, nothing_behind}
use Rattle.batcher_file.proofs.contents.are_two_frames.Goals as goal

pub returns-in-empty : goal.returns-in-empty
returns-in-empty c =
    nothing_behind c.args.bytes.now c.args.due _ _ c.in-Some.ensures.some c.in-empty.len_below

pub returns-in-Some-frame_due : goal.returns-in-Some-frame_due
returns-in-Some-frame_due c =
    are_two c.args.bytes.now c.args.due _ _ c.in-Some.ensures.some c.in-len1-up.len_at_least _ _
    c.in-Some-frame_due.ensures.some

pub returns-in-None-frame_due : goal.returns-in-None-frame_due
returns-in-None-frame_due c =
    not_two c.args.bytes.now c.args.due _ _ c.in-Some.ensures.some c.in-len1-up.len_at_least
    (c.in-None-frame_due.ensures.none refl)
