-- Lives keep the policy as their disks have them.
use Rattle.batcher_agreement.proofs.Words.{[], ◌∷◌, ◌++◌, List, learned, voted, Conduct, KeepsPolicy}
use Rattle.batcher_agreement.specs.Cuts.{CutLife, KeepPolicyByDisk, lives_by_disk}
use Rattle.batcher_agreement.specs.Lives.{conduct_of, conduct_of_lives}

older_keeps : {D : Type 0} (a past : Conduct D) → KeepsPolicy (a ++ past) → KeepsPolicy past
older_keeps [] past keeps = keeps
older_keeps (voted s ∷ a) past keeps = older_keeps a past keeps.1
older_keeps (learned s ∷ a) past keeps = older_keeps a past keeps

pub by_disk_keep :
    {S D K G C : Type 0} (lives : List (CutLife S D K G C)) → KeepPolicyByDisk lives
    → KeepsPolicy (conduct_of_lives (lives_by_disk lives))
by_disk_keep [] keep = tt
by_disk_keep (cut ∷ earlier) keep =
    older_keeps (conduct_of cut.since)
    (conduct_of cut.by_disk.past ++ conduct_of_lives (lives_by_disk earlier)) keep.0
