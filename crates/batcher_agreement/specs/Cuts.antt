-- Lives that end before all that was done in them is on the disk, and the next one goes on by that.
use Rattle.std.specs.Prelude.{⊤, List, [], ◌∷◌, ◌++◌}
use Rattle.batcher_agreement.specs.Lives.{Life, VoterHistory, conduct_of, conduct_of_lives}
use Rattle.batcher_agreement.specs.Policy.{Conduct, KeepsPolicy}

-- A life as it was when its disk had all that was cast, for the last time, and what happened since.
-- By then nothing that happened since had been sent.
pub record CutLife (S D K G C : Type 0) : Type 0 where
  pub by_disk : Life S D K G C
  pub since : VoterHistory D K G C

module _ {S D K G C : Type 0} where
  -- the lives as their disks have them, the last one first
  abbrev pub lives_by_disk : List (CutLife S D K G C) → List (Life S D K G C)
  lives_by_disk [] = []
  lives_by_disk (cut ∷ earlier) = cut.by_disk ∷ lives_by_disk earlier

  -- all that was done, also what the disks lost
  abbrev pub all_done_in : List (CutLife S D K G C) → Conduct D
  all_done_in [] = []
  all_done_in (cut ∷ earlier) =
      conduct_of cut.since ++ (conduct_of cut.by_disk.past ++ all_done_in earlier)

  -- In each life its acts keep the policy, behind those that the disk had when the life began.
  abbrev pub KeepPolicyByDisk : List (CutLife S D K G C) → Type 0
  KeepPolicyByDisk [] = ⊤
  KeepPolicyByDisk (cut ∷ earlier) =
      KeepsPolicy (conduct_of cut.since
      ++ (conduct_of cut.by_disk.past ++ conduct_of_lives (lives_by_disk earlier)))
      × KeepPolicyByDisk earlier
