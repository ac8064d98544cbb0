use Rattle.batcher_agreement.proofs.Cutting.{by_disk_keep}
use Rattle.batcher_agreement.proofs.cuts.lives_keep_the_policy_by_their_disks.Goals as goal

pub returns : goal.returns
returns g c = by_disk_keep
