use Rattle.batcher_bytes.proofs.Words.{rules, ◌≡◌, ◌++◌, length}
use Rattle.batcher_bytes.proofs.Passing.{same_passed}
use Rattle.batcher_bytes.proofs.scheme.Bytes.listed.Goals as goal

pub new-requires : goal.new-requires
new-requires g c =
    let copied : c.extend_from_slice-2.new.self.items ≡ c.args.prior.now ++ c.args.fresh.now = search rules in
    same_passed g.T.Truth c.args.self.now.keys c.args.subject (length c.args.self.now.participants) _
    (c.args.prior.now ++ c.args.fresh.now) _ c.len-participants.ensures.count copied c.requires
