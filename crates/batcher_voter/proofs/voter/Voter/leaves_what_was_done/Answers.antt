use Rattle.batcher_voter.proofs.Words.{subst, sym, vote_format, IsText, node_config}
use Rattle.batcher_voter.proofs.Leaving.{rests}
use Rattle.batcher_voter.proofs.voter.Voter.leaves_what_was_done.Goals as goal

pub returns : goal.returns
returns g c = λ left is_open honest may past earlier is.
    let voter = c.args.self.now in
    let format = vote_format g.S.Signature.Codec.format g.D.Codec.format in
    let disk = c.is_open.ensures.on_disk is_open in
    rests (node_config g.S.Scheme.meaning g.S.PublicKey.Ord.cmp g.S.Signature.PartialEq.eq
    g.D.PartialEq.eq voter.node) format g.D.PartialEq.eq c.bytes_are_of_one_journal.ensures voter is_open left
    (subst (λ text. IsText format text voter.journal.contents)
    (sym (g.met.L.Log.settled voter.journal.log left honest disk.0 may)) disk.1) past earlier is
