use Rattle.batcher_voter.proofs.Words.{Err, Ok, subst, sym, node_config, subject_of, vote_format, ForEachLife, Permits}
use Rattle.batcher_voter.proofs.Words.{Says, Sign, WritesVote}
use Rattle.batcher_voter.proofs.Waiting.{permits_still, says_still, written_still}
use Rattle.batcher_voter.proofs.voter.Voter.write.Goals as goal

pub write_kept-requires-clause-says : goal.write_kept-requires-clause-says
write_kept-requires-clause-says g c =
    let config = node_config g.S.Scheme.meaning g.S.PublicKey.Ord.cmp g.S.Signature.PartialEq.eq g.D.PartialEq.eq in
    let old = c.args.self.now in
    let mid = c.keep_given.new.self in
    let it = c.keep_given.ensures in
    subst (λ node. Says (config node) g.D.PartialEq.eq mid (subject_of c.args.vote) Sign) (sym it.frame.node)
    (says_still (config old.node) g.D.PartialEq.eq old mid it.frame.node it.knowledge it.frame.contents it.frame.is_open
    (subject_of c.args.vote) c.requires.says)

pub write_kept-requires-clause-permits : goal.write_kept-requires-clause-permits
write_kept-requires-clause-permits g c =
    let config = node_config g.S.Scheme.meaning g.S.PublicKey.Ord.cmp g.S.Signature.PartialEq.eq g.D.PartialEq.eq in
    let old = c.args.self.now in
    let mid = c.keep_given.new.self in
    let it = c.keep_given.ensures in
    subst (λ node. ForEachLife (config node) mid
    (Permits (config node) g.D.PartialEq.eq mid (subject_of c.args.vote) Sign)) (sym it.frame.node)
    (permits_still (config old.node) g.D.PartialEq.eq old mid it.frame.node it.knowledge it.frame.contents it.frame.is_open
    (subject_of c.args.vote) c.requires.permits)

pub returns-in-Ok : goal.returns-in-Ok
returns-in-Ok g c =
    let config = node_config g.S.Scheme.meaning g.S.PublicKey.Ord.cmp g.S.Signature.PartialEq.eq g.D.PartialEq.eq in
    let old = c.args.self.now in
    let mid = c.keep_given.new.self in
    let it = c.keep_given.ensures in
    written_still (config old.node) g.D.PartialEq.eq _ _ _ _ _ old mid it.frame.node it.knowledge it.frame.contents
    it.frame.is_open it.frame.log c.args.vote c.write_kept.new.self _
    (subst (λ node. WritesVote (config node) g.D.PartialEq.eq
    (vote_format g.S.Signature.Codec.format g.D.Codec.format) g.L.Log.is_full g.L.Log.is_honest g.L.Log.may_leave
    g.L.Log.is_copied_as mid c.args.vote c.write_kept.new.self (Ok tt)) it.frame.node c.in-Ok.ensures)

pub returns-in-Err : goal.returns-in-Err
returns-in-Err g c =
    let config = node_config g.S.Scheme.meaning g.S.PublicKey.Ord.cmp g.S.Signature.PartialEq.eq g.D.PartialEq.eq in
    let old = c.args.self.now in
    let mid = c.keep_given.new.self in
    let it = c.keep_given.ensures in
    written_still (config old.node) g.D.PartialEq.eq _ _ _ _ _ old mid it.frame.node it.knowledge it.frame.contents
    it.frame.is_open it.frame.log c.args.vote c.write_kept.new.self _
    (subst (λ node. WritesVote (config node) g.D.PartialEq.eq
    (vote_format g.S.Signature.Codec.format g.D.Codec.format) g.L.Log.is_full g.L.Log.is_honest g.L.Log.may_leave
    g.L.Log.is_copied_as mid c.args.vote c.write_kept.new.self (Err c.in-Err.fault)) it.frame.node c.in-Err.ensures)
