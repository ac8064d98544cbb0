use Rattle.batcher_journal.proofs.Words.{arith, refl, subst, ◌∙◌, vote_format, Cause, contents_of, IsText, fields_of}
use Rattle.batcher_journal.proofs.Writes.{ready_opened}
use Rattle.batcher_journal.proofs.journal.Journal.open.Goals as goal

pub returns-in-Err-clause-refused : goal.returns-in-Err-clause-refused
returns-in-Err-clause-refused g c = (
  refl,
  subst (λ bytes. Cause (vote_format g.G.Codec.format g.D.Codec.format) bytes (fields_of c.args.owner.now)
      g.D.PartialEq.eq c.in-Err.fault) c.bytes.ensures c.in-Err.ensures.refused,
)

pub invariant_of-result : goal.invariant_of-result
invariant_of-result g c =
    let all = c.len-written.ensures ∙ c.in-Ok.kept.certificates.ok.0 in (
      omega (arith, all),
      λ is_open.
          ready_opened (vote_format g.G.Codec.format g.D.Codec.format) g.D.PartialEq.eq g.L.Log.is_settled g.L.Log.written
          c.args.log (contents_of c.in-Ok.kept) c.len-written.result all c.requires
          (subst (λ t. IsText (vote_format g.G.Codec.format g.D.Codec.format) t (contents_of c.in-Ok.kept)) c.bytes.ensures
          c.in-Ok.ensures.found) c.in-Ok.ensures.followed,
    )
