use Rattle.batcher_journal.proofs.Words.{◌≡◌, [], Err, Ok, ap, owner_format, subst, sym, ◌∙◌, vote_is_exact, vote_format, Unfollowed, HasRecords}
use Rattle.batcher_journal.proofs.Words.{fields_of, contents_of}
use Rattle.batcher_journal.proofs.Splitting.{found_text, no_floor, no_records, read_by, refused, some_bytes, unread}
use Rattle.batcher_journal.proofs.contents.kept_in.Goals as goal

pub returns-in-Err-clause-refused : goal.returns-in-Err-clause-refused
returns-in-Err-clause-refused g c =
    unread (vote_format g.G.Codec.format g.D.Codec.format)
    (vote_is_exact g.G.Codec.format g.D.Codec.format g.met.G.Codec.exact g.met.D.Codec.exact)
    c.args.bytes.now (fields_of c.args.owner.now) g.D.PartialEq.eq c.in-Err.fault c.unread.result c.in-Err.ensures c.unread.ensures
    (some_bytes c.args.bytes.now c.if-is_empty.ensures)

pub returns-in-Err-certified_in-clause-refused : goal.returns-in-Err-certified_in-clause-refused
returns-in-Err-certified_in-clause-refused g c = record {
  may_be = read_by (vote_format g.G.Codec.format g.D.Codec.format)
      (vote_is_exact g.G.Codec.format g.D.Codec.format g.met.G.Codec.exact g.met.D.Codec.exact)
      c.args.bytes.now (fields_of c.args.owner.now) c.in-Ok.it.1.now
      (subst (λ o. owner_format.decoding c.args.bytes.now ≡ Ok (o, c.in-Ok.it.1.now)) c.in-Ok-check_owner.ensures.ok c.in-Ok.ensures)
      (some_bytes c.args.bytes.now c.if-is_empty.ensures);
  none = λ contents text.
      no_floor (vote_format g.G.Codec.format g.D.Codec.format)
      (vote_is_exact g.G.Codec.format g.D.Codec.format g.met.G.Codec.exact g.met.D.Codec.exact)
      c.args.bytes.now contents text _ _ c.in-Ok.ensures _ c.in-Err-certified_in.ensures;
}

pub returns-in-Err-Fault-clause-refused : goal.returns-in-Err-Fault-clause-refused
returns-in-Err-Fault-clause-refused g c = record {
  may_be = read_by (vote_format g.G.Codec.format g.D.Codec.format)
      (vote_is_exact g.G.Codec.format g.D.Codec.format g.met.G.Codec.exact g.met.D.Codec.exact)
      c.args.bytes.now (fields_of c.args.owner.now) c.in-Ok.it.1.now
      (subst (λ o. owner_format.decoding c.args.bytes.now ≡ Ok (o, c.in-Ok.it.1.now)) c.in-Ok-check_owner.ensures.ok c.in-Ok.ensures)
      (some_bytes c.args.bytes.now c.if-is_empty.ensures);
  none = λ contents text.
      no_records (vote_format g.G.Codec.format g.D.Codec.format)
      (vote_is_exact g.G.Codec.format g.D.Codec.format g.met.G.Codec.exact g.met.D.Codec.exact)
      c.args.bytes.now contents text _ _ c.in-Ok.ensures _ _ _ c.in-Ok-certified_in.ensures
      (c.in-Err-Fault.ensures.fault c.in-Err-Fault.field-0-0 (ap (λ e. Err e) c.in-Err-Fault.field-0-is));
}

pub returns-in-Err-indexed-clause-refused : goal.returns-in-Err-indexed-clause-refused
returns-in-Err-indexed-clause-refused g c =
    refused (vote_format g.G.Codec.format g.D.Codec.format)
    (vote_is_exact g.G.Codec.format g.D.Codec.format g.met.G.Codec.exact g.met.D.Codec.exact)
    c.args.bytes.now (fields_of c.args.owner.now) _ _ _ c.type_inv.bytes c.in-Ok.ensures c.in-Ok-check_owner.ensures.ok
    _ _ c.in-Ok-certified_in.ensures
    g.D.PartialEq.eq _ _ c.in-Ok-records_in.ensures.found c.in-Err-indexed.fault
    (subst (λ vs. Unfollowed g.D.PartialEq.eq c.in-Ok-certified_in.it.0 vs c.in-Err-indexed.fault) c.deref.ensures.value
    c.in-Err-indexed.ensures.refused)

pub returns-clause-found : goal.returns-clause-found
returns-clause-found g c =
    found_text (vote_format g.G.Codec.format g.D.Codec.format)
    (vote_is_exact g.G.Codec.format g.D.Codec.format g.met.G.Codec.exact g.met.D.Codec.exact)
    c.args.bytes.now (contents_of (record {
      owner = c.in_ok-of.field-0;
      floor = c.in-Ok-certified_in.it.0;
      finalization = c.in_ok-copy_of.field-0;
      votes = c.in-Ok-indexed.votes;
      certificates = c.in-Ok-records_in.records.certificates;
    })) _ _ _ c.type_inv.bytes c.in-Ok.ensures (c.in-Ok-check_owner.ensures.ok ∙ sym c.in_ok-of.ensures)
    (c.in-Ok-certified_in.ensures ∙ ap (λ t. Ok ((c.in-Ok-certified_in.it.0, t), c.in-Ok-certified_in.it.2.now)) (sym c.in_ok-copy_of.ensures))
    (subst (λ vs. HasRecords (vote_format g.G.Codec.format g.D.Codec.format) c.in-Ok-certified_in.it.2.now vs
    c.in-Ok-records_in.records.certificates.items [])
    (sym (c.in-Ok-indexed.ensures.found ∙ c.deref.ensures.value)) c.in-Ok-records_in.ensures.found)
