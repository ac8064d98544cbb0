use Rattle.batcher_journal.proofs.Words.{vote_format, contents_of, fields_of}
use Rattle.batcher_journal.proofs.Sorting.{whole_text}
use Rattle.batcher_journal.proofs.contents.raise.Goals as goal

pub returns-clause-text : goal.returns-clause-text
returns-clause-text g c =
    whole_text (vote_format g.G.Codec.format g.D.Codec.format) (contents_of (record {
      owner = c.in_ok-of.field-0;
      floor = c.args.floor;
      finalization = c.in_ok-copy_of.field-0;
      votes = c.of-2.result;
      certificates = c.in_ok-certificates_from.field-0;
    })) (fields_of c.args.owner.now) c.args.finalization.now c.as_slice.result.now c.deref.result.now
    c.new-text.result.items c.put_owner.new.out.items c.put_certified.new.out.items c.put_records.new.out.items
    c.in_ok-of.ensures c.in_ok-copy_of.ensures c.as_slice.ensures c.deref.ensures.value
    c.new-text.ensures.items c.in_ok-put_owner.ensures.ok c.in_ok-put_owner.ensures.value
    c.in_ok-put_certified.ensures.ok c.in_ok-put_certified.ensures.value
    c.in_ok-put_records.ensures.ok c.in_ok-put_records.ensures.value
