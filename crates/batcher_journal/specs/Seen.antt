-- The values of the code, seen as those of the definitions.
use Rattle.batcher_journal.specs.Records.{Certifies, Record, Voted}
use Rattle.batcher_journal.specs.Text.{Contents}
use Rattle.batcher_journal.specs.declared.contents.Kept.{Kept}
use Rattle.batcher_journal.specs.declared.records.Record.{Record as Read}
use Rattle.batcher_journal.specs.declared.records.Record.TheVariants as read

module _ {G D : Type 0} where
  abbrev pub seen : Read G D → Record G D
  seen (read.Vote vote) = Voted vote
  seen (read.Certificate round bytes) = Certifies (round, bytes.now)

  abbrev pub contents_of : Kept G D → Contents G D
  contents_of kept = record {
    owner = kept.owner;
    floor = kept.floor;
    finalization = kept.finalization.items;
    votes = kept.votes;
    certificates = kept.certificates.items;
  }
