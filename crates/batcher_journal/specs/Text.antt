-- The bytes of a journal: whose it is, the floor with its finalization, and then records.
use Rattle.std.specs.Prelude.{◌≡◌, ◌++◌, ℕ, List}
use Rattle.batcher_types.specs.declared.messages.Vote.{Vote}
use Rattle.batcher_types.specs.declared.positions.Round.{Round}
use Rattle.batcher_bytes.specs.Format.{Format, bytes_format, pair, u32_format}
use Rattle.batcher_bytes.specs.Messages.{versioned}
use Rattle.batcher_journal.specs.Records.{AreRecords, Certified, Record, certificates_of}
use Rattle.batcher_journal.specs.Records.{certified_format, records_text, votes_of}
use Rattle.batcher_journal.specs.declared.owner.Owner.{Owner}

-- the lengths of a digest and of a signature, the participant, the keys and the namespace
abbrev pub OwnerFields : Type 0
OwnerFields = ℕ × (ℕ × (ℕ × (List ℕ × List ℕ)))

abbrev pub fields_of : Owner → OwnerFields
fields_of owner = (
  owner.digest_len,
  (owner.signature_len, (owner.participant.0, (owner.keys.now, owner.namespace.now))),
)

abbrev pub owner_format : Format OwnerFields
owner_format =
    versioned (pair u32_format (pair u32_format (pair u32_format (pair bytes_format bytes_format))))

-- What is in a journal: whose it is, the floor and its finalization, and from there on the votes,
-- and the certificates that were kept beside them.
pub record Contents (G D : Type 0) : Type 0 where
  pub owner : OwnerFields
  pub floor : Round
  pub finalization : List ℕ
  pub votes : List (Vote G D)
  pub certificates : List Certified

-- The bytes are a journal's that has these contents.
pub record IsText {G D : Type 0} (format : Format (Vote G D)) (written : List ℕ)
    (contents : Contents G D) : Type 0 where
  pub records : List (Record G D)
  pub parts : written ≡ owner_format.encoding contents.owner
      ++ (certified_format.encoding (contents.floor, contents.finalization)
      ++ records_text format records)
  pub owner_value : owner_format.IsValue contents.owner
  pub floor_value : certified_format.IsValue (contents.floor, contents.finalization)
  pub values : AreRecords format records
  pub votes_are : contents.votes ≡ votes_of records
  pub certificates_are : contents.certificates ≡ certificates_of records
