-- The records of a journal, one behind the other: a byte for the kind, and then a vote or a
-- certificate.
use Rattle.std.specs.Prelude.{◌≡◌, ◌++◌, ℕ, zero, suc, List, [], ◌∷◌, Result, Ok, Err, map}
use Rattle.std.specs.List.{AllByRecursion, flat_map}
use Rattle.batcher_bytes.specs.declared.fault.DecodeFault.{DecodeFault}
use Rattle.batcher_bytes.specs.declared.fault.DecodeFault.TheVariants.{Kind, Short}
use Rattle.batcher_bytes.specs.Format.{◌>>=◌, Format, bytes_format, pair}
use Rattle.batcher_bytes.specs.Messages.{round_format}
use Rattle.batcher_types.specs.declared.messages.Vote.{Vote}
use Rattle.batcher_types.specs.declared.positions.Round.{Round}

-- a round, and the bytes of a certificate of it
abbrev pub Certified : Type 0
Certified = Round × List ℕ

abbrev pub certified_format : Format Certified
certified_format = pair round_format bytes_format

pub data Record (G D : Type 0) : Type 0 where
  Voted : (vote : Vote G D) → Record G D
  Certifies : (certified : Certified) → Record G D

module _ {G D : Type 0} (votes : Format (Vote G D)) where
  abbrev IsRecord : Record G D → Type 0
  IsRecord (Voted vote) = votes.IsValue vote
  IsRecord (Certifies it) = certified_format.IsValue it

  abbrev pub record_bytes : Record G D → List ℕ
  record_bytes (Voted vote) = 0 ∷ votes.encoding vote
  record_bytes (Certifies it) = 1 ∷ certified_format.encoding it

  abbrev pub record_at : List ℕ → Result (Record G D × List ℕ) DecodeFault
  record_at [] = Err Short
  record_at (zero ∷ rest) = do
    it ← votes.decoding rest
    Ok (Voted it.0, it.1)
  record_at (suc zero ∷ rest) = do
    it ← certified_format.decoding rest
    Ok (Certifies it.0, it.1)
  record_at (suc (suc b) ∷ rest) = Err Kind

  abbrev pub record_format : Format (Record G D)
  record_format = record {
    IsValue = IsRecord;
    encoding = record_bytes;
    decoding = record_at;
  }

  abbrev pub records_text : List (Record G D) → List ℕ
  records_text records = flat_map record_bytes records

  abbrev pub AreRecords : List (Record G D) → Type 0
  AreRecords records = AllByRecursion IsRecord records

module _ {G D : Type 0} where
  -- the votes among records, in their order
  abbrev pub votes_of : List (Record G D) → List (Vote G D)
  votes_of [] = []
  votes_of (Voted vote ∷ records) = vote ∷ votes_of records
  votes_of (Certifies it ∷ records) = votes_of records

  -- the certificates among them
  abbrev pub certificates_of : List (Record G D) → List Certified
  certificates_of [] = []
  certificates_of (Voted vote ∷ records) = certificates_of records
  certificates_of (Certifies it ∷ records) = it ∷ certificates_of records

  -- votes, and then certificates
  abbrev pub records_of : List (Vote G D) → List Certified → List (Record G D)
  records_of votes certificates = map Voted votes ++ map Certifies certificates

-- The bytes are records, these votes and certificates, and what is left.
pub record HasRecords {G D : Type 0} (format : Format (Vote G D)) (bytes : List ℕ)
    (votes : List (Vote G D)) (certificates : List Certified) (left : List ℕ) : Type 0 where
  pub records : List (Record G D)
  pub parts : bytes ≡ records_text format records ++ left
  pub values : AreRecords format records
  pub votes_are : votes ≡ votes_of records
  pub certificates_are : certificates ≡ certificates_of records
