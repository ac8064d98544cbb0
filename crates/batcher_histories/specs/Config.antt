-- The configuration of a round: its scheme, which keys, signatures and digests are the same, its
-- number, and how it keeps votes.
use Rattle.std.specs.Prelude.{ℕ, Bool, Option, length}
use Rattle.std.specs.declared.cmp.Ordering.{Ordering}
use Rattle.batcher_types.specs.declared.positions.Round.{Round}
use Rattle.batcher_types.specs.declared.positions.Participant.{Participant}
use Rattle.batcher_votes.specs.declared.votes.Mode.{Mode}
use Rattle.batcher_types.specs.Keys.{index_of}
use Rattle.batcher_types.specs.Meaning.{Meaning}
use Rattle.batcher_types.specs.Quorum.{quorum_of}

-- With keys K, signatures G and certificates C over digests D.
pub record Config (D K G C : Type 0) : Type 0 where
  pub meaning : Meaning D K G C
  pub compare_keys : K → K → Ordering
  pub same_signature : G → G → Bool
  pub same_digest : D → D → Bool
  pub number : Round
  pub mode : Mode

module _ {D K G C : Type 0} (x : Config D K G C) where
  abbrev pub participants_in : ℕ
  participants_in = length x.meaning.participants

  -- how many votes make a certificate
  abbrev pub quorum_in : ℕ
  quorum_in = quorum_of participants_in

  -- the participant with the key
  abbrev pub sender_in : K → Option Participant
  sender_in key = index_of x.compare_keys x.meaning.participants key

abbrev pub config : {D K G C : Type 0} → Meaning D K G C → (K → K → Ordering) → (G → G → Bool)
    → (D → D → Bool) → Round → Mode → Config D K G C
config meaning compare_keys same_signature same_digest number mode =
    record {
      meaning = meaning;
      compare_keys = compare_keys;
      same_signature = same_signature;
      same_digest = same_digest;
      number = number;
      mode = mode;
    }
