-- A round with its verdicts, whichever sort its scheme is of.
use Rattle.std.specs.Prelude.{◌==◌, ◌&&◌, ◌++◌, ℕ, Bool, true, false, List, length}
use Rattle.std.specs.Ordering.{nat_cmp}
use Rattle.std.specs.Cmp.Lexicographic.{pointwise}
use Rattle.batcher_types.specs.Meaning.{Meaning}
use Rattle.batcher_types.specs.declared.messages.Sha256Digest.{Sha256Digest}
use Rattle.batcher_types.specs.declared.scheme.keyed.Name.{Name}
use Rattle.batcher_votes.specs.RoundState.{PerKind, RoundState, RoundView, SameRound}
use Rattle.batcher_histories.specs.Config.{Config}
use Rattle.batcher_histories.specs.RoundContracts.{round_config}
use Rattle.batcher_bytes.specs.Keys.{same_digest}
use Rattle.batcher_bytes.specs.Listings.{attests}
use Rattle.batcher_bytes.specs.Meanings.{certifies, made_of, made_at_once}
use Rattle.batcher_bytes.specs.declared.certificates.Content.{Content}
use Rattle.batcher_bytes.specs.declared.scheme.Bytes.{Bytes}
use Rattle.batcher_bytes.specs.declared.signature.Keys.{Keys}
use Rattle.batcher_bytes.specs.declared.signature.Signature.{Signature}
use Rattle.batcher_bytes.specs.declared.truth.Truth.{Ghosts}
use Rattle.batcher_verdicts.specs.Recorded.{Recorded}
use Rattle.batcher_verdicts.specs.declared.either.Either.{Either}
use Rattle.batcher_verdicts.specs.declared.either.Either.TheVariants.{Batchable, OneByOne}

-- a round over a scheme, and the verdicts that are recorded
pub record JudgedView (S G : Type 0) : Type 0 where
  pub round : RoundView S G Sha256Digest
  pub verdicts : PerKind (Recorded G Sha256Digest)

-- what calls change: what the round holds, and the verdicts
pub record Held : Type 0 where
  pub round : RoundState Signature Sha256Digest
  pub verdicts : PerKind (Recorded Signature Sha256Digest)

abbrev pub held_of : {S : Type 0} → JudgedView S Signature → Held
held_of judged = record { round = judged.round.holds; verdicts = judged.verdicts }

-- the configuration of a round whose signatures are bytes
abbrev pub BytesConfig : Type 0 → Type 0
BytesConfig T = Config Sha256Digest Name Signature (Content T)

abbrev pub same_signature : Signature → Signature → Bool
same_signature a b = (a.length == b.length) && pointwise (λ x y. x == y) a.bytes b.bytes

module _ {T : Type 0} (truth : Ghosts T) where
  -- what such a scheme means, by who takes part and with which keys
  abbrev pub meaning_by : Bool → List Name → Keys
      → Meaning Sha256Digest Name Signature (Content T)
  meaning_by batchable participants keys =
      record {
        participants = participants;
        batchable = batchable;
        attests = λ subject a. attests truth keys (length participants) subject a;
        certifies = λ subject c. certifies keys (length participants) subject c;
        left_by_verifying = λ subject pending stream. stream;
        assembled_at_once = λ subject pending verified stream. made_at_once keys
            (length participants) truth subject pending verified stream;
        assembled = λ subject prior fresh. made_of keys (length participants) subject
            (prior ++ fresh);
      }

  abbrev pub config_over : {b : ℕ} → Bool → RoundView (Bytes T b) Signature Sha256Digest
      → BytesConfig T
  config_over batchable round =
      round_config (λ s. meaning_by batchable s.participants s.keys) (λ a b. nat_cmp a.0 b.0)
      same_signature same_digest round

abbrev pub AnyView : Type 0 → Type 0
AnyView T = Either (JudgedView (Bytes T 1) Signature) (JudgedView (Bytes T 0) Signature)

module _ {T : Type 0} where
  -- the configuration of the round, of either sort
  abbrev pub config_in : Ghosts T → AnyView T → BytesConfig T
  config_in truth (Batchable judged) = config_over truth true judged.round
  config_in truth (OneByOne judged) = config_over truth false judged.round

  -- what it holds, and its verdicts
  abbrev pub held_in : AnyView T → Held
  held_in (Batchable judged) = held_of judged
  held_in (OneByOne judged) = held_of judged

  -- which keys its participants have
  abbrev pub keys_in : AnyView T → Keys
  keys_in (Batchable judged) = judged.round.scheme.keys
  keys_in (OneByOne judged) = judged.round.scheme.keys

  -- A call changes nothing of a round but what it holds.
  abbrev pub SameAny : AnyView T → AnyView T → Type 0
  SameAny (Batchable old) (Batchable new) = SameRound old.round new.round
  SameAny (OneByOne old) (OneByOne new) = SameRound old.round new.round
  SameAny old new = ⊥
