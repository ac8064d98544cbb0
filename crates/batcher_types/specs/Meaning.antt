-- What a scheme means: who takes part, what attests and certifies, and what its calls answer, as
-- functions.
use Rattle.std.specs.Prelude.{◌≡◌, ◌<◌, ◌≤◌, ◌++◌, Bool, true, List, length, Option, Some, is_some}
use Rattle.std.specs.List.{AllPass}
use Rattle.rand_core.specs.Stream.{Stream}
use Rattle.batcher_types.specs.Attestations.{IsQuorum}
use Rattle.batcher_types.specs.declared.messages.Subject.{Subject}
use Rattle.batcher_types.specs.declared.messages.Attestation.{Attestation}

-- Keys K, signatures G and certificates C, over digests D. The calls of `optimistic_assemble` take
-- the pending attestations and
-- then the verified ones, those of `assemble` the earlier and then the newly verified ones.
pub record Meaning (D K G C : Type 0) : Type 0 where
  pub participants : List K
  pub batchable : Bool
  pub attests : Subject D → Attestation G → Bool
  pub certifies : Subject D → C → Bool
  pub left_by_verifying : Subject D → List (Attestation G) → Stream → Stream
  pub assembled_at_once : Subject D → List (Attestation G) → List (Attestation G) → Stream
      → Option C × Stream
  pub assembled : Subject D → List (Attestation G) → List (Attestation G) → C

module _ {D K G C : Type 0} (m : Meaning D K G C) where
  -- What `optimistic_assemble` asks: a quorum of some participants, of which the verified ones
  -- attest.
  pub record MayTry (subject : Subject D) (pending verified : List (Attestation G)) : Type 0 where
    pub some : 1 ≤ length m.participants
    pub quorum : IsQuorum (length m.participants) (verified ++ pending)
    pub attested : AllPass (m.attests subject) verified

  -- The laws that speak of these functions alone.
  pub record IsLawful : Type 0 where
    -- who attests takes part
    pub signers_in_range : (subject : Subject D) (a : Attestation G) → m.attests subject a ≡ true
        → a.signer.0 < length m.participants
    -- a certificate that is given at once certifies
    pub optimistic_certifies :
        (subject : Subject D) (pending verified : List (Attestation G)) (stream : Stream) (c : C)
        → MayTry subject pending verified
        → (m.assembled_at_once subject pending verified stream).0 ≡ Some c → m.certifies subject c
        ≡ true
    -- where all attest, one is given
    pub optimistic_gives :
        (subject : Subject D) (pending verified : List (Attestation G)) (stream : Stream)
        → MayTry subject pending verified
        → AllPass (m.attests subject) pending
        → is_some (m.assembled_at_once subject pending verified stream).0 ≡ true
    -- a certificate of a quorum that attests certifies
    pub assembled_certifies :
        (subject : Subject D) (prior fresh : List (Attestation G)) → 1 ≤ length m.participants
        → IsQuorum (length m.participants) (prior ++ fresh)
        → AllPass (m.attests subject) (prior ++ fresh)
        → m.certifies subject (m.assembled subject prior fresh) ≡ true
