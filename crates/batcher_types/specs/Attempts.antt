-- One attempt at a certificate, as a function of the scheme's meaning, the subject, the quorum, the
-- two lists and the stream.
use Rattle.std.specs.Prelude.{◌+◌, ℕ, Bool, true, false, nat_le, if◌then◌else◌, List, [], ◌++◌}
use Rattle.std.specs.Prelude.{length, filter, Option, Some, None}
use Rattle.rand_core.specs.Stream.{Stream}
use Rattle.batcher_types.specs.Attestations.{signers, failing}
use Rattle.batcher_types.specs.Meaning.{Meaning}
use Rattle.batcher_types.specs.declared.positions.Participant.{Participant}
use Rattle.batcher_types.specs.declared.messages.Attestation.{Attestation}
use Rattle.batcher_types.specs.declared.messages.Subject.{Subject}

-- What an attempt gives, and which attestations are verified after it.
pub record AttemptResult (G C : Type 0) : Type 0 where
  pub processed : ℕ
  pub invalid : List Participant
  pub certificate : Option C
  pub fallback : Bool
  pub verified : List (Attestation G)

-- the pending attestations that an attempt checks: none where the verified ones are a quorum
abbrev pub checked : {G : Type 0} → ℕ → List (Attestation G) → List (Attestation G)
    → List (Attestation G)
checked q verified pending = if nat_le q (length verified) then [] else pending

module _ {D K G C : Type 0} (m : Meaning D K G C) (subject : Subject D) (q : ℕ)
    (verified : List (Attestation G)) where
  -- Each one was verified by itself: those that attest join the verified ones, which make a
  -- certificate where they reach the quorum.
  abbrev pub one_by_one : List (Attestation G) → AttemptResult G C
  one_by_one pending =
      if nat_le q (length verified + length (filter (m.attests subject) pending))
      then record {
        processed = length pending;
        invalid = signers
            (failing (m.attests subject) pending);
        certificate = Some
            (m.assembled subject verified (filter (m.attests subject) pending));
        fallback = true;
        verified = [];
      }
      else record {
        processed = length pending;
        invalid = signers
            (failing (m.attests subject) pending);
        certificate = None;
        fallback = true;
        verified = verified ++ filter (m.attests subject) pending;
      }

  -- A certificate was given at once, or each one was verified.
  abbrev pub at_once : List (Attestation G) → Option C → AttemptResult G C
  at_once pending (Some c) =
      record {
        processed = length pending;
        invalid = [];
        certificate = Some c;
        fallback = false;
        verified = [];
      }
  at_once pending None = one_by_one pending

  -- Where they could be a quorum a certificate is asked for at once, else each is verified.
  abbrev pub attempt_with : List (Attestation G) → Stream → AttemptResult G C × Stream
  attempt_with pending stream =
      if nat_le q (length verified + length pending)
      then (
        at_once pending (m.assembled_at_once subject pending verified stream).0,
        (m.assembled_at_once subject pending verified stream).1,
      )
      else (
        record {
          processed = length pending;
          invalid = signers
              (failing (m.attests subject) pending);
          certificate = None;
          fallback = false;
          verified = verified ++ filter (m.attests subject) pending;
        },
        m.left_by_verifying subject pending
            stream,
      )

  -- the attempt with these pending attestations, and the stream that it leaves
  abbrev pub attempt_of : List (Attestation G) → Stream → AttemptResult G C × Stream
  attempt_of pending stream = attempt_with (checked q verified pending) stream
