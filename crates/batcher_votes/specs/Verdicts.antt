-- What a scheme means where verdicts come from elsewhere: the same, but that it draws nothing, and
-- gives a certificate at once where all pending attestations attest, or where one was handed in.
use Rattle.std.specs.Prelude.{◌≡◌, ◌≤◌, ◌+◌, Bool, if◌then◌else◌, List, length, Some, None}
use Rattle.std.specs.List.{list_all}
use Rattle.batcher_types.specs.declared.messages.Attestation.{Attestation}
use Rattle.batcher_types.specs.declared.messages.Kind.{Kind}
use Rattle.batcher_types.specs.declared.messages.Subject.{Subject}
use Rattle.batcher_types.specs.Meaning.{Meaning}
use Rattle.batcher_votes.specs.AttemptInputs.{pending_tried, verified_tried}
use Rattle.batcher_votes.specs.RoundState.{VerifierView}
use Rattle.batcher_votes.specs.Verifiers.{subject_ready}

module _ {D K G C : Type 0} (m : Meaning D K G C) where
  -- the scheme, with a verdict on each pending attestation
  abbrev pub judged : Meaning D K G C
  judged =
      record m {
        left_by_verifying = λ subject pending stream. stream;
        assembled_at_once = λ subject pending verified stream. (
          if list_all (m.attests subject) pending
              then Some (m.assembled subject verified pending) else None,
          stream,
        );
      }

  -- the scheme, with a certificate that was made elsewhere, which is given if it certifies
  abbrev pub judged_with : C → Meaning D K G C
  judged_with c =
      record m {
        left_by_verifying = λ subject pending stream. stream;
        assembled_at_once = λ subject pending verified stream. (
          if m.certifies subject c then Some c
              else (if list_all (m.attests subject) pending
              then Some (m.assembled subject verified pending) else None),
          stream,
        );
      }

module _ {S D K G C : Type 0} (meaning : S → Meaning D K G C) where
  -- the same of each scheme
  abbrev pub judged_in : S → Meaning D K G C
  judged_in scheme = judged (meaning scheme)

  abbrev pub judged_with_in : C → S → Meaning D K G C
  judged_with_in c scheme = judged_with (meaning scheme) c

  -- The next attempt at a kind's certificate is about the subject, and looks at these pending
  -- attestations.
  abbrev pub LooksAt : (D → D → Bool) → VerifierView S G D → Kind → Subject D
      → List (Attestation G) → Type 0
  LooksAt same v kind subject list =
      (subject_ready same (meaning v.scheme).batchable v.quorum v.holds v.number kind
      ≡ Some subject)
      × (pending_tried v.quorum v.holds kind ≡ list)

-- the pending attestations that an attempt looks at could be a quorum with the verified ones
abbrev pub MayBeQuorum : {S G D : Type 0} → VerifierView S G D → Kind → Type 0
MayBeQuorum v kind =
    v.quorum ≤ length (verified_tried v.holds kind) + length (pending_tried v.quorum v.holds kind)
