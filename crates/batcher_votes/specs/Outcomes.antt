-- What an attempt at a certificate comes to, and what taking it in changes.
use Rattle.std.specs.Prelude.{◌≡◌, ◌≢◌, true, false, if◌then◌else◌, List, [], ◌++◌, Some, is_some}
use Rattle.std.specs.Prelude.{IfSome, map}
use Rattle.std.specs.List.{AllPass}
use Rattle.batcher_types.specs.declared.positions.Round.{Round}
use Rattle.batcher_types.specs.declared.messages.Attestation.{Attestation}
use Rattle.batcher_types.specs.declared.messages.Certificate.{Certificate}
use Rattle.batcher_types.specs.declared.messages.Kind.{Kind}
use Rattle.batcher_types.specs.declared.messages.Subject.{Subject}
use Rattle.batcher_types.specs.Attempts.{AttemptResult}
use Rattle.batcher_types.specs.Attestations.{index_of_signer}
use Rattle.batcher_types.specs.Lists.{EachOnce}
use Rattle.batcher_types.specs.Meaning.{Meaning}
use Rattle.batcher_types.specs.Votes.{is_kind}
use Rattle.batcher_votes.specs.declared.verifier.Batch.{Batch}
use Rattle.batcher_votes.specs.RoundState.{of_kind, VerifierState}
use Rattle.batcher_votes.specs.VerifierSteps.{SameVerifierState, batch_of, subject_tried, vote_for}

-- What is true of what an attempt gives.
pub record IsFine {D K G C : Type 0} (m : Meaning D K G C) (subject : Subject D)
    (t : AttemptResult G C) : Type 0 where
  pub attested : AllPass (m.attests subject) t.verified
  pub once : EachOnce index_of_signer t.verified
  pub emptied : is_some t.certificate ≡ true → t.verified ≡ []
  pub certifies : IfSome t.certificate (λ c. m.certifies subject c ≡ true)
  -- who had to verify one by one found somebody
  pub names : t.fallback ≡ true → t.invalid ≢ []

-- what an attempt gives: a batch, and attestations that join the verified ones where it has no
-- certificate
abbrev pub attempt_result : {G C : Type 0} → List (Attestation G) → Batch C → List (Attestation G)
    → AttemptResult G C
attempt_result verified batch joining =
    record {
      processed = batch.processed;
      invalid = batch.invalid;
      certificate = batch.certificate;
      fallback = batch.fallback;
      verified = if is_some batch.certificate then [] else verified ++ joining;
    }

-- What an attempt at a kind's certificate gave is taken in. It is an attempt's step but for how it
-- came to its outcome.
pub record TakesIn {D G C : Type 0} (number : Round) (old : VerifierState G D) (tried : Kind)
    (subject : Subject D) (outcome : AttemptResult G C) (batch : Batch (Certificate C D))
    (new : VerifierState G D) : Type 0 where
  pub subject_is : subject_tried old number tried ≡ Some subject
  pub batch_is : batch ≡ batch_of subject outcome
  pub leader : new.leader ≡ old.leader
  pub selection : new.selection ≡ old.selection
  pub others : (kind : Kind) → is_kind tried kind ≡ false → SameVerifierState old new kind
  pub certified : of_kind new.certified tried ≡ is_some outcome.certificate
  pub pending : of_kind new.pending tried ≡ []
  pub verified : of_kind new.verified tried ≡ map (vote_for subject) outcome.verified
