-- A construction by verdicts gives what the scheme assembles, if it gives a certificate.
use Rattle.batcher_round.proofs.Words.{◌≡◌, ◌+◌, ap, sym, subst, refl, cond, ℕ, Bool, true, false, List, length, Option, Some, None, IfSome, nat_le, filter}
use Rattle.batcher_round.proofs.Words.{list_all, option_map, Stream, AttemptResult, at_once, attempt_with, one_by_one, Meaning, Attestation, Certificate}
use Rattle.batcher_round.proofs.Words.{Subject, Notarize, Nullify, Finalize, RoundState}
use Rattle.batcher_votes.specs.Verdicts as votes
use Rattle.batcher_round.proofs.Words.{certificate_for, Batch, Config, AfterBatch, IsAssembled, BatchIsAssembled, judged_config}

module _ {D K G C : Type 0} (m : Meaning D K G C) (subject : Subject D) where
  abbrev IsOf : AttemptResult G C → Type 0
  IsOf tried = IfSome tried.certificate (λ content. (prior : List (Attestation G))
      × (fresh : List (Attestation G)) × (content ≡ m.assembled subject prior fresh))

  of_either : (b : Bool) (first other : AttemptResult G C) → IsOf first → IsOf other
      → IsOf (cond b first other)
  of_either true first other is_first is_other = is_first
  of_either false first other is_first is_other = is_other

  of_pair : (b : Bool) (first other : AttemptResult G C × Stream) → IsOf first.0 → IsOf other.0
      → IsOf (cond b first other).0
  of_pair true first other is_first is_other = is_first
  of_pair false first other is_first is_other = is_other

  of_each : (q : ℕ) (verified pending : List (Attestation G))
      → IsOf (one_by_one (votes.judged m) subject q verified pending)
  of_each q verified pending =
      of_either (nat_le q (length verified + length (filter (m.attests subject) pending))) _ _
      (verified, filter (m.attests subject) pending, refl) tt

  of_once : (q : ℕ) (verified pending : List (Attestation G)) (all : Bool)
      → IsOf (at_once (votes.judged m) subject q verified pending
      (cond all (Some (m.assembled subject verified pending)) None))
  of_once q verified pending true = (verified, pending, refl)
  of_once q verified pending false = of_each q verified pending

  of_attempt : (q : ℕ) (verified pending : List (Attestation G)) (stream : Stream)
      → IsOf (attempt_with (votes.judged m) subject q verified pending stream).0
  of_attempt q verified pending stream =
      of_pair (nat_le q (length verified + length pending)) _ _
      (of_once q verified pending (list_all (m.attests subject) pending)) tt

  -- What is assembled for the subject, as a certificate of it.
  pub of_certificate : (content : C)
      → ((prior : List (Attestation G)) × (fresh : List (Attestation G))
      × (content ≡ m.assembled subject prior fresh))
      → IsAssembled m (certificate_for subject content)
  of_certificate content is = given subject is
    where
      given : (s : Subject D) → ((prior : List (Attestation G)) × (fresh : List (Attestation G))
          × (content ≡ m.assembled s prior fresh)) → IsAssembled m (certificate_for s content)
      given (Notarize proposal) is = is
      given (Nullify round) is = is
      given (Finalize proposal) is = is

  of_given : (o : Option C) → IfSome o (λ content. (prior : List (Attestation G))
      × (fresh : List (Attestation G)) × (content ≡ m.assembled subject prior fresh))
      → IfSome (option_map (certificate_for subject) o) (IsAssembled m)
  of_given (Some content) is = of_certificate content is
  of_given None is = tt

pub assembled_by_verdicts : {D K G C : Type 0} (x : Config D K G C) (old new : RoundState G D)
    (batch : Batch (Certificate C D)) (before after : Stream)
    → AfterBatch (judged_config x) old before batch new after → BatchIsAssembled x.meaning batch
assembled_by_verdicts x old new batch before after step =
    let tries = step.tried.tries in
    let made : IsOf x.meaning tries.subject tries.outcome =
    subst (λ o. IsOf x.meaning tries.subject o) (sym (ap (λ p. p.0) tries.attempt))
    (of_attempt x.meaning tries.subject _ _ _ _) in
    subst (λ b. BatchIsAssembled x.meaning b) (sym tries.batch_is)
    (of_given x.meaning tries.subject tries.outcome.certificate made)
