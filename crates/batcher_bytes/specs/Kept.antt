-- What a scheme means whose certificates are kept with their verdicts, and its laws.
use Rattle.std.specs.Prelude.{◌≡◌, ◌&&◌, ◌++◌, ℕ, Bool, true, false, cond, List, Some, None, Option}
use Rattle.std.specs.Prelude.{is_some}
use Rattle.std.proofs.Common.{refl, subst}
use Rattle.std.specs.List.{AllPass, list_all}
use Rattle.std.proofs.lemmas.List.Sums.{list_all-from_AllPass}
use Rattle.rand_core.specs.Stream.{Stream}
use Rattle.batcher_types.specs.Votes.{same_subject}
use Rattle.batcher_types.proofs.VoteLemmas.{same_subject-refl}
use Rattle.batcher_types.specs.declared.messages.Attestation.{Attestation}
use Rattle.batcher_types.specs.declared.messages.Sha256Digest.{Sha256Digest}
use Rattle.batcher_types.specs.declared.messages.Subject.{Subject}
use Rattle.batcher_bytes.specs.Lists.{list_format}
use Rattle.batcher_bytes.specs.Messages.{attestation_format}
use Rattle.batcher_bytes.specs.Encodings.{ProofView, signature_format}
use Rattle.batcher_bytes.specs.Keys.{same_digest}
use Rattle.batcher_bytes.specs.Certifying.{same_as_itself}
use Rattle.batcher_bytes.specs.Listings.{attests}
use Rattle.batcher_bytes.specs.declared.signature.Keys.{Keys}
use Rattle.batcher_bytes.specs.declared.signature.Signature.{Signature}
use Rattle.batcher_bytes.specs.declared.truth.Truth.{Ghosts}

-- It certifies its own subject, by its verdict.
abbrev pub vouches : Subject Sha256Digest → ProofView → Bool
vouches subject c = c.certifies && same_subject same_digest subject c.subject

-- the attestations as bytes, which are a certificate
abbrev pub proof_of : Subject Sha256Digest → List (Attestation Signature) → ProofView
proof_of subject all =
    record {
      subject = subject;
      certifies = true;
      bytes = (list_format (attestation_format signature_format)).encoding all;
    }

module _ {T : Type 0} (truth : Ghosts T) (keys : Keys) (n : ℕ)
    (subject : Subject Sha256Digest) where
  -- the same where all pending ones attest, and the stream, which is left as it was
  abbrev pub proved_at_once : List (Attestation Signature) → List (Attestation Signature)
      → Stream → Option ProofView × Stream
  proved_at_once pending verified stream = (
    cond (list_all (attests truth keys n subject) pending)
        (Some (proof_of subject (verified ++ pending))) None,
    stream,
  )

  pub vouched : (all : List (Attestation Signature)) → vouches subject (proof_of subject all) ≡ true
  vouched all = same_subject-refl same_digest (λ d. same_as_itself d.0) subject

  pub vouched_at_once : (pending verified : List (Attestation Signature)) (stream : Stream)
      (c : ProofView) → (proved_at_once pending verified stream).0 ≡ Some c
      → vouches subject c ≡ true
  vouched_at_once pending verified stream c e =
      given (list_all (attests truth keys n subject) pending) (verified ++ pending) c e
    where
      given : (b : Bool) (all : List (Attestation Signature)) (c : ProofView)
          → cond b (Some (proof_of subject all)) None ≡ Some c → vouches subject c ≡ true
      given true all c e =
          let same : proof_of subject all ≡ c = cc in
          subst (λ content. vouches subject content ≡ true) same (vouched all)
      given false all c e = absurd (cc)

  pub proved_gives : (pending verified : List (Attestation Signature)) (stream : Stream)
      → AllPass (attests truth keys n subject) pending
      → is_some (proved_at_once pending verified stream).0 ≡ true
  proved_gives pending verified stream pass =
      gives (list_all (attests truth keys n subject) pending)
      (proof_of subject (verified ++ pending))
      (list_all-from_AllPass (attests truth keys n subject) pending pass)
    where
      gives : (all : Bool) (c : ProofView) → all ≡ true → is_some (cond all (Some c) None) ≡ true
      gives true c e = refl
      gives false c e = absurd (cc)
