-- Why there is no validator of a disk that has a journal.
use Rattle.std.specs.Prelude.{◌≡◌, ℕ, List}
use Rattle.batcher_bytes.specs.Encodings.{proof_format, signature_format}
use Rattle.batcher_bytes.specs.Kept.{vouches}
use Rattle.batcher_bytes.specs.Messages.{certificate_format, sha256_format, vote_format}
use Rattle.batcher_bytes.specs.declared.signature.Signature.{Signature}
use Rattle.batcher_journal.specs.Text.{Contents, IsText, OwnerFields}
use Rattle.batcher_types.specs.Votes.{content_of, subject_certified}
use Rattle.batcher_types.specs.declared.messages.Sha256Digest.{Sha256Digest}
use Rattle.batcher_voter.specs.Unstarted.{WhyNotStarted}
use Rattle.batcher_voter.specs.declared.answers.StartFault.{StartFault}

-- The bytes are a journal's of this owner, which makes no voter.
pub record HasNoVoter (owner : OwnerFields) (bytes : List ℕ) (fault : StartFault) : Type 0 where
  pub contents : Contents Signature Sha256Digest
  pub owner_is : contents.owner ≡ owner
  pub text : IsText (vote_format signature_format sha256_format) bytes contents
  pub why :
      WhyNotStarted (certificate_format proof_format sha256_format) contents
      (λ c. vouches (subject_certified c) (content_of c)) fault
