-- What was just opened has nothing that isn't written.
use Rattle.std.proofs.Common.{refl, subst}
use Rattle.std.proofs.lemmas.List.{append-nil}
use Rattle.std.specs.Prelude.{◌≡◌, List, [], ℕ}
use Rattle.batcher_bytes.specs.Encodings.{proof_format, signature_format}
use Rattle.batcher_bytes.specs.Kept.{vouches}
use Rattle.batcher_bytes.specs.Messages.{certificate_format, sha256_format, vote_format}
use Rattle.batcher_bytes.specs.declared.signature.Signature.{Signature}
use Rattle.batcher_journal.specs.Ready.{JournalView}
use Rattle.batcher_journal.specs.Text.{Contents, IsText, OwnerFields}
use Rattle.batcher_types.specs.Votes.{content_of, subject_certified}
use Rattle.batcher_types.specs.declared.messages.Sha256Digest.{Sha256Digest}
use Rattle.batcher_validator.specs.Unstarted.{HasNoVoter}
use Rattle.batcher_voter.specs.Unstarted.{WhyNotStarted, all_in}
use Rattle.batcher_voter.specs.declared.answers.StartFault.{StartFault}

pub all_opened : {G D L : Type 0} (journal : JournalView G D L) → journal.unwritten ≡ []
    → all_in journal ≡ journal.contents
all_opened journal none = rw (none, append-nil journal.contents.certificates) refl

pub no_voter : {L : Type 0} (journal : JournalView Signature Sha256Digest L) (owner : OwnerFields)
    (bytes : List ℕ) (fault : StartFault)
    → journal.contents.owner ≡ owner → journal.unwritten ≡ []
    → IsText (vote_format signature_format sha256_format) bytes journal.contents
    → WhyNotStarted (certificate_format proof_format sha256_format) (all_in journal)
    (λ c. vouches (subject_certified c) (content_of c)) fault
    → HasNoVoter owner bytes fault
no_voter journal owner bytes fault owned none text why = record {
  contents = journal.contents;
  owner_is = owned;
  text = text;
  why = subst (λ (contents : Contents Signature Sha256Digest).
      WhyNotStarted (certificate_format proof_format sha256_format) contents
      (λ c. vouches (subject_certified c) (content_of c)) fault) (all_opened journal none) why;
}
