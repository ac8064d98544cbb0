use Rattle.batcher_validator.proofs.Words.{certifies_itself, log_of, refl}
use Rattle.batcher_bytes.specs.Encodings.{proof_format}
use Rattle.batcher_bytes.specs.Kept.{vouches}
use Rattle.batcher_bytes.specs.Messages.{certificate_format, sha256_format}
use Rattle.batcher_types.specs.Votes.{content_of, subject_certified}
use Rattle.batcher_voter.proofs.Unstarted.{readable_starts}
use Rattle.batcher_validator.proofs.next.Validator+Signed+T+true+Sha256Digest+CopiedLog.log_starts.Goals as goal

pub returns : goal.returns
returns g c = λ opened owner fault it.
    readable_starts (certificate_format proof_format sha256_format) (λ c. vouches (subject_certified c) (content_of c))
    it.contents
    (c.leaves_what_is_readable.ensures (log_of c.args.self.now) opened tt refl it.contents it.text) fault it.why
