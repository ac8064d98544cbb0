-- What a certificate shows that a round or a node gives.
use Rattle.batcher_ffi.proofs.Words.{◌≡◌, ◌++◌, ℕ, Bool, true, false, List, length, IfSome, subst, sym, content_of, subject_certified, Attestation}
use Rattle.batcher_ffi.proofs.Words.{Sha256Digest, Subject, Name, Batch, IsAssembled, BatchIsAssembled, made_of, Content, Keys, Signature, keys_in, meaning_by}
use Rattle.batcher_ffi.proofs.Words.{Batchable, OneByOne, Made, WritesCertificate, WritesContent, CRound, IsOfQuorum, MakesQuorum, config_of_handle, Caller}
use Rattle.batcher_ffi.proofs.Words.{FlatAttestation, FlatStep}
use Rattle.std.specs.Prelude.{Option, Some, None}
use Rattle.batcher_ffi.specs.contracts.caller.CallerTruth.TheImpl.{ghosts}

-- What the scheme assembles is made of attestations of a quorum, as they are written.
of_quorum : (keys : Keys) (n : ℕ) (step : FlatStep) (room list : List FlatAttestation)
    (subject : Subject Sha256Digest) (prior fresh : List (Attestation Signature))
    (content : Content Caller) → content ≡ made_of keys n subject (prior ++ fresh)
    → WritesContent step room list content → IsOfQuorum keys n subject content
of_quorum keys n step room list subject prior fresh content is written =
    subst (IsOfQuorum keys n subject) (sym is)
    (subst (WritesContent step room list) is written).1.1

-- So is the certificate of a batch that a scheme of bytes assembles.
pub makes_quorum : (batchable : Bool) (participants : List Name) (keys : Keys) (step : FlatStep)
    (room list : List FlatAttestation) (batch : Batch Made)
    → BatchIsAssembled (meaning_by ghosts batchable participants keys) batch
    → IfSome batch.certificate (WritesCertificate step room list)
    → MakesQuorum keys (length participants) batch
makes_quorum batchable participants keys step room list batch assembled written =
    of_some batch.certificate assembled written
  where
    of_some : (o : Option Made)
        → IfSome o (IsAssembled (meaning_by ghosts batchable participants keys))
        → IfSome o (WritesCertificate step room list)
        → IfSome o (λ c. IsOfQuorum keys (length participants) (subject_certified c) (content_of c))
    of_some (Some c) is w =
        of_quorum keys (length participants) step room list (subject_certified c) is.0 is.1
        (content_of c) is.2 w.content
    of_some None is w = tt

-- The same of a batch of a round.
pub round_makes_quorum : (r : CRound) (step : FlatStep) (room list : List FlatAttestation)
    (batch : Batch Made) → BatchIsAssembled (config_of_handle r).meaning batch
    → IfSome batch.certificate (WritesCertificate step room list)
    → MakesQuorum (keys_in r) (length (config_of_handle r).meaning.participants) batch
round_makes_quorum (Batchable j) step room list batch is written =
    makes_quorum true j.round.scheme.participants j.round.scheme.keys step room list batch is written
round_makes_quorum (OneByOne j) step room list batch is written =
    makes_quorum false j.round.scheme.participants j.round.scheme.keys step room list batch is written
