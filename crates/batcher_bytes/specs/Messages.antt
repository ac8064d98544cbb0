-- The formats of what travels: `docs/FORMATS.md` has them as tables.
use Rattle.std.specs.Prelude.{◌++◌, ℕ, zero, suc, List, [], ◌∷◌, Option, Some, None, IfSome, Result}
use Rattle.std.specs.Prelude.{Ok, Err}
use Rattle.batcher_types.specs.Votes.{attestation_of, content_of, subject_certified, subject_of}
use Rattle.batcher_types.specs.declared.messages.Activity.{Activity}
use Rattle.batcher_types.specs.declared.messages.Activity.TheVariants as activities
use Rattle.batcher_types.specs.declared.messages.Attestation.{Attestation}
use Rattle.batcher_types.specs.declared.messages.Certificate.{Certificate}
use Rattle.batcher_types.specs.declared.messages.Certificate.TheVariants as certificates
use Rattle.batcher_types.specs.declared.messages.Proposal.{Proposal}
use Rattle.batcher_types.specs.declared.messages.Sha256Digest.{Sha256Digest}
use Rattle.batcher_types.specs.declared.messages.Subject.{Subject}
use Rattle.batcher_types.specs.declared.messages.Subject.TheVariants as subjects
use Rattle.batcher_types.specs.declared.messages.Vote.{Vote}
use Rattle.batcher_types.specs.declared.messages.Vote.TheVariants as votes
use Rattle.batcher_types.specs.declared.positions.Round.{Round}
use Rattle.batcher_bytes.specs.declared.fault.DecodeFault.{DecodeFault}
use Rattle.batcher_bytes.specs.declared.fault.DecodeFault.TheVariants.{Evidence, Kind, Short}
use Rattle.batcher_bytes.specs.declared.fault.DecodeFault.TheVariants.{Version}
use Rattle.batcher_bytes.specs.Format.{◌>>=◌, Format, bytes_format, fixed, mapped, pair, u32_format}
use Rattle.batcher_bytes.specs.Format.{u64_format}

abbrev pub sha256_format : Format Sha256Digest
sha256_format = mapped (λ bytes. record { 0 = bytes }) (λ digest. digest.0) (fixed 32)

-- epoch and view
abbrev pub round_format : Format Round
round_format =
    mapped (λ p. record { epoch = record { 0 = p.0 }; view = record { 0 = p.1 } })
    (λ r. (r.epoch.0, r.view.0)) (pair u64_format u64_format)

-- round, parent and payload
abbrev pub proposal_format : {D : Type 0} → Format D → Format (Proposal D)
proposal_format d =
    mapped (λ p. record { round = p.0; parent = record { 0 = p.1.0 }; payload = p.1.1 })
    (λ r. (r.round, (r.parent.0, r.payload))) (pair round_format (pair u64_format d))

-- signer and signature
abbrev pub attestation_format : {G : Type 0} → Format G → Format (Attestation G)
attestation_format g =
    mapped (λ p. record { signer = record { 0 = p.0 }; signature = p.1 })
    (λ r. (r.signer.0, r.signature)) (pair u32_format g)

-- a byte for the kind, and then the proposal, or the round of a nullify
module _ {D : Type 0} (d : Format D) where
  abbrev pub IsSubject : Subject D → Type 0
  IsSubject (subjects.Notarize proposal) = (proposal_format d).IsValue proposal
  IsSubject (subjects.Nullify round) = round_format.IsValue round
  IsSubject (subjects.Finalize proposal) = (proposal_format d).IsValue proposal

  abbrev pub subject_bytes : Subject D → List ℕ
  subject_bytes (subjects.Notarize proposal) = 0 ∷ (proposal_format d).encoding proposal
  subject_bytes (subjects.Nullify round) = 1 ∷ round_format.encoding round
  subject_bytes (subjects.Finalize proposal) = 2 ∷ (proposal_format d).encoding proposal

  abbrev pub subject_at : List ℕ → Result (Subject D × List ℕ) DecodeFault
  subject_at [] = Err Short
  subject_at (zero ∷ rest) = do
    it ← (proposal_format d).decoding rest
    Ok (subjects.Notarize it.0, it.1)
  subject_at (suc zero ∷ rest) = do
    it ← round_format.decoding rest
    Ok (subjects.Nullify it.0, it.1)
  subject_at (suc (suc zero) ∷ rest) = do
    it ← (proposal_format d).decoding rest
    Ok (subjects.Finalize it.0, it.1)
  subject_at (suc (suc (suc b)) ∷ rest) = Err Kind

  abbrev pub subject_format : Format (Subject D)
  subject_format = record {
    IsValue = IsSubject;
    encoding = subject_bytes;
    decoding = subject_at;
  }

-- the vote for a subject
abbrev pub vote_from : {G D : Type 0} → Subject D × Attestation G → Vote G D
vote_from (subjects.Notarize it, a) = votes.Notarize (record { proposal = it; attestation = a })
vote_from (subjects.Nullify it, a) = votes.Nullify (record { round = it; attestation = a })
vote_from (subjects.Finalize it, a) = votes.Finalize (record { proposal = it; attestation = a })

-- subject and attestation
abbrev pub vote_format : {G D : Type 0} → Format G → Format D → Format (Vote G D)
vote_format g d =
    mapped vote_from (λ v. (subject_of v, attestation_of v))
    (pair (subject_format d) (attestation_format g))

-- the certificate for a subject
abbrev pub certificate_from : {C D : Type 0} → Subject D × C → Certificate C D
certificate_from (subjects.Notarize it, c) =
    certificates.Notarization (record { proposal = it; certificate = c })
certificate_from (subjects.Nullify it, c) =
    certificates.Nullification (record { round = it; certificate = c })
certificate_from (subjects.Finalize it, c) =
    certificates.Finalization (record { proposal = it; certificate = c })

-- subject and content
abbrev pub certificate_format : {C D : Type 0} → Format C → Format D → Format (Certificate C D)
certificate_format c d =
    mapped certificate_from (λ it. (subject_certified it, content_of it))
    (pair (subject_format d) c)

-- what is reported of one vote
abbrev pub activity_of : {G D : Type 0} → Vote G D → Activity G D
activity_of (votes.Notarize v) = activities.Notarize v
activity_of (votes.Nullify v) = activities.Nullify v
activity_of (votes.Finalize v) = activities.Finalize v

-- what is reported of two: only such pairs as contradict each other
abbrev pub evidence_of : {G D : Type 0} → Vote G D → Vote G D → Result (Activity G D) DecodeFault
evidence_of (votes.Notarize v) (votes.Notarize w) = Ok (activities.ConflictingNotarize v w)
evidence_of (votes.Finalize v) (votes.Finalize w) = Ok (activities.ConflictingFinalize v w)
evidence_of (votes.Nullify v) (votes.Finalize w) = Ok (activities.NullifyFinalize v w)
evidence_of v w = Err Evidence

abbrev pub votes_reported : {G D : Type 0} → Activity G D → Vote G D × Option (Vote G D)
votes_reported (activities.Notarize v) = (votes.Notarize v, None)
votes_reported (activities.Nullify v) = (votes.Nullify v, None)
votes_reported (activities.Finalize v) = (votes.Finalize v, None)
votes_reported (activities.ConflictingNotarize v w) = (votes.Notarize v, Some (votes.Notarize w))
votes_reported (activities.ConflictingFinalize v w) = (votes.Finalize v, Some (votes.Finalize w))
votes_reported (activities.NullifyFinalize v w) = (votes.Nullify v, Some (votes.Finalize w))

-- how many votes there are, and then each
module _ {G D : Type 0} (g : Format G) (d : Format D) where
  abbrev pub votes_bytes : Vote G D × Option (Vote G D) → List ℕ
  votes_bytes (v, None) = 1 ∷ (vote_format g d).encoding v
  votes_bytes (v, Some w) = 2 ∷ (vote_format g d).encoding v ++ (vote_format g d).encoding w

  abbrev pub activity_at : List ℕ → Result (Activity G D × List ℕ) DecodeFault
  activity_at [] = Err Short
  activity_at (zero ∷ rest) = Err Kind
  activity_at (suc zero ∷ rest) = do
    v ← (vote_format g d).decoding rest
    Ok (activity_of v.0, v.1)
  activity_at (suc (suc zero) ∷ rest) = do
    v ← (vote_format g d).decoding rest
    w ← (vote_format g d).decoding v.1
    it ← evidence_of v.0 w.0
    Ok (it, w.1)
  activity_at (suc (suc (suc b)) ∷ rest) = Err Kind

  abbrev pub activity_format : Format (Activity G D)
  activity_format = record {
    IsValue = λ it. (vote_format g d).IsValue (votes_reported it).0
        × IfSome (votes_reported it).1 (vote_format g d).IsValue;
    encoding = λ it. votes_bytes (votes_reported it);
    decoding = activity_at;
  }

-- a byte for the version of the formats, which is 1, before what is sent or kept
module _ {A : Type 0} (f : Format A) where
  abbrev pub versioned_at : List ℕ → Result (A × List ℕ) DecodeFault
  versioned_at [] = Err Short
  versioned_at (zero ∷ rest) = Err Version
  versioned_at (suc zero ∷ rest) = f.decoding rest
  versioned_at (suc (suc b) ∷ rest) = Err Version

  abbrev pub versioned : Format A
  versioned = record {
    IsValue = f.IsValue;
    encoding = λ x. 1 ∷ f.encoding x;
    decoding = versioned_at;
  }

-- what is signed in a namespace: how many bytes that has, then they, and then the subject
abbrev pub signing_format : {D : Type 0} → Format D → Format (List ℕ × Subject D)
signing_format d = pair bytes_format (subject_format d)
