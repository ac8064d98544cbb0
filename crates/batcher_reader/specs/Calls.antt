-- The calls that commands stand for.
use Rattle.std.specs.Prelude.{◌≡◌, ⊤, ℕ, Bool, true, false, ◌&&◌, nat_lt, length, replicate}
use Rattle.batcher_types.specs.declared.positions.Round.{Round}
use Rattle.batcher_types.specs.declared.messages.Proposal.{Proposal}
use Rattle.batcher_types.specs.declared.messages.Sha256Digest.{Sha256Digest}
use Rattle.batcher_types.specs.declared.messages.Subject.{Subject}
use Rattle.batcher_types.specs.declared.messages.Subject.TheVariants.{Notarize as NotarizeSubject}
use Rattle.batcher_types.specs.declared.messages.Subject.TheVariants.{Nullify as NullifySubject}
use Rattle.batcher_types.specs.declared.messages.Subject.TheVariants.{Finalize as FinalizeSubject}
use Rattle.batcher_types.specs.declared.scheme.keyed.Name.{Name}
use Rattle.batcher_histories.specs.declared.calls.Call.{Call}
use Rattle.batcher_histories.specs.declared.calls.Call.TheVariants.{Network as NetworkCall}
use Rattle.batcher_histories.specs.declared.calls.Call.TheVariants.{Own as OwnCall}
use Rattle.batcher_histories.specs.declared.calls.Call.TheVariants.{Certificate as CertificateCall}
use Rattle.batcher_histories.specs.declared.calls.Call.TheVariants.{Leader as LeaderCall}
use Rattle.batcher_histories.specs.declared.calls.Call.TheVariants.{Construct as ConstructCall}
use Rattle.batcher_histories.specs.declared.calls.Call.TheVariants.{Forward as ForwardCall}
use Rattle.batcher_histories.specs.declared.calls.Call.TheVariants.{Missing as MissingCall}
use Rattle.batcher_types.specs.declared.messages.Vote.{Vote}
use Rattle.batcher_types.specs.Meaning.{Meaning}
use Rattle.batcher_types.specs.Votes.{signer_of, subject_of, attestation_of, subject_certified}
use Rattle.batcher_votes.specs.Verifiers.{certifies_itself}
use Rattle.batcher_reader.specs.declared.script.Ballot.{Ballot}
use Rattle.batcher_reader.specs.declared.script.Ballot.TheVariants.{Notarize, Nullify, Finalize}
use Rattle.batcher_reader.specs.declared.script.Signature.{Signature}
use Rattle.batcher_reader.specs.declared.script.Signature.TheVariants.{Good, Bad}
use Rattle.batcher_reader.specs.declared.script.Command.{Command}
use Rattle.batcher_reader.specs.declared.script.Command.TheVariants.{Network, Own, Certificate}
use Rattle.batcher_reader.specs.declared.script.Command.TheVariants.{Leader, Construct, Forward}
use Rattle.batcher_reader.specs.declared.script.Command.TheVariants.{Missing}

-- the round's proposal with parent view 0 and a payload of equal bytes
abbrev pub proposal_for : Round → ℕ → Proposal Sha256Digest
proposal_for round byte =
    record {
      round = round;
      parent = record { 0 = 0 };
      payload = record { 0 = replicate 32 byte };
    }

abbrev pub subject_for : Round → Ballot → Subject Sha256Digest
subject_for round (Notarize byte) = NotarizeSubject (proposal_for round byte)
subject_for round Nullify = NullifySubject round
subject_for round (Finalize byte) = FinalizeSubject (proposal_for round byte)

abbrev pub is_good : Signature → Bool
is_good Good = true
is_good Bad = false

module _ {G C : Type 0} (m : Meaning Sha256Digest Name G C) (round : Round) where
  -- A vote has the signer and the subject of its line. It attests where its line signs it well, and
  -- its signer takes part.
  pub record IsVoteOf (signer : ℕ) (ballot : Ballot) (signature : Signature)
      (vote : Vote G Sha256Digest) : Type 0 where
    pub signer_is : signer_of vote ≡ signer
    pub subject_is : subject_of vote ≡ subject_for round ballot
    pub signed_so :
        m.attests (subject_of vote) (attestation_of vote)
        ≡ (is_good signature && nat_lt signer (length m.participants))

  -- A call says what its line says: a network vote has its sender too, and a certificate certifies.
  abbrev pub IsCallOf : Command → Call Name G C Sha256Digest → Type 0
  IsCallOf (Network sender signer ballot signature) (NetworkCall name vote) =
      (name.0 ≡ sender) × IsVoteOf signer ballot signature vote
  IsCallOf (Own signer ballot) (OwnCall vote) = IsVoteOf signer ballot Good vote
  IsCallOf (Certificate ballot) (CertificateCall certificate) =
      (subject_certified certificate ≡ subject_for round ballot)
      × (certifies_itself m certificate ≡ true)
  IsCallOf (Leader index) (LeaderCall leader) = leader.0 ≡ index
  IsCallOf Construct ConstructCall = ⊤
  IsCallOf (Forward index) (ForwardCall me) = me.0 ≡ index
  IsCallOf (Missing byte) (MissingCall proposal) = proposal ≡ proposal_for round byte
  IsCallOf command call = ⊥
