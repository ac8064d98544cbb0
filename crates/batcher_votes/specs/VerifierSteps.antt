-- What a verifier's calls change of the votes that wait for a certificate.
use Rattle.std.specs.Prelude.{◌≡◌, ℕ, Bool, true, false, not, cond, ◌&&◌, ◌||◌, ◌==◌, nat_le}
use Rattle.std.specs.Prelude.{nat_lt, ◌+◌, List, [], ◌∷◌, ◌++◌, length, Option, Some, None, is_none}
use Rattle.std.specs.Prelude.{is_some, Result, Ok, Err, MatchBool, filter, map}
use Rattle.std.specs.List.{list_any, list_all}
use Rattle.std.specs.Option.{option_map}
use Rattle.rand_core.specs.Stream.{Stream}
use Rattle.batcher_types.specs.declared.positions.Participant.{Participant}
use Rattle.batcher_types.specs.declared.positions.Round.{Round}
use Rattle.batcher_types.specs.declared.messages.Proposal.{Proposal}
use Rattle.batcher_types.specs.declared.messages.Subject.{Subject}
use Rattle.batcher_types.specs.declared.messages.Subject.TheVariants.{Notarize as NotarizeSubject}
use Rattle.batcher_types.specs.declared.messages.Subject.TheVariants.{Nullify as NullifySubject}
use Rattle.batcher_types.specs.declared.messages.Subject.TheVariants.{Finalize as FinalizeSubject}
use Rattle.batcher_types.specs.declared.messages.Attestation.{Attestation}
use Rattle.batcher_types.specs.declared.messages.Vote.{Vote}
use Rattle.batcher_types.specs.declared.messages.Vote.TheVariants.{Notarize as NotarizeVote}
use Rattle.batcher_types.specs.declared.messages.Vote.TheVariants.{Nullify as NullifyVote}
use Rattle.batcher_types.specs.declared.messages.Vote.TheVariants.{Finalize as FinalizeVote}
use Rattle.batcher_types.specs.declared.messages.Certificate.{Certificate}
use Rattle.batcher_types.specs.declared.messages.Certificate.TheVariants.{Notarization as NotarizationCertificate}
use Rattle.batcher_types.specs.declared.messages.Certificate.TheVariants.{Nullification as NullificationCertificate}
use Rattle.batcher_types.specs.declared.messages.Certificate.TheVariants.{Finalization as FinalizationCertificate}
use Rattle.batcher_types.specs.declared.messages.Kind.{Kind}
use Rattle.batcher_types.specs.declared.messages.Kind.TheVariants.{Notarization, Nullification}
use Rattle.batcher_types.specs.declared.messages.Kind.TheVariants.{Finalization}
use Rattle.batcher_votes.specs.declared.verifier.ProposalState.{ProposalState}
use Rattle.batcher_votes.specs.declared.verifier.ProposalState.TheVariants.{Unknown}
use Rattle.batcher_votes.specs.declared.verifier.ProposalState.TheVariants.{Certificate as FixedProposal}
use Rattle.batcher_votes.specs.declared.verifier.Batch.{Batch}
use Rattle.batcher_votes.specs.declared.verifier.LeaderFault.{LeaderFault}
use Rattle.batcher_votes.specs.declared.verifier.LeaderFault.TheVariants.{LeaderChanged}
use Rattle.batcher_votes.specs.declared.verifier.LeaderFault.TheVariants.{NotFromLeader}
use Rattle.batcher_types.specs.declared.messages.Notarize.{Notarize}
use Rattle.batcher_types.specs.Meaning.{Meaning}
use Rattle.batcher_types.specs.Attempts.{AttemptResult, attempt_of}
use Rattle.batcher_types.specs.Lists.{is_some_and}
use Rattle.batcher_types.specs.Votes.{is_kind, kind_of, attestation_of, subject_of, proposal_in}
use Rattle.batcher_types.specs.Votes.{is_of_kind, is_vote_of, has_proposals, same_subject}
use Rattle.batcher_types.specs.Votes.{is_eligible}
use Rattle.batcher_votes.specs.ProposalStates.{proposal_of, selects, updated, replaces}
use Rattle.batcher_votes.specs.RoundState.{PerKind, of_kind, for_each, VerifierState}

-- the subject of a kind: the round number for nullifies, else the proposal
abbrev pub subject_from : {D : Type 0} → Kind → Round → Option (Proposal D) → Option (Subject D)
subject_from Notarization number proposal = option_map NotarizeSubject proposal
subject_from Nullification number proposal = Some (NullifySubject number)
subject_from Finalization number proposal = option_map FinalizeSubject proposal

module _ {G D : Type 0} where
  -- what a verifier holds at first
  abbrev pub nothing_buffered : VerifierState G D
  nothing_buffered =
      record {
        leader = None;
        selection = Unknown;
        certified = for_each false;
        pending = for_each
            [];
        verified = for_each [];
      }

  -- the proposal that is selected
  abbrev pub selected_in : VerifierState G D → Option (Proposal D)
  selected_in held = proposal_of held.selection

  -- whether a vote of the kind and signer is buffered
  abbrev pub is_buffered : VerifierState G D → Kind → ℕ → Bool
  is_buffered held kind i =
      list_any (is_vote_of kind i) (of_kind held.verified kind)
      || list_any (is_vote_of kind i) (of_kind held.pending kind)

  abbrev pub attestations_of : List (Vote G D) → List (Attestation G)
  attestations_of votes = map attestation_of votes

  -- the proposal of the first of the votes
  abbrev pub first_proposal : List (Vote G D) → Option (Proposal D)
  first_proposal [] = None
  first_proposal (vote ∷ votes) = proposal_in (subject_of vote)

  -- the proposal that an attempt is about: the selected one or, while none is, that of the verified
  -- votes
  abbrev pub proposal_tried : VerifierState G D → Kind → Option (Proposal D)
  proposal_tried held kind =
      cond (is_none (proposal_of held.selection)) (first_proposal (of_kind held.verified kind))
      (proposal_of held.selection)

  -- what an attempt is about
  abbrev pub subject_tried : VerifierState G D → Round → Kind → Option (Subject D)
  subject_tried held number kind = subject_from kind number (proposal_tried held kind)

-- a kind of which nothing changes
pub record SameVerifierState {G D : Type 0} (old new : VerifierState G D)
    (kind : Kind) : Type 0 where
  pub certified : of_kind new.certified kind ≡ of_kind old.certified kind
  pub pending : of_kind new.pending kind ≡ of_kind old.pending kind
  pub verified : of_kind new.verified kind ≡ of_kind old.verified kind

module _ {G D : Type 0} where
  -- what `set_leader` answers: another leader than the one that is set is refused, and a first one
  -- with a notarize of another signer
  abbrev pub leader_answer : Option Participant → Participant → Option (Notarize G D)
      → Result (Unit {0}) LeaderFault
  leader_answer (Some known) leader notarize =
      cond (known.0 == leader.0) (Ok tt) (Err LeaderChanged)
  leader_answer None leader None = Ok tt
  leader_answer None leader (Some notarize) =
      cond (notarize.attestation.signer.0 == leader.0) (Ok tt) (Err NotFromLeader)

module _ {G D : Type 0} (same : D → D → Bool) where
  -- those of the votes of a kind that wait for its certificate, in order
  abbrev pub still_eligible : VerifierState G D → Kind → List (Vote G D) → List (Vote G D)
  still_eligible new kind votes =
      cond (of_kind new.certified kind) [] (filter
      (is_eligible same (proposal_of new.selection)) votes)

  -- What is buffered of a kind, with these votes at the ends of its buffers, less what no longer
  -- waits.
  pub record Buffers (old new : VerifierState G D) (kind : Kind)
      (to_pending to_verified : List (Vote G D)) : Type 0 where
    pub certified : of_kind new.certified kind ≡ of_kind old.certified kind
    pub pending : of_kind new.pending kind
        ≡ still_eligible new kind (of_kind old.pending kind ++ to_pending)
    pub verified : of_kind new.verified kind
        ≡ still_eligible new kind (of_kind old.verified kind ++ to_verified)

  -- the proposal of a notarize of the known leader
  abbrev pub leaders_vote : VerifierState G D → Vote G D → Option (Proposal D)
  leaders_vote held (NotarizeVote vote) =
      cond (is_some_and held.leader (λ i. i.0 == vote.attestation.signer.0)) (Some vote.proposal)
      None
  leaders_vote held (NullifyVote vote) = None
  leaders_vote held (FinalizeVote vote) = None

  -- `add`: the leader's notarize selects its proposal, and the vote waits where it can still count.
  pub record AddsVote (old : VerifierState G D) (vote : Vote G D) (is_verified : Bool)
      (new : VerifierState G D) : Type 0 where
    pub leader : new.leader ≡ old.leader
    pub selection : new.selection ≡ selects old.selection (leaders_vote old vote)
    pub buffers :
        (kind : Kind)
        → Buffers old new kind (cond (is_of_kind kind vote && not is_verified) (vote ∷ []) [])
        (cond (is_of_kind kind vote && is_verified) (vote ∷ []) [])

  -- `add` where the vote is to wait, and nothing else
  abbrev pub MayAddVote : Bool → VerifierState G D → Vote G D → Bool → VerifierState G D → Type 0
  MayAddVote is_eligible old vote is_verified new =
      MatchBool is_eligible (AddsVote old vote is_verified new) (new ≡ old)

  -- whether `add` drops the vote
  abbrev pub is_dropped : VerifierState G D → Vote G D → Bool
  is_dropped old vote =
      of_kind old.certified (kind_of vote)
      || not (is_eligible same (proposal_of (selects old.selection (leaders_vote old vote))) vote)

  -- `set_leader` with a leader where none is set, and the proposal of its notarize.
  pub record SetsLeader (old : VerifierState G D) (leader : Participant)
      (proposal : Option (Proposal D))
      (new : VerifierState G D) : Type 0 where
    pub leader_is : new.leader ≡ Some leader
    pub selection : new.selection ≡ selects old.selection proposal
    pub buffers : (kind : Kind) → Buffers old new kind [] []

  -- the selected proposal changes, and votes for others go
  pub record SetsProposal (old : VerifierState G D) (selection : ProposalState D)
      (new : VerifierState G D) :
      Type 0 where
    pub leader : new.leader ≡ old.leader
    pub selection_is : new.selection ≡ selection
    pub buffers : (kind : Kind) → Buffers old new kind [] []

  -- the kept votes of a kind that are restored once the proposal is fixed, where it takes another's
  -- place
  abbrev pub restored_by_fix : VerifierState G D → PerKind (List (Vote G D)) → Proposal D → Kind
      → List (Vote G D)
  restored_by_fix old kept p kind =
      cond (replaces same old.selection p && has_proposals kind) (of_kind kept kind) []

  -- The proposal is fixed, where none is. If it takes another's place, votes for others go, and
  -- kept ones for it wait again as pending.
  pub record FixesProposal (old : VerifierState G D) (kept : PerKind (List (Vote G D)))
      (p : Proposal D)
      (new : VerifierState G D) : Type 0 where
    pub leader : new.leader ≡ old.leader
    pub selection : new.selection ≡ updated old.selection (FixedProposal p)
    pub buffers : (kind : Kind) → Buffers old new kind (restored_by_fix old kept p kind) []

  -- the same where there is a proposal to fix
  abbrev pub MayFix : VerifierState G D → PerKind (List (Vote G D)) → Option (Proposal D)
      → VerifierState G D
      → Type 0
  MayFix old kept None new = new ≡ old
  MayFix old kept (Some p) new = FixesProposal old kept p new

  -- a certificate of a kind is there, and its votes go
  pub record CompletesKind (old : VerifierState G D) (completed : Kind)
      (new : VerifierState G D) : Type 0
    where
      pub leader : new.leader ≡ old.leader
      pub selection : new.selection ≡ old.selection
      pub certified : (kind : Kind) → of_kind new.certified kind
          ≡ (is_kind completed kind || of_kind old.certified kind)
      pub pending : (kind : Kind) → of_kind new.pending kind
          ≡ cond (is_kind completed kind) [] (of_kind old.pending kind)
      pub verified : (kind : Kind) → of_kind new.verified kind
          ≡ cond (is_kind completed kind) [] (of_kind old.verified kind)

  abbrev pub have_one_subject : List (Vote G D) → Bool
  have_one_subject [] = true
  have_one_subject (vote ∷ votes) =
      list_all (λ v. same_subject same (subject_of vote) (subject_of v)) votes

  -- Whether votes of a kind are to be tried: verified ones that are a quorum, or pending ones that
  -- could make one. With no
  -- proposal selected the verified votes are to carry one.
  abbrev pub is_enough : Bool → ℕ → Kind → Option (Proposal D) → List (Vote G D) → List (Vote G D)
      → Bool
  is_enough batchable q kind proposal verified pending =
      cond (has_proposals kind && is_none proposal)
      (nat_le q (length verified) && have_one_subject verified)
      (nat_le q (length verified) || (nat_lt 0 (length pending)
      && (not batchable || nat_le q (length verified + length pending))))

  -- whether an attempt is to be made at the kind's certificate
  abbrev pub is_ready : Bool → ℕ → VerifierState G D → Kind → Bool
  is_ready batchable q held kind =
      not (of_kind held.certified kind)
      && is_enough batchable q kind (proposal_of held.selection) (of_kind held.verified kind)
      (of_kind held.pending kind)

abbrev pub certificate_for : {C D : Type 0} → Subject D → C → Certificate C D
certificate_for (NotarizeSubject p) content =
    NotarizationCertificate (record { proposal = p; certificate = content })
certificate_for (NullifySubject r) content =
    NullificationCertificate (record { round = r; certificate = content })
certificate_for (FinalizeSubject p) content =
    FinalizationCertificate (record { proposal = p; certificate = content })

-- the vote that an attestation of a subject is
abbrev pub vote_for : {G D : Type 0} → Subject D → Attestation G → Vote G D
vote_for (NotarizeSubject p) attestation =
    NotarizeVote (record { proposal = p; attestation = attestation })
vote_for (NullifySubject r) attestation =
    NullifyVote (record { round = r; attestation = attestation })
vote_for (FinalizeSubject p) attestation =
    FinalizeVote (record { proposal = p; attestation = attestation })

-- what an attempt about a subject finds, as a batch
abbrev pub batch_of : {G C D : Type 0} → Subject D → AttemptResult G C → Batch (Certificate C D)
batch_of subject tried =
    record {
      processed = tried.processed;
      invalid = tried.invalid;
      certificate = option_map (certificate_for subject) tried.certificate;
      fallback = tried.fallback;
    }

-- An attempt at a kind's certificate with the votes of its buffers: the batch and the stream left
-- are one function of them. A
-- certificate completes the kind; without one the votes that attest are verified, and none is
-- pending.
pub record TriesKind {D K G C : Type 0} (m : Meaning D K G C) (number : Round) (q : ℕ)
    (old : VerifierState G D) (tried : Kind) (before : Stream) (batch : Batch (Certificate C D))
    (after : Stream) (new : VerifierState G D) : Type 0 where
  pub subject : Subject D
  pub outcome : AttemptResult G C
  pub subject_is : subject_tried old number tried ≡ Some subject
  pub attempt : (outcome, after) ≡ attempt_of m subject q
      (attestations_of (of_kind old.verified tried)) (attestations_of (of_kind old.pending tried))
      before
  pub batch_is : batch ≡ batch_of subject outcome
  pub leader : new.leader ≡ old.leader
  pub selection : new.selection ≡ old.selection
  pub others : (kind : Kind) → is_kind tried kind ≡ false → SameVerifierState old new kind
  pub certified : of_kind new.certified tried ≡ is_some outcome.certificate
  pub pending : of_kind new.pending tried ≡ []
  pub verified : of_kind new.verified tried ≡ map (vote_for subject) outcome.verified
