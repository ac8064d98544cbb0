-- What one call changes of what a verifier holds, by the votes of one kind.
use Rattle.batcher_votes.proofs.Words.{◌≡◌, Bool, true, false, not, cond, ◌&&◌, List, [], ◌∷◌, ◌++◌, filter, map, Some, AllPass, Attestation, Kind, Proposal}
use Rattle.batcher_votes.proofs.Words.{Subject, Vote, is_kind, is_of_kind, is_eligible, proposal_of, of_kind, VerifierState, SameVerifierState, vote_for}

-- What is to be known of the buffers of one kind: each vote waits with the selected
-- proposal, and those of a certified kind are gone.
pub record IsTidy {G D : Type 0} (same : D → D → Bool) (held : VerifierState G D) (kind : Kind) : Type 0
  where
    pub pending : AllPass (is_eligible same (proposal_of held.selection))
        (of_kind held.pending kind)
    pub verified : AllPass (is_eligible same (proposal_of held.selection))
        (of_kind held.verified kind)
    pub none_pending : of_kind held.certified kind ≡ true → of_kind held.pending kind ≡ []
    pub none_verified : of_kind held.certified kind ≡ true → of_kind held.verified kind ≡ []

-- The votes of each kind that do not wait with the proposal go, and nothing else changes.
pub record RetainsKind {G D : Type 0} (same : D → D → Bool) (old : VerifierState G D)
    (proposal : Proposal D) (new : VerifierState G D) (kind : Kind) : Type 0 where
  pub certified : of_kind new.certified kind ≡ of_kind old.certified kind
  pub pending : of_kind new.pending kind
      ≡ filter (is_eligible same (Some proposal)) (of_kind old.pending kind)
  pub verified : of_kind new.verified kind
      ≡ filter (is_eligible same (Some proposal)) (of_kind old.verified kind)

pub record Retains {G D : Type 0} (same : D → D → Bool) (old : VerifierState G D) (proposal : Proposal D)
    (new : VerifierState G D) : Type 0 where
  pub leader : new.leader ≡ old.leader
  pub selection : new.selection ≡ old.selection
  pub kinds : (kind : Kind) → RetainsKind same old proposal new kind

-- Votes of a kind join its pending ones, where they wait with the proposal and the kind isn't
-- certified. Nothing else changes.
pub record Restores {G D : Type 0} (same : D → D → Bool) (old : VerifierState G D) (restored : Kind)
    (proposal : Proposal D) (votes : List (Vote G D)) (new : VerifierState G D) : Type 0 where
  pub leader : new.leader ≡ old.leader
  pub selection : new.selection ≡ old.selection
  pub others : (kind : Kind) → is_kind restored kind ≡ false → SameVerifierState old new kind
  pub certified : of_kind new.certified restored ≡ of_kind old.certified restored
  pub pending : of_kind new.pending restored ≡ of_kind old.pending restored
      ++ cond (of_kind old.certified restored) [] (filter (is_eligible same (Some proposal)) votes)
  pub verified : of_kind new.verified restored ≡ of_kind old.verified restored

-- The vote joins the end of one buffer of its kind, unless that is certified, and nothing else
-- changes.
pub record Places {G D : Type 0} (old : VerifierState G D) (vote : Vote G D) (is_verified : Bool)
    (new : VerifierState G D) : Type 0 where
  pub leader : new.leader ≡ old.leader
  pub selection : new.selection ≡ old.selection
  pub certified : (kind : Kind) → of_kind new.certified kind ≡ of_kind old.certified kind
  pub pending : (kind : Kind) → of_kind new.pending kind ≡ of_kind old.pending kind
      ++ cond ((is_of_kind kind vote && not is_verified) && not (of_kind old.certified kind))
      (vote ∷ []) []
  pub verified : (kind : Kind) → of_kind new.verified kind ≡ of_kind old.verified kind
      ++ cond ((is_of_kind kind vote && is_verified) && not (of_kind old.certified kind))
      (vote ∷ []) []

-- An attempt gave no certificate: what it verified joins the verified votes, and none is pending.
pub record Absorbs {G D : Type 0} (old : VerifierState G D) (kind : Kind) (subject : Subject D)
    (joining : List (Attestation G)) (new : VerifierState G D) : Type 0 where
  pub leader : new.leader ≡ old.leader
  pub selection : new.selection ≡ old.selection
  pub others : (other : Kind) → is_kind kind other ≡ false → SameVerifierState old new other
  pub certified : of_kind new.certified kind ≡ of_kind old.certified kind
  pub pending : of_kind new.pending kind ≡ []
  pub verified : of_kind new.verified kind ≡ of_kind old.verified kind
      ++ map (vote_for subject) joining
