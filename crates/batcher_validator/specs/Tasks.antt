-- When a task may be given, and when nothing is left to be given.
use Rattle.std.specs.Prelude.{◌≡◌, ◌+◌, ◌<◌, ◌≤◌, ◌⊎◌, ◌^◌, ⊤, ℕ, false, true, length, [], ◌∷◌}
use Rattle.std.specs.Prelude.{Some, None}
use Rattle.batcher.specs.Verifiers.{certifies_itself}
use Rattle.batcher.specs.Votes.{round_in, subject_certified, subject_of}
use Rattle.batcher.specs.messages.Certificate.{Certificate}
use Rattle.batcher.specs.messages.Kind.{Kind}
use Rattle.batcher.specs.messages.Kind.TheVariants.{Notarization}
use Rattle.batcher.specs.messages.Proposal.{Proposal}
use Rattle.batcher.specs.messages.Subject.{Subject}
use Rattle.batcher.specs.messages.Subject.TheVariants.{Finalize, Notarize, Nullify}
use Rattle.batcher.specs.positions.Round.{Round}
use Rattle.batcher_agreement.specs.Lives.{conduct_of}
use Rattle.batcher_agreement.specs.Policy.{Conduct, HasVoted, IsCleared, IsGrounded, Knows}
use Rattle.batcher_journal.specs.Floors.{is_below}
use Rattle.batcher_node.specs.Events.{cause_in, view_history}
use Rattle.batcher_node.specs.Nodes.{NodeConfig}
use Rattle.batcher_node.specs.Represents.{is_to_be_tried}
use Rattle.batcher_node.specs.Windows.{is_of, numbered}
use Rattle.batcher_voter.specs.Knowledge.{KnowsOf}
use Rattle.batcher_voter.specs.Refusals.{IsAnotherNotarized, RestsOnLearned}
use Rattle.batcher_validator.specs.Histories.{HadVoted, HasAnnouncedFrom, HasAskedFrom, HasBlocked}
use Rattle.batcher_validator.specs.Histories.{HasForwarded, HasHad, HasHanded, HasRecast, HasSent}
use Rattle.batcher_validator.specs.Histories.{IsVerifying, Leads, ValidatorHistory, before_final}
use Rattle.batcher_validator.specs.Histories.{calls_in, chosen_in, conduct_in, expired_in, gave}
use Rattle.batcher_validator.specs.Histories.{last_to_sign, posed_in, proposal_by, to_forward, took}
use Rattle.batcher_validator.specs.Histories.{unsigned_in, voter_history, window_by}
use Rattle.batcher_validator.specs.Shelves.{IsLookedAt, kind_and_round}
use Rattle.batcher_validator.specs.Unsigned.{is_unsigned}
use Rattle.batcher_validator.specs.declared.task.Task.{Task}
use Rattle.batcher_validator.specs.declared.task.Task.TheVariants.{Block, Cast, Enter, Final}
use Rattle.batcher_validator.specs.declared.task.Task.TheVariants.{Forward, Judge, Propose}
use Rattle.batcher_validator.specs.declared.task.Task.TheVariants.{SendCertificate, SendVote, Sign}
use Rattle.batcher_validator.specs.declared.task.Task.TheVariants.{Verify}

-- Two proposals of a view are notarized, so more are faulty than may be. One of them is finalized.
abbrev pub IsContested : {D : Type 0} → Conduct D → Subject D → Type 0
IsContested past (Finalize p) = IsAnotherNotarized past p
IsContested past s = ⊥

-- A task that is given while a write is under way: nothing is sent by it, final or signed.
abbrev pub IsGivenMeanwhile : {G D : Type 0} → Task G D → Type 0
IsGivenMeanwhile (Final p) = ⊥
IsGivenMeanwhile (SendVote vote) = ⊥
IsGivenMeanwhile (SendCertificate kind number) = ⊥
IsGivenMeanwhile (Forward number) = ⊥
IsGivenMeanwhile (Sign s) = ⊥
IsGivenMeanwhile task = ⊤

module _ {D K G C : Type 0} (x : NodeConfig D K G C) where
  -- A view is the next one: it is behind each of which a certificate is known, and behind one of
  -- these, or behind the final one.
  pub record IsNextIn (past : ValidatorHistory D K G C) (next : ℕ) : Type 0 where
    pub behind_all :
        (s : Subject D) → Knows (conduct_of (voter_history past)) s
        → (round_in s).epoch ≡ x.epoch → (round_in s).view.0 < next
    pub behind_one :
        (next ≡ (window_by past).finalized + 1)
        ⊎ ((view : ℕ) × ((next ≡ view + 1)
        × KnowsOf (conduct_of (voter_history past)) (numbered x.epoch view)))

  -- A certificate counts that the validator had, unless it is of another epoch, or of a view before
  -- the final one.
  pub record Counts (past : ValidatorHistory D K G C) (c : Certificate C D) : Type 0 where
    pub had : HasHad past c
    pub looked_at : IsLookedAt x.epoch (window_by past).finalized c

  -- a finalization of the proposal that the validator had, which certifies it
  pub record IsCertified (past : ValidatorHistory D K G C) (p : Proposal D) : Type 0 where
    pub certificate : Certificate C D
    pub had : HasHad past certificate
    pub is_of : subject_certified certificate ≡ Finalize p
    pub certifies : certifies_itself x.meaning certificate ≡ true

  -- Each finalization that counted before the view was made the final one is of that view or of a
  -- later one, or a proposal of its view, or of a later one, was given as final.
  abbrev pub IsNextFinal : ValidatorHistory D K G C → Proposal D → Type 0
  IsNextFinal past p =
      (c : Certificate C D) → Counts (before_final past) c → (q : Proposal D)
      → subject_certified c ≡ Finalize q → 0 < q.round.view.0
      → (p.round.view.0 ≤ q.round.view.0) ⊎ HasAnnouncedFrom past q.round.view.0

  -- a certificate of the kind and the round that it had, which certifies what it names
  pub record IsThere (past : ValidatorHistory D K G C) (kind : Kind) (number : Round) : Type 0 where
    pub certificate : Certificate C D
    pub had : HasHad past certificate
    pub is_of : kind_and_round certificate ≡ (kind, number)
    pub certifies : certifies_itself x.meaning certificate ≡ true

  -- Whoever is blocked was given to be blocked.
  abbrev pub NobodyIsToBlock : ValidatorHistory D K G C → Type 0
  NobodyIsToBlock past =
      (i : ℕ) → i < length x.meaning.participants
      → (cause_in x (calls_in past) i ≡ None) ⊎ HasBlocked past i

  -- The next view above the final one was entered, or given to be.
  abbrev pub HasEntered : ValidatorHistory D K G C → Type 0
  HasEntered past =
      (next : ℕ) → IsNextIn past next → (window_by past).finalized < next → next < 2 ^ 64
      → (next ≤ (window_by past).current) ⊎ HasAskedFrom past next

  -- A proposal of a view is to be made, or to be judged: it would be the first of the current view,
  -- which is above the final one, whose time isn't over, and which wasn't given up as it was
  -- entered, and no later view is to be entered.
  pub record IsOpen (past : ValidatorHistory D K G C) (view : ℕ) : Type 0 where
    pub is_current : view ≡ (window_by past).current
    pub above : (window_by past).finalized < view
    pub is_last : HasAskedFrom past (view + 1) → ⊥
    pub in_time : expired_in past < view
    pub is_first : posed_in past < view

  module _ (earlier : Conduct D) where
    -- It may vote for a subject: that is cleared, by what it has learned in this life, it is looked
    -- at, and the validator hasn't voted for it.
    pub record MayVote (past : ValidatorHistory D K G C) (s : Subject D) : Type 0 where
      pub cleared : IsCleared (conduct_in earlier past) s
      pub not_yet : HasVoted (conduct_in earlier past) s → ⊥
      pub rests : RestsOnLearned (conduct_of (voter_history past)) (window_by past).finalized s
      pub within : is_of x.epoch (window_by past) (round_in s) ≡ true

    -- It may be given to be signed: it may be voted for, and since it last was to send again no
    -- signature was refused of its kind, of its view or a later one.
    abbrev pub MaySign : ValidatorHistory D K G C → Subject D → Type 0
    MaySign past s = MayVote past s × (is_unsigned (unsigned_in past) s ≡ false)

    -- What it votes for, where it may: a proposal that is its own, or valid, the end of a view
    -- whose time is over, or that was given up as it was entered, and the finalization of whatever
    -- is notarized.
    abbrev pub IsWanted : ValidatorHistory D K G C → Subject D → Type 0
    IsWanted past (Notarize p) = chosen_in past ≡ Some p
    IsWanted past (Nullify number) =
        (0 < expired_in past) × (number ≡ numbered x.epoch (expired_in past))
    IsWanted past (Finalize p) = ⊤

    -- What it gave to be signed, last of all, may still be voted for, and wasn't refused.
    pub record IsSigning (past : ValidatorHistory D K G C) : Type 0 where
      pub subject : Subject D
      pub was_last : last_to_sign past ≡ Some subject
      pub may_sign : MaySign past subject

    -- It may no more, or it is contested.
    abbrev pub SignsNoMore : ValidatorHistory D K G C → Type 0
    SignsNoMore past =
        (s : Subject D) → last_to_sign past ≡ Some s → MaySign past s
        → IsContested (conduct_in earlier past) s

    -- it has voted in a round
    pub record HasVotedIn (past : ValidatorHistory D K G C) (number : Round) : Type 0 where
      pub subject : Subject D
      pub of_round : round_in subject ≡ number
      pub voted : HasVoted (conduct_in earlier past) subject

    -- When a task may be given: it is to be done, and wasn't given before.
    abbrev pub MayGive : ValidatorHistory D K G C → Task G D → Type 0
    -- A participant gave cause to be blocked,
    MayGive past (Block who cause) =
        (cause_in x (calls_in past) who.0 ≡ Some cause) × (HasBlocked past who.0 → ⊥)
    -- a proposal is certified by what it had, of the view that is the final one now, and none is
    -- passed over,
    MayGive past (Final p) =
        IsCertified past p × (((window_by past).finalized ≡ p.round.view.0)
        × ((HasAnnouncedFrom past p.round.view.0 → ⊥) × IsNextFinal past p))
    -- a vote was written, in this life or before,
    MayGive past (SendVote vote) =
        HasVoted (conduct_in earlier past) (subject_of vote)
        × (HasSent past (subject_of vote) → ⊥)
    -- a vote was written in an earlier life, and the next view was entered,
    MayGive past (Cast vote) =
        HadVoted earlier past (subject_of vote)
        × ((HasRecast past (subject_of vote) → ⊥) × HasEntered past)
    -- a certificate of the kind and the round was had, and nothing is to be forwarded,
    MayGive past (SendCertificate kind number) =
        IsThere past kind number
        × ((HasHanded past (kind, number) → ⊥) × (to_forward past ≡ None))
    -- a notarization was given to be sent,
    MayGive past (Forward number) =
        (to_forward past ≡ Some number) × (HasForwarded past number → ⊥)
    -- a view is the next one,
    MayGive past (Enter view) =
        IsNextIn past view.0 × (((window_by past).current < view.0)
        × (HasAskedFrom past view.0 → ⊥))
    -- no votes are being verified,
    MayGive past Verify = IsVerifying past → ⊥
    -- a vote is wanted and may be cast, it wasn't refused, and no other is being signed,
    MayGive past (Sign s) = IsWanted past s × (MaySign past s × SignsNoMore past)
    -- each proposal on the parent is grounded, in a view that the validator leads,
    MayGive past (Propose view parent) =
        IsOpen past view.0 × (Leads past view.0
        × ((HasVotedIn past (numbered x.epoch view.0) → ⊥)
        × ((p : Proposal D) → p.round ≡ numbered x.epoch view.0 → p.parent ≡ parent
        → IsGrounded (conduct_in earlier past) p)))
    -- and a vote to notarize a view's proposal may be cast.
    MayGive past (Judge p) =
        IsOpen past p.round.view.0 × ((proposal_by x past p.round.view.0 ≡ Some p)
        × MayVote past (Notarize p))

    -- Each task might be given when it was, and what is taken in was learned before.
    abbrev pub AreGivenInTurn : ValidatorHistory D K G C → Type 0
    AreGivenInTurn [] = ⊤
    AreGivenInTurn (gave task ∷ past) = MayGive past task × AreGivenInTurn past
    AreGivenInTurn (took c ∷ past) =
        Knows (conduct_of (voter_history past)) (subject_certified c) × AreGivenInTurn past
    AreGivenInTurn (event ∷ past) = AreGivenInTurn past

    -- No proposal is to be made, and none to be judged.
    pub record NothingIsProposed (past : ValidatorHistory D K G C) : Type 0 where
      pub proposes :
          (p : Proposal D) → IsOpen past p.round.view.0 → Leads past p.round.view.0
          → p.round.epoch ≡ x.epoch → (HasVotedIn past p.round → ⊥)
          → (window_by past).finalized ≤ p.parent.0
          → IsGrounded (conduct_of (voter_history past)) p → ⊥
      pub judges :
          (p : Proposal D) → IsOpen past p.round.view.0 → (Leads past p.round.view.0 → ⊥)
          → proposal_by x past p.round.view.0 ≡ Some p → MayVote past (Notarize p) → ⊥

    -- A vote that is wanted and may be signed waits for another that is being signed.
    abbrev pub NothingIsToSign : ValidatorHistory D K G C → Type 0
    NothingIsToSign past =
        (s : Subject D) → IsWanted past s → MaySign past s
        → IsSigning past ⊎ IsContested (conduct_in earlier past) s

    -- What is left waits until the disk has all that was done: all else was given.
    pub record NothingIsDueMeanwhile (past : ValidatorHistory D K G C) : Type 0 where
      -- Nobody is to be blocked,
      pub blocks : NobodyIsToBlock past
      -- the next view above the final one was entered, or given to be,
      pub enters : HasEntered past
      -- each vote of earlier lives was given to be cast again, but for those before the final view,
      pub casts :
          (s : Subject D) → HadVoted earlier past s
          → is_below (numbered x.epoch (window_by past).finalized) (round_in s) ≡ false
          → HasRecast past s
      -- votes that wait are being verified,
      pub verifies :
          IsVerifying past
          ⊎ ((view : ℕ) → (window_by past).finalized ≤ view
          → is_to_be_tried (view_history view (calls_in past)) ≡ false)
      -- and no proposal is left.
      pub proposals : NothingIsProposed past

    -- Nothing is left to be given.
    pub record NothingIsDue (past : ValidatorHistory D K G C) : Type 0 where
      -- Nothing is left that is given during a write,
      pub meanwhile : NothingIsDueMeanwhile past
      -- each finalization that counts was given as final,
      pub finals :
          (c : Certificate C D) → Counts past c → (p : Proposal D)
          → subject_certified c ≡ Finalize p → 0 < p.round.view.0
          → HasAnnouncedFrom past p.round.view.0
      -- each vote that was written was given to be sent, but for those before the final view,
      pub votes :
          (s : Subject D) → HasVoted (conduct_in earlier past) s
          → is_below (numbered x.epoch (window_by past).finalized) (round_in s) ≡ false
          → HasSent past s
      -- each certificate that counts is known,
      pub learns :
          (c : Certificate C D) → Counts past c
          → Knows (conduct_of (voter_history past)) (subject_certified c)
      -- one of the kind and the round of each was given to be sent,
      pub certificates : (c : Certificate C D) → Counts past c → HasHanded past (kind_and_round c)
      -- what the notarizations among them notarize was given to be forwarded,
      pub forwards :
          (number : Round) → HasHanded past (Notarization, number) → HasForwarded past number
      -- and nothing is to be signed.
      pub signs : NothingIsToSign past
