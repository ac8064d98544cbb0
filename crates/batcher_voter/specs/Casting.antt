-- What comes of a vote that is cast, and of one that is written so that it may be cast.
use Rattle.std.specs.Prelude.{◌≡◌, ℕ, Bool, ⊤, true, false, List, [], ◌∷◌, Contains, Result, Err}
use Rattle.std.specs.Prelude.{IfErr, IfOk, OnErr, OnOk}
use Rattle.batcher.specs.messages.Vote.{Vote}
use Rattle.batcher_agreement.specs.Lives.{written}
use Rattle.batcher_bytes.specs.Copies.{CopyView, KeepsCopy}
use Rattle.batcher_bytes.specs.Format.{Format}
use Rattle.batcher_journal.specs.Ready.{HasNoRoomFor}
use Rattle.batcher_node.specs.Nodes.{NodeConfig, SameNode}
use Rattle.batcher_node.specs.declared.answers.Cast.{Cast}
use Rattle.batcher_voter.specs.Journals.{MayGain}
use Rattle.batcher_voter.specs.Keeping.{HasWrittenAll}
use Rattle.batcher_voter.specs.Voting.{Casts, ForEachLife, IsInJournal, IsVoting, LeavesVote}
use Rattle.batcher_voter.specs.Voting.{MayWrite, VoterStays, VoterView, WhyNotCast}
use Rattle.batcher_voter.specs.declared.answers.CastFault.{CastFault}
use Rattle.batcher_voter.specs.declared.answers.CastFault.TheVariants.{Closed, Full}

module _ {S D K G C L : Type 0} (x : NodeConfig D K G C) (same_digest : D → D → Bool)
    (format : Format (Vote G D)) (is_full : L → List ℕ → Type 0) (is_honest : L → Type 0)
    (may_leave : L → List ℕ → Type 0) (is_copied_as : L → CopyView → Type 0)
    (old : VoterView S G D L) (vote : Vote G D) (new : VoterView S G D L) where
  -- A crash leaves what was done, or that and the vote.
  abbrev pub MayLeaveVote : Type 0
  MayLeaveVote =
      (left : List ℕ) → is_honest new.journal.log → may_leave new.journal.log left
      → ForEachLife x old (λ past earlier. LeavesVote format past earlier vote left)

  -- The vote doesn't fit into the log, behind what isn't written yet.
  abbrev pub VoteHasNoRoom : Type 0
  VoteHasNoRoom = HasNoRoomFor format is_full old.journal.log (vote ∷ []) new.journal.unwritten

  -- A vote is cast, or refused for a reason. A refused one may be written.
  pub record CastsVote (result : Result (Cast G D) (CastFault G D)) : Type 0 where
    pub meets : IfOk result (λ cast. Casts x old vote cast new)
    pub in_journal : IfOk result (IsInJournal vote new)
    pub refused :
        OnErr result (ForEachLife x old (λ past earlier. MayWrite x vote past earlier new))
    pub why : IfErr result (λ fault. WhyNotCast x same_digest old vote fault new)
    pub full : result ≡ Err Full → VoteHasNoRoom
    pub leaves : old.journal.is_open ≡ true → MayLeaveVote
    pub same : SameNode old.node new.node
    pub gains : MayGain vote old.journal new.journal
    pub copied : KeepsCopy is_copied_as old.journal.log new.journal.log

  -- A vote that may be signed is written, with all that is known, or refused for a reason.
  pub record WritesVote (result : Result ⊤ (CastFault G D)) : Type 0 where
    pub ok :
        OnOk result
        (ForEachLife x old (λ past earlier. IsVoting x (written vote ∷ past) earlier new))
    pub err : OnErr result (VoterStays x old new)
    pub is_open : OnOk result (new.journal.is_open ≡ true)
    pub there : OnOk result (Contains new.journal.contents.votes vote)
    pub all : OnOk result (HasWrittenAll new)
    pub closed : result ≡ Err Closed → new.journal.is_open ≡ false
    pub why : IfErr result (λ fault. WhyNotCast x same_digest old vote fault new)
    pub full : result ≡ Err Full → VoteHasNoRoom
    pub leaves : MayLeaveVote
    pub gains : MayGain vote old.journal new.journal
    pub node : new.node ≡ old.node
    pub copied : KeepsCopy is_copied_as old.journal.log new.journal.log
