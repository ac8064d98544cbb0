-- A voter: a node and a journal, with what is known to be certified.
use Rattle.std.specs.Prelude.{◌≡◌, ◌≢◌, ◌+◌, ◌<◌, ◌⊎◌, ⊤, ℕ, Bool, true, false, List, [], ◌∷◌, ◌++◌}
use Rattle.std.specs.Prelude.{Contains, IfSome, MatchOption, Option, Some, None}
use Rattle.batcher.specs.Votes.{round_in, signer_of, subject_certified, subject_of}
use Rattle.batcher.specs.messages.Proposal.{Proposal}
use Rattle.batcher.specs.positions.Epoch.{Epoch}
use Rattle.batcher.specs.positions.Participant.{Participant}
use Rattle.batcher_node.specs.declared.node.Construction.{Construction}
use Rattle.batcher.specs.messages.Subject.{Subject}
use Rattle.batcher.specs.messages.Subject.TheVariants.{Finalize}
use Rattle.batcher.specs.messages.Vote.{Vote}
use Rattle.batcher.specs.votes.Outcome.{Outcome}
use Rattle.batcher_agreement.specs.Lives.{AreVerified, VoterHistory, called, conduct_of}
use Rattle.batcher_agreement.specs.Lives.{node_history, written}
use Rattle.batcher_agreement.specs.Policy.{Conduct, HasVoted, IsCleared, KeepsPolicy, Knows, voted}
use Rattle.batcher_bytes.specs.Format.{Format}
use Rattle.batcher_journal.specs.Contradictions.{IsFree}
use Rattle.batcher_journal.specs.Ready.{JournalView}
use Rattle.batcher_node.specs.Events.{NodeEvent, proposal_forwarded, started, view_history}
use Rattle.batcher_node.specs.Events.{vote_cast}
use Rattle.batcher_bytes.specs.Copies.{CopyView, KeepsCopy}
use Rattle.batcher_node.specs.Nodes.{NodeConfig, NodeView, SameNode, slot_at}
use Rattle.batcher.specs.Answers.{own_answer}
use Rattle.batcher.specs.Steps.{fault_or_memory}
use Rattle.batcher.specs.answers.OwnFault.{OwnFault}
use Rattle.batcher.specs.answers.OwnFault.TheVariants.{OutOfMemory}
use Rattle.batcher_node.specs.Represents.{ForEachNodeHistory, NodeRepresents, config_of}
use Rattle.batcher_node.specs.Windows.{is_of, numbered}
use Rattle.batcher_node.specs.declared.answers.Receipt.{Receipt}
use Rattle.batcher_node.specs.declared.answers.Receipt.TheVariants.{Answered}
use Rattle.batcher_node.specs.declared.answers.Verdict.{Verdict}
use Rattle.batcher_node.specs.declared.answers.Verdict.TheVariants.{Recorded}
use Rattle.batcher_node.specs.declared.answers.Cast.{Cast}
use Rattle.batcher_node.specs.declared.answers.Cast.TheVariants.{ToSend, Known as KnownVote}
use Rattle.batcher_node.specs.declared.answers.Cast.TheVariants.{Outside as OutsideVote}
use Rattle.batcher_voter.specs.Knowledge.{HasLearned, IsHighest, KnowledgeView, KnowsOf, learned_at}
use Rattle.batcher_voter.specs.Refusals.{IsRefused, RestsOnLearned}
use Rattle.batcher_voter.specs.Remembering.{IsLeft, Remembers}
use Rattle.batcher_voter.specs.declared.answers.CastFault.{CastFault}
use Rattle.batcher_voter.specs.declared.answers.CastFault.TheVariants.{Closed as NotOpen, Excluded}
use Rattle.batcher_voter.specs.declared.answers.CastFault.TheVariants.{NotOwn}
use Rattle.batcher_voter.specs.declared.answers.CastFault.TheVariants.{OutOfMemory as NoMemory}
use Rattle.batcher_voter.specs.declared.answers.CastFault.TheVariants.{Refused as RefusedBy, Signed}
use Rattle.batcher_voter.specs.declared.answers.CastFault.TheVariants.{Full as NoRoom}
use Rattle.batcher_voter.specs.declared.answers.Permission.{Permission}
use Rattle.batcher_voter.specs.declared.answers.Permission.TheVariants.{Sign, Known, Refused}
use Rattle.batcher_voter.specs.declared.answers.Permission.TheVariants.{Outside, Closed}

-- With scheme S, signatures G, digests D and log L.
pub record VoterView (S G D L : Type 0) : Type 0 where
  pub node : NodeView S G D
  pub journal : JournalView G D L
  pub knowledge : KnowledgeView D
  -- the subject of a certificate that is known, and that there was no memory to keep
  pub waits : Option (Subject D)

-- What each voter keeps true: its node, its journal and its knowledge begin with one view.
pub record BeginWithOneView {S G D L : Type 0} (voter : VoterView S G D L) : Type 0 where
  pub of_epoch : voter.knowledge.epoch ≡ voter.node.epoch
  pub from_final : voter.knowledge.floor ≡ voter.node.window.finalized
  pub floor_is :
      voter.journal.is_open ≡ true
      → voter.journal.contents.floor ≡ numbered voter.node.epoch voter.node.window.finalized

-- What a construction gives is of its view.
abbrev pub IsOfItsView : {C D : Type 0} → Epoch → Construction C D → Type 0
IsOfItsView epoch made =
    IfSome made.batch (λ batch. IfSome batch.certificate
    (λ c. round_in (subject_certified c) ≡ numbered epoch made.view.0))

-- A view is the next one: it is behind each of which a certificate is known, and behind one of
-- these, or behind the final one.
pub record IsNextView {S D K G C L : Type 0} (voter : VoterView S G D L)
    (past : VoterHistory D K G C) (next : ℕ) : Type 0 where
  pub behind_all :
      (s : Subject D) → Knows (conduct_of past) s → (round_in s).epoch ≡ voter.node.epoch
      → (round_in s).view.0 < next
  pub behind_one :
      (next ≡ voter.node.window.finalized + 1)
      ⊎ ((view : ℕ) × ((next ≡ view + 1)
      × KnowsOf (conduct_of past) (numbered voter.node.epoch view)))

-- whether a certificate was recorded
abbrev pub was_recorded : Receipt Verdict → Bool
was_recorded (Answered (Recorded changed)) = true
was_recorded receipt = false

-- Each vote that the node was shown had been written, in this life or before.
abbrev pub AreWrittenFirst : {D K G C : Type 0} → Conduct D → VoterHistory D K G C → Type 0
AreWrittenFirst earlier [] = ⊤
AreWrittenFirst earlier (called (vote_cast vote outcome report) ∷ past) =
    HasVoted (conduct_of past ++ earlier) (subject_of vote) × AreWrittenFirst earlier past
AreWrittenFirst earlier (event ∷ past) = AreWrittenFirst earlier past

module _ {D K G C : Type 0} (vote : Vote G D) (past : VoterHistory D K G C) (earlier : Conduct D)
    (after : VoterHistory D K G C) where
  -- The vote was written, now or before.
  abbrev pub IsWritten : Type 0
  IsWritten =
      ((after ≡ past) × HasVoted (conduct_of past ++ earlier) (subject_of vote))
      ⊎ (after ≡ written vote ∷ past)

module _ {S G D L : Type 0} where
  -- The voter is made of this scheme and this journal, and its view is that of the journal's floor.
  pub record IsMadeOf (scheme : S) (ahead : ℕ) (retains : Bool) (journal : JournalView G D L)
      (voter : VoterView S G D L) : Type 0 where
    pub scheme_is : voter.node.scheme ≡ scheme
    pub epoch_is : voter.node.epoch ≡ journal.contents.floor.epoch
    pub retains_is : voter.node.retains ≡ retains
    pub window_is :
        voter.node.window ≡ record {
          finalized = journal.contents.floor.view.0;
          current = journal.contents.floor.view.0;
          ahead = ahead;
        }
    pub journal_is : voter.journal ≡ journal

  -- A call of the node leaves its scheme and its epoch as they were, what the journal has on the
  -- disk, whether that is open, and what a caller has of its log.
  pub record SameVoter (is_copied_as : L → CopyView → Type 0) (old new : VoterView S G D L)
      : Type 0 where
    pub same : SameNode old.node new.node
    pub contents : new.journal.contents ≡ old.journal.contents
    pub is_open : new.journal.is_open ≡ old.journal.is_open
    pub copied : KeepsCopy is_copied_as old.journal.log new.journal.log

  -- Nothing but the node has changed. It is of the same scheme and epoch, and retains as before.
  pub record OnlyNode (old new : VoterView S G D L) : Type 0 where
    pub same : SameNode old.node new.node
    pub journal : new.journal ≡ old.journal
    pub knowledge : new.knowledge ≡ old.knowledge
    pub waits : new.waits ≡ old.waits

  -- The node is as it was, and so is the journal, but for what isn't written yet.
  pub record SameOnDisk (old new : VoterView S G D L) : Type 0 where
    pub node : new.node ≡ old.node
    pub contents : new.journal.contents ≡ old.journal.contents
    pub is_open : new.journal.is_open ≡ old.journal.is_open
    pub log : new.journal.log ≡ old.journal.log

  -- A proposal is the one that its view is known to have notarized, or the last such, and no vote
  -- is for its finalize, or contradicts that.
  abbrev pub IsFinalizable : (D → D → Bool) → VoterView S G D L → Proposal D → Type 0
  IsFinalizable same voter p =
      IsFree same voter.journal.contents.votes (Finalize p)
      × ((learned_at voter.knowledge p.round.view.0).notarized ≡ Some p)

  -- What the node was shown is in the journal, which is open, and so on the disk.
  abbrev pub IsInJournal : Vote G D → VoterView S G D L → Cast G D → Type 0
  IsInJournal vote voter OutsideVote = ⊤
  IsInJournal vote voter cast =
      (voter.journal.is_open ≡ true) × Contains voter.journal.contents.votes vote

module _ {S D K G C : Type 0} (x : NodeConfig D K G C) where
  -- The node excludes a vote by this fault. Where the fault is memory, it doesn't exclude it.
  abbrev pub AnswersOwn : NodeView S G D → Vote G D → OwnFault → Type 0
  AnswersOwn node vote fault =
      ForEachNodeHistory x node (λ past.
      let view = (round_in (subject_of vote)).view.0 in
      fault ≡ fault_or_memory (own_answer (config_of x past view) (view_history view past) vote))

  -- Why a vote that was written isn't shown to the node.
  abbrev pub WhyNotShown : NodeView S G D → Vote G D → CastFault G D → Type 0
  WhyNotShown node vote NoMemory = AnswersOwn node vote OutOfMemory
  WhyNotShown node vote (Excluded fault) = AnswersOwn node vote fault
  WhyNotShown node vote fault = ⊥

module _ {S D K G C L : Type 0} (x : NodeConfig D K G C) where
  -- What a voter is after a life so far, and what its participant did in earlier ones.
  pub record IsVoting (past : VoterHistory D K G C) (earlier : Conduct D)
      (voter : VoterView S G D L) : Type 0 where
    pub represents : NodeRepresents x (node_history past) voter.node
    pub are_verified : AreVerified x.meaning past
    pub written_first : AreWrittenFirst earlier past
    pub keeps_policy : KeepsPolicy (conduct_of past ++ earlier)
    -- It knows what it learned in this life, and an open journal has the votes of all lives.
    pub has_learned : HasLearned voter.knowledge (conduct_of past)
    pub is_highest : IsHighest voter.knowledge (conduct_of past)
    pub remembers :
        voter.journal.is_open ≡ true
        → Remembers (conduct_of past ++ earlier) voter.journal.contents

  -- A voter that was made from its journal has verified certificates, and asked its node nothing.
  pub record HasStarted (earlier : Conduct D) (voter : VoterView S G D L) : Type 0 where
    pub past : VoterHistory D K G C
    pub voting : IsVoting past earlier voter
    pub asked_nothing : node_history past ≡ started voter.node.window ∷ []

  -- what is said of a voter whatever happened to it
  abbrev pub ForEachLife : VoterView S G D L → (VoterHistory D K G C → Conduct D → Type 0) → Type 0
  ForEachLife voter holds =
      (past : VoterHistory D K G C) (earlier : Conduct D) → IsVoting past earlier voter
      → holds past earlier

  module _ (old new : VoterView S G D L) where
    -- a call that is answered
    abbrev pub VoterMeets : NodeEvent D K G C → Type 0
    VoterMeets event = ForEachLife old (λ past earlier. IsVoting (called event ∷ past) earlier new)

    -- The proposal of a view is handed on by its round. Where the view has none, nothing changes.
    abbrev pub ForwardsProposal : ℕ → Participant → Option (Proposal D) → Type 0
    ForwardsProposal view me given =
        MatchOption (slot_at old.node.rounds view) ((given ≡ None) × (new ≡ old))
        (λ slot. VoterMeets (proposal_forwarded view me given))

    -- nothing happened that counts
    abbrev pub VoterStays : Type 0
    VoterStays = ForEachLife old (λ past earlier. IsVoting past earlier new)

    -- Nothing happened that counts, and the node is as it was.
    pub record VoterKeepsNode : Type 0 where
      pub node : new.node ≡ old.node
      pub stays : VoterStays

  -- What the journal and the window say, by the answer.
  abbrev pub Says : (D → D → Bool) → VoterView S G D L → Subject D → Permission G D → Type 0
  Says same voter subject Sign =
      (voter.journal.is_open ≡ true) × (IsFree same voter.journal.contents.votes subject
      × (is_of x.epoch voter.node.window (round_in subject) ≡ true))
  Says same voter subject (Known vote) =
      (voter.journal.is_open ≡ true) × (Contains voter.journal.contents.votes vote
      × ((subject_of vote ≡ subject)
      × (is_of x.epoch voter.node.window (round_in subject) ≡ true)))
  Says same voter subject (Refused rule) = voter.journal.is_open ≡ true
  Says same voter subject Outside =
      is_of x.epoch voter.node.window (round_in subject) ≡ false
  Says same voter subject Closed = voter.journal.is_open ≡ false

  -- what is answered of a vote that may be cast, and of one that may not
  abbrev pub Permits : (D → D → Bool) → VoterView S G D L → Subject D → Permission G D
      → VoterHistory D K G C → Conduct D → Type 0
  Permits same voter subject Sign past earlier =
      IsCleared (conduct_of past ++ earlier) subject
      × ((HasVoted (conduct_of past ++ earlier) subject → ⊥)
      × RestsOnLearned (conduct_of past) voter.knowledge.floor subject)
  Permits same voter subject (Known vote) past earlier =
      HasVoted (conduct_of past ++ earlier) subject
  Permits same voter subject (Refused rule) past earlier =
      IsRefused same (conduct_of past ++ earlier) (conduct_of past) voter.knowledge.floor rule
      subject
  Permits same voter subject permission past earlier = ⊤

  -- what comes of a vote that was written and is shown to the node
  abbrev pub Shows : VoterView S G D L → Vote G D → Cast G D → VoterView S G D L → Type 0
  Shows old vote (ToSend report) new =
      (outcome : Outcome) × VoterMeets old new (vote_cast vote outcome (Some report))
  Shows old vote KnownVote new =
      (outcome : Outcome) × VoterMeets old new (vote_cast vote outcome None)
  Shows old vote OutsideVote new =
      (is_of x.epoch old.node.window (round_in (subject_of vote)) ≡ false) × (new ≡ old)

  -- The vote was written, and then the node was called.
  pub record WritesAndCalls (vote : Vote G D) (event : NodeEvent D K G C)
      (past : VoterHistory D K G C) (earlier : Conduct D) (new : VoterView S G D L) : Type 0 where
    pub between : VoterHistory D K G C
    pub is_written : IsWritten vote past earlier between
    pub voting : IsVoting (called event ∷ between) earlier new

  -- What comes of a vote that is cast. One that is to be sent had been written when the node was
  -- shown it.
  abbrev pub Casts : VoterView S G D L → Vote G D → Cast G D → VoterView S G D L → Type 0
  Casts old vote (ToSend report) new = (outcome : Outcome) × ForEachLife old
      (λ past earlier. WritesAndCalls vote (vote_cast vote outcome (Some report)) past earlier new)
  Casts old vote KnownVote new = (outcome : Outcome) × ForEachLife old
      (λ past earlier. WritesAndCalls vote (vote_cast vote outcome None) past earlier new)
  Casts old vote OutsideVote new =
      (is_of x.epoch old.node.window (round_in (subject_of vote)) ≡ false) × (new ≡ old)

  -- A vote that may be signed isn't written.
  pub record IsUnwritten (same : D → D → Bool) (old : VoterView S G D L) (vote : Vote G D)
      (new : VoterView S G D L) : Type 0 where
    pub permits : ForEachLife old (Permits same old (subject_of vote) Sign)
    pub contents : new.journal.contents ≡ old.journal.contents

  -- Why a vote isn't cast. Memory is out for one that isn't refused otherwise.
  abbrev pub WhyNotCast : (D → D → Bool) → VoterView S G D L → Vote G D → CastFault G D
      → VoterView S G D L → Type 0
  WhyNotCast same old vote (RefusedBy rule) new =
      ForEachLife old (Permits same old (subject_of vote) (Refused rule))
  WhyNotCast same old vote NotOwn new = signer_of vote ≢ old.journal.contents.owner.1.1.0
  WhyNotCast same old vote (Signed known) new =
      Contains old.journal.contents.votes known × ((subject_of known ≡ subject_of vote)
      × (known ≢ vote))
  WhyNotCast same old vote NotOpen new = new.journal.is_open ≡ false
  WhyNotCast same old vote NoRoom new = new.journal.is_open ≡ true
  WhyNotCast same old vote (Excluded fault) new =
      WhyNotShown x old.node vote (Excluded fault)
  WhyNotCast same old vote NoMemory new =
      (new.journal.is_open ≡ true)
      × (IsUnwritten same old vote new ⊎ WhyNotShown x old.node vote NoMemory)

  -- where the node refused it: it may be written
  pub record MayWrite (vote : Vote G D) (past : VoterHistory D K G C) (earlier : Conduct D)
      (new : VoterView S G D L) : Type 0 where
    pub after : VoterHistory D K G C
    pub is_written : (after ≡ past) ⊎ (after ≡ written vote ∷ past)
    pub voting : IsVoting after earlier new

module _ {D K G C : Type 0} (format : Format (Vote G D)) (past : VoterHistory D K G C)
    (earlier : Conduct D) where
  -- A crash leaves what was done so far,
  abbrev pub LeavesWhatWasDone : List ℕ → Type 0
  LeavesWhatWasDone left = IsLeft format (conduct_of past ++ earlier) left

  -- or that and the vote.
  abbrev pub LeavesVote : Vote G D → List ℕ → Type 0
  LeavesVote vote left =
      LeavesWhatWasDone left
      ⊎ IsLeft format (voted (subject_of vote) ∷ (conduct_of past ++ earlier)) left
