-- A validator: a voter, with what it gave to be done.
use Rattle.std.specs.Prelude.{◌≡◌, ◌<◌, ◌≤◌, ◌⊎◌, ⊤, ℕ, Bool, true, false, List, [], ◌∷◌, ◌++◌}
use Rattle.std.specs.Prelude.{◌||◌, Contains, MatchBool, Option, Some, None, Ok, is_some, nat_lt}
use Rattle.std.specs.Prelude.{◌-◌, ◌^◌, length, min, not, take}
use Rattle.std.specs.List.{count_by, slice_get}
use Rattle.batcher.specs.Verifiers.{certifies_itself}
use Rattle.batcher.specs.Votes.{round_in, subject_certified, subject_of}
use Rattle.batcher.specs.messages.Certificate.{Certificate}
use Rattle.batcher.specs.messages.Kind.{Kind}
use Rattle.batcher.specs.answers.Admission.{Admission}
use Rattle.batcher.specs.messages.Proposal.{Proposal}
use Rattle.batcher.specs.messages.Subject.{Subject}
use Rattle.batcher.specs.messages.Subject.TheVariants.{Finalize}
use Rattle.batcher.specs.messages.Vote.{Vote}
use Rattle.batcher.specs.positions.Participant.{Participant}
use Rattle.batcher.specs.positions.Round.{Round}
use Rattle.batcher.specs.votes.Outcome.{Outcome}
use Rattle.batcher_agreement.specs.Lives.{VoterHistory, called, node_history, verified, written}
use Rattle.batcher_agreement.specs.Policy.{Conduct, HasVoted}
use Rattle.batcher_bytes.specs.Format.{Format, whole}
use Rattle.batcher_bytes.specs.Messages.{versioned}
use Rattle.batcher_journal.specs.Floors.{is_below, is_over}
use Rattle.batcher_journal.specs.Records.{Certified}
use Rattle.batcher_journal.specs.Text.{Contents}
use Rattle.batcher_node.specs.Events.{NodeEvent, constructed, started, view_finalized, vote_cast}
use Rattle.batcher_node.specs.Events.{forgery_came}
use Rattle.batcher_bytes.specs.Copies.{CopyView, KeepsCopy}
use Rattle.batcher_node.specs.Nodes.{IsAtRest, NodeConfig, SameNode}
use Rattle.batcher_node.specs.declared.node.Construction.{Construction}
use Rattle.batcher_node.specs.Windows.{is_of}
use Rattle.batcher_node.specs.declared.answers.Ahead.{Ahead}
use Rattle.batcher_node.specs.declared.answers.Ahead.TheVariants.{Certified as CertifiedAhead}
use Rattle.batcher_node.specs.declared.answers.Ahead.TheVariants.{Forged as ForgedAhead}
use Rattle.batcher_node.specs.declared.answers.Receipt.{Receipt}
use Rattle.batcher_node.specs.declared.answers.Receipt.TheVariants.{Answered}
use Rattle.batcher_node.specs.declared.answers.Cast.{Cast}
use Rattle.batcher_node.specs.declared.answers.Cast.TheVariants.{ToSend, Known as KnownVote}
use Rattle.batcher_node.specs.declared.answers.Cast.TheVariants.{Outside as OutsideVote}
use Rattle.batcher_validator.specs.Queues.{AreFirst, HasKey}
use Rattle.batcher_validator.specs.Absence.{entering, silence_of}
use Rattle.batcher_validator.specs.Decisions.{AreDecided}
use Rattle.batcher_validator.specs.Shelves.{IsLookedAt, ShelfView, kind_and_round}
use Rattle.batcher_validator.specs.Histories.{HadVoted, HasAnnouncedFrom, HasAskedFrom, HasBlocked}
use Rattle.batcher_validator.specs.Histories.{HasHad, HasHanded, HasRecast, HasSent, HasSentOnce}
use Rattle.batcher_validator.specs.Histories.{IsVerifying, ValidatorEvent, ValidatorHistory}
use Rattle.batcher_validator.specs.Histories.{answered, began, calls_in}
use Rattle.batcher_validator.specs.Histories.{chosen_in, conduct_in, did, expired_in, gave}
use Rattle.batcher_validator.specs.Histories.{last_to_sign, me_in, only_did, only_took, posed_in}
use Rattle.batcher_validator.specs.Histories.{resent_from, to_forward, took, turn_in, unsigned_in}
use Rattle.batcher_validator.specs.Histories.{voter_history, window_by}
use Rattle.batcher_validator.specs.Tasks.{AreGivenInTurn, Counts, NobodyIsToBlock}
use Rattle.batcher_validator.specs.Resending.{is_earlier}
use Rattle.batcher_validator.specs.declared.decided.Decided.{Decided}
use Rattle.batcher_validator.specs.declared.resending.Resending.{Resending}
use Rattle.batcher_validator.specs.declared.tally.Tally.{Tally}
use Rattle.batcher_validator.specs.declared.task.Task.{Task}
use Rattle.batcher_validator.specs.declared.task.Task.TheVariants.{Cast as CastAgain, Final}
use Rattle.batcher_validator.specs.declared.task.Task.TheVariants.{SendCertificate, SendVote}
use Rattle.batcher_validator.specs.declared.task.Task.TheVariants.{Verify}
use Rattle.batcher_validator.specs.declared.unsigned.Unsigned.{Unsigned}
use Rattle.batcher_voter.specs.Voting.{IsVoting, LeavesWhatWasDone, SameVoter, VoterView}

-- What a validator means to vote for, with digests D.
pub record IntentView (D : Type 0) : Type 0 where
  -- as whom it votes
  pub me : Participant
  -- what was given to be signed, last of all, since it last was to send again
  pub signing : Option (Subject D)
  -- which signatures were refused since then
  pub unsigned : Unsigned
  -- the highest view whose time is over, or that was given up, or 0
  pub expired : ℕ
  -- the proposal of the highest view that is its own, or valid
  pub chosen : Option (Proposal D)
  -- the last view of which a proposal was given to be made, or to be judged, or 0
  pub posed : ℕ

-- What a validator has noted of what it gave.
pub record GivenView (D : Type 0) : Type 0 where
  -- whether each participant was given to be blocked
  pub blocked : List Bool
  -- whether nobody is to be blocked, as far as is noted
  pub calm : Bool
  -- the last view of which a proposal was given as final, or 0
  pub announced : ℕ
  -- how many of the journal's votes were given
  pub tally : Tally
  -- what was to be sent again, last of all
  pub resending : Resending
  -- the last view that was given to be entered, or 0
  pub asked : ℕ
  -- whether votes were given to be verified, and there is no answer yet
  pub verifying : Bool
  -- the round of the notarization that was given to be sent, of which nothing was forwarded yet
  pub forwarding : Option Round
  pub intent : IntentView D
  -- views in which it has voted to finalize or to nullify, as far as is noted
  pub decided : Decided
  -- of each participant how many views were entered since something came of it, 2^64 - 1 at most
  pub presence : List ℕ

-- With scheme S, signatures G, digests D, log L and certificates C.
pub record ValidatorView (S G D L C : Type 0) : Type 0 where
  pub voter : VoterView S G D L
  pub given : GivenView D
  -- the certificates that it keeps
  pub shelf : ShelfView C D

module _ {S G D L C : Type 0} (is_copied_as : L → CopyView → Type 0)
    (old new : ValidatorView S G D L C) where
  -- The node is of the same scheme and epoch, and a caller has the same copy of the journal's log.
  pub record SameRun : Type 0 where
    pub same : SameNode old.voter.node new.voter.node
    pub copied : KeepsCopy is_copied_as old.voter.journal.log new.voter.journal.log

  -- Nothing but the voter has changed, and of that only what a call of its node changes.
  pub record OnlyVoter : Type 0 where
    pub voter : SameVoter is_copied_as old.voter new.voter
    pub given : new.given ≡ old.given
    pub shelf : new.shelf ≡ old.shelf

-- each number of a tally, changed so
abbrev pub tallied : (ℕ → ℕ) → Tally → Tally
tallied f tally =
    record {
      begun = f tally.begun;
      recast = f tally.recast;
      sent = f tally.sent;
      resent = f tally.resent;
    }

-- how many of the first votes are of rounds from this one on
abbrev pub left_of : {G D : Type 0} → Round → List (Vote G D) → ℕ → ℕ
left_of floor votes count = count_by (λ vote. not (is_over floor vote)) (take count votes)

-- the tally where the votes of earlier rounds are gone
abbrev pub tally_from : {S G D L C : Type 0} → Round → ValidatorView S G D L C → Tally
tally_from floor validator =
    tallied (left_of floor validator.voter.journal.contents.votes) validator.given.tally

-- The participants that are noted were given to be blocked, and no others.
pub record AreBlocked (WasBlocked : ℕ → Type 0) (blocked : List Bool) : Type 0 where
  pub were_blocked : (i : ℕ) → slice_get blocked i ≡ Some true → WasBlocked i
  pub no_others : (i : ℕ) → WasBlocked i → slice_get blocked i ≡ Some true

-- Views up to the one that is noted were given, or later ones, and no others.
pub record AreAsked (WasAskedFrom : ℕ → Type 0) (asked : ℕ) : Type 0 where
  pub were_asked : (view : ℕ) → 0 < view → view ≤ asked → WasAskedFrom view
  pub no_others : (view : ℕ) → WasAskedFrom view → view ≤ asked

-- Of each participant is noted how many views were entered since something came of it.
abbrev pub AreSilent : {D K G C : Type 0} → NodeConfig D K G C → ValidatorHistory D K G C → List ℕ
    → Type 0
AreSilent x past silences =
    (i : ℕ) → i < length x.meaning.participants
    → slice_get silences i ≡ Some (min (silence_of x i (calls_in past)) (2 ^ 64 - 1))

-- It means to vote for what it was answered.
pub record IsIntent {D K G C : Type 0} (past : ValidatorHistory D K G C) (intent : IntentView D)
    : Type 0 where
  pub votes_as : me_in past ≡ Some intent.me
  pub signs : last_to_sign past ≡ intent.signing
  pub refuses : unsigned_in past ≡ intent.unsigned
  pub expires : expired_in past ≡ intent.expired
  pub chooses : chosen_in past ≡ intent.chosen
  pub poses : posed_in past ≡ intent.posed

-- whether a subject is of a round before the floor, and a kind and round of a view before that one
abbrev pub is_over_for : {D : Type 0} → Round → Subject D → Bool
is_over_for floor s = is_below floor (round_in s)

abbrev pub is_before_view : ℕ → (Kind × Round) → Bool
is_before_view first key = nat_lt key.1.view.0 first

-- The first votes of the journal are those for which something happened.
abbrev pub AreFirstVotes : {S G D L C : Type 0} → ValidatorView S G D L C → (Subject D → Type 0)
    → ℕ → Type 0
AreFirstVotes validator WasGiven count =
    AreFirst subject_of (is_over_for validator.voter.journal.contents.floor) WasGiven
    validator.voter.journal.contents.votes count

-- The same of those votes for which it isn't said that it doesn't matter.
abbrev pub AreFirstVotesBut : {S G D L C : Type 0} → ValidatorView S G D L C → (Subject D → Bool)
    → (Subject D → Type 0) → ℕ → Type 0
AreFirstVotesBut validator is_exempt WasGiven count =
    AreFirst subject_of
    (λ s. is_exempt s || is_over_for validator.voter.journal.contents.floor s) WasGiven
    validator.voter.journal.contents.votes count

-- The certificates that are kept: each was had in this life, certifies what it names, and is of the
-- epoch and of a view from the final one on, and of each that counts there is one of its kind and
-- round.
pub record AreKept {D K G C : Type 0} (x : NodeConfig D K G C) (past : ValidatorHistory D K G C)
    (kept : List (Certificate C D)) : Type 0 where
  pub had : (c : Certificate C D) → Contains kept c → HasHad past c
  pub certify : (c : Certificate C D) → Contains kept c → certifies_itself x.meaning c ≡ true
  pub looked_at :
      (c : Certificate C D) → Contains kept c → IsLookedAt x.epoch (window_by past).finalized c
  pub are_there : (c : Certificate C D) → Counts x past c
      → HasKey kind_and_round kept (kind_and_round c)

-- whether an answer to a vote blocks who sent it
abbrev pub blocks_sender : {G D : Type 0} → Receipt (Admission G D) → Bool
blocks_sender (Answered admission) = is_some admission.block
blocks_sender receipt = false

-- one of these has the bytes of a certificate
pub record AreBytesOf {C D : Type 0} (format : Format (Certificate C D)) (kept : List Certified)
    (c : Certificate C D) : Type 0 where
  pub one : Certified
  pub there : Contains kept one
  pub decoded : whole (versioned format) one.1 ≡ Ok c

-- A vote that is given to be sent or cast is on the disk, a certificate is kept, and votes that are
-- given to be verified wait.
abbrev pub IsReadyTask : {S G D L C : Type 0} → ValidatorView S G D L C → Task G D → Type 0
IsReadyTask validator (SendVote vote) =
    (validator.voter.journal.is_open ≡ true)
    × Contains validator.voter.journal.contents.votes vote
IsReadyTask validator (CastAgain vote) =
    (validator.voter.journal.is_open ≡ true)
    × Contains validator.voter.journal.contents.votes vote
IsReadyTask validator (SendCertificate kind number) =
    HasKey kind_and_round validator.shelf.certificates (kind, number)
IsReadyTask validator Verify = IsAtRest validator.voter.node → ⊥
IsReadyTask validator task = ⊤

-- A journal has a certificate: as the finalization of its floor, or beside its votes.
abbrev pub HasCertificate : {G C D : Type 0} → Format (Certificate C D) → Contents G D
    → Certificate C D → Type 0
HasCertificate format contents c =
    (whole (versioned format) contents.finalization ≡ Ok c)
    ⊎ AreBytesOf format contents.certificates c

module _ {S D K G C L : Type 0} (x : NodeConfig D K G C) where
  -- What a validator is after a life so far, and what its participant did in earlier ones.
  pub record IsRunning (past : ValidatorHistory D K G C) (earlier : Conduct D)
      (validator : ValidatorView S G D L C) : Type 0 where
    pub voting : IsVoting x (voter_history past) earlier validator.voter
    pub in_turn : AreGivenInTurn x earlier past
    pub blocks : AreBlocked (λ i. HasBlocked past i) validator.given.blocked
    pub calms : validator.given.calm ≡ true → NobodyIsToBlock x past
    pub finals : AreAsked (λ view. HasAnnouncedFrom past view) validator.given.announced
    pub votes :
        validator.voter.journal.is_open ≡ true → AreFirstVotes validator
        (λ s. HasSentOnce past s) validator.given.tally.sent
    pub votes_again :
        validator.voter.journal.is_open ≡ true → AreFirstVotesBut validator
        (is_earlier validator.given.resending.from) (λ s. HasSent past s)
        validator.given.tally.resent
    pub resends :
        (resent_from past ≡ validator.given.resending.from)
        × (turn_in past ≡ validator.given.resending.turn)
    pub begins :
        validator.voter.journal.is_open ≡ true → AreFirstVotes validator
        (λ s. HadVoted earlier past s) validator.given.tally.begun
    pub casts :
        validator.voter.journal.is_open ≡ true → AreFirstVotes validator
        (λ s. HasRecast past s) validator.given.tally.recast
    pub kept : AreKept x past validator.shelf.certificates
    pub certificates :
        AreFirst kind_and_round (is_before_view (window_by past).finalized)
        (λ key. HasHanded past key)
        validator.shelf.certificates validator.shelf.handed
    pub asks : AreAsked (λ view. HasAskedFrom past view) validator.given.asked
    pub verifies : MatchBool validator.given.verifying (IsVerifying past) (IsVerifying past → ⊥)
    pub forwards : to_forward past ≡ validator.given.forwarding
    pub intends : IsIntent past validator.given.intent
    pub decides : AreDecided (conduct_in earlier past) x.epoch validator.given.decided
    pub hears : AreSilent x past validator.given.presence

  -- A validator that was made from its journal took in what that has and nothing else. It gave
  -- nothing, and asked its node nothing. It votes as whom the journal says.
  pub record HasBegun (format : Format (Certificate C D)) (earlier : Conduct D)
      (validator : ValidatorView S G D L C) : Type 0 where
    pub me : Participant
    pub owns : me.0 ≡ validator.voter.journal.contents.owner.1.1.0
    pub past : VoterHistory D K G C
    pub held : List (Certificate C D)
    pub has_all :
        (c : Certificate C D) → HasCertificate format validator.voter.journal.contents c
        → Contains held c
    pub no_others :
        (c : Certificate C D) → Contains held c
        → HasCertificate format validator.voter.journal.contents c
    pub running : IsRunning (only_took held ++ began me past ∷ []) earlier validator
    pub asked_nothing : node_history past ≡ started validator.voter.node.window ∷ []

  -- what is said of a validator whatever happened to it
  abbrev pub ForEachRun : ValidatorView S G D L C
      → (ValidatorHistory D K G C → Conduct D → Type 0) → Type 0
  ForEachRun validator holds =
      (past : ValidatorHistory D K G C) (earlier : Conduct D) → IsRunning past earlier validator
      → holds past earlier

  -- it goes on with one more event
  abbrev pub RunMeets : ValidatorView S G D L C → ValidatorView S G D L C → ValidatorEvent D K G C
      → Type 0
  RunMeets old new event =
      ForEachRun old (λ past earlier. IsRunning (event ∷ past) earlier new)

  -- It enters a view with its leader, and gives it up where that is blocked, or absent.
  abbrev pub RunEnters : ℕ → Participant → ValidatorView S G D L C → ValidatorView S G D L C
      → Type 0
  RunEnters view leader old new =
      ForEachRun old (λ past earlier. IsRunning (entering x past view leader) earlier new)

  -- Its voter verifies and learns a certificate, and it is kept.
  abbrev pub RunTakes : Certificate C D → ValidatorView S G D L C → ValidatorView S G D L C → Type 0
  RunTakes c old new =
      ForEachRun old (λ past earlier. IsRunning (took c ∷ did (verified c) ∷ past) earlier new)

  -- What comes of a certificate from beyond the window, by what it is answered: it is learned and
  -- kept, or who forged it is blocked. Else nothing changes.
  abbrev pub CatchesUp : ValidatorView S G D L C → K → Certificate C D → Receipt Ahead
      → ValidatorView S G D L C → Type 0
  CatchesUp old peer c (Answered CertifiedAhead) new = RunTakes c old new
  CatchesUp old peer c (Answered ForgedAhead) new =
      RunMeets old new (did (called (forgery_came peer c)))
  CatchesUp old peer c answer new = new ≡ old

  -- nothing happened that counts
  abbrev pub RunStays : ValidatorView S G D L C → ValidatorView S G D L C → Type 0
  RunStays old new = ForEachRun old (λ past earlier. IsRunning past earlier new)

  -- Nothing happened that counts, and the node is as it was.
  pub record RunKeepsNode (old new : ValidatorView S G D L C) : Type 0 where
    pub node : new.voter.node ≡ old.voter.node
    pub stays : RunStays old new

  -- What a crash leaves after a call is what was done before it.
  abbrev pub RunLeaves : Format (Vote G D) → (L → Type 0) → (L → List ℕ → Type 0)
      → ValidatorView S G D L C → ValidatorView S G D L C → Type 0
  RunLeaves format is_honest may_leave old new =
      (left : List ℕ) → old.voter.journal.is_open ≡ true → is_honest new.voter.journal.log
      → may_leave new.voter.journal.log left → ForEachRun old (λ past earlier.
      LeavesWhatWasDone format (voter_history past) earlier left)

  -- a construction was made, by which votes were verified
  abbrev pub HasConstructed : ValidatorView S G D L C → ValidatorView S G D L C → Type 0
  HasConstructed old new =
      (one : Construction C D) × ForEachRun old (λ past earlier. IsRunning
      (answered ∷ did (called (constructed one.view.0 one.batch)) ∷ past) earlier new)

  -- The vote was written, now or before, and then the node was called.
  pub record RunWrites (vote : Vote G D) (event : NodeEvent D K G C)
      (past : ValidatorHistory D K G C) (earlier : Conduct D) (new : ValidatorView S G D L C)
      : Type 0 where
    pub more : VoterHistory D K G C
    pub is_written :
        ((more ≡ []) × HasVoted (conduct_in earlier past) (subject_of vote))
        ⊎ (more ≡ written vote ∷ [])
    pub running : IsRunning (did (called event) ∷ only_did more ++ past) earlier new

  -- What comes of a vote that is cast, as of a voter's.
  abbrev pub RunCasts : ValidatorView S G D L C → Vote G D → Cast G D → ValidatorView S G D L C
      → Type 0
  RunCasts old vote (ToSend report) new = (outcome : Outcome) × ForEachRun old
      (λ past earlier. RunWrites vote (vote_cast vote outcome (Some report)) past earlier new)
  RunCasts old vote KnownVote new = (outcome : Outcome) × ForEachRun old
      (λ past earlier. RunWrites vote (vote_cast vote outcome None) past earlier new)
  RunCasts old vote OutsideVote new =
      (is_of x.epoch old.voter.node.window (round_in (subject_of vote)) ≡ false) × (new ≡ old)

  -- where it was refused: it may be written
  pub record RunMayWrite (vote : Vote G D) (past : ValidatorHistory D K G C)
      (earlier : Conduct D) (new : ValidatorView S G D L C) : Type 0 where
    pub more : VoterHistory D K G C
    pub is_written : (more ≡ []) ⊎ (more ≡ written vote ∷ [])
    pub running : IsRunning (only_did more ++ past) earlier new

  -- It gives a task, and does nothing else; but before a proposal is given as final, its view is
  -- made the final one, by a finalization.
  abbrev pub Gives : ValidatorView S G D L C → ValidatorView S G D L C → Task G D → Type 0
  Gives old new (Final p) =
      (c : Certificate C D) × ((subject_certified c ≡ Finalize p) × ForEachRun old
      (λ past earlier. IsRunning (gave (Final p) ∷ did (called (view_finalized p.round.view.0))
      ∷ did (verified c) ∷ past) earlier new))
  Gives old new task = RunMeets old new (gave task)
