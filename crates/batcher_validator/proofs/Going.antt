-- A validator goes on with what its voter did.
use Rattle.batcher_validator.proofs.Words.{◌≡◌, ◌⊎◌, ◌++◌, ◌∙◌, ℕ, Bool, true, false, not, List, [], ◌∷◌, Option, Some, None, ap, inl, inr, refl, subst, sym}
use Rattle.batcher_validator.proofs.Words.{take, MatchBool, unwrap_or, count_by, filter, option_or, certifies_itself, round_in, subject_of, Certificate}
use Rattle.batcher_validator.proofs.Words.{Subject, Vote, Round, VoterEvent, VoterHistory, called, held_by, verified, Conduct, is_below, is_over, JournalView}
use Rattle.batcher_validator.proofs.Words.{numbered, still_over}
use Rattle.batcher_validator.proofs.Words.{NodeEvent, cause_by, cause_in, constructed, window_after, NodeConfig, NodeView, Window, AreFirst, AreFirstVotes}
use Rattle.batcher_validator.proofs.Words.{AreSilent, ForEachRun}
use Rattle.batcher_validator.proofs.Words.{AreKept, HasConstructed, IsRunning, RunMeets, RunStays, RunTakes, ValidatorView, tallied, is_before_view}
use Rattle.batcher_validator.proofs.Words.{is_over_for, Shelves}
use Rattle.batcher_validator.proofs.Words.{kind_and_round, HasAnnouncedFrom, HasAskedFrom, HasBlocked, HasHad, HasHanded, HasRecast, HadVoted, HasSent}
use Rattle.batcher_validator.proofs.Words.{IsVerifying, ValidatorEvent, ValidatorHistory, calls_in, answered, did, only_did, to_forward, took, voter_history}
use Rattle.batcher_validator.proofs.Words.{window_by, AreGivenInTurn, IsRaised, MayGain, IsVoting, VoterMeets, VoterStays}
use Rattle.batcher_validator.proofs.Words.{◌||◌, AreFirstVotesBut, HasSentOnce, is_earlier, resent_from, turn_in}
use Rattle.batcher_validator.proofs.Intending.{intent_more, still_intent}
use Rattle.batcher_validator.proofs.Keeping.{first_with, kept_still, kept_with}
use Rattle.batcher_validator.proofs.Queueing.{leave, put_behind}
use Rattle.batcher_validator.proofs.Repeating.{or_both, or_false}
use Rattle.batcher_validator.proofs.Settling.{decided_more}

-- What its voter did gave nothing.
module _ {D K G C : Type 0} (Was Is : ValidatorHistory D K G C → Type 0)
    (same : (event : VoterEvent D K G C) (past : ValidatorHistory D K G C)
    → (Was past → Was (did event ∷ past)) × (Was (did event ∷ past) → Was past)) where
  pub to_more : (more : VoterHistory D K G C) (past : ValidatorHistory D K G C)
      → Was past → Was (only_did more ++ past)
  to_more [] past was = was
  to_more (event ∷ more) past was = (same event (only_did more ++ past)).0 (to_more more past was)

  pub from_more : (more : VoterHistory D K G C) (past : ValidatorHistory D K G C)
      → Was (only_did more ++ past) → Was past
  from_more [] past was = was
  from_more (event ∷ more) past was = from_more more past ((same event (only_did more ++ past)).1 was)

module _ {D K G C : Type 0} where
  pub had_more :
      (more : VoterHistory D K G C) (past : ValidatorHistory D K G C) (c : Certificate C D)
      → HasHad past c → HasHad (only_did more ++ past) c
  had_more [] past c was = was
  had_more (event ∷ more) past c was = inr (had_more more past c was)

  pub voter_history_more :
      (more : VoterHistory D K G C) (past : ValidatorHistory D K G C)
      → voter_history (only_did more ++ past) ≡ more ++ voter_history past
  voter_history_more [] past = refl
  voter_history_more (event ∷ more) past = ap (λ rest. event ∷ rest) (voter_history_more more past)

  verifies_more :
      (more : VoterHistory D K G C) (past : ValidatorHistory D K G C) (verifying : Bool)
      → MatchBool verifying (IsVerifying past) (IsVerifying past → ⊥)
      → MatchBool verifying (IsVerifying (only_did more ++ past))
      (IsVerifying (only_did more ++ past) → ⊥)
  verifies_more [] past verifying is = is
  verifies_more (event ∷ more) past verifying is = verifies_more more past verifying is

  to_forward_more :
      (more : VoterHistory D K G C) (past : ValidatorHistory D K G C)
      → to_forward (only_did more ++ past) ≡ to_forward past
  to_forward_more [] past = refl
  to_forward_more (event ∷ more) past = to_forward_more more past

  resent_from_more :
      (more : VoterHistory D K G C) (past : ValidatorHistory D K G C)
      → resent_from (only_did more ++ past) ≡ resent_from past
  resent_from_more [] past = refl
  resent_from_more (event ∷ more) past = resent_from_more more past

  turn_in_more :
      (more : VoterHistory D K G C) (past : ValidatorHistory D K G C)
      → turn_in (only_did more ++ past) ≡ turn_in past
  turn_in_more [] past = refl
  turn_in_more (event ∷ more) past = turn_in_more more past

  in_turn_more :
      (x : NodeConfig D K G C) (earlier : Conduct D) (more : VoterHistory D K G C)
      (past : ValidatorHistory D K G C)
      → AreGivenInTurn x earlier past → AreGivenInTurn x earlier (only_did more ++ past)
  in_turn_more x earlier [] past are = are
  in_turn_more x earlier (event ∷ more) past are = in_turn_more x earlier more past are

-- what is said of those that were given, of a history with more
first_more :
    {X Y : Type 0} (key : X → Y) (is_over : Y → Bool) (Was Now : Y
    → Type 0) (items : List X) (count : ℕ)
    → ((y : Y) → Was y → Now y) → ((y : Y) → Now y → Was y)
    → AreFirst key is_over Was items count → AreFirst key is_over Now items count
first_more key is_over Was Now items count to back are =
    record {
      within = are.within;
      were_given = λ x there. to (key x) (are.were_given x there);
      no_others = λ y now above. are.no_others y (back y now) above;
    }

-- It is calm only where it was, and where nobody gave cause by more.
abbrev pub Calms : {D K G C : Type 0} → NodeConfig D K G C → ValidatorHistory D K G C
    → ValidatorHistory D K G C → Bool → Bool → Type 0
Calms x past now was is =
    is ≡ true → (was ≡ true)
    × ((i : ℕ) → cause_in x (calls_in now) i ≡ cause_in x (calls_in past) i)

-- The first votes are as they were, of what is left of each count.
abbrev pub Recounts : {S G D L C : Type 0} → ValidatorView S G D L C → ValidatorView S G D L C
    → (ℕ → ℕ) → Type 1
Recounts {D = D} old new f =
    new.voter.journal.is_open ≡ true → (old.voter.journal.is_open ≡ true)
    × ((is_exempt : Subject D → Bool) (Was : Subject D → Type 0) (count : ℕ)
    → AreFirstVotesBut old is_exempt Was count → AreFirstVotesBut new is_exempt Was (f count))

module _ {S D K G C L : Type 0} (x : NodeConfig D K G C) (old new : ValidatorView S G D L C)
    (more : VoterHistory D K G C) (past : ValidatorHistory D K G C) (earlier : Conduct D) where
  abbrev After : ValidatorHistory D K G C
  After = only_did more ++ past

  -- Its voter did more, and it gave nothing.
  pub goes_on :
      (f : ℕ → ℕ) → IsRunning x past earlier old
      → IsVoting x (more ++ voter_history past) earlier new.voter
      → Recounts old new f
      → {calm : Bool} → Calms x past After old.given.calm calm
      → (presence : List ℕ) → AreSilent x After presence
      → new.given ≡ record old.given {
        tally = tallied f old.given.tally;
        calm = calm;
        presence = presence;
      }
      → AreKept x After new.shelf.certificates
      → AreFirst kind_and_round (is_before_view (window_by After).finalized)
      (λ key. HasHanded past key)
      new.shelf.certificates new.shelf.handed
      → IsRunning x After earlier new
  goes_on f is voting recounts {calm = calm} quiet presence hears given kept handed =
      record {
        voting = subst (λ h. IsVoting x h earlier new.voter) (sym (voter_history_more more past)) voting;
        in_turn = in_turn_more x earlier more past is.in_turn;
        blocks = rw (given) record {
          were_blocked = λ i there. to_more (λ h. HasBlocked h i) (λ h. HasBlocked h i)
              (λ event h. ((λ was. was), (λ was. was))) more past (is.blocks.were_blocked i there);
          no_others = λ i was. is.blocks.no_others i
              (from_more (λ h. HasBlocked h i) (λ h. HasBlocked h i)
              (λ event h. ((λ was. was), (λ was. was))) more past was);
        };
        calms = rw (given) (λ yes i lt. elim (is.calms (quiet yes).0 i lt) [
          | inl none ↦ inl ((quiet yes).1 i ∙ none)
          | inr was ↦ inr (to_more (λ h. HasBlocked h i) (λ h. HasBlocked h i)
              (λ event h. ((λ b. b), (λ b. b))) more past was)
        ]);
        finals = rw (given) record {
          were_asked = λ view some within. to_more (λ h. HasAnnouncedFrom h view) (λ h. HasAnnouncedFrom h view)
              (λ event h. ((λ was. was), (λ was. was))) more past (is.finals.were_asked view some within);
          no_others = λ view was. is.finals.no_others view
              (from_more (λ h. HasAnnouncedFrom h view) (λ h. HasAnnouncedFrom h view)
              (λ event h. ((λ was. was), (λ was. was))) more past was);
        };
        votes = λ opened. rw (given) (still (λ s. false) (λ h s. HasSentOnce h s) (λ event h s. ((λ was. was), (λ was. was)))
            f old.given.tally.sent opened recounts (is.votes (recounts opened).0));
        votes_again = λ opened. rw (given) (still (is_earlier old.given.resending.from) (λ h s. HasSent h s)
            (λ event h s. ((λ was. was), (λ was. was)))
            f old.given.tally.resent opened recounts (is.votes_again (recounts opened).0));
        resends = rw (given) (
          resent_from_more more past ∙ is.resends.0,
          turn_in_more more past ∙ is.resends.1,
        );
        begins = λ opened. rw (given) (still (λ s. false) (λ h s. HadVoted earlier h s) (λ event h s. ((λ was. was), (λ was. was)))
            f old.given.tally.begun opened recounts (is.begins (recounts opened).0));
        casts = λ opened. rw (given) (still (λ s. false) (λ h s. HasRecast h s) (λ event h s. ((λ was. was), (λ was. was)))
            f old.given.tally.recast opened recounts (is.casts (recounts opened).0));
        kept = kept;
        certificates = first_more kind_and_round (is_before_view (window_by After).finalized)
            (λ key. HasHanded past key) (λ key. HasHanded After key) new.shelf.certificates new.shelf.handed
            (λ key. to_more (λ h. HasHanded h key) (λ h. HasHanded h key) (λ event h. ((λ was. was), (λ was. was))) more past)
            (λ key. from_more (λ h. HasHanded h key) (λ h. HasHanded h key) (λ event h. ((λ was. was), (λ was. was))) more past)
            handed;
        asks = rw (given) record {
          were_asked = λ view some within. to_more (λ h. HasAskedFrom h view) (λ h. HasAskedFrom h view)
              (λ event h. ((λ was. was), (λ was. was))) more past (is.asks.were_asked view some within);
          no_others = λ view was. is.asks.no_others view
              (from_more (λ h. HasAskedFrom h view) (λ h. HasAskedFrom h view)
              (λ event h. ((λ was. was), (λ was. was))) more past was);
        };
        verifies = rw (given) (verifies_more more past old.given.verifying is.verifies);
        forwards = rw (given) (to_forward_more more past ∙ is.forwards);
        intends = rw (given) (intent_more more past old.given.intent is.intends);
        decides = rw (given) (λ view from before.
            decided_more earlier more past (numbered x.epoch view) (is.decides view from before));
        hears = rw (given) hears;
      }
    where
      -- of a history with more
      still :
          (is_exempt : Subject D → Bool) (Was : ValidatorHistory D K G C → Subject D → Type 0)
          → ((event : VoterEvent D K G C) (h : ValidatorHistory D K G C) (s : Subject D)
          → (Was h s → Was (did event ∷ h) s) × (Was (did event ∷ h) s → Was h s))
          → (g : ℕ → ℕ) (count : ℕ) → new.voter.journal.is_open ≡ true → Recounts old new g
          → AreFirstVotesBut old is_exempt (λ s. Was past s) count
          → AreFirstVotesBut new is_exempt (λ s. Was After s) (g count)
      still is_exempt Was same g count opened recounts are =
          first_more subject_of (λ s. is_exempt s || is_over_for new.voter.journal.contents.floor s)
          (λ s. Was past s) (λ s. Was After s) new.voter.journal.contents.votes (g count)
          (λ s. to_more (λ h. Was h s) (λ h. Was h s) (λ event h. same event h s) more past)
          (λ s. from_more (λ h. Was h s) (λ h. Was h s) (λ event h. same event h s) more past)
          ((recounts opened).1 is_exempt (λ s. Was past s) count are)

-- Votes that were sent, as a journal has them that writes nothing, or one more vote, or raises its floor.
module _ {G D L : Type 0} (is_exempt : Subject D → Bool) (WasSent : Subject D → Type 0)
    (old new : JournalView G D L) (sent : ℕ) where
  -- whether it doesn't matter that it was, with this floor
  abbrev is_out : Round → Subject D → Bool
  is_out floor s = is_exempt s || is_over_for floor s

  abbrev OldSent : Type 0
  OldSent = AreFirst subject_of (is_out old.contents.floor) WasSent old.contents.votes sent

  pub sent_still :
      new.contents ≡ old.contents → OldSent
      → AreFirst subject_of (is_out new.contents.floor) WasSent new.contents.votes sent
  sent_still contents are =
      subst (λ it. AreFirst subject_of (is_out it.floor) WasSent it.votes sent) (sym contents) are

  pub sent_gained :
      (vote : Vote G D) → MayGain vote old new → new.is_open ≡ true → (old.is_open ≡ true → OldSent)
      → AreFirst subject_of (is_out new.contents.floor) WasSent new.contents.votes sent
  sent_gained vote gains opened are = of_cases (gains opened).1.1 (are (gains opened).0)
    where
      of_cases :
          (new.contents.votes ≡ old.contents.votes)
          ⊎ (new.contents.votes ≡ old.contents.votes ++ vote ∷ [])
          → OldSent
          → AreFirst subject_of (is_out new.contents.floor) WasSent new.contents.votes sent
      of_cases (inl same) has =
          subst (λ vs. AreFirst subject_of (is_out new.contents.floor) WasSent vs sent) (sym same)
          (subst (λ f. AreFirst subject_of (is_out f) WasSent old.contents.votes sent)
          (sym (gains opened).1.0) has)
      of_cases (inr one) has =
          subst (λ vs. AreFirst subject_of (is_out new.contents.floor) WasSent vs sent) (sym one)
          (subst (λ f. AreFirst subject_of (is_out f) WasSent (old.contents.votes ++ vote ∷ []) sent)
          (sym (gains opened).1.0)
          (put_behind subject_of (is_out old.contents.floor) WasSent old.contents.votes sent has (vote ∷ [])))

  pub sent_raised :
      (floor : Round) → IsRaised floor old new → OldSent
      → AreFirst subject_of (is_out new.contents.floor) WasSent new.contents.votes
      (count_by (λ vote. not (is_over floor vote)) (take sent old.contents.votes))
  sent_raised floor raised are =
      subst (λ vs. AreFirst subject_of (is_out new.contents.floor) WasSent vs left) (sym raised.votes)
      (subst (λ f. AreFirst subject_of (is_out f) WasSent
      (filter (λ vote. not (is_over floor vote)) old.contents.votes) left) (sym raised.floor_is)
      (leave subject_of (is_out old.contents.floor) WasSent old.contents.votes sent are
      (is_out floor) (λ vote. not (is_over floor vote))
      (λ s above. or_both (is_exempt s) (is_over_for old.contents.floor s) (parts floor s above).0
      (was_above s (parts floor s above).1 (is_below old.contents.floor (round_in s)) refl))
      (λ vote above. ap not (parts floor (subject_of vote) above).1)))
    where
      left : ℕ
      left = count_by (λ vote. not (is_over floor vote)) (take sent old.contents.votes)

      parts : (f : Round) (s : Subject D) → is_out f s ≡ false
          → (is_exempt s ≡ false) × (is_over_for f s ≡ false)
      parts f s above = or_false (is_exempt s) (is_over_for f s) above

      wrong : true ≡ false → ⊥
      wrong e = absurd cc

      was_above : (s : Subject D) → is_below floor (round_in s) ≡ false → (b : Bool)
          → is_below old.contents.floor (round_in s) ≡ b
          → is_below old.contents.floor (round_in s) ≡ false
      was_above s above false e = e
      was_above s above true e =
          absurd (wrong (sym (still_over old.contents.floor floor (round_in s) raised.up e) ∙ above))

pub never_calm : false ≡ true → ⊥
never_calm wrong = absurd cc

pub or_none : {X : Type 0} (o : Option X) → option_or o None ≡ o
or_none None = refl
or_none (Some it) = refl

-- by an event for which nobody is blocked
pub calms_by :
    {D K G C : Type 0} (x : NodeConfig D K G C) (event : NodeEvent D K G C)
    (past : ValidatorHistory D K G C) (was is : Bool)
    → (is ≡ true → (was ≡ true) × ((i : ℕ) → cause_by x event i ≡ None))
    → Calms x past (did (called event) ∷ past) was is
calms_by x event past was is nobody calm = (
  (nobody calm).0,
  λ i. ap (λ o. option_or (cause_in x (calls_in past) i) o) ((nobody calm).1 i)
      ∙ or_none (cause_in x (calls_in past) i),
)

-- a call of the voter's node that writes nothing, or leaves all as it was
module _ {S D K G C L : Type 0} (x : NodeConfig D K G C) (old new : ValidatorView S G D L C)
    (contents : new.voter.journal.contents ≡ old.voter.journal.contents)
    (is_open : new.voter.journal.is_open ≡ old.voter.journal.is_open)
    (calm : Bool) (presence : List ℕ)
    (given : new.given ≡ record old.given { calm = calm; presence = presence }) where
  pub recounts_still : Recounts old new (λ n. n)
  recounts_still still = (
    sym is_open ∙ still,
    λ is_exempt Was count are. sent_still is_exempt Was old.voter.journal new.voter.journal count contents are,
  )

  module _ (shelf : new.shelf.certificates ≡ old.shelf.certificates)
      (handed : new.shelf.handed ≡ old.shelf.handed) where
    goes :
        (more : VoterHistory D K G C) (past : ValidatorHistory D K G C) (earlier : Conduct D)
        → (window_by (only_did more ++ past)).finalized ≡ (window_by past).finalized
        → ((c : Certificate C D) → HasHad (only_did more ++ past) c → HasHad past c)
        → Calms x past (only_did more ++ past) old.given.calm calm
        → AreSilent x (only_did more ++ past) presence
        → IsRunning x past earlier old
        → IsVoting x (more ++ voter_history past) earlier new.voter
        → IsRunning x (only_did more ++ past) earlier new
    goes more past earlier window had quiet hears is voting =
        goes_on x old new more past earlier (λ n. n) is voting recounts_still quiet presence hears given
        (subst (AreKept x (only_did more ++ past)) (sym shelf)
        (kept_still x past (only_did more ++ past) window old.shelf.certificates had (had_more more past) is.kept))
        (rw (shelf, handed, window) is.certificates)

    pub runs :
        (event : NodeEvent D K G C)
        → ((w : Window) → (window_after w event).finalized ≡ w.finalized)
        → ((c : Certificate C D) → held_by (called event) ≡ Some c → ⊥)
        → (calm ≡ true → (old.given.calm ≡ true) × ((i : ℕ) → cause_by x event i ≡ None))
        → ForEachRun x old (λ past earlier. AreSilent x (did (called event) ∷ past) presence)
        → VoterMeets x old.voter new.voter event → RunMeets x old new (did (called event))
    runs event quiet none nobody hears meets past earlier is =
        goes (called event ∷ []) past earlier (quiet (window_by past))
        (λ c had. elim had [
          | inl held ↦ absurd (none c held)
          | inr before ↦ before
        ])
        (calms_by x event past old.given.calm calm nobody)
        (hears past earlier is)
        is (meets (voter_history past) earlier is.voting)

    pub run_stays :
        calm ≡ old.given.calm → presence ≡ old.given.presence
        → VoterStays x old.voter new.voter → RunStays x old new
    run_stays same heard stays past earlier is =
        goes [] past earlier refl (λ c had. had) (λ yes. (sym same ∙ yes, λ i. refl))
        (rw (heard) is.hears) is
        (stays (voter_history past) earlier is.voting)

-- a call of the voter's node by which a certificate comes, which is kept then
module _ {S D K G C L : Type 0} (x : NodeConfig D K G C) (old mid new : ValidatorView S G D L C)
    (contents : mid.voter.journal.contents ≡ old.voter.journal.contents)
    (is_open : mid.voter.journal.is_open ≡ old.voter.journal.is_open)
    (calm : Bool) (presence : List ℕ)
    (given : mid.given ≡ record old.given { calm = calm; presence = presence })
    (shelf : mid.shelf ≡ old.shelf)
    (voter : new.voter ≡ mid.voter) (given_still : new.given ≡ mid.given)
    (handed : new.shelf.handed ≡ mid.shelf.handed) where
  abbrev Kept : ValidatorView S G D L C
  Kept = record { voter = mid.voter; given = mid.given; shelf = new.shelf }

  pub runs_with :
      (event : NodeEvent D K G C) (c : Certificate C D)
      → ((w : Window) → (window_after w event).finalized ≡ w.finalized)
      → held_by (called event) ≡ Some c
      → (calm ≡ true → (old.given.calm ≡ true) × ((i : ℕ) → cause_by x event i ≡ None))
      → ((past : ValidatorHistory D K G C) (earlier : Conduct D)
      → IsVoting x (called event ∷ voter_history past) earlier mid.voter
      → certifies_itself x.meaning c ≡ true)
      → x.epoch ≡ mid.voter.node.epoch
      → Shelves mid.voter.node.epoch mid.voter.node.window.finalized c mid.shelf.certificates
      new.shelf.certificates
      → ForEachRun x old (λ past earlier. AreSilent x (did (called event) ∷ past) presence)
      → VoterMeets x old.voter mid.voter event → RunMeets x old new (did (called event))
  runs_with event c quiet held nobody certifies epoch shelves hears meets past earlier is =
      subst (λ v. IsRunning x (did (called event) ∷ past) earlier (record { voter = v; given = new.given; shelf = new.shelf }))
      (sym voter)
      (subst (λ it. IsRunning x (did (called event) ∷ past) earlier (record { voter = mid.voter; given = it; shelf = new.shelf }))
      (sym given_still)
      (goes_on x old Kept (called event ∷ []) past earlier (λ n. n) is voting
      (recounts_still x old Kept contents is_open calm presence given)
      (calms_by x event past old.given.calm calm nobody)
      presence (hears past earlier is) given
      (kept_with x past (did (called event) ∷ past) (quiet (window_by past)) c (certifies past earlier voting)
      old.shelf.certificates new.shelf.certificates had (inl held) (λ d was. inr was) is.kept shelved)
      (rw (handed, shelf, quiet (window_by past)) (first_with x.epoch (window_by past).finalized c
      old.shelf.certificates new.shelf.certificates (is_before_view (window_by past).finalized)
      (λ key. HasHanded past key) old.shelf.handed shelved is.certificates))))
    where
      voting : IsVoting x (called event ∷ voter_history past) earlier mid.voter
      voting = meets (voter_history past) earlier is.voting

      first_is : mid.voter.node.window.finalized ≡ (window_by past).finalized
      first_is = ap (λ (w : Window). w.finalized) voting.represents.window_is ∙ quiet (window_by past)

      shelved : Shelves x.epoch
          (window_by past).finalized c old.shelf.certificates new.shelf.certificates
      shelved =
          subst (λ e. Shelves e (window_by past).finalized c old.shelf.certificates new.shelf.certificates)
          (sym epoch)
          (subst (λ n. Shelves mid.voter.node.epoch n c old.shelf.certificates new.shelf.certificates) first_is
          (subst (λ cs. Shelves mid.voter.node.epoch mid.voter.node.window.finalized c cs new.shelf.certificates)
          (ap (λ s. s.certificates) shelf) shelves))

      had : (d : Certificate C D) → HasHad (did (called event) ∷ past) d → (c ≡ d) ⊎ HasHad past d
      had d (inl other) = inl (ap (λ o. unwrap_or o c) (sym held ∙ other))
      had d (inr before) = inr before

-- there is more room for certificates, and somebody may be to be blocked from then on
module _ {S D K G C L : Type 0} (x : NodeConfig D K G C) (old roomy : ValidatorView S G D L C)
    (voter : roomy.voter ≡ old.voter) (given : roomy.given ≡ record old.given { calm = false })
    (certificates : roomy.shelf.certificates ≡ old.shelf.certificates)
    (handed : roomy.shelf.handed ≡ old.shelf.handed) where
  pub with_room :
      (past : ValidatorHistory D K G C) (earlier : Conduct D) → IsRunning x past earlier old
      → IsRunning x past earlier roomy
  with_room past earlier is =
      record {
        voting = rw (voter) is.voting;
        in_turn = is.in_turn;
        blocks = rw (given) is.blocks;
        calms = rw (given) (λ wrong. absurd (never_calm wrong));
        finals = rw (given) is.finals;
        votes = rw (voter, given) is.votes;
        votes_again = rw (voter, given) is.votes_again;
        resends = rw (given) is.resends;
        begins = rw (voter, given) is.begins;
        casts = rw (voter, given) is.casts;
        kept = rw (certificates) is.kept;
        certificates = rw (certificates, handed) is.certificates;
        asks = rw (given) is.asks;
        verifies = rw (given) is.verifies;
        forwards = rw (given) is.forwards;
        intends = rw (given) is.intends;
        decides = rw (given) is.decides;
        hears = rw (given) is.hears;
      }

module _ {S D K G C L : Type 0} (config : NodeView S G D → NodeConfig D K G C)
    (old roomy new : ValidatorView S G D L C)
    (voter : roomy.voter ≡ old.voter) (given : roomy.given ≡ record old.given { calm = false })
    (certificates : roomy.shelf.certificates ≡ old.shelf.certificates)
    (handed : roomy.shelf.handed ≡ old.shelf.handed) where
  began_with :
      (past : ValidatorHistory D K G C) (earlier : Conduct D)
      → IsRunning (config old.voter.node) past earlier old
      → IsRunning (config roomy.voter.node) past earlier roomy
  began_with past earlier is =
      subst (λ v. IsRunning (config v.node) past earlier roomy) (sym voter)
      (with_room (config old.voter.node) old roomy voter given certificates handed past earlier is)

  pub runs_roomy :
      (event : ValidatorEvent D K G C) → RunMeets (config roomy.voter.node) roomy new event
      → RunMeets (config old.voter.node) old new event
  runs_roomy event meets past earlier is =
      subst (λ v. IsRunning (config v.node) (event ∷ past) earlier new) voter
      (meets past earlier (began_with past earlier is))

  pub stays_roomy : RunStays (config roomy.voter.node) roomy new
      → RunStays (config old.voter.node) old new
  stays_roomy stays past earlier is =
      subst (λ v. IsRunning (config v.node) past earlier new) voter
      (stays past earlier (began_with past earlier is))

  pub constructs_roomy :
      HasConstructed (config roomy.voter.node) roomy new
      → HasConstructed (config old.voter.node) old new
  constructs_roomy made = (
    made.0,
    λ past earlier is. subst (λ v. IsRunning (config v.node)
        (answered ∷ did (called (constructed made.0.view.0 made.0.batch)) ∷ past) earlier new) voter
        (made.1 past earlier (began_with past earlier is)),
  )

-- A certificate that certifies is learned and kept, though no call of the node took it in.
module _ {S D K G C L : Type 0} (x : NodeConfig D K G C) (old mid new : ValidatorView S G D L C)
    (c : Certificate C D) (certifies : certifies_itself x.meaning c ≡ true)
    (epoch : x.epoch ≡ old.voter.node.epoch)
    (learned : (past : VoterHistory D K G C) (earlier : Conduct D)
    → IsVoting x past earlier old.voter → IsVoting x (verified c ∷ past) earlier mid.voter)
    (node : mid.voter.node ≡ old.voter.node)
    (contents : mid.voter.journal.contents ≡ old.voter.journal.contents)
    (is_open : mid.voter.journal.is_open ≡ old.voter.journal.is_open)
    (given : mid.given ≡ old.given) (shelf : mid.shelf ≡ old.shelf)
    (voter : new.voter ≡ mid.voter) (given_still : new.given ≡ mid.given)
    (handed : new.shelf.handed ≡ mid.shelf.handed)
    (shelves : Shelves mid.voter.node.epoch mid.voter.node.window.finalized c mid.shelf.certificates
    new.shelf.certificates) where
  module _ (past : ValidatorHistory D K G C) (earlier : Conduct D)
      (is : IsRunning x past earlier old) where
    first_here : mid.voter.node.window.finalized ≡ (window_by past).finalized
    first_here =
        ap (λ n. n.window.finalized) node
        ∙ ap (λ (w : Window). w.finalized) is.voting.represents.window_is

    shelved_here : Shelves x.epoch (window_by past).finalized c old.shelf.certificates
        new.shelf.certificates
    shelved_here =
        subst (λ e. Shelves e (window_by past).finalized c old.shelf.certificates new.shelf.certificates)
        (ap (λ n. n.epoch) node ∙ sym epoch)
        (subst (λ n. Shelves mid.voter.node.epoch n c old.shelf.certificates new.shelf.certificates) first_here
        (subst (λ cs. Shelves mid.voter.node.epoch mid.voter.node.window.finalized c cs new.shelf.certificates)
        (ap (λ s. s.certificates) shelf) shelves))

    abbrev Verified : ValidatorHistory D K G C
    Verified = did (verified c) ∷ past

    abbrev Calm : ValidatorView S G D L C
    Calm = record { voter = mid.voter; given = old.given; shelf = new.shelf }

    learned_here : IsRunning x Verified earlier Calm
    learned_here =
        goes_on x old Calm (verified c ∷ []) past earlier (λ n. n) is
        (learned (voter_history past) earlier is.voting)
        (recounts_still x old Calm contents is_open old.given.calm old.given.presence refl)
        {calm = old.given.calm} (λ yes. (yes, λ i. refl)) old.given.presence is.hears refl
        (kept_with x past Verified refl c certifies old.shelf.certificates new.shelf.certificates
        had (inl refl) (λ d was. inr was) is.kept shelved_here)
        (rw (handed, shelf) (first_with x.epoch (window_by past).finalized c
        old.shelf.certificates new.shelf.certificates (is_before_view (window_by past).finalized)
        (λ key. HasHanded past key) old.shelf.handed shelved_here is.certificates))
      where
        had : (d : Certificate C D) → HasHad Verified d → (c ≡ d) ⊎ HasHad past d
        had d (inl other) = inl (ap (λ o. unwrap_or o c) other)
        had d (inr before) = inr before

    kept_here : IsRunning x (took c ∷ Verified) earlier Calm
    kept_here =
        record {
          voting = learned_here.voting;
          in_turn = (inl refl, learned_here.in_turn);
          blocks = learned_here.blocks;
          calms = learned_here.calms;
          finals = learned_here.finals;
          votes = learned_here.votes;
          votes_again = learned_here.votes_again;
          resends = learned_here.resends;
          begins = learned_here.begins;
          casts = learned_here.casts;
          kept = kept_still x Verified (took c ∷ Verified) refl new.shelf.certificates had
              (λ d was. inr was) learned_here.kept;
          certificates = learned_here.certificates;
          asks = learned_here.asks;
          verifies = learned_here.verifies;
          forwards = learned_here.forwards;
          intends = still_intent Verified (took c ∷ Verified) old.given.intent refl refl refl refl refl refl
              learned_here.intends;
          decides = learned_here.decides;
          hears = learned_here.hears;
        }
      where
        had : (d : Certificate C D) → HasHad (took c ∷ Verified) d → HasHad Verified d
        had d (inl is_it) = inl (ap Some is_it)
        had d (inr before) = before

  pub takes_in : RunTakes x c old new
  takes_in past earlier is =
      subst (λ v. IsRunning x (took c ∷ did (verified c) ∷ past) earlier
      (record { voter = v; given = new.given; shelf = new.shelf })) (sym voter)
      (subst (λ it. IsRunning x (took c ∷ did (verified c) ∷ past) earlier
      (record { voter = mid.voter; given = it; shelf = new.shelf }))
      (sym (given_still ∙ given)) (kept_here past earlier is))

-- the same where room was made before
pub takes_roomy :
    {S D K G C L : Type 0} (config : NodeView S G D → NodeConfig D K G C)
    (old roomy new : ValidatorView S G D L C) (c : Certificate C D)
    → roomy.voter ≡ old.voter → roomy.given ≡ record old.given { calm = false }
    → roomy.shelf.certificates ≡ old.shelf.certificates
    → roomy.shelf.handed ≡ old.shelf.handed
    → RunTakes (config roomy.voter.node) c roomy new → RunTakes (config old.voter.node) c old new
takes_roomy config old roomy new c voter given certificates handed takes past earlier is =
    subst (λ v. IsRunning (config v.node) (took c ∷ did (verified c) ∷ past) earlier new) voter
    (takes past earlier (began_with config old roomy new voter given certificates handed past earlier is))
