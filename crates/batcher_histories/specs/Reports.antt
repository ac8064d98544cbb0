-- What a round reports: votes that are added, and as evidence two votes that nobody honest signs.
use Rattle.std.specs.Prelude.{◌≡◌, ⊤, Bool, true, false, not, cond, ◌&&◌, ◌||◌, List, ◌∷◌, Option}
use Rattle.std.specs.Prelude.{Some, None, is_some, IfSome, option_map, option_and_then, filter}
use Rattle.std.specs.Prelude.{find}
use Rattle.std.specs.List.{list_any}
use Rattle.batcher_types.specs.declared.messages.Vote.{Vote}
use Rattle.batcher_types.specs.declared.messages.Vote.TheVariants.{Notarize as NotarizeVote}
use Rattle.batcher_types.specs.declared.messages.Vote.TheVariants.{Nullify as NullifyVote}
use Rattle.batcher_types.specs.declared.messages.Vote.TheVariants.{Finalize as FinalizeVote}
use Rattle.batcher_types.specs.declared.messages.Kind.{Kind}
use Rattle.batcher_types.specs.declared.messages.Subject.{Subject}
use Rattle.batcher_types.specs.declared.messages.Subject.TheVariants.{Notarize as NotarizeSubject}
use Rattle.batcher_types.specs.declared.messages.Subject.TheVariants.{Nullify as NullifySubject}
use Rattle.batcher_types.specs.declared.messages.Subject.TheVariants.{Finalize as FinalizeSubject}
use Rattle.batcher_types.specs.declared.messages.Activity.{Activity}
use Rattle.batcher_types.specs.declared.messages.Activity.TheVariants.{Notarize as ReportNotarize}
use Rattle.batcher_types.specs.declared.messages.Activity.TheVariants.{Nullify as ReportNullify}
use Rattle.batcher_types.specs.declared.messages.Activity.TheVariants.{Finalize as ReportFinalize}
use Rattle.batcher_types.specs.declared.messages.Activity.TheVariants.{ConflictingNotarize as ReportConflictingNotarize}
use Rattle.batcher_types.specs.declared.messages.Activity.TheVariants.{ConflictingFinalize as ReportConflictingFinalize}
use Rattle.batcher_types.specs.declared.messages.Activity.TheVariants.{NullifyFinalize as ReportNullifyFinalize}
use Rattle.batcher_histories.specs.declared.answers.Admission.{Admission}
use Rattle.batcher_votes.specs.declared.votes.Mode.TheVariants.{Retaining}
use Rattle.batcher_histories.specs.declared.calls.Call.TheVariants.{Network as NetworkCall}
use Rattle.batcher_histories.specs.declared.calls.Call.TheVariants.{Own as OwnCall}
use Rattle.batcher_histories.specs.declared.answers.Answer.TheVariants.{Network as NetworkAnswer}
use Rattle.batcher_histories.specs.declared.answers.Answer.TheVariants.{Own as OwnAnswer}
use Rattle.batcher_histories.specs.Config.{Config}
use Rattle.batcher_types.specs.Votes.{kind_of, signer_of, subject_of, round_in, is_vote_of, opposes}
use Rattle.batcher_types.specs.Votes.{same_round, same_proposal}
use Rattle.batcher_histories.specs.Steps.{is_added}
use Rattle.batcher_histories.specs.History.{Event, History, names_sender}
use Rattle.batcher_histories.specs.FirstVotes.{first_votes, first_vote}
use Rattle.batcher_histories.specs.Selection.{is_released}
use Rattle.batcher_histories.specs.Promises.{AtEachVote, AtEachEvent, votes_cast}
use Rattle.batcher_histories.specs.AnswerFacts.{carry_different}

-- Whether nobody honest signs both: different proposals of one round to notarize, or to finalize,
-- or a nullify and a finalize of one round.
abbrev pub subjects_contradict : {D : Type 0} → (D → D → Bool) → Subject D → Subject D → Bool
subjects_contradict same (NotarizeSubject p) (NotarizeSubject q) =
    same_round p.round q.round && not (same_proposal same p q)
subjects_contradict same (FinalizeSubject p) (FinalizeSubject q) =
    same_round p.round q.round && not (same_proposal same p q)
subjects_contradict same (NullifySubject r) (FinalizeSubject q) = same_round r q.round
subjects_contradict same (FinalizeSubject p) (NullifySubject r) = same_round p.round r
subjects_contradict same a b = false

module _ {G D : Type 0} where
  -- the vote of a report of one vote
  abbrev pub vote_in : Activity G D → Option (Vote G D)
  vote_in (ReportNotarize a) = Some (NotarizeVote a)
  vote_in (ReportNullify a) = Some (NullifyVote a)
  vote_in (ReportFinalize a) = Some (FinalizeVote a)
  vote_in report = None

  -- the two votes of a report that is evidence
  abbrev pub evidence_in : Activity G D → Option (Vote G D × Vote G D)
  evidence_in (ReportConflictingNotarize a b) = Some (NotarizeVote a, NotarizeVote b)
  evidence_in (ReportConflictingFinalize a b) = Some (FinalizeVote a, FinalizeVote b)
  evidence_in (ReportNullifyFinalize a b) = Some (NullifyVote a, FinalizeVote b)
  evidence_in report = None

  -- two votes as evidence holds them: the earlier one first, but a nullify before a finalize
  abbrev pub ordered_pair : Vote G D → Vote G D → Vote G D × Vote G D
  ordered_pair (FinalizeVote earlier) (NullifyVote vote) = (NullifyVote vote, FinalizeVote earlier)
  ordered_pair earlier vote = (earlier, vote)

-- whether a value is in a list, by tests
abbrev pub IsAmong : {X : Type 0} → X → List X → Type 0
IsAmong {X} v vs = (test : X → Bool) → test v ≡ true → list_any test vs ≡ true

module _ {D K G C : Type 0} where
  -- A vote is reported exactly if it is added, be it from the network or an own one.
  abbrev pub ReportsAdded : History D K G C → Event D K G C → Type 0
  ReportsAdded past (NetworkCall sender vote, NetworkAnswer admission) =
      option_and_then vote_in admission.report ≡ cond admission.added (Some vote) None
  ReportsAdded past (OwnCall vote, OwnAnswer outcome report) =
      option_and_then vote_in report ≡ cond (is_added outcome) (Some vote) None
  ReportsAdded past event = ⊤

module _ {D K G C : Type 0} (x : Config D K G C) where
  -- whether two votes of one signer are a nullify and a finalize, or of one kind and for different
  -- proposals
  abbrev pub are_contrary : Vote G D → Vote G D → Bool
  are_contrary a b =
      opposes a b
      || (is_vote_of (kind_of b) (signer_of b) a && carry_different x.same_digest a b)

  -- the first votes that are kept in full
  abbrev pub kept_votes : History D K G C → List (Vote G D)
  kept_votes past = filter (λ v. not (is_released x past (kind_of v))) (first_votes x past)

  -- the one of them that is contrary to a vote
  abbrev pub contrary_vote : History D K G C → Vote G D → Option (Vote G D)
  contrary_vote past vote = find (λ v. are_contrary v vote) (kept_votes past)

  -- that one and the vote, in order
  abbrev pub contrary_pair : History D K G C → Vote G D → Option (Vote G D × Vote G D)
  contrary_pair past vote = option_map (λ v. ordered_pair v vote) (contrary_vote past vote)

  -- Evidence is exact: a network vote that names its sender brings its contrary pair, if there is
  -- one, and any other vote brings none.
  abbrev pub ReportsEvidence : History D K G C → Event D K G C → Type 0
  ReportsEvidence past (NetworkCall sender vote, NetworkAnswer admission) =
      option_and_then evidence_in admission.report
      ≡ cond (names_sender x sender vote) (contrary_pair past vote) None
  ReportsEvidence past (OwnCall vote, OwnAnswer outcome report) =
      option_and_then evidence_in report ≡ None
  ReportsEvidence past event = ⊤

  -- So a retaining round loses none: each first vote that is contrary to a vote comes with it.
  abbrev pub ReportsEachContrary : History D K G C → K → Vote G D → Admission G D → Type 0
  ReportsEachContrary past sender vote admission =
      x.mode ≡ Retaining → names_sender x sender vote ≡ true → (kind : Kind) (v : Vote G D)
      → first_vote x past kind (signer_of vote) ≡ Some v → are_contrary v vote ≡ true
      → option_and_then evidence_in admission.report ≡ Some (ordered_pair v vote)

  -- Two of these votes, of one signer and of this round, contradict each other.
  pub record AreContrary (votes : List (Vote G D)) (a b : Vote G D) : Type 0 where
    pub one_signer : signer_of a ≡ signer_of b
    pub contradict : subjects_contradict x.same_digest (subject_of a) (subject_of b) ≡ true
    pub of_round : (round_in (subject_of a) ≡ x.number) × (round_in (subject_of b) ≡ x.number)
    pub both_cast : IsAmong a votes × IsAmong b votes

  -- Evidence blocks the sender, who sent one of the two votes in its own name and cast the other,
  -- now or before. Nothing is said of their attestations: the votes weren't verified.
  abbrev pub ReportsContrary : History D K G C → K → Vote G D → Admission G D → Type 0
  ReportsContrary past sender vote admission =
      IfSome (option_and_then evidence_in admission.report) (λ pair.
      AreContrary (votes_cast x ((NetworkCall sender vote, NetworkAnswer admission) ∷ past))
      pair.0 pair.1
      × ((is_some admission.block ≡ true)
      × ((names_sender x sender vote ≡ true) × (signer_of pair.0 ≡ signer_of vote))))

  -- What a history reports: each vote that is added, all evidence that is kept, and nothing else.
  pub record ReportsTruly (past : History D K G C) : Type 0 where
    pub added_are_reported : AtEachEvent ReportsAdded past
    pub evidence_is_exact : AtEachEvent ReportsEvidence past
    pub evidence_is_contrary : AtEachVote ReportsContrary past
    pub contraries_are_reported : AtEachVote ReportsEachContrary past
