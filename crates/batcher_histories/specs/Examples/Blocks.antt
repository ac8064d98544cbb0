-- Small rounds that block and report, and wrong answers that the clauses on both refuse.
use Rattle.std.specs.Prelude.{◌≡◌, ℕ, Bool, true, false, List, All, [], ◌∷◌, Option, Some, None}
use Rattle.std.specs.Prelude.{is_some, option_and_then}
use Rattle.batcher_types.specs.declared.messages.Activity.{Activity}
use Rattle.batcher_types.specs.declared.messages.Activity.TheVariants.{ConflictingNotarize as ReportConflictingNotarize}
use Rattle.batcher_types.specs.declared.messages.Activity.TheVariants.{NullifyFinalize as ReportNullifyFinalize}
use Rattle.batcher_histories.specs.declared.answers.BlockReason.TheVariants.{NotarizeSignerMismatch}
use Rattle.batcher_histories.specs.declared.answers.BlockReason.TheVariants.{ConflictingNotarize}
use Rattle.batcher_histories.specs.declared.answers.BlockReason.TheVariants.{InvalidSignature}
use Rattle.batcher_histories.specs.declared.answers.BlockReason.TheVariants.{NullifyAfterFinalize}
use Rattle.batcher_histories.specs.declared.answers.BlockReason.TheVariants.{FinalizeAfterNullify}
use Rattle.batcher_votes.specs.declared.votes.Outcome.TheVariants.{Duplicate}
use Rattle.batcher_votes.specs.declared.votes.Mode.TheVariants.{Retaining, Releasing, Skipped}
use Rattle.batcher_histories.specs.declared.answers.Answer.TheVariants.{Network as NetworkAnswer}
use Rattle.batcher_histories.specs.declared.answers.Answer.TheVariants.{Own as OwnAnswer}
use Rattle.batcher_histories.specs.declared.answers.Answer.TheVariants.{Certificate as CertificateAnswer}
use Rattle.batcher_types.specs.Votes.{signer_of}
use Rattle.batcher_histories.specs.Admissions.{addition, refusal, report_of}
use Rattle.batcher_histories.specs.Runs.{blocked_senders}
use Rattle.batcher_histories.specs.History.{history}
use Rattle.batcher_histories.specs.FirstVotes.{first_votes}
use Rattle.batcher_histories.specs.Answers.{network_answer}
use Rattle.batcher_histories.specs.Promises.{AtEachVote, AtEachEvent, votes_cast}
use Rattle.batcher_histories.specs.Blocks.{gives_cause, IsBlockedForItself, IsBlockedInEveryMode}
use Rattle.batcher_histories.specs.Blocks.{IsBlockedExactlyUntilRelease}
use Rattle.batcher_histories.specs.Blocks.{IsBlockedExactlyIfRetaining, GaveCause}
use Rattle.batcher_histories.specs.Reports.{evidence_in, ReportsAdded, ReportsEvidence}
use Rattle.batcher_histories.specs.Reports.{ReportsContrary, ReportsEachContrary}
use Rattle.batcher_histories.specs.Examples.Answers.{TinyConfig, TinyVote, TinyCall, four}
use Rattle.batcher_histories.specs.Examples.Answers.{the_round, p, signed, notarize, bad_notarize}
use Rattle.batcher_histories.specs.Examples.Answers.{nullify, finalize, notarization, nullification}
use Rattle.batcher_histories.specs.Examples.Answers.{finalization, net, own, cert, added, refused}
use Rattle.batcher_histories.specs.Examples.Answers.{blocked, blocked_and_reported, own_added}
use Rattle.batcher_histories.specs.Examples.Answers.{answers, played, with_cause}

-- reports of two votes of participant 1
abbrev pub two_notarizes : ℕ → ℕ → Activity ℕ ℕ
two_notarizes v w =
    ReportConflictingNotarize (record { proposal = p v; attestation = signed 1 0 })
    (record { proposal = p w; attestation = signed 1 0 })

abbrev pub nullify_and_finalize : ℕ → Activity ℕ ℕ
nullify_and_finalize v =
    ReportNullifyFinalize (record { round = the_round; attestation = signed 1 0 })
    (record { proposal = p v; attestation = signed 1 0 })

-- a clause that some answers don't keep
abbrev pub Fails : Type 0 → Type 0
Fails clause = clause → ⊥

module _ (x : TinyConfig) where
  -- of a vote that its signer sends after calls: whether it is blocked, and whether it gives cause
  -- beside the first votes, and beside all that were cast
  abbrev pub block_and_causes : List TinyCall → TinyVote → Bool × Bool × Bool
  block_and_causes calls vote =
      let past = played x calls in
      let sender = signer_of vote in (
        is_some (network_answer x past sender vote).block,
        gives_cause x (first_votes x past) sender vote,
        gives_cause x (votes_cast x past) sender vote,
      )

  -- the evidence that comes with it
  abbrev pub evidence_with : List TinyCall → TinyVote → Option (TinyVote × TinyVote)
  evidence_with calls vote =
      option_and_then evidence_in (network_answer x (played x calls) (signer_of vote) vote).report

pub record BlockExamples : Type 0 where
  -- A nullify against a finalize is blocked in a skipped round too, and after the release.
  pub opposite_in_a_skipped_round :
      answers (four Skipped) (net 1 (finalize 1 1) ∷ net 1 (nullify 1) ∷ [])
      ≡ added (finalize 1 1) ∷ blocked NullifyAfterFinalize ∷ []
  pub opposite_after_the_release :
      answers (four Releasing)
      (net 1 (finalize 1 1) ∷ cert (finalization 1) ∷ net 1 (nullify 1) ∷ [])
      ≡ added (finalize 1 1) ∷ CertificateAnswer false ∷ blocked NullifyAfterFinalize ∷ []
  -- Until its kind is released a contradiction is blocked, after that only one that facts can show,
  -- though it gives cause all the same; in a retaining round each is.
  pub before_the_release :
      block_and_causes (four Releasing) (net 1 (notarize 1 1) ∷ []) (notarize 1 3)
      ≡ (true, true, true)
  pub untold_after_the_release :
      answers (four Releasing)
      (net 1 (notarize 1 1) ∷ cert (notarization 2) ∷ net 1 (notarize 1 3) ∷ [])
      ≡ added (notarize 1 1) ∷ CertificateAnswer true ∷ refused ∷ []
  pub untold_gives_cause :
      block_and_causes (four Releasing)
      (net 1 (notarize 1 1) ∷ cert (notarization 2) ∷ []) (notarize 1 3)
      ≡ (false, true, true)
  pub told_where_votes_are_retained :
      block_and_causes (four Retaining)
      (net 1 (notarize 1 1) ∷ cert (notarization 2) ∷ []) (notarize 1 3)
      ≡ (true, true, true)
  -- A repeat isn't blocked, and one with another signature is, with nothing to report.
  pub repeat :
      block_and_causes (four Retaining) (net 1 (notarize 1 1) ∷ []) (notarize 1 1)
      ≡ (false, false, false)
  pub bad_repeat :
      answers (four Retaining) (net 1 (notarize 1 1) ∷ net 1 (bad_notarize 1 1) ∷ [])
      ≡ added (notarize 1 1) ∷ blocked InvalidSignature ∷ []
  -- Facts may be of a vote that was refused, and a repeat of the first one is blocked for it.
  -- A retaining round doesn't hold it against the repeat.
  pub repeat_after_a_refused_vote :
      block_and_causes (four Skipped)
      (net 1 (notarize 1 1) ∷ cert (notarization 2) ∷ net 1 (notarize 1 2) ∷ []) (notarize 1 1)
      ≡ (true, false, true)
  pub repeat_where_votes_are_retained :
      block_and_causes (four Retaining)
      (net 1 (notarize 1 1) ∷ cert (notarization 2) ∷ net 1 (notarize 1 2) ∷ []) (notarize 1 1)
      ≡ (false, false, true)
  -- Who was blocked for a vote, and so has given cause, isn't blocked for the next one.
  pub forgiven :
      answers (four Retaining) (net 2 (notarize 1 1) ∷ net 2 (notarize 2 1) ∷ [])
      ≡ blocked NotarizeSignerMismatch ∷ added (notarize 2 1) ∷ []
  pub cause_of_the_forgiven :
      with_cause (four Retaining) (net 2 (notarize 1 1) ∷ net 2 (notarize 2 1) ∷ []) ≡ 2 ∷ []
  -- Evidence holds a nullify before a finalize, whichever came first,
  pub finalize_then_nullify :
      answers (four Retaining) (net 1 (finalize 1 1) ∷ net 1 (nullify 1) ∷ [])
      ≡ added (finalize 1 1)
      ∷ blocked_and_reported NullifyAfterFinalize (nullify_and_finalize 1) ∷ []
  pub nullify_then_finalize :
      answers (four Retaining) (net 1 (nullify 1) ∷ net 1 (finalize 1 1) ∷ [])
      ≡ added (nullify 1)
      ∷ blocked_and_reported FinalizeAfterNullify (nullify_and_finalize 1) ∷ []
  -- and else the first vote, be it an own one, before the vote that is contrary to it.
  pub finalizes_in_order :
      evidence_with (four Retaining) (net 1 (finalize 1 2) ∷ net 1 (finalize 1 3) ∷ [])
      (finalize 1 1)
      ≡ Some (finalize 1 2, finalize 1 1)
  pub own_vote_first :
      evidence_with (four Retaining) (own (notarize 1 2) ∷ []) (notarize 1 1)
      ≡ Some (notarize 1 2, notarize 1 1)
  -- A notarize and a finalize are no evidence, nor is what was released; another kind's release
  -- doesn't matter.
  pub notarize_and_finalize :
      evidence_with (four Retaining) (net 1 (notarize 1 1) ∷ []) (finalize 1 2) ≡ None
  pub evidence_released :
      evidence_with (four Releasing) (net 1 (finalize 1 1) ∷ cert (finalization 1) ∷ []) (nullify 1)
      ≡ None
  pub evidence_kept :
      evidence_with (four Releasing) (net 1 (finalize 1 1) ∷ cert nullification ∷ []) (nullify 1)
      ≡ Some (nullify 1, finalize 1 1)
  -- What another sends in the signer's name is no evidence either.
  pub sent_by_another :
      answers (four Retaining) (net 1 (notarize 1 1) ∷ net 2 (notarize 1 2) ∷ [])
      ≡ added (notarize 1 1) ∷ blocked NotarizeSignerMismatch ∷ []
  -- An own vote that is a duplicate isn't reported.
  pub own_duplicate_not_reported :
      answers (four Retaining) (own (nullify 1) ∷ own (nullify 1) ∷ [])
      ≡ own_added (nullify 1) ∷ OwnAnswer (Duplicate true) None ∷ []
  -- WRONG ANSWERS
  -- A vote is blocked for an earlier deed of its sender.
  pub unforgiving :
      Fails (AtEachVote (IsBlockedForItself (four Retaining))
      (history (net 2 (notarize 1 1) ∷ net 2 (notarize 2 1) ∷ [])
      (blocked NotarizeSignerMismatch ∷ blocked ConflictingNotarize ∷ [])))
  -- A nullify against a finalize isn't blocked, or a stranger isn't.
  pub lenient_to_opposites :
      Fails (AtEachVote (IsBlockedInEveryMode (four Skipped))
      (history (net 1 (finalize 1 1) ∷ net 1 (nullify 1) ∷ [])
      (added (finalize 1 1) ∷ refused ∷ [])))
  pub lenient_to_strangers :
      Fails (AtEachVote (IsBlockedInEveryMode (four Skipped))
      (history (net 4 (notarize 1 1) ∷ []) (refused ∷ [])))
  -- Before the release a contradiction isn't blocked, or a repeat is.
  pub lenient_before_the_release :
      Fails (AtEachVote (IsBlockedExactlyUntilRelease (four Releasing))
      (history (net 1 (notarize 1 1) ∷ net 1 (notarize 1 2) ∷ [])
      (added (notarize 1 1) ∷ refused ∷ [])))
  pub strict_before_the_release :
      Fails (AtEachVote (IsBlockedExactlyUntilRelease (four Releasing))
      (history (net 1 (notarize 1 1) ∷ net 1 (notarize 1 1) ∷ [])
      (added (notarize 1 1) ∷ blocked ConflictingNotarize ∷ [])))
  -- In a retaining round a repeat is blocked for a vote that was refused.
  pub strict_where_votes_are_retained :
      Fails (AtEachVote (IsBlockedExactlyIfRetaining (four Retaining))
      (history (net 1 (notarize 1 1) ∷ net 1 (notarize 1 2) ∷ net 1 (notarize 1 1) ∷ [])
      (added (notarize 1 1) ∷ blocked ConflictingNotarize ∷ blocked ConflictingNotarize ∷ [])))
  -- Somebody is blocked for a repeat, and is listed though it gave no cause.
  pub listed_without_cause :
      Fails (All (GaveCause (four Retaining)
      (history (net 1 (notarize 1 1) ∷ net 1 (notarize 1 1) ∷ [])
      (added (notarize 1 1) ∷ blocked ConflictingNotarize ∷ [])))
      (blocked_senders (net 1 (notarize 1 1) ∷ net 1 (notarize 1 1) ∷ [])
      (added (notarize 1 1) ∷ blocked ConflictingNotarize ∷ [])))
  -- A vote is added in silence, or reported though it is refused, or another one is reported.
  -- An own duplicate is reported.
  pub added_in_silence :
      Fails (AtEachEvent ReportsAdded
      (history (net 1 (notarize 1 1) ∷ [])
      (NetworkAnswer (record (addition (notarize 1 1)) { report = None }) ∷ [])))
  pub reported_though_refused :
      Fails (AtEachEvent ReportsAdded
      (history (net 1 (notarize 1 1) ∷ [])
      (NetworkAnswer (record refusal { report = Some (report_of (notarize 1 1)) }) ∷ [])))
  pub another_reported :
      Fails (AtEachEvent ReportsAdded
      (history (net 1 (notarize 1 1) ∷ [])
      (NetworkAnswer (record (addition (notarize 1 1)) { report = Some (report_of (notarize 1 2)) })
      ∷ [])))
  pub own_duplicate_reported :
      Fails (AtEachEvent ReportsAdded
      (history (own (nullify 1) ∷ own (nullify 1) ∷ [])
      (own_added (nullify 1) ∷ OwnAnswer (Duplicate true) (Some (report_of (nullify 1))) ∷ [])))
  -- Evidence is turned, or its first vote is one that was refused, or it comes with an own vote.
  pub evidence_turned :
      Fails (AtEachEvent (ReportsEvidence (four Retaining))
      (history (net 1 (notarize 1 1) ∷ net 1 (notarize 1 2) ∷ [])
      (added (notarize 1 1) ∷ blocked_and_reported ConflictingNotarize (two_notarizes 2 1) ∷ [])))
  pub evidence_of_a_refused_vote :
      Fails (AtEachEvent (ReportsEvidence (four Retaining))
      (history (net 1 (notarize 1 1) ∷ net 1 (notarize 1 2) ∷ net 1 (notarize 1 3) ∷ [])
      (added (notarize 1 1) ∷ blocked_and_reported ConflictingNotarize (two_notarizes 1 2)
      ∷ blocked_and_reported ConflictingNotarize (two_notarizes 2 3) ∷ [])))
  pub evidence_with_an_own_vote :
      Fails (AtEachEvent (ReportsEvidence (four Retaining))
      (history (net 1 (finalize 1 1) ∷ own (nullify 1) ∷ [])
      (added (finalize 1 1) ∷ OwnAnswer (Duplicate true) (Some (nullify_and_finalize 1)) ∷ [])))
  -- It is lost in a retaining round, or made up of a vote that nobody cast.
  pub evidence_lost :
      Fails (AtEachVote (ReportsEachContrary (four Retaining))
      (history (net 1 (finalize 1 1) ∷ net 1 (nullify 1) ∷ [])
      (added (finalize 1 1) ∷ blocked NullifyAfterFinalize ∷ [])))
  pub evidence_made_up :
      Fails (AtEachVote (ReportsContrary (four Retaining))
      (history (net 1 (notarize 1 2) ∷ [])
      (blocked_and_reported ConflictingNotarize (two_notarizes 1 2) ∷ [])))
