-- Honest participants and floods in small rounds: each bound is reached, and no premise is idle.
use Rattle.std.specs.Prelude.{◌≡◌, ◌&&◌, ℕ, Bool, true, false, not, List, [], ◌∷◌, ◌++◌, length}
use Rattle.std.specs.Prelude.{filter, Some, None}
use Rattle.std.specs.List.{list_any, range_with_len}
use Rattle.batcher_types.specs.declared.messages.Kind.{Kind}
use Rattle.batcher_types.specs.declared.messages.Kind.TheVariants.{Notarization, Nullification}
use Rattle.batcher_types.specs.declared.messages.Kind.TheVariants.{Finalization}
use Rattle.batcher_histories.specs.declared.answers.BlockReason.TheVariants.{ConflictingNullify}
use Rattle.batcher_histories.specs.declared.answers.BlockReason.TheVariants.{NullifySignerMismatch}
use Rattle.batcher_votes.specs.declared.votes.Mode.TheVariants.{Retaining, Releasing, Skipped}
use Rattle.batcher_votes.specs.declared.votes.Outcome.TheVariants.{Added, Duplicate}
use Rattle.batcher_histories.specs.declared.answers.Answer.TheVariants.{Own as OwnAnswer}
use Rattle.batcher_histories.specs.declared.answers.Answer.TheVariants.{Certificate as CertificateAnswer}
use Rattle.batcher_histories.specs.Admissions.{report_of}
use Rattle.batcher_types.specs.Meaning.{IsLawful}
use Rattle.batcher_types.specs.Votes.{is_vote_of}
use Rattle.batcher_histories.specs.Selection.{selected_proposal, is_certified}
use Rattle.batcher_histories.specs.Eligible.{is_counted, is_valid}
use Rattle.batcher_histories.specs.Work.{processed_total}
use Rattle.batcher_histories.specs.History.{Event}
use Rattle.batcher_histories.specs.Promises.{AtEachVote, AtEachEvent, AtEachTime, votes_cast}
use Rattle.batcher_histories.specs.Promises.{gave_cause}
use Rattle.batcher_histories.specs.Honest.{own_votes_added, OwnAddedAgree, IsAddedWithoutCause}
use Rattle.batcher_histories.specs.Honest.{NamesForOwnVotes, CompletesHonestQuorums, times_named}
use Rattle.batcher_histories.specs.Honest.{voted_well, honest_voters}
use Rattle.batcher_histories.specs.SentVotes.{SendsAdded}
use Rattle.batcher_histories.specs.AnswerFacts.{votes_added}
use Rattle.batcher_histories.specs.Flood.{batches_given, constructions_made, others_made}
use Rattle.batcher_histories.specs.Flood.{TakesFewConstructions}
use Rattle.batcher_histories.specs.Examples.Answers.{TinyConfig, TinyVote, TinyCall, TinyHistory}
use Rattle.batcher_histories.specs.Examples.Answers.{listing, is_good, round_of, four, one_by_one}
use Rattle.batcher_histories.specs.Examples.Answers.{notarize, bad_notarize, nullify, bad_nullify}
use Rattle.batcher_histories.specs.Examples.Answers.{finalize, notarization, nullification, net}
use Rattle.batcher_histories.specs.Examples.Answers.{own, lead, construct, cert, own_round, added}
use Rattle.batcher_histories.specs.Examples.Answers.{refused, blocked, own_added, own_duplicate}
use Rattle.batcher_histories.specs.Examples.Answers.{batch, no_batch, answers, played, with_cause}

-- All signatures count as the same, though not all attest.
abbrev pub undiscerning : TinyConfig
undiscerning = record (four Retaining) { same_signature = λ a b. true }

-- With one participant, against the laws of schemes others attest too.
abbrev pub lawless : TinyConfig
lawless =
    record (round_of 1 Retaining) {
      meaning = record (listing 1) { attests = λ subject a. is_good a };
    }

-- lists of calls
abbrev pub thrice : List TinyCall
thrice = construct ∷ construct ∷ construct ∷ []

abbrev pub nullifies : List TinyCall
nullifies = net 0 (nullify 0) ∷ net 1 (nullify 1) ∷ net 2 (nullify 2) ∷ []

-- with the votes of two participants for one proposal
abbrev pub with_two : List TinyCall → List TinyCall
with_two calls = lead 0 ∷ net 0 (notarize 0 1) ∷ calls ++ net 2 (notarize 2 1) ∷ thrice

abbrev pub naming : List TinyCall
naming =
    net 0 (nullify 0) ∷ net 1 (nullify 1) ∷ net 2 (bad_nullify 2) ∷ construct
    ∷ net 2 (bad_nullify 2) ∷ net 3 (nullify 3) ∷ construct ∷ []

abbrev pub busy : List TinyCall
busy =
    lead 0 ∷ net 0 (notarize 0 1) ∷ net 0 (nullify 0) ∷ net 1 (finalize 1 1)
    ∷ net 2 (finalize 2 1) ∷ net 3 (finalize 3 1) ∷ construct ∷ construct ∷ []

-- bad votes alone, each before a construction
abbrev pub flood : List TinyCall
flood =
    lead 0 ∷ net 0 (bad_notarize 0 1) ∷ construct ∷ net 1 (bad_notarize 1 1) ∷ construct
    ∷ net 2 (bad_notarize 2 1) ∷ construct ∷ net 3 (bad_notarize 3 1) ∷ construct
    ∷ net 0 (bad_nullify 0) ∷ construct ∷ net 1 (bad_nullify 1) ∷ construct
    ∷ net 2 (bad_nullify 2) ∷ construct ∷ net 3 (bad_nullify 3) ∷ construct ∷ []

module _ (x : TinyConfig) where
  -- who voted well for a kind, how many of these gave no cause, and whether it is certified
  abbrev pub voting : List TinyCall → Kind → List ℕ × ℕ × Bool
  voting calls kind =
      let past = played x calls in (
        filter (voted_well x past kind) (range_with_len 0 4),
        honest_voters x past kind,
        is_certified past kind,
      )

  -- the votes that were cast, count and attest, and who cast one of a kind and gave no cause
  abbrev pub good_votes : TinyHistory → List TinyVote
  good_votes past =
      filter (λ v. is_counted x (selected_proposal x past) v && is_valid x v) (votes_cast x past)

  abbrev pub good_voters : List TinyCall → Kind → List ℕ
  good_voters calls kind =
      let past = played x calls in
      filter
      (λ i. not (gave_cause x past i) && list_any (is_vote_of kind i) (good_votes past))
      (range_with_len 0 4)

  -- how often a signer was named for each kind
  abbrev pub named : List TinyCall → ℕ → ℕ × ℕ × ℕ
  named calls i =
      let past = played x calls in (
        times_named x past Notarization i,
        times_named x past Nullification i,
        times_named x past Finalization i,
      )

  -- how many votes were added and processed, and how many batches given
  abbrev pub costs : List TinyCall → ℕ × ℕ × ℕ
  costs calls =
      let past = played x calls in
      (length (votes_added past), processed_total past, batches_given past)

  -- how many constructions were made, votes added and other calls made
  abbrev pub constructions : List TinyCall → ℕ × ℕ × ℕ
  constructions calls =
      let past = played x calls in
      (constructions_made past, length (votes_added past), others_made past)

-- own votes of which the second contradicts the first: in a skipped round, after a release, and a
-- nullify that is signed anew
abbrev pub own_for_both : List TinyCall
own_for_both = own (notarize 1 1) ∷ own (notarize 1 2) ∷ []

abbrev pub both_sent : List TinyCall
both_sent = net 1 (notarize 1 1) ∷ net 1 (notarize 1 2) ∷ []

abbrev pub own_after_release : List TinyCall
own_after_release = own (notarize 1 1) ∷ cert (notarization 3) ∷ own (notarize 1 2) ∷ []

abbrev pub own_signed_anew : List TinyCall
own_signed_anew = own (nullify 1) ∷ own (bad_nullify 1) ∷ []

-- the history of the three nullifies, and events that are given after it, rightly or not
abbrev pub played_nullifies : TinyHistory
played_nullifies = played (four Retaining) nullifies

abbrev pub naming_one : Event ℕ ℕ ℕ ℕ
naming_one = (construct, batch 3 (1 ∷ []) None true)

abbrev pub none_given : Event ℕ ℕ ℕ ℕ
none_given = (construct, no_batch)

abbrev pub added_one : Event ℕ ℕ ℕ ℕ
added_one = (net 1 (nullify 1), added (nullify 1))

pub record HonestExamples : Type 0 where
  -- An equal repeat isn't added, and gives no cause.
  pub repeat_is_refused :
      answers (four Retaining) (net 1 (nullify 1) ∷ net 1 (nullify 1) ∷ [])
      ≡ added (nullify 1) ∷ refused ∷ []
  pub repeat_gives_no_cause :
      with_cause (four Retaining) (net 1 (nullify 1) ∷ net 1 (nullify 1) ∷ []) ≡ []
  -- Another vote isn't added where it excludes an earlier one: its signer gave cause with it.
  pub other_is_blocked :
      answers (four Retaining) (net 1 (nullify 1) ∷ net 1 (bad_nullify 1) ∷ [])
      ≡ added (nullify 1) ∷ blocked ConflictingNullify ∷ []
  pub other_gives_cause :
      with_cause (four Retaining) (net 1 (nullify 1) ∷ net 1 (bad_nullify 1) ∷ []) ≡ 1 ∷ []
  -- A vote that another one sends isn't added, though its signer gave no cause.
  pub foreign_is_blocked :
      answers (four Retaining) (net 2 (nullify 1) ∷ []) ≡ blocked NullifySignerMismatch ∷ []
  pub foreign_gives_cause : with_cause (four Retaining) (net 2 (nullify 1) ∷ []) ≡ 2 ∷ []
  -- A bad signer is named once for a kind, though it sends its vote again, and once for another.
  pub naming_batches :
      answers (four Retaining) naming
      ≡ added (nullify 0) ∷ added (nullify 1) ∷ added (bad_nullify 2) ∷ batch 3 (2 ∷ []) None true
      ∷ refused ∷ added (nullify 3) ∷ batch 1 [] (Some nullification) false ∷ []
  pub named_once : named (four Retaining) naming 2 ≡ (0, 1, 0)
  pub named_for_two_kinds : named (one_by_one Retaining) (flood ++ flood) 1 ≡ (1, 1, 0)
  -- Nobody is named for a bad vote that another one sends.
  pub not_named :
      answers (four Retaining) (net 3 (bad_nullify 1) ∷ nullifies ++ construct ∷ [])
      ≡ blocked NullifySignerMismatch ∷ added (nullify 0) ∷ added (nullify 1) ∷ added (nullify 2)
      ∷ batch 3 [] (Some nullification) false ∷ []
  -- A quorum of the honest completes, whatever another one sends.
  pub honest_quorum :
      voting (four Retaining) (with_two (net 3 (bad_notarize 3 1) ∷ net 1 (notarize 1 1) ∷ []))
      Notarization ≡ (0 ∷ 1 ∷ 2 ∷ [], 3, true)
  -- It may not where one gave cause, voted for another proposal alone, or badly;
  pub one_gave_cause :
      voting (four Retaining) (with_two (net 1 (notarize 1 2) ∷ net 1 (notarize 1 1) ∷ []))
      Notarization ≡ (0 ∷ 1 ∷ 2 ∷ [], 2, false)
  pub one_for_another :
      voting (four Retaining) (with_two (net 1 (notarize 1 2) ∷ [])) Notarization
      ≡ (0 ∷ 2 ∷ [], 2, false)
  pub one_voted_badly :
      voting (four Retaining) (with_two (net 1 (bad_notarize 1 1) ∷ [])) Notarization
      ≡ (0 ∷ 2 ∷ [], 2, false)
  -- nor in a skipped round, nor before the third construction.
  pub skipped_quorum :
      voting (four Skipped) (nullifies ++ thrice) Nullification ≡ (0 ∷ 1 ∷ 2 ∷ [], 3, false)
  pub incomplete_after_two :
      voting (one_by_one Retaining) busy Finalization ≡ (1 ∷ 2 ∷ 3 ∷ [], 3, false)
  pub complete_after_three :
      voting (one_by_one Retaining) (busy ++ construct ∷ []) Finalization
      ≡ (1 ∷ 2 ∷ 3 ∷ [], 3, true)
  -- One good vote isn't enough where a bad one that counts as the same came first.
  pub undiscerning_is_lawful : IsLawful undiscerning.meaning
  pub good_vote_after_bad :
      good_voters undiscerning (net 1 (bad_nullify 1) ∷ nullifies ++ thrice) Nullification
      ≡ 0 ∷ 1 ∷ 2 ∷ []
  pub incomplete_after_bad :
      voting undiscerning (net 1 (bad_nullify 1) ∷ nullifies ++ thrice) Nullification
      ≡ (0 ∷ 2 ∷ [], 2, false)
  -- Answers that don't take in the honest are refused: a vote that isn't added without cause, a
  -- good voter that is named, a quorum that isn't completed; and a bad voter that is named twice.
  pub left_out_is_refused :
      AtEachVote (IsAddedWithoutCause (four Retaining)) ((net 1 (nullify 1), refused) ∷ []) → ⊥
  pub good_one_is_not_named :
      AtEachEvent (NamesForOwnVotes (four Retaining)) (naming_one ∷ played_nullifies) → ⊥
  pub left_incomplete_is_refused :
      AtEachTime (CompletesHonestQuorums (four Retaining))
      (none_given ∷ none_given ∷ none_given ∷ played_nullifies) → ⊥
  pub named_twice :
      times_named (four Retaining)
      ((construct, batch 3 (1 ∷ 1 ∷ []) None true) ∷ played_nullifies) Nullification 1 ≡ 2
  -- Own votes that contradict earlier ones may be no fault, but aren't added: in a skipped round,
  pub other_of_skipped :
      answers (four Skipped) own_for_both
      ≡ OwnAnswer (Added false) (Some (report_of (notarize 1 1))) ∷ own_duplicate ∷ []
  pub added_of_skipped : own_votes_added (played (four Skipped) own_for_both) ≡ notarize 1 1 ∷ []
  -- after a release,
  pub other_after_release :
      answers (four Releasing) own_after_release
      ≡ own_added (notarize 1 1) ∷ CertificateAnswer true ∷ own_duplicate ∷ []
  pub added_after_release :
      own_votes_added (played (four Releasing) own_after_release) ≡ notarize 1 1 ∷ []
  -- and a nullify that is signed anew.
  pub nullify_signed_anew :
      answers (four Retaining) own_signed_anew
      ≡ own_added (nullify 1) ∷ OwnAnswer (Duplicate true) None ∷ []
  pub added_signed_anew :
      own_votes_added (played (four Retaining) own_signed_anew) ≡ nullify 1 ∷ []
  -- Those that are restored are added once.
  pub added_once :
      own_votes_added (played (four Retaining) own_round)
      ≡ finalize 1 2 ∷ notarize 3 2 ∷ notarize 2 2 ∷ notarize 1 2 ∷ notarize 0 1 ∷ []
  -- Who sends both gives cause, and sends another than those that were added.
  pub both_sent_give_cause : with_cause (four Retaining) both_sent ≡ 1 ∷ []
  pub both_sent_is_refused :
      AtEachEvent (SendsAdded (four Retaining) (played (four Skipped) own_for_both) 1)
      (played (four Retaining) both_sent) → ⊥
  -- Answers by which both of two such votes are added are refused.
  pub both_added_is_refused :
      OwnAddedAgree
      ((own (notarize 1 2), own_added (notarize 1 2))
      ∷ (own (notarize 1 1), own_added (notarize 1 1)) ∷ []) → ⊥
  pub finalize_after_nullify_is_refused :
      OwnAddedAgree
      ((own (finalize 1 1), own_added (finalize 1 1))
      ∷ (own (nullify 1), own_added (nullify 1)) ∷ []) → ⊥
  -- Answers that add a participant's votes, or give batches, as often as they are asked are too
  -- many.
  pub added_thrice : length (votes_added (added_one ∷ added_one ∷ added_one ∷ [])) ≡ 3
  pub given_thrice : batches_given (naming_one ∷ naming_one ∷ naming_one ∷ []) ≡ 3
  pub processed_thrice : processed_total (naming_one ∷ naming_one ∷ naming_one ∷ []) ≡ 9
  -- One participant can have two votes added and processed, each in a batch of its own,
  pub costs_of_one :
      costs (round_of 1 Retaining)
      (lead 0 ∷ net 0 (notarize 0 1) ∷ construct ∷ net 0 (nullify 0) ∷ construct ∷ []) ≡ (2, 2, 2)
  -- and each of four can,
  pub costs_of_four : costs (one_by_one Retaining) flood ≡ (8, 8, 8)
  -- but no more, however often all is sent again.
  pub costs_again :
      costs (one_by_one Retaining) (flood ++ flood ++ nullifies ++ thrice) ≡ (8, 8, 8)
  -- An own vote is added, and tried in a batch, but not processed.
  pub costs_of_own :
      costs (round_of 1 Retaining) (own (notarize 0 1) ∷ construct ∷ []) ≡ (1, 0, 1)
  -- Who constructs until no batch is given makes as many constructions as votes are added and other
  -- calls made, and no more: answers that go on to give batches are refused.
  pub constructions_of_one :
      constructions (round_of 1 Retaining) (own (notarize 0 1) ∷ construct ∷ construct ∷ [])
      ≡ (2, 1, 1)
  pub endless_is_refused :
      TakesFewConstructions (naming_one ∷ naming_one ∷ naming_one ∷ added_one ∷ []) → ⊥
  -- Where others than the participants attest, more own votes are added.
  pub costs_against_law :
      costs lawless (own (nullify 0) ∷ own (nullify 1) ∷ own (nullify 2) ∷ []) ≡ (3, 0, 0)
