-- Small rounds for what is said of certificates, of the order of calls and of reports: what it
-- comes to, what it doesn't say, and what would break it.
use Rattle.std.specs.Prelude.{◌≡◌, ℕ, Bool, true, false, List, [], ◌∷◌, ◌++◌, length, filter, map}
use Rattle.std.specs.Prelude.{Some, None}
use Rattle.batcher_types.specs.declared.messages.Kind.{Kind}
use Rattle.batcher_types.specs.declared.messages.Kind.TheVariants.{Notarization, Nullification}
use Rattle.batcher_types.specs.declared.messages.Kind.TheVariants.{Finalization}
use Rattle.batcher_types.specs.declared.messages.Certificate.{Certificate}
use Rattle.batcher_types.specs.declared.messages.Activity.TheVariants.{ConflictingNotarize as ReportConflictingNotarize}
use Rattle.batcher_histories.specs.declared.answers.BlockReason.TheVariants.{ConflictingNotarize}
use Rattle.batcher_votes.specs.declared.votes.Mode.TheVariants.{Retaining}
use Rattle.batcher_votes.specs.declared.verifier.ProposalState.TheVariants.{Unknown}
use Rattle.batcher_votes.specs.declared.verifier.ProposalState.TheVariants.{Leader as LeadersProposal}
use Rattle.batcher_votes.specs.declared.verifier.ProposalState.TheVariants.{Certificate as FixedProposal}
use Rattle.batcher_types.specs.Meaning.{Meaning, IsLawful}
use Rattle.batcher_types.specs.Votes.{signer_of, subject_certified}
use Rattle.batcher_histories.specs.History.{Event}
use Rattle.batcher_histories.specs.Selection.{is_certified}
use Rattle.batcher_histories.specs.Eligible.{is_valid}
use Rattle.batcher_types.specs.Lists.{count}
use Rattle.batcher_histories.specs.Promises.{AtEachEvent, AtEachTime}
use Rattle.batcher_histories.specs.AnswerFacts.{usable_votes, NamesBadSigners, GivesSelected}
use Rattle.batcher_histories.specs.AnswerFacts.{HoldsThen}
use Rattle.batcher_histories.specs.Reports.{subjects_contradict}
use Rattle.batcher_histories.specs.Backing.{was_given, gives_kind, votes_behind, GivesBacked}
use Rattle.batcher_histories.specs.Backing.{GivesOnce, GivesFixed, NoneContradict}
use Rattle.batcher_histories.specs.Backing.{AllNameOneProposal}
use Rattle.batcher_histories.specs.CertificateTiming.{has_valid_quorum, kinds_due, GivesAtOnce}
use Rattle.batcher_histories.specs.CertificateTiming.{TakesOne, GivesDespiteBadVotes, LeavesNoneDue}
use Rattle.batcher_histories.specs.Honest.{LeavesNoHonestQuorum}
use Rattle.batcher_histories.specs.Examples.Answers.{TinyConfig, TinyCall, TinyAnswer, listing}
use Rattle.batcher_histories.specs.Examples.Answers.{round_of, four, one_by_one, p, signed}
use Rattle.batcher_histories.specs.Examples.Answers.{notarize, bad_notarize, nullify, finalize}
use Rattle.batcher_histories.specs.Examples.Answers.{notarization, nullification, finalization, net}
use Rattle.batcher_histories.specs.Examples.Answers.{own, cert, lead, construct, added, no_batch}
use Rattle.batcher_histories.specs.Examples.Answers.{batch, blocked_and_reported, answers_from}
use Rattle.batcher_histories.specs.Examples.Answers.{answers, played, selects, counts}

-- A lawful scheme that certifies whatever waits, and gives that at once.
abbrev pub hopeful : Meaning ℕ ℕ ℕ ℕ
hopeful =
    record (listing 4) { assembled_at_once = λ subject pending verified stream. (Some 0, stream) }

-- retaining rounds of four: of the tiny scheme, of the hopeful one,
abbrev pub tiny : TinyConfig
tiny = four Retaining

abbrev pub of_hopeful : TinyConfig
of_hopeful = record tiny { meaning = hopeful }

-- and of one that verifies votes as they come
abbrev pub as_they_come : TinyConfig
as_they_come = one_by_one Retaining

-- lists of calls
abbrev pub three_notarizes : List TinyCall
three_notarizes = lead 0 ∷ net 0 (notarize 0 1) ∷ net 1 (notarize 1 1) ∷ net 2 (notarize 2 1) ∷ []

abbrev pub two_notarizes : List TinyCall
two_notarizes = lead 0 ∷ net 0 (notarize 0 1) ∷ net 1 (notarize 1 1) ∷ []

abbrev pub with_outsider : List TinyCall
with_outsider = two_notarizes ++ own (notarize 7 1) ∷ []

abbrev pub one_bad : List TinyCall
one_bad = lead 0 ∷ net 0 (notarize 0 1) ∷ net 1 (notarize 1 1) ∷ net 2 (bad_notarize 2 1) ∷ []

abbrev pub two_bad : List TinyCall
two_bad = lead 0 ∷ net 0 (notarize 0 1) ∷ net 1 (bad_notarize 1 1) ∷ net 2 (bad_notarize 2 1) ∷ []

abbrev pub three_nullifies : List TinyCall
three_nullifies = net 0 (nullify 0) ∷ net 1 (nullify 1) ∷ net 3 (nullify 3) ∷ []

-- with a bad notarize beside two good ones, and the leader named last
abbrev pub nullifies_beside_bad : List TinyCall
nullifies_beside_bad =
    net 1 (notarize 1 1) ∷ net 2 (bad_notarize 2 1) ∷ three_nullifies ++ net 0 (notarize 0 1)
    ∷ lead 0 ∷ []

abbrev pub three_finalizes : List TinyCall
three_finalizes = net 1 (finalize 1 1) ∷ net 2 (finalize 2 1) ∷ net 3 (finalize 3 1) ∷ []

abbrev pub own_notarizes : List TinyCall
own_notarizes = own (notarize 0 1) ∷ own (notarize 1 1) ∷ own (notarize 2 1) ∷ []

abbrev pub three_constructions : List TinyCall
three_constructions = construct ∷ construct ∷ construct ∷ []

-- what three constructions are answered after these calls
abbrev pub then_three : TinyConfig → List TinyCall → List TinyAnswer
then_three x calls = answers_from x (played x calls) three_constructions

-- whether the valid votes of a kind are a quorum, and whether three constructions certify it
abbrev pub quorum_and_then : TinyConfig → List TinyCall → Kind → Bool × Bool
quorum_and_then x calls kind = (
  has_valid_quorum x (played x calls) kind,
  is_certified (played x (calls ++ three_constructions)) kind,
)

-- the signers of the votes behind a certificate, and those of them whose votes attest
abbrev pub behind : List TinyCall → Certificate ℕ ℕ → List ℕ × List ℕ
behind calls c =
    let votes = votes_behind tiny (played tiny calls) c in
    (map signer_of votes, map signer_of (filter (is_valid tiny) votes))

-- how many votes of a kind are usable, and how many of them attest
abbrev pub usable : List TinyCall → Kind → ℕ × ℕ
usable calls kind =
    let votes = usable_votes tiny (played tiny calls) kind in
    (length votes, length (filter (is_valid tiny) votes))

-- an event that gives a certificate, whatever came before it
abbrev pub giving : Certificate ℕ ℕ → Event ℕ ℕ ℕ ℕ
giving c = (construct, batch 3 [] (Some c) false)

-- how many of two given certificates are of a kind
abbrev pub how_often : Kind → Certificate ℕ ℕ → Certificate ℕ ℕ → ℕ
how_often kind a b = count (λ event. gives_kind kind event.1) (giving a ∷ giving b ∷ [])

abbrev pub contradict : Certificate ℕ ℕ → Certificate ℕ ℕ → Bool
contradict a b = subjects_contradict tiny.same_digest (subject_certified a) (subject_certified b)

-- a report of a bad notarize for P1 and a good one for another proposal
abbrev pub bad_one_reported : ℕ → TinyAnswer
bad_one_reported v =
    blocked_and_reported ConflictingNotarize
    (ReportConflictingNotarize (record { proposal = p 1; attestation = signed 1 1 })
    (record { proposal = p v; attestation = signed 1 0 }))

pub record CertificateExamples : Type 0 where
  -- CERTIFICATES THAT ARE GIVEN
  -- Behind a notarization of P1 are three votes for it, and none is behind one of P2.
  pub behind_a_quorum : behind three_notarizes (notarization 1) ≡ (2 ∷ 1 ∷ 0 ∷ [], 2 ∷ 1 ∷ 0 ∷ [])
  pub none_behind : behind three_notarizes (notarization 2) ≡ ([], [])
  -- It isn't given where two votes are behind it, or one of three is an outsider's, which no call
  -- may bring, or too few of three attest and the batch fell back.
  pub two_behind : behind two_notarizes (notarization 1) ≡ (1 ∷ 0 ∷ [], 1 ∷ 0 ∷ [])
  pub two_are_refused :
      AtEachEvent (GivesBacked tiny) (giving (notarization 1) ∷ played tiny two_notarizes) → ⊥
  pub outsider_behind : behind with_outsider (notarization 1) ≡ (1 ∷ 0 ∷ 7 ∷ [], 1 ∷ 0 ∷ [])
  pub outsider_is_refused :
      AtEachEvent (GivesBacked tiny) (giving (notarization 1) ∷ played tiny with_outsider) → ⊥
  pub bad_behind : behind one_bad (notarization 1) ≡ (2 ∷ 1 ∷ 0 ∷ [], 1 ∷ 0 ∷ [])
  pub bad_is_refused :
      AtEachEvent (GivesBacked tiny)
      ((construct, batch 3 (2 ∷ []) (Some (notarization 1)) true) ∷ played tiny one_bad) → ⊥
  -- But a lawful scheme may give it at once where one alone attests.
  pub hopeful_is_lawful : IsLawful hopeful
  pub given_over_bad_votes : counts of_hopeful two_bad Notarization ≡ (3, 1)
  pub given_all_the_same :
      was_given (played of_hopeful (two_bad ++ construct ∷ [])) Notarization ≡ true
  -- None is given of a kind that was recorded, nor a second of its kind, nor for another proposal
  -- than the one that is fixed or selected.
  pub recorded_is_refused :
      AtEachEvent GivesOnce
      (giving (notarization 1) ∷ played tiny (three_notarizes ++ cert (notarization 1) ∷ [])) → ⊥
  pub second_is_refused :
      AtEachEvent GivesOnce (giving (notarization 1) ∷ giving (notarization 1) ∷ []) → ⊥
  pub two_of_a_kind : how_often Notarization (notarization 1) (notarization 2) ≡ 2
  pub unfixed_is_refused :
      AtEachEvent (GivesFixed tiny)
      (giving (notarization 2) ∷ played tiny (cert (finalization 1) ∷ [])) → ⊥
  pub unselected_is_refused :
      AtEachEvent (GivesSelected tiny)
      (giving (notarization 2) ∷ played tiny (lead 0 ∷ net 0 (notarize 0 1) ∷ [])) → ⊥
  -- No two are given that contradict each other, as a nullification and a finalization do, nor two
  -- that name different proposals, though that alone is no contradiction.
  pub which_contradict :
      contradict nullification (finalization 1) ∷ contradict (notarization 1) (notarization 2)
      ∷ contradict (notarization 1) (finalization 2) ∷ [] ≡ true ∷ true ∷ false ∷ []
  pub both_given :
      map (was_given (giving nullification ∷ giving (finalization 1) ∷ []))
      (Nullification ∷ Finalization ∷ []) ≡ true ∷ true ∷ []
  pub contradiction_is_refused :
      NoneContradict tiny (giving (notarization 1) ∷ giving (notarization 2) ∷ []) → ⊥
  pub two_proposals_are_refused :
      AllNameOneProposal tiny (giving (notarization 1) ∷ giving (finalization 2) ∷ []) → ⊥
  -- A round that gave a nullification may record a finalization: what is certified may contradict
  -- itself, what is given never does.
  pub both_certified :
      map (is_certified (played tiny (three_nullifies ++ construct ∷ cert (finalization 1) ∷ [])))
      (Nullification ∷ Finalization ∷ []) ≡ true ∷ true ∷ []
  -- HOW SOON THEY COME
  -- Two kinds are due, two constructions give their certificates, and a third gives no batch.
  pub two_due : kinds_due tiny (played tiny (three_notarizes ++ three_nullifies)) ≡ 2
  pub two_given :
      then_three tiny (three_notarizes ++ three_nullifies)
      ≡ batch 3 [] (Some (notarization 1)) false ∷ batch 3 [] (Some nullification) false
      ∷ no_batch ∷ []
  -- Where votes are verified as they come the first construction may give no certificate, though a
  -- quorum is valid; it may take three to come to the last kind.
  pub second_gives :
      then_three as_they_come (lead 0 ∷ net 0 (notarize 0 1) ∷ three_finalizes)
      ≡ batch 1 [] None false ∷ batch 3 [] (Some (finalization 1)) false ∷ no_batch ∷ []
  pub third_gives :
      then_three as_they_come (lead 0 ∷ net 0 (notarize 0 1) ∷ net 0 (nullify 0) ∷ three_finalizes)
      ≡ batch 1 [] None false ∷ batch 1 [] None false
      ∷ batch 3 [] (Some (finalization 1)) false ∷ []
  -- Before a proposal is selected a construction may make more due than it takes: none is due, and
  -- two constructions give certificates.
  pub none_due_before : kinds_due tiny (played tiny (own_notarizes ++ three_finalizes)) ≡ 0
  pub one_due_after :
      kinds_due tiny (played tiny (own_notarizes ++ three_finalizes ++ construct ∷ [])) ≡ 1
  pub two_given_unselected :
      then_three tiny (own_notarizes ++ three_finalizes)
      ≡ batch 0 [] (Some (notarization 1)) false ∷ batch 3 [] (Some (finalization 1)) false
      ∷ no_batch ∷ []
  -- A bad vote beside a quorum of good ones is named, and the certificate comes all the same;
  pub bad_beside_a_quorum :
      usable (three_notarizes ++ net 3 (bad_notarize 3 1) ∷ []) Notarization ≡ (4, 3)
  pub given_beside_it :
      then_three tiny (three_notarizes ++ net 3 (bad_notarize 3 1) ∷ [])
      ≡ batch 4 (3 ∷ []) (Some (notarization 1)) true ∷ no_batch ∷ no_batch ∷ []
  -- where it takes the place of a good one, none comes.
  pub bad_in_its_place : usable one_bad Notarization ≡ (3, 2)
  pub none_given_beside_it :
      then_three tiny one_bad ≡ batch 3 (2 ∷ []) None true ∷ no_batch ∷ no_batch ∷ []
  -- A batch that gives no certificate of a valid quorum is refused, and so is no batch where a kind
  -- is due, and one that gives none where a bad vote is beside a quorum.
  pub late_is_refused :
      AtEachEvent (GivesAtOnce tiny)
      ((construct, batch 3 [] None false) ∷ played tiny three_notarizes) → ⊥
  pub left_due_is_refused :
      AtEachEvent (TakesOne tiny) ((construct, no_batch) ∷ played tiny three_notarizes) → ⊥
  pub held_back_is_refused :
      AtEachEvent (GivesDespiteBadVotes tiny)
      ((construct, batch 4 (3 ∷ []) None true)
      ∷ played tiny (three_notarizes ++ net 3 (bad_notarize 3 1) ∷ [])) → ⊥
  -- A batch without a certificate isn't the last: three nullifies are a quorum, and a construction
  -- gives no batch only once they are certified.
  pub batch_before_the_quorum :
      then_three tiny nullifies_beside_bad
      ≡ batch 3 (2 ∷ []) None true ∷ batch 3 [] (Some nullification) false ∷ no_batch ∷ []
  pub quorum_left_is_refused :
      AtEachEvent (LeavesNoneDue tiny)
      ((construct, no_batch) ∷ played tiny (nullifies_beside_bad ++ construct ∷ [])) → ⊥
  pub honest_quorum_left_is_refused :
      AtEachEvent (LeavesNoHonestQuorum tiny)
      ((construct, no_batch) ∷ played tiny (nullifies_beside_bad ++ construct ∷ [])) → ⊥
  -- A batch that names a good voter is refused, and one that leaves a bad vote among the proven.
  pub good_one_is_not_named :
      AtEachEvent (NamesBadSigners tiny)
      ((construct, batch 3 (2 ∷ []) None true) ∷ played tiny three_notarizes) → ⊥
  pub bad_one_is_not_proven :
      AtEachTime (HoldsThen tiny) ((construct, batch 3 [] None true) ∷ played tiny one_bad) → ⊥
  -- A quorum for another proposal than the selected one makes no certificate.
  pub quorum_for_another :
      then_three tiny
      (lead 0 ∷ net 0 (notarize 0 1) ∷ net 1 (notarize 1 2) ∷ net 2 (notarize 2 2)
      ∷ net 3 (notarize 3 2) ∷ []) ≡ no_batch ∷ no_batch ∷ no_batch ∷ []
  -- THREE CONSTRUCTIONS, AND THE ORDER OF CALLS
  -- Three constructions certify a valid quorum, and nothing else,
  pub certified_by_three : quorum_and_then tiny three_notarizes Notarization ≡ (true, true)
  pub none_by_three : quorum_and_then tiny one_bad Notarization ≡ (false, false)
  -- but where a proposal is still to be selected, or bad votes were accepted, or nobody takes part.
  pub unsettled :
      quorum_and_then tiny (own_notarizes ++ three_finalizes) Notarization ≡ (false, true)
  pub by_bad_votes : quorum_and_then of_hopeful two_bad Notarization ≡ (false, true)
  pub of_nobody : quorum_and_then (round_of 0 Retaining) [] Nullification ≡ (true, false)
  -- Whether the leader is named before its vote or after makes no difference.
  pub leader_named_first : selects tiny (lead 0 ∷ net 0 (notarize 0 1) ∷ []) ≡ LeadersProposal (p 1)
  pub leader_named_last : selects tiny (net 0 (notarize 0 1) ∷ lead 0 ∷ []) ≡ LeadersProposal (p 1)
  -- Where an own finalize comes after the same vote from the network it is refused, and fixes
  -- nothing: the order makes a difference though nobody contradicts itself.
  pub network_first : selects tiny (net 1 (finalize 1 1) ∷ own (finalize 1 1) ∷ []) ≡ Unknown
  pub own_first :
      selects tiny (own (finalize 1 1) ∷ net 1 (finalize 1 1) ∷ []) ≡ FixedProposal (p 1)
  -- Of certificates for two proposals the first fixes its own.
  pub one_then_two :
      selects tiny (cert (notarization 1) ∷ cert (finalization 2) ∷ []) ≡ FixedProposal (p 1)
  pub two_then_one :
      selects tiny (cert (finalization 2) ∷ cert (notarization 1) ∷ []) ≡ FixedProposal (p 2)
  -- A construction that comes before another's certificate has certified what it no longer would.
  pub construction_first :
      is_certified
      (played tiny (three_notarizes ++ construct ∷ cert (finalization 2) ∷ three_constructions))
      Notarization ≡ true
  pub certificate_first :
      is_certified
      (played tiny (three_notarizes ++ cert (finalization 2) ∷ construct ∷ three_constructions))
      Notarization ≡ false
  -- REPORTS
  -- A report may hold a vote that doesn't attest.
  pub reported_though_bad :
      answers tiny (net 1 (bad_notarize 1 1) ∷ net 1 (notarize 1 2) ∷ [])
      ≡ added (bad_notarize 1 1) ∷ bad_one_reported 2 ∷ []
  -- A bad first vote shields its sender: it signs P2 and P3, both well, and no report holds both.
  pub shielded :
      answers tiny (net 1 (bad_notarize 1 1) ∷ net 1 (notarize 1 2) ∷ net 1 (notarize 1 3) ∷ [])
      ≡ added (bad_notarize 1 1) ∷ bad_one_reported 2 ∷ bad_one_reported 3 ∷ []
