-- Rounds of a tiny scheme: keys and payloads are numbers, the signature 0 is good, and so is the
-- certificate 0. What they answer to
-- lists of calls is computed from the definitions over histories.
use Rattle.std.specs.Prelude.{◌≡◌, ℕ, Bool, true, false, cond, ◌&&◌, ◌==◌, nat_lt, List, [], ◌∷◌}
use Rattle.std.specs.Prelude.{◌++◌, length, filter, map, reverse, Option, Some, None, Result, Ok}
use Rattle.std.specs.Prelude.{Err}
use Rattle.std.specs.List.{list_all, range_with_len}
use Rattle.std.specs.declared.cmp.Ordering.{Ordering}
use Rattle.std.specs.declared.cmp.Ordering.TheVariants.{Less, Equal, Greater}
use Rattle.rand_core.specs.Stream.{Stream}
use Rattle.batcher_types.specs.declared.positions.Round.{Round}
use Rattle.batcher_types.specs.declared.messages.Proposal.{Proposal}
use Rattle.batcher_types.specs.declared.messages.Attestation.{Attestation}
use Rattle.batcher_types.specs.declared.messages.Vote.{Vote}
use Rattle.batcher_types.specs.declared.messages.Vote.TheVariants.{Notarize as NotarizeVote}
use Rattle.batcher_types.specs.declared.messages.Vote.TheVariants.{Nullify as NullifyVote}
use Rattle.batcher_types.specs.declared.messages.Vote.TheVariants.{Finalize as FinalizeVote}
use Rattle.batcher_types.specs.declared.messages.Kind.{Kind}
use Rattle.batcher_types.specs.declared.messages.Kind.TheVariants.{Notarization, Nullification}
use Rattle.batcher_types.specs.declared.messages.Kind.TheVariants.{Finalization}
use Rattle.batcher_types.specs.declared.messages.Certificate.{Certificate}
use Rattle.batcher_types.specs.declared.messages.Certificate.TheVariants.{Notarization as NotarizationCertificate}
use Rattle.batcher_types.specs.declared.messages.Certificate.TheVariants.{Nullification as NullificationCertificate}
use Rattle.batcher_types.specs.declared.messages.Certificate.TheVariants.{Finalization as FinalizationCertificate}
use Rattle.batcher_types.specs.declared.messages.Activity.{Activity}
use Rattle.batcher_types.specs.declared.messages.Activity.TheVariants.{ConflictingNotarize as ReportConflictingNotarize}
use Rattle.batcher_histories.specs.declared.answers.BlockReason.{BlockReason}
use Rattle.batcher_histories.specs.declared.answers.BlockReason.TheVariants.{ConflictingNotarize}
use Rattle.batcher_histories.specs.declared.answers.BlockReason.TheVariants.{FinalizeAfterNullify}
use Rattle.batcher_histories.specs.declared.answers.OwnFault.{OwnFault}
use Rattle.batcher_histories.specs.declared.answers.OwnFault.TheVariants.{DuplicateFinalize}
use Rattle.batcher_histories.specs.declared.answers.OwnFault.TheVariants.{Conflicting}
use Rattle.batcher_histories.specs.declared.answers.OwnFault.TheVariants.{NullifyAfterFinalize as NullifyAfterFinalizeFault}
use Rattle.batcher_histories.specs.declared.answers.OwnFault.TheVariants.{FinalizeAfterNullify as FinalizeAfterNullifyFault}
use Rattle.batcher_votes.specs.declared.votes.Outcome.{Outcome}
use Rattle.batcher_votes.specs.declared.votes.Outcome.TheVariants.{Added, Duplicate}
use Rattle.batcher_votes.specs.declared.votes.Mode.{Mode}
use Rattle.batcher_votes.specs.declared.votes.Mode.TheVariants.{Retaining, Releasing, Skipped}
use Rattle.batcher_votes.specs.declared.verifier.LeaderFault.TheVariants.{LeaderChanged}
use Rattle.batcher_votes.specs.declared.verifier.ProposalState.{ProposalState}
use Rattle.batcher_votes.specs.declared.verifier.ProposalState.TheVariants.{Unknown}
use Rattle.batcher_votes.specs.declared.verifier.ProposalState.TheVariants.{Certificate as FixedProposal}
use Rattle.batcher_histories.specs.declared.calls.Call.{Call}
use Rattle.batcher_histories.specs.declared.calls.Call.TheVariants.{Network as NetworkCall}
use Rattle.batcher_histories.specs.declared.calls.Call.TheVariants.{Own as OwnCall}
use Rattle.batcher_histories.specs.declared.calls.Call.TheVariants.{Certificate as CertificateCall}
use Rattle.batcher_histories.specs.declared.calls.Call.TheVariants.{Leader as LeaderCall}
use Rattle.batcher_histories.specs.declared.calls.Call.TheVariants.{Construct as ConstructCall}
use Rattle.batcher_histories.specs.declared.calls.Call.TheVariants.{Forward as ForwardCall}
use Rattle.batcher_histories.specs.declared.calls.Call.TheVariants.{Missing as MissingCall}
use Rattle.batcher_histories.specs.declared.answers.Answer.{Answer}
use Rattle.batcher_histories.specs.declared.answers.Answer.TheVariants.{Network as NetworkAnswer}
use Rattle.batcher_histories.specs.declared.answers.Answer.TheVariants.{Own as OwnAnswer}
use Rattle.batcher_histories.specs.declared.answers.Answer.TheVariants.{OwnRefused}
use Rattle.batcher_histories.specs.declared.answers.Answer.TheVariants.{Certificate as CertificateAnswer}
use Rattle.batcher_histories.specs.declared.answers.Answer.TheVariants.{Leader as LeaderAnswer}
use Rattle.batcher_histories.specs.declared.answers.Answer.TheVariants.{Construct as ConstructAnswer}
use Rattle.batcher_histories.specs.declared.answers.Answer.TheVariants.{Forward as ForwardAnswer}
use Rattle.batcher_histories.specs.declared.answers.Answer.TheVariants.{Missing as MissingAnswer}
use Rattle.batcher_types.specs.Meaning.{Meaning}
use Rattle.batcher_histories.specs.Config.{Config, quorum_in, config}
use Rattle.batcher_types.specs.Lists.{count}
use Rattle.batcher_types.specs.Keys.{participant}
use Rattle.batcher_types.specs.Votes.{signer_of, subject_of}
use Rattle.batcher_types.specs.Attempts.{attempt_of}
use Rattle.batcher_votes.specs.VerifierSteps.{attestations_of, batch_of}
use Rattle.batcher_histories.specs.Admissions.{addition, block_for, refusal, report_of}
use Rattle.batcher_votes.specs.RoundState.{PerKind, RoundState, for_each}
use Rattle.batcher_histories.specs.Steps.{leader_set_answer, report_by}
use Rattle.batcher_histories.specs.History.{History, history_after, history}
use Rattle.batcher_histories.specs.Selection.{leader_of, forwards, selection}
use Rattle.batcher_histories.specs.Eligible.{counted_votes, valid_votes, proven_votes, fresh_votes}
use Rattle.batcher_histories.specs.Eligible.{ready_kind}
use Rattle.batcher_histories.specs.Represents.{pending_after, verified_after}
use Rattle.batcher_histories.specs.Work.{processed_total, votes_accepted_open}
use Rattle.batcher_histories.specs.Work.{own_notarizes_restored}
use Rattle.batcher_histories.specs.Promises.{AtEachEvent, gave_cause}
use Rattle.batcher_histories.specs.AnswerFacts.{AtEachCall, usable_votes, has_bad_vote}
use Rattle.batcher_histories.specs.AnswerFacts.{ConflictsWithAnother, ConflictAnswered}
use Rattle.batcher_histories.specs.AnswerFacts.{ForwardsSelected, ChangesNoFixed, HoldsThroughout}
use Rattle.batcher_histories.specs.Consequences.{replacements, FollowsByDefinition}
use Rattle.batcher_histories.specs.Pairs.{blocks, tells_nothing}
use Rattle.batcher_histories.specs.Answers.{network_answer, own_answer, certificate_answer}
use Rattle.batcher_histories.specs.Answers.{forward_after, missing_after, needs_memory}

abbrev pub TinyConfig : Type 0
TinyConfig = Config ℕ ℕ ℕ ℕ

abbrev pub TinyVote : Type 0
TinyVote = Vote ℕ ℕ

abbrev pub TinyCall : Type 0
TinyCall = Call ℕ ℕ ℕ ℕ

abbrev pub TinyAnswer : Type 0
TinyAnswer = Answer ℕ ℕ ℕ

abbrev pub TinyHistory : Type 0
TinyHistory = History ℕ ℕ ℕ ℕ

abbrev pub no_words : Stream
no_words = record { u32_after = λ calls. 0; u64_after = λ calls. 0; bytes_after = λ calls n. [] }

abbrev pub compare : ℕ → ℕ → Ordering
compare a b = cond (nat_lt a b) Less (cond (a == b) Equal Greater)

abbrev pub is_good : Attestation ℕ → Bool
is_good a = a.signature == 0

-- A certificate is given at once exactly where all pending votes are good.
abbrev pub listing : ℕ → Meaning ℕ ℕ ℕ ℕ
listing n =
    record {
      participants = range_with_len 0 n;
      batchable = true;
      attests = λ subject a. nat_lt a.signer.0 n && is_good a;
      certifies = λ subject c. c == 0;
      left_by_verifying = λ subject pending stream. stream;
      assembled_at_once =
          λ subject pending verified stream.
          (cond (list_all is_good pending) (Some 0) None, stream);
      assembled = λ subject prior fresh. 0;
    }

abbrev pub the_round : Round
the_round = record { epoch = record { 0 = 0 }; view = record { 0 = 1 } }

abbrev pub round_of : ℕ → Mode → TinyConfig
round_of n mode = config (listing n) compare (λ a b. a == b) (λ a b. a == b) the_round mode

abbrev pub four : Mode → TinyConfig
four mode = round_of 4 mode

-- of a scheme that verifies votes one by one as they come
abbrev pub one_by_one : Mode → TinyConfig
one_by_one mode = record (four mode) { meaning = record (listing 4) { batchable = false } }

-- votes and certificates
abbrev pub p : ℕ → Proposal ℕ
p v = record { round = the_round; parent = record { 0 = 0 }; payload = v }

abbrev pub signed : ℕ → ℕ → Attestation ℕ
signed i signature = record { signer = participant i; signature = signature }

abbrev pub notarize : ℕ → ℕ → TinyVote
notarize i v = NotarizeVote (record { proposal = p v; attestation = signed i 0 })

abbrev pub bad_notarize : ℕ → ℕ → TinyVote
bad_notarize i v = NotarizeVote (record { proposal = p v; attestation = signed i 1 })

abbrev pub nullify : ℕ → TinyVote
nullify i = NullifyVote (record { round = the_round; attestation = signed i 0 })

abbrev pub bad_nullify : ℕ → TinyVote
bad_nullify i = NullifyVote (record { round = the_round; attestation = signed i 1 })

abbrev pub finalize : ℕ → ℕ → TinyVote
finalize i v = FinalizeVote (record { proposal = p v; attestation = signed i 0 })

abbrev pub notarization : ℕ → Certificate ℕ ℕ
notarization v = NotarizationCertificate (record { proposal = p v; certificate = 0 })

abbrev pub nullification : Certificate ℕ ℕ
nullification = NullificationCertificate (record { round = the_round; certificate = 0 })

abbrev pub finalization : ℕ → Certificate ℕ ℕ
finalization v = FinalizationCertificate (record { proposal = p v; certificate = 0 })

-- calls
abbrev pub net : ℕ → TinyVote → TinyCall
net sender vote = NetworkCall sender vote

abbrev pub own : TinyVote → TinyCall
own vote = OwnCall vote

abbrev pub cert : Certificate ℕ ℕ → TinyCall
cert c = CertificateCall c

abbrev pub lead : ℕ → TinyCall
lead i = LeaderCall (participant i)

abbrev pub construct : TinyCall
construct = ConstructCall

abbrev pub forward : ℕ → TinyCall
forward i = ForwardCall (participant i)

abbrev pub missing : ℕ → TinyCall
missing v = MissingCall (p v)

-- lists of them
abbrev pub whole_round : List TinyCall
whole_round =
    lead 0 ∷ net 0 (notarize 0 1) ∷ net 1 (notarize 1 1) ∷ net 2 (bad_notarize 2 1) ∷ net 1
    (nullify 1) ∷ net 2 (nullify 2) ∷ net 3 (nullify 3) ∷ net 0 (finalize 0 1)
    ∷ construct ∷ construct ∷ construct ∷ construct ∷ net 3 (notarize 3 1) ∷ construct ∷ []

abbrev pub own_round : List TinyCall
own_round =
    lead 0 ∷ own (notarize 0 1) ∷ own (notarize 1 2) ∷ own (notarize 2 2) ∷ own (notarize 3 2) ∷ own
    (finalize 1 2) ∷ construct ∷ []

abbrev pub repeating_round : List TinyCall
repeating_round =
    net 1 (notarize 1 1) ∷ net 2 (notarize 2 1) ∷ cert (notarization 1) ∷ net 1 (notarize 1 2) ∷ net
    2 (bad_notarize 2 1) ∷ []

-- a round that holds votes of one kind alone: those kept, the pending and the verified ones
abbrev pub only : Kind → List TinyVote → PerKind (List TinyVote)
only Notarization votes = record { notarize = votes; nullify = []; finalize = [] }
only Nullification votes = record { notarize = []; nullify = votes; finalize = [] }
only Finalization votes = record { notarize = []; nullify = []; finalize = votes }

abbrev pub holding : Kind → List TinyVote → List TinyVote → List TinyVote → RoundState ℕ ℕ
holding kind kept pending verified =
    record {
      tracked = record { compacted = for_each false; kept = only kind kept; facts = for_each [] };
      buffered =
          record {
            leader = None;
            selection = Unknown;
            certified = for_each false;
            pending = only
                kind pending;
            verified = only kind verified;
          };
      forwarded = false;
    }

-- answers
abbrev pub added : TinyVote → TinyAnswer
added vote = NetworkAnswer (addition vote)

abbrev pub refused : TinyAnswer
refused = NetworkAnswer refusal

abbrev pub blocked : BlockReason → TinyAnswer
blocked reason = NetworkAnswer (block_for reason None)

abbrev pub blocked_and_reported : BlockReason → Activity ℕ ℕ → TinyAnswer
blocked_and_reported reason report = NetworkAnswer (block_for reason (Some report))

abbrev pub own_added : TinyVote → TinyAnswer
own_added vote = OwnAnswer (Added true) (Some (report_of vote))

abbrev pub own_duplicate : TinyAnswer
own_duplicate = OwnAnswer (Duplicate false) None

abbrev pub leads : TinyAnswer
leads = LeaderAnswer (Ok tt)

abbrev pub no_batch : TinyAnswer
no_batch = ConstructAnswer None

abbrev pub batch : ℕ → List ℕ → Option (Certificate ℕ ℕ) → Bool → TinyAnswer
batch processed invalid certificate fallback =
    ConstructAnswer
    (Some (record {
      processed = processed;
      invalid = map participant invalid;
      certificate = certificate;
      fallback = fallback;
    }))

-- what is answered to a call after a history, with the votes of a batch in the order in which they
-- came
module _ (x : TinyConfig) where
  abbrev pub attempt_answer : List TinyVote → List TinyVote → List TinyVote → TinyAnswer
  attempt_answer [] verified pending = no_batch
  attempt_answer (vote ∷ votes) verified pending =
      ConstructAnswer (Some (batch_of (subject_of vote)
      (attempt_of x.meaning (subject_of vote) (quorum_in x) (attestations_of verified)
      (attestations_of pending) no_words).0))

  abbrev pub construct_answer : TinyHistory → Option Kind → TinyAnswer
  construct_answer past None = no_batch
  construct_answer past (Some kind) =
      attempt_answer (reverse (proven_votes x past kind) ++ reverse (fresh_votes x past kind))
      (reverse (proven_votes x past kind)) (reverse (fresh_votes x past kind))

  abbrev pub own_answer_of : TinyVote → Result Outcome OwnFault → TinyAnswer
  own_answer_of vote (Ok outcome) = OwnAnswer outcome (report_by outcome vote)
  own_answer_of vote (Err fault) = OwnRefused fault

  abbrev pub answer : TinyHistory → TinyCall → TinyAnswer
  answer past (NetworkCall sender vote) = NetworkAnswer (network_answer x past sender vote)
  answer past (OwnCall vote) = own_answer_of vote (own_answer x past vote)
  answer past (CertificateCall certificate) =
      CertificateAnswer (certificate_answer x past certificate)
  answer past (LeaderCall leader) = LeaderAnswer (leader_set_answer (leader_of past) leader)
  answer past ConstructCall = construct_answer past (ready_kind x past)
  answer past (ForwardCall me) = ForwardAnswer (forward_after x past me)
  answer past (MissingCall proposal) = MissingAnswer (missing_after x past proposal)

  abbrev pub answers_from : TinyHistory → List TinyCall → List TinyAnswer
  answers_from past [] = []
  answers_from past (call ∷ calls) =
      (λ (a : TinyAnswer). a ∷ answers_from (history_after past call a) calls) (answer past call)

  abbrev pub answers : List TinyCall → List TinyAnswer
  answers calls = answers_from [] calls

  -- the history that calls leave, what is selected after it, and how many votes of a kind are
  -- pending and verified
  abbrev pub played : List TinyCall → TinyHistory
  played calls = history calls (answers calls)

  abbrev pub selects : List TinyCall → ProposalState ℕ
  selects calls = selection x (played calls)

  -- the participants that have given cause to be blocked
  abbrev pub with_cause : List TinyCall → List ℕ
  with_cause calls = filter (gave_cause x (played calls)) (range_with_len 0 4)

  -- how many votes of a kind are counted, and how many of them are valid
  abbrev pub counts : List TinyCall → Kind → ℕ × ℕ
  counts calls kind =
      (length (counted_votes x (played calls) kind), length (valid_votes x (played calls) kind))

  -- how often the leader's proposal was replaced, and the selected one handed on
  abbrev pub changes : List TinyCall → ℕ × ℕ
  changes calls = (replacements x (played calls), count (λ event. forwards event.1) (played calls))

  -- whose votes of a kind can still make its certificate, and which participants have a bad one
  abbrev pub usable_and_bad : List TinyCall → Kind → List ℕ × List ℕ
  usable_and_bad calls kind = (
    map signer_of (usable_votes x (played calls) kind),
    filter
        (λ i. has_bad_vote x (played calls) kind (participant i)) (range_with_len 0 4),
  )

  -- how many votes were processed, accepted from the network in time, and restored as own notarizes
  abbrev pub work : List TinyCall → ℕ × ℕ × ℕ
  work calls =
      let past = played calls in (
        processed_total past,
        length (votes_accepted_open x past),
        length
            (own_notarizes_restored x past),
      )

  abbrev pub lengths : List TinyCall → Kind → ℕ × ℕ
  lengths calls kind =
      (length (fresh_votes x (played calls) kind), length (proven_votes x (played calls) kind))

  -- which answers block the sender, and of which pairs of votes facts say nothing
  abbrev pub blocking : List TinyCall → List Bool
  blocking calls = map blocks (answers calls)

  abbrev pub telling : List TinyCall → List (TinyVote × TinyVote) → List Bool
  telling calls votes = map (λ pair. tells_nothing x (played calls) pair.0 pair.1) votes

  -- which of some calls may need memory after others, and the pending and the verified votes that
  -- one more call leaves
  abbrev pub needs : List TinyCall → List TinyCall → List Bool
  needs calls next = map (needs_memory x (played calls)) next

  abbrev pub buffers_after : List TinyCall → RoundState ℕ ℕ → TinyCall → Kind → List TinyVote
      × List TinyVote
  buffers_after calls held call kind = (
    pending_after x (played calls) held (call, answer (played calls) call) kind,
    verified_after x
        (played calls) held (call, answer (played calls) call) kind,
  )

-- Answers that no round gives: after a finalization for P1 a notarization for P2 is said to change
-- the
-- selected proposal, and P2 is handed on; and a repeat is blocked as another vote.
abbrev pub changed_calls : List TinyCall
changed_calls = cert (finalization 1) ∷ cert (notarization 2) ∷ forward 3 ∷ []

abbrev pub changed_answers : List TinyAnswer
changed_answers = CertificateAnswer false ∷ CertificateAnswer true ∷ ForwardAnswer (Some (p 2)) ∷ []

abbrev pub repeated_calls : List TinyCall
repeated_calls = net 1 (notarize 1 2) ∷ cert (notarization 2) ∷ net 1 (notarize 1 2) ∷ []

abbrev pub repeated_answers : List TinyAnswer
repeated_answers =
    added (notarize 1 2) ∷ CertificateAnswer true ∷ blocked ConflictingNotarize ∷ []

pub record WorkedExamples : Type 0 where
  -- An equal repeat is refused, another proposal is blocked and reported.
  pub conflict_in_a_retaining_round :
      answers (four Retaining) (net 1 (notarize 1 1) ∷ net 1 (notarize 1 1) ∷ net 1 (notarize 1 2) ∷
      [])
      ≡ added (notarize 1 1) ∷ refused
      ∷ blocked_and_reported ConflictingNotarize
      (ReportConflictingNotarize (record { proposal = p 1; attestation = signed 1 0 })
      (record { proposal = p 2; attestation = signed 1 0 })) ∷ []
  -- A skipped round finds a conflict only between votes that came with the proposal known.
  pub conflict_in_a_skipped_round :
      answers (four Skipped) (net 1 (notarize 1 1) ∷ net 1 (notarize 1 2) ∷ cert (notarization 2) ∷
      net 1 (notarize 1 2) ∷ net 1 (notarize 1 1) ∷ [])
      ≡ added (notarize 1 1) ∷ refused ∷ CertificateAnswer true ∷ refused ∷ blocked
      ConflictingNotarize ∷ []
  -- A released vote still convicts, with no report.
  pub conflict_in_a_releasing_round :
      answers (four Releasing) (net 1 (notarize 1 1) ∷ cert (notarization 1) ∷ net 1 (notarize 1 2)
      ∷ [])
      ≡ added (notarize 1 1) ∷ CertificateAnswer true ∷ blocked ConflictingNotarize ∷ []
  -- A notarization for another proposal than the leader's brings the finalizes for it back.
  pub finalizes_are_restored :
      answers (four Retaining) (lead 0 ∷ net 0 (notarize 0 1) ∷ net 1 (finalize 1 2) ∷ net 2
      (finalize 2 2) ∷ net 3 (finalize 3 2) ∷ cert (notarization 2) ∷ construct ∷ [])
      ≡ leads ∷ added (notarize 0 1) ∷ added (finalize 1 2) ∷ added (finalize 2 2) ∷ added
      (finalize 3 2) ∷ CertificateAnswer true ∷ batch 3 [] (Some (finalization 2)) false ∷ []
  -- One participant makes a certificate of its own vote, which is not checked, and fixes the
  -- proposal.
  pub alone :
      answers (round_of 1 Retaining) (own (notarize 0 1) ∷ construct ∷ [])
      ≡ own_added (notarize 0 1) ∷ batch 0 [] (Some (notarization 1)) false ∷ []
  pub alone_it_is_fixed : selects (round_of 1 Retaining) (own (notarize 0 1) ∷ construct ∷ [])
      ≡ FixedProposal (p 1)
  -- A bad vote beside a quorum of good ones is found.
  pub bad_vote_in_a_quorum :
      answers (four Releasing) (net 0 (nullify 0) ∷ net 1 (nullify 1) ∷ net 2 (nullify 2) ∷ net 3
      (bad_nullify 3) ∷ construct ∷ [])
      ≡ added (nullify 0) ∷ added (nullify 1) ∷ added (nullify 2) ∷ added (bad_nullify 3) ∷ batch 4
      (3 ∷ []) (Some nullification) true ∷ []
  -- An own finalize of a signer that has one is refused, and fixes nothing.
  pub own_finalize_twice :
      answers (four Retaining) (net 1 (finalize 1 1) ∷ own (finalize 1 1) ∷ [])
      ≡ added (finalize 1 1) ∷ OwnRefused DuplicateFinalize ∷ []
  pub own_finalize_twice_fixes_nothing : selects (four Retaining)
      (net 1 (finalize 1 1) ∷ own (finalize 1 1) ∷ []) ≡ Unknown
  -- After the release an own vote is held against the facts.
  pub own_vote_after_release :
      answers (four Releasing) (own (notarize 1 1) ∷ cert (notarization 1) ∷ own (notarize 1 2) ∷
      own (notarize 1 1) ∷ [])
      ≡ own_added (notarize 1 1) ∷ CertificateAnswer true ∷ OwnRefused Conflicting ∷ own_duplicate ∷
      []
  -- Verified votes of two proposals make no certificate, and wait until the leader selects one.
  pub mixed_proposals :
      answers (round_of 2 Retaining) (own (notarize 0 1) ∷ own (notarize 1 2) ∷ construct ∷ lead 0 ∷
      construct ∷ [])
      ≡ own_added (notarize 0 1) ∷ own_added (notarize 1 2) ∷ no_batch ∷ leads ∷ no_batch ∷ []
  pub mixed_proposals_wait : lengths (round_of 2 Retaining)
      (own (notarize 0 1) ∷ own (notarize 1 2) ∷ construct ∷ []) Notarization ≡ (0, 2)
  pub mixed_proposals_are_filtered : lengths (round_of 2 Retaining)
      (own (notarize 0 1) ∷ own (notarize 1 2) ∷ construct ∷ lead 0 ∷ []) Notarization ≡ (0, 1)
  -- A finalization fixes its proposal, which no later certificate changes. It is forwarded once.
  pub finalization_fixes :
      answers (four Releasing) (lead 0 ∷ net 0 (notarize 0 1) ∷ net 1 (notarize 1 1) ∷ cert
      (finalization 2) ∷ construct ∷ forward 3 ∷ forward 3 ∷ cert (notarization 3) ∷ [])
      ≡ leads ∷ added (notarize 0 1) ∷ added (notarize 1 1) ∷ CertificateAnswer false ∷ no_batch ∷
      ForwardAnswer (Some (p 2)) ∷ ForwardAnswer None ∷ CertificateAnswer false ∷ []
  -- A leader named late selects what it voted for.
  pub leader_named_late :
      answers (four Retaining) (net 1 (notarize 1 1) ∷ net 2 (notarize 2 1) ∷ net 3 (notarize 3 1) ∷
      construct ∷ lead 1 ∷ construct ∷ net 0 (notarize 0 1) ∷ [])
      ≡ added (notarize 1 1) ∷ added (notarize 2 1) ∷ added (notarize 3 1) ∷ no_batch ∷ leads ∷
      batch 3 [] (Some (notarization 1)) false ∷ added (notarize 0 1) ∷ []
  -- An own finalize fixes its proposal: its own vote is verified, and those that are restored are
  -- pending.
  pub own_finalize :
      answers (four Retaining) (lead 0 ∷ net 0 (notarize 0 1) ∷ net 1 (finalize 1 2) ∷ net 2
      (finalize 2 2) ∷ own (finalize 3 2) ∷ construct ∷ [])
      ≡ leads ∷ added (notarize 0 1) ∷ added (finalize 1 2) ∷ added (finalize 2 2) ∷ own_added
      (finalize 3 2) ∷ batch 2 [] (Some (finalization 2)) false ∷ []
  pub own_finalize_eligible : lengths (four Retaining)
      (lead 0 ∷ net 0 (notarize 0 1) ∷ net 1 (finalize 1 2) ∷ net 2 (finalize 2 2) ∷ own
      (finalize 3 2) ∷ []) Finalization ≡ (2, 1)
  -- A released nullify is known to have been seen, and no more.
  pub nullified :
      answers (four Releasing) (net 1 (nullify 1) ∷ net 2 (nullify 2) ∷ net 3 (nullify 3) ∷
      construct ∷ net 1 (bad_nullify 1) ∷ net 1 (finalize 1 1) ∷ net 0 (nullify 0) ∷ [])
      ≡ added (nullify 1) ∷ added (nullify 2) ∷ added (nullify 3) ∷ batch 3 [] (Some nullification)
      false ∷ refused ∷ blocked FinalizeAfterNullify ∷ added (nullify 0) ∷ []
  -- A skipped round selects by an own finalize, though it is a duplicate.
  pub skipped :
      answers (four Skipped) (net 1 (finalize 1 1) ∷ own (finalize 1 1) ∷ missing 9 ∷ forward 2 ∷
      forward 2 ∷ construct ∷ [])
      ≡ added (finalize 1 1) ∷ own_duplicate ∷ MissingAnswer (map participant (0 ∷ 2 ∷ 3 ∷ [])) ∷
      ForwardAnswer (Some (p 1)) ∷ ForwardAnswer None ∷ no_batch ∷ []
  -- A bad vote is verified once, and the good ones are used again.
  pub whole :
      answers (four Retaining) whole_round
      ≡ leads ∷ added (notarize 0 1) ∷ added (notarize 1 1) ∷ added (bad_notarize 2 1) ∷ added
      (nullify 1) ∷ added (nullify 2) ∷ added (nullify 3) ∷ added (finalize 0 1)
      ∷ batch 3 (2 ∷ []) None true ∷ batch 3 [] (Some nullification) false ∷ no_batch ∷ no_batch ∷
      added (notarize 3 1) ∷ batch 1 [] (Some (notarization 1)) false ∷ []
  -- Own notarizes that are restored are pending, and are tried like others.
  pub own_notarizes_are_restored :
      answers (four Retaining) own_round
      ≡ leads ∷ own_added (notarize 0 1) ∷ own_added (notarize 1 2) ∷ own_added (notarize 2 2) ∷
      own_added (notarize 3 2) ∷ own_added (finalize 1 2) ∷ batch 3 [] (Some (notarization 2))
      false ∷ []
  -- Own votes keep nullify and finalize apart.
  pub own_votes_apart :
      answers (four Skipped) (own (finalize 2 1) ∷ own (nullify 2) ∷ net 1 (nullify 1) ∷ own
      (finalize 1 1) ∷ [])
      ≡ OwnAnswer (Added false) (Some (report_of (finalize 2 1))) ∷ OwnRefused
      NullifyAfterFinalizeFault ∷ added (nullify 1) ∷ OwnRefused FinalizeAfterNullifyFault ∷ []
  -- Another leader than the first is refused.
  pub second_leader : answers (four Retaining) (lead 0 ∷ lead 0 ∷ lead 1 ∷ [])
      ≡ leads ∷ leads ∷ LeaderAnswer (Err LeaderChanged) ∷ []
  -- A vote that is added, a certificate with which votes are restored, a batch and a list of
  -- participants may need memory; nothing else does.
  pub memory :
      needs (four Retaining) (net 1 (notarize 1 1) ∷ [])
      (net 1 (notarize 1 1) ∷ net 2 (notarize 2 1) ∷ cert (notarization 1) ∷ lead 0 ∷ construct
      ∷ forward 3 ∷ missing 1 ∷ [])
      ≡ false ∷ true ∷ false ∷ false ∷ false ∷ false ∷ true ∷ []
  pub memory_for_restored_votes :
      needs (four Retaining) (lead 0 ∷ net 0 (notarize 0 1) ∷ net 1 (finalize 1 2) ∷ [])
      (cert (notarization 1) ∷ cert (notarization 2) ∷ own (finalize 1 1) ∷ own (finalize 2 1) ∷
      [])
      ≡ false ∷ true ∷ false ∷ true ∷ []
  -- A vote whose kind is released needs none where its signer has voted before.
  pub memory_after_a_release :
      needs (four Releasing) (net 1 (nullify 1) ∷ net 2 (nullify 2) ∷ cert (notarization 1) ∷ [])
      (net 1 (notarize 1 1) ∷ net 3 (notarize 3 1) ∷ net 1 (finalize 1 1) ∷ [])
      ≡ false ∷ true ∷ false ∷ []
  pub memory_for_a_batch : needs (round_of 1 Retaining) (own (notarize 0 1) ∷ []) (construct ∷ [])
      ≡ true ∷ []
  -- Votes that are restored are in the order of their signers, and an own one among the verified.
  pub votes_are_restored_in_order :
      buffers_after (four Retaining) (lead 0 ∷ net 0 (notarize 0 1) ∷ net 2 (finalize 2 2) ∷ net 1
      (finalize 1 2) ∷ []) (holding Finalization (finalize 1 2 ∷ finalize 2 2 ∷ []) [] [])
      (own (finalize 3 2)) Finalization
      ≡ (finalize 1 2 ∷ finalize 2 2 ∷ [], finalize 3 2 ∷ [])
  -- A batch without a certificate leaves none pending, and the good ones verified in the order in
  -- which they were pending.
  pub batch_leaves_the_good_ones :
      buffers_after (four Retaining) (net 2 (nullify 2) ∷ net 1 (bad_nullify 1) ∷ net 0 (nullify 0)
      ∷ []) (holding Nullification [] (nullify 2 ∷ bad_nullify 1 ∷ nullify 0 ∷ []) []) construct
      Nullification
      ≡ ([], nullify 2 ∷ nullify 0 ∷ [])
  -- A repeat gives no cause to be blocked, nor does a vote that another one sends in its name: that
  -- one gives cause.
  pub innocent : with_cause (four Retaining)
      (net 1 (notarize 1 1) ∷ net 1 (notarize 1 1) ∷ net 2 (notarize 1 2) ∷ net 0 (finalize 0 1) ∷
      []) ≡ 2 ∷ []
  -- Who contradicts itself gives cause, once with votes of one kind, once with its opposite one,
  -- and once with its own vote.
  pub contradictions_give_cause :
      with_cause (four Releasing)
      (net 1 (notarize 1 1) ∷ net 1 (notarize 1 2) ∷ net 2 (finalize 2 1) ∷ net 2 (nullify 2) ∷ net
      3 (nullify 3) ∷ net 3 (bad_nullify 3) ∷ own (notarize 0 1) ∷ net 0 (bad_notarize 0 1) ∷
      [])
      ≡ 0 ∷ 1 ∷ 2 ∷ 3 ∷ []
  -- Votes for the selected proposal count, the bad ones among them too, but no vote does while
  -- nothing is selected.
  pub counted : counts (four Retaining)
      (lead 0 ∷ net 0 (notarize 0 1) ∷ net 1 (bad_notarize 1 1) ∷ net 2 (notarize 2 2) ∷ [])
      Notarization ≡ (2, 1)
  pub none_counted : counts (four Retaining) (net 0 (notarize 0 1) ∷ net 1 (notarize 1 1) ∷ [])
      Notarization ≡ (0, 0)
  -- It takes three constructions to come to the last kind, and a fourth gives no batch.
  pub third_construction :
      answers (one_by_one Retaining)
      (lead 0 ∷ net 0 (notarize 0 1) ∷ net 0 (nullify 0) ∷ net 1 (finalize 1 1) ∷ net 2
      (finalize 2 1) ∷ net 3 (finalize 3 1) ∷ construct ∷ construct ∷ construct ∷ construct ∷
      [])
      ≡ leads ∷ added (notarize 0 1) ∷ added (nullify 0) ∷ added (finalize 1 1) ∷ added
      (finalize 2 1) ∷ added (finalize 3 1)
      ∷ batch 1 [] None false ∷ batch 1 [] None false ∷ batch 3 [] (Some (finalization 1)) false ∷
      no_batch ∷ []
  -- Each vote is processed once at most, and an own notarize once it was restored.
  pub work_of_a_round : work (four Retaining) whole_round ≡ (7, 8, 0)
  pub work_of_own_votes : work (four Retaining) own_round ≡ (3, 0, 3)
  -- The leader's proposal is replaced once, and later evidence changes nothing; one forward call is
  -- answered a proposal.
  pub replaced_and_forwarded_once :
      changes (four Retaining) (lead 0 ∷ net 0 (notarize 0 1) ∷ forward 3 ∷ net 1 (finalize 1 2) ∷
      cert (notarization 2) ∷ cert (finalization 3) ∷ forward 3 ∷ forward 2 ∷ []) ≡ (1, 1)
  -- A vote that a batch found bad is of no more use; those of the others stay so.
  pub usable_after_a_bad_vote :
      usable_and_bad (four Retaining) (lead 0 ∷ net 0 (notarize 0 1) ∷ net 1 (notarize 1 1) ∷ net 2
      (bad_notarize 2 1) ∷ construct ∷ net 3 (notarize 3 1) ∷ []) Notarization
      ≡ (3 ∷ 1 ∷ 0 ∷ [], 2 ∷ [])
  -- Once their kind is released, facts say nothing of a repeat, nor of two votes that are both for
  -- other proposals than the selected one.
  pub facts_tell_nothing :
      telling (four Releasing) (lead 0 ∷ net 0 (notarize 0 1) ∷ cert (notarization 1) ∷ [])
      ((bad_notarize 1 1, notarize 1 1) ∷ (notarize 1 2, notarize 1 1) ∷
      (notarize 1 2, notarize 1 3) ∷ [])
      ≡ true ∷ false ∷ true ∷ []
  -- A bad repeat of a released vote is blocked by the retaining round alone, another vote by both.
  pub blocked_by_one :
      blocking (four Retaining) repeating_round ∷ blocking (four Releasing) repeating_round ∷ []
      ≡ (false ∷ false ∷ false ∷ true ∷ true ∷ []) ∷ (false ∷ false ∷ false ∷ true ∷ false ∷ []) ∷
      []
  -- Both lists of garbage meet what follows by definition, and what holds throughout refuses them.
  pub changed_follows : FollowsByDefinition (four Retaining)
      (history changed_calls changed_answers)
  pub changed_is_refused :
      AtEachEvent (ChangesNoFixed (four Retaining)) (history changed_calls changed_answers) → ⊥
  pub other_forward_is_refused :
      AtEachEvent (ForwardsSelected (four Retaining)) (history changed_calls changed_answers) → ⊥
  pub repeated_follows :
      FollowsByDefinition (four Skipped) (history repeated_calls repeated_answers)
  pub repeated_is_refused :
      AtEachCall (ConflictsWithAnother (four Skipped)) [] repeated_calls repeated_answers → ⊥
  -- Of possible histories too such a block is refused,
  pub repeated_block_is_refused :
      AtEachEvent (ConflictAnswered (four Skipped)) (history repeated_calls repeated_answers) → ⊥
  -- and what was answered as added without being free, or the other way round.
  pub unadded_is_refused :
      HoldsThroughout (four Retaining) ((net 1 (nullify 1), refused) ∷ []) → ⊥
