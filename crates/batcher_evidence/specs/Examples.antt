-- A fork of four participants that exactly two of them made, and what is near to one.
use Rattle.std.specs.Prelude.{◌≡◌, ◌+◌, ◌&&◌, ◌==◌, ℕ, Bool, true, false, nat_lt, nat_le, List, []}
use Rattle.std.specs.Prelude.{◌∷◌, length, Option, Some, None}
use Rattle.std.specs.List.{list_all, list_any, range_with_len}
use Rattle.batcher.specs.messages.Attestation.{Attestation}
use Rattle.batcher.specs.messages.Certificate.{Certificate}
use Rattle.batcher.specs.messages.Proposal.{Proposal}
use Rattle.batcher.specs.messages.Certificate.TheVariants.{Notarization as NotarizationCertificate}
use Rattle.batcher.specs.messages.Certificate.TheVariants.{Nullification as NullificationCertificate}
use Rattle.batcher.specs.messages.Certificate.TheVariants.{Finalization as FinalizationCertificate}
use Rattle.batcher.specs.messages.Activity.{Activity}
use Rattle.batcher.specs.messages.Activity.TheVariants.{ConflictingNotarize as ReportConflictingNotarize}
use Rattle.batcher.specs.messages.Activity.TheVariants.{Notarize as ReportNotarize}
use Rattle.batcher.specs.votes.Mode.TheVariants.{Retaining, Releasing}
use Rattle.batcher.specs.Quorum.{quorum_of}
use Rattle.batcher.specs.Keys.{participant}
use Rattle.batcher.specs.Ascending.{is_ascending}
use Rattle.batcher.specs.Attestations.{index_of_signer}
use Rattle.batcher.specs.Meaning.{Meaning}
use Rattle.batcher.specs.Promises.{votes_cast}
use Rattle.batcher.specs.Backing.{IsGiven}
use Rattle.batcher.specs.Examples.Answers.{TinyCall, the_round, p, four, signed, notarize}
use Rattle.batcher.specs.Examples.Answers.{notarization, net, lead, construct, played}
use Rattle.batcher_evidence.specs.declared.certificates.Culprit.{Culprit}
use Rattle.batcher_evidence.specs.Culprits.{certificates_contradict, culprits_of}
use Rattle.batcher_evidence.specs.Convictions.{convicted_by}
use Rattle.batcher_evidence.specs.Forks.{IsFork, certify_and_contradict}
use Rattle.batcher_evidence.specs.Rounds.{count_below, votes_contradict}

abbrev pub TinyList : Type 0
TinyList = List (Attestation ℕ)

abbrev pub TinyCertificate : Type 0
TinyCertificate = Certificate TinyList ℕ

abbrev pub same : ℕ → ℕ → Bool
same a b = a == b

-- The signature 0 is good.
abbrev pub has_good_signature : Attestation ℕ → Bool
has_good_signature a = nat_lt a.signer.0 4 && (a.signature == 0)

-- A scheme of four whose certificates list their attestations.
abbrev pub listed : Meaning ℕ ℕ ℕ TinyList
listed =
    record {
      participants = range_with_len 0 4;
      batchable = true;
      attests = λ subject a. has_good_signature a;
      certifies = λ subject c.
          nat_le 3 (length c) && (is_ascending index_of_signer c && list_all has_good_signature c);
      left_by_verifying = λ subject pending stream. stream;
      assembled_at_once = λ subject pending verified stream. (None, stream);
      assembled = λ subject prior fresh. fresh;
    }

-- certificates, by who signed them
abbrev pub notarized : ℕ → TinyList → TinyCertificate
notarized v c = NotarizationCertificate (record { proposal = p v; certificate = c })

abbrev pub nullified : TinyList → TinyCertificate
nullified c = NullificationCertificate (record { round = the_round; certificate = c })

abbrev pub finalization_with : ℕ → TinyList → TinyCertificate
finalization_with v c = FinalizationCertificate (record { proposal = p v; certificate = c })

abbrev pub first_three : TinyList
first_three = signed 0 0 ∷ signed 1 0 ∷ signed 2 0 ∷ []

abbrev pub last_three : TinyList
last_three = signed 1 0 ∷ signed 2 0 ∷ signed 3 0 ∷ []

abbrev pub two : TinyList
two = signed 1 0 ∷ signed 2 0 ∷ []

abbrev pub both : ℕ → Culprit ℕ
both i = record { first = signed i 0; second = signed i 0 }

abbrev pub found : TinyCertificate → TinyCertificate → Option (List (Culprit ℕ))
found a b = culprits_of listed (λ c. c) same a b

-- A fork over views: 1 is final in its view, and the next one has a proposal on the start.
abbrev pub next : Proposal ℕ
next =
    record {
      round = record { epoch = record { 0 = 0 }; view = record { 0 = 2 } };
      parent = record { 0 = 0 };
      payload = 2;
    }

abbrev pub next_notarized : TinyCertificate
next_notarized = NotarizationCertificate (record { proposal = next; certificate = last_three })

abbrev pub in_part : List TinyCertificate
in_part = finalization_with 1 first_three ∷ notarized 1 first_three ∷ next_notarized ∷ []

abbrev pub in_full : List TinyCertificate
in_full = nullified last_three ∷ in_part

abbrev pub has_contradiction : List TinyCertificate → Bool
has_contradiction all = list_any (λ a. list_any (certify_and_contradict listed same a) all) all

-- a report of two notarizes of 1, of which the second has the signature
abbrev pub conflict : ℕ → Activity ℕ ℕ
conflict signature =
    ReportConflictingNotarize
    (record { proposal = p 1; attestation = signed 1 0 })
    (record { proposal = p 2; attestation = signed 1 signature })

-- Two nodes: 0, 1 and 2 vote in the first, and 1, 2 and 3 in the second.
abbrev pub first_node : List TinyCall
first_node =
    lead 1 ∷ net 1 (notarize 1 1) ∷ net 0 (notarize 0 1) ∷ net 2 (notarize 2 1) ∷ construct ∷ []

abbrev pub second_node : List TinyCall
second_node =
    lead 1 ∷ net 1 (notarize 1 2) ∷ net 2 (notarize 2 2) ∷ net 3 (notarize 3 2) ∷ construct ∷ []

-- What the definitions come to.
pub record EvidenceExamples : Type 0 where
  -- Two quorums of four are by two more than all, and these two certificates show just two
  -- culprits.
  pub two_more : quorum_of 4 + quorum_of 4 ≡ 2 + 4
  pub two_culprits :
      found (notarized 1 first_three) (notarized 2 last_three) ≡ Some (both 1 ∷ both 2 ∷ [])
  pub of_one_list :
      found (notarized 1 first_three) (notarized 2 first_three)
      ≡ Some (both 0 ∷ both 1 ∷ both 2 ∷ [])
  pub nullify_and_finalize :
      found (nullified first_three) (finalization_with 1 last_three) ≡ Some (both 1 ∷ both 2 ∷ [])
  -- One proposal is no contradiction, nor is a notarization of one and a finalization of another.
  pub of_one_proposal : found (notarized 1 first_three) (notarized 1 last_three) ≡ None
  pub notarize_and_finalize : found (notarized 1 first_three) (finalization_with 2 last_three)
      ≡ None
  pub notarize_and_nullify : found (notarized 1 first_three) (nullified last_three) ≡ None
  -- One of them doesn't certify.
  pub below_the_quorum : found (notarized 1 two) (notarized 2 last_three) ≡ None
  -- A chain that is shown in full shows two certificates that contradict each other. One without
  -- the nullification of the view that it passes over shows none.
  pub fork : IsFork listed in_full (p 1) (next ∷ [])
  pub shown_in_full : has_contradiction in_full ≡ true
  pub shown_in_part : has_contradiction in_part ≡ false
  -- Two good votes convict their signer; a bad one doesn't, nor does a report of one vote.
  pub both_good : convicted_by listed same (conflict 0) ≡ Some (participant 1)
  pub second_bad : convicted_by listed same (conflict 1) ≡ None
  pub one_vote :
      convicted_by listed same (ReportNotarize
      (record { proposal = p 1; attestation = signed 1 0 }))
      ≡ None
  -- Two nodes in different modes give certificates that contradict each other, and just two
  -- participants voted in both.
  pub first_gives : IsGiven (played (four Retaining) first_node) (notarization 1)
  pub second_gives : IsGiven (played (four Releasing) second_node) (notarization 2)
  pub given_contradict :
      certificates_contradict same (notarization 1) (notarization 2) ≡ true
  pub two_voted_both :
      count_below 4
      (votes_contradict same
      (votes_cast (four Retaining) (played (four Retaining) first_node))
      (votes_cast (four Releasing) (played (four Releasing) second_node)))
      ≡ 2
