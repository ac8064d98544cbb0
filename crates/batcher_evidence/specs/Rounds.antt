-- What holds of the reports and certificates of all rounds: of each history that is promised, as is
-- that of a run, and that of each view of a node.
use Rattle.std.specs.Prelude.{◌≡◌, ◌<◌, ◌≤◌, ◌+◌, ◌-◌, ◌/◌, ◌==◌, ◌&&◌, ℕ, zero, suc, Bool, true}
use Rattle.std.specs.Prelude.{cond, List, length, Some, IfSome, IsSomeAnd}
use Rattle.std.specs.List.{list_any}
use Rattle.std.specs.declared.cmp.Ordering.{Ordering}
use Rattle.batcher.specs.positions.Round.{Round}
use Rattle.batcher.specs.messages.Attestation.{Attestation}
use Rattle.batcher.specs.messages.Vote.{Vote}
use Rattle.batcher.specs.messages.Certificate.{Certificate}
use Rattle.batcher.specs.votes.Mode.{Mode}
use Rattle.batcher.specs.answers.Admission.{Admission}
use Rattle.batcher.specs.Quorum.{quorum_of}
use Rattle.batcher.specs.Meaning.{Meaning}
use Rattle.batcher.specs.Config.{Config, config}
use Rattle.batcher.specs.Votes.{signer_of, subject_of, attestation_of}
use Rattle.batcher.specs.History.{History}
use Rattle.batcher.specs.Promises.{AtEachVote, votes_cast}
use Rattle.batcher.specs.Reports.{subjects_contradict, evidence_in}
use Rattle.batcher.specs.Backing.{IsGiven}
use Rattle.batcher.specs.RunContract.{IsPromised}
use Rattle.batcher_evidence.specs.Culprits.{AreCulprits, certificates_contradict, culprits_of}
use Rattle.batcher_evidence.specs.Convictions.{both_attest, convicted_by}

-- how many numbers below n pass the test
abbrev pub count_below : ℕ → (ℕ → Bool) → ℕ
count_below zero test = 0
count_below (suc n) test = cond (test n) 1 0 + count_below n test

module _ {G D : Type 0} (same : D → D → Bool) where
  -- whether a vote of the participant in the first list contradicts one of its in the second
  abbrev pub votes_contradict : List (Vote G D) → List (Vote G D) → ℕ → Bool
  votes_contradict votes others i =
      list_any
      (λ v. (signer_of v == i)
      && list_any
      (λ w. (signer_of w == i) && subjects_contradict same (subject_of v) (subject_of w))
      others)
      votes

module _ {D K G C : Type 0} (m : Meaning D K G C) where
  -- After both histories as many participants have cast votes in the two that contradict each other
  -- as two quorums are more than all, and so more than may be faulty.
  pub record TakesContradicting (same : D → D → Bool) (x y : Config D K G C)
      (past other_past : History D K G C) : Type 0 where
    pub enough :
        quorum_of (length m.participants) + quorum_of (length m.participants)
        ≤ count_below (length m.participants)
        (votes_contradict same (votes_cast x past) (votes_cast y other_past))
        + length m.participants
    pub more_than_faulty :
        (length m.participants - 1) / 3
        < count_below (length m.participants)
        (votes_contradict same (votes_cast x past) (votes_cast y other_past))

  -- A report whose two votes attest convicts the sender of the vote that it is of.
  abbrev pub ConvictsIfAttested :
      (D → D → Bool) → History D K G C → K → Vote G D → Admission G D → Type 0
  ConvictsIfAttested same past sender vote admission =
      IfSome admission.report (λ report. IfSome (evidence_in report) (λ pair.
      both_attest m pair.0 pair.1 ≡ true
      → convicted_by m same report ≡ Some (attestation_of vote).signer))

  module _
      (compare_keys : K → K → Ordering) (same_signature : G → G → Bool) (same_digest : D → D → Bool)
    where
      -- a round of the scheme
      abbrev pub config_with : Round → Mode → Config D K G C
      config_with number mode = config m compare_keys same_signature same_digest number mode

      abbrev pub ReportsConvict : Type 0
      ReportsConvict =
          (number : Round) (mode : Mode) (past : History D K G C)
          → IsPromised (config_with number mode) past
          → AtEachVote (ConvictsIfAttested same_digest) past

      -- Histories of two rounds of one scheme, whoever holds the rounds, of any numbers, whatever
      -- was called and in what modes: where certificates that they gave contradict each other,
      -- there are culprits.
      abbrev pub AreAccountable : (C → List (Attestation G)) → Type 0
      AreAccountable shown =
          (number other : Round) (mode other_mode : Mode) (past other_past : History D K G C)
          → IsPromised (config_with number mode) past
          → IsPromised (config_with other other_mode) other_past
          → (a b : Certificate C D)
          → IsGiven past a → IsGiven other_past b
          → certificates_contradict same_digest a b ≡ true
          → IsSomeAnd (culprits_of m shown same_digest a b) (AreCulprits m shown a b)

      -- Histories of two rounds of one scheme and one number, whoever holds the rounds, whatever
      -- was called and in what modes: certificates that they gave contradict each other only where
      -- more participants than may be faulty cast votes that do.
      abbrev pub TakeContradictingVotes : Type 0
      TakeContradictingVotes =
          (number : Round) (mode other_mode : Mode) (past other_past : History D K G C)
          → 1 ≤ length m.participants
          → IsPromised (config_with number mode) past
          → IsPromised (config_with number other_mode) other_past
          → (a b : Certificate C D)
          → IsGiven past a → IsGiven other_past b
          → certificates_contradict same_digest a b ≡ true
          → TakesContradicting same_digest
          (config_with number mode) (config_with number other_mode)
          past other_past
