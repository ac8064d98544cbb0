-- What is behind the certificates that constructions give.
use Rattle.batcher_histories.proofs.Words.{◌≡◌, ◌≤◌, ◌<◌, ◌+◌, ◌==◌, ℕ, Bool, true, not, nat_lt, nat_le, ◌&&◌, ◌||◌, List, [], ◌∷◌, ◌++◌, length, length-append}
use Rattle.batcher_histories.proofs.Words.{Option, Some, None, refl, ap, sym, ◌∙◌, subst, arith, ⊎_elim, filter, is_some, position, IfSome, option_map, is_eq}
use Rattle.batcher_histories.proofs.Words.{list_all, and_parts, or_cases, cond_both, leb-true, lt-ltb, eqb-true, true≢false, false≢true, same_Some}
use Rattle.batcher_histories.proofs.Words.{position-Some, AllPass-from_list_all, list_all-from_AllPass, Participant, Subject, Vote, NotarizeVote, NullifyVote}
use Rattle.batcher_histories.proofs.Words.{FinalizeVote, Kind, Certificate, NotarizationCertificate, NullificationCertificate, FinalizationCertificate, Batch}
use Rattle.batcher_histories.proofs.Words.{Call, NetworkCall, OwnCall, CertificateCall, LeaderCall, ConstructCall, ForwardCall, MissingCall, participant}
use Rattle.batcher_histories.proofs.Words.{Config, participants_in, quorum_in, sender_in, count, ElementsWithin, signer_of, attestation_of, subject_of}
use Rattle.batcher_histories.proofs.Words.{kind_certified, subject_certified, same_subject, is_of_kind, is_eligible, count-append, count-filter_le, once_fewer}
use Rattle.batcher_histories.proofs.Words.{length_same, all_count, count_split, all_counted, all_counted_both, count-filter, same_subject-true, MayCall}
use Rattle.batcher_histories.proofs.Words.{is_skipped, Event, History, batch_given, certificate_given, cast_votes, names_sender, first_votes, is_free}
use Rattle.batcher_histories.proofs.Words.{is_certified, selected_proposal, certificate_of, is_valid, proven_votes, fresh_votes, ready_kind, AttemptAfter}
use Rattle.batcher_histories.proofs.Words.{votes_checked, certifies_subject, IsPossible, usable_votes, votes_behind, IsBacked, fewer_left}
use Rattle.batcher_types.specs.Keys.{index_of}
use Rattle.batcher_histories.proofs.History.Laws.{HasLaws}
use Rattle.batcher_histories.proofs.History.Distinct.{where_holds}
use Rattle.batcher_histories.proofs.Memory.Spared.{counted}
use Rattle.batcher_histories.proofs.History.Attempts.{batch_made, witnessed, reached_by}
use Rattle.batcher_histories.proofs.Headline.Work.{count_implied}
use Rattle.batcher_histories.proofs.Headline.Attesting.{usable_within, usable_once, proven_attest}
use Rattle.batcher_histories.proofs.AnswerFacts.Told.{batch_with}

-- WHO CASTS TAKES PART
index_below : (n : ℕ) (o : Option ℕ) (i : Participant)
    → ((k : ℕ) → o ≡ Some k → k < n) → option_map participant o ≡ Some i → i.0 < n
index_below n None i below h = absurd (cc)
index_below n (Some k) i below h =
    omega (arith, below k refl, ap (λ (p : Participant). p.0) (same_Some (participant k) i h))

module _ {D K G C : Type 0} (x : Config D K G C) where
  sender_takes_part : (sender : K) (i : Participant)
      → sender_in x sender ≡ Some i → i.0 < participants_in x
  unfolding index_of
  sender_takes_part sender i =
      index_below (participants_in x) (position (λ y. is_eq (x.compare_keys y sender)) x.meaning.participants) i
      (λ k is. (position-Some (λ y. is_eq (x.compare_keys y sender)) x.meaning.participants k sender is).0)

  -- whether the signer of a vote is no participant
  abbrev pub is_outside : Vote G D → Bool
  is_outside v = not (nat_lt (signer_of v) (participants_in x))

  takes_part : (v : Vote G D) → signer_of v < participants_in x → count is_outside (v ∷ []) ≡ 0
  takes_part v below = rw (lt-ltb (signer_of v) (participants_in x) below) refl

  casts_take_part : HasLaws x → (call : Call K G C D) → MayCall x.meaning x.number call
      → count is_outside (cast_votes x call) ≡ 0
  casts_take_part laws (NetworkCall sender vote) may =
      cond_both (names_sender x sender vote) (vote ∷ []) [] (λ votes. count is_outside (votes ++ []) ≡ 0)
      (λ names.
      let i = where_holds (λ (i : Participant). i.0 == signer_of vote) (sender_in x sender) names in
      takes_part vote (omega (arith, sender_takes_part sender i.0 i.1, eqb-true _ _ i.2)))
      (λ other. refl)
  casts_take_part laws (OwnCall vote) may =
      takes_part vote (laws.scheme.signers_in_range (subject_of vote) (attestation_of vote) may.1)
  casts_take_part laws (CertificateCall c) may = refl
  casts_take_part laws (LeaderCall i) may = refl
  casts_take_part laws ConstructCall may = refl
  casts_take_part laws (ForwardCall i) may = refl
  casts_take_part laws (MissingCall p) may = refl

  -- Each first vote is of a participant.
  pub firsts_take_part : HasLaws x → (past : History D K G C) → IsPossible x past
      → count is_outside (first_votes x past) ≡ 0
  firsts_take_part laws [] possible = refl
  firsts_take_part laws (event ∷ past) possible =
      let new = filter (is_free (first_votes x past)) (cast_votes x event.0) in
      omega (
        arith,
        count-append is_outside new (first_votes x past),
        firsts_take_part laws past possible.1.1.1,
        count-filter_le is_outside (is_free (first_votes x past)) (cast_votes x event.0),
        casts_take_part laws event.0 possible.0,
      )

  -- USABLE VOTES ARE FIRST VOTES
  pub usable_are_first : (past : History D K G C) (kind : Kind)
      → ElementsWithin (usable_votes x past kind) (first_votes x past)
  usable_are_first past kind test =
      omega (
        arith,
        usable_within x past kind test,
        fewer_left test (is_eligible x.same_digest (selected_proposal x past)) (is_certified past kind || is_skipped x.mode)
            (filter (is_of_kind kind) (first_votes x past)),
        count-filter_le test (is_of_kind kind) (first_votes x past),
      )

-- WHAT IS KNOWN OF A CERTIFICATE THAT IS GIVEN
module _ {D K G C : Type 0} (x : Config D K G C)
    (past : History D K G C) (event : Event D K G C) where
  -- A construction gave it, in a batch of its kind.
  pub record Gave (c : Certificate C D) : Type 0 where
    pub batch : Batch (Certificate C D)
    pub gives : batch.certificate ≡ Some c
    pub constructs : event.0 ≡ ConstructCall
    pub certificate : certificate_of event ≡ Some c
    pub ready : ready_kind x past ≡ Some (kind_certified c)
    pub after : AttemptAfter x past (kind_certified c) batch

  pub gave_in : HasLaws x → IsPossible x (event ∷ past)
      → (batch : Batch (Certificate C D)) → batch_given event.1 ≡ Some batch
      → (c : Certificate C D) → batch.certificate ≡ Some c
      → (ready_kind x past ≡ Some (kind_certified c)) × AttemptAfter x past (kind_certified c) batch
  gave_in laws possible batch made c gives =
      let m = batch_made x past event.0 event.1 batch possible.1.1.0 made in
      let of_kind =
      (witnessed x laws past m.kind m.after.verified m.after.pending batch c m.after.attempt
      m.after.verified_are m.after.pending_are gives).certified_kind in
      (m.ready ∙ ap Some (sym of_kind), subst (λ k. AttemptAfter x past k batch) (sym of_kind) m.after)

  pub gave : HasLaws x → IsPossible x (event ∷ past)
      → (c : Certificate C D) → certificate_given event.1 ≡ Some c → Gave c
  gave laws possible c given =
      let b = batch_with event.1 c given in
      let made = batch_made x past event.0 event.1 b.0 possible.1.1.0 b.1 in
      let so = gave_in laws possible b.0 b.1 c b.2 in
      record {
        batch = b.0;
        gives = b.2;
        constructs = made.constructs;
        certificate = made.certificate ∙ b.2;
        ready = so.0;
        after = so.1;
      }

-- WHAT IS BEHIND IT
-- a batch takes pending votes alone
pub checked_within : {V : Type 0} (q : ℕ) (verified pending : List V)
    → ElementsWithin (votes_checked q verified pending) pending
checked_within q verified pending test =
    cond_both (nat_le q (length verified)) [] pending (λ votes. count test votes ≤ count test pending)
    (λ full. omega arith) (λ part. omega arith)

behind_is_of_kind : {G C D : Type 0} (same : D → D → Bool) (c : Certificate C D) (v : Vote G D)
    → same_subject same (subject_certified c) (subject_of v) ≡ true
    → is_of_kind (kind_certified c) v ≡ true
behind_is_of_kind same (NotarizationCertificate c) (NotarizeVote v) h = refl
behind_is_of_kind same (NullificationCertificate c) (NullifyVote v) h = refl
behind_is_of_kind same (FinalizationCertificate c) (FinalizeVote v) h = refl
behind_is_of_kind same c v h = absurd (false≢true h)

module _ {D K G C : Type 0} (x : Config D K G C) (laws : HasLaws x)
    (past : History D K G C) (possible : IsPossible x past)
    (batch : Batch (Certificate C D)) (c : Certificate C D) (given : batch.certificate ≡ Some c)
    (after : AttemptAfter x past (kind_certified c) batch) where
  -- the pending votes that the batch took, all that it looked at, and the usable ones of its kind
  abbrev checked : List (Vote G D)
  checked = votes_checked (quorum_in x) after.verified after.pending

  abbrev looked : List (Vote G D)
  looked = after.verified ++ checked

  abbrev usable : List (Vote G D)
  usable = usable_votes x past (kind_certified c)

  -- whether a vote is for what is certified
  abbrev is_behind : Vote G D → Bool
  is_behind v = same_subject x.same_digest (subject_certified c) (subject_of v)

  looked_usable : ElementsWithin looked usable
  looked_usable test =
      omega (
        arith,
        count-append test after.verified checked,
        after.verified_are test,
        after.pending_are test,
        checked_within (quorum_in x) after.verified after.pending test,
        count-append test (fresh_votes x past (kind_certified c)) (proven_votes x past (kind_certified c)),
      )

  all_behind : list_all is_behind looked ≡ true
  all_behind =
      subst (λ (s : Subject D). list_all (λ v. same_subject x.same_digest s (subject_of v)) looked ≡ true)
      (same_subject-true x.same_digest laws.digests_equal after.attempt.subject (subject_certified c) (and_parts _ _ certifies).0)
      after.attempt.one_subject
    where
      certifies : certifies_subject x after.attempt.subject c ≡ true
      certifies =
          subst (λ (o : Option (Certificate C D)). IfSome o (λ d. certifies_subject x after.attempt.subject d ≡ true))
          given after.attempt.certified

  reached : quorum_in x ≤ length after.verified + length checked
  reached = reached_by x after.verified after.pending batch after.attempt (ap is_some given)

  -- A quorum of usable votes is for it;
  behind_enough : quorum_in x ≤ count is_behind usable
  behind_enough =
      omega (
        arith,
        reached,
        length-append after.verified checked,
        all_counted is_behind looked all_behind,
        looked_usable is_behind,
      )

  -- so the usable votes of its kind are a quorum, and its first votes are.
  pub usable_enough :
      quorum_in x
      ≤ length (proven_votes x past (kind_certified c)) + length
      (fresh_votes x past (kind_certified c))
  usable_enough =
      omega (
        arith,
        behind_enough,
        count_split is_behind usable,
        length-append (fresh_votes x past (kind_certified c)) (proven_votes x past (kind_certified c)),
      )

  pub kind_enough : quorum_in x ≤ count (is_of_kind (kind_certified c)) (first_votes x past)
  kind_enough =
      omega (
        arith,
        behind_enough,
        usable_are_first x past (kind_certified c) (is_of_kind (kind_certified c)),
        count_implied is_behind (is_of_kind (kind_certified c)) usable (behind_is_of_kind x.same_digest c),
      )

  -- A quorum of those that the batch looked at attests, where it took none pending or fell back.
  looked_valid : count (is_valid x) looked ≡ length after.verified + count (is_valid x) checked
  looked_valid =
      count-append (is_valid x) after.verified checked
      ∙ ap (λ n. n + count (is_valid x) checked)
      (after.verified_are (is_valid x)
      ∙ (all_counted (is_valid x) (proven_votes x past (kind_certified c)) proven_valid
      ∙ sym (length_same after.verified (proven_votes x past (kind_certified c)) after.verified_are)))
    where
      proven_valid : list_all (is_valid x) (proven_votes x past (kind_certified c)) ≡ true
      proven_valid =
          list_all-from_AllPass (is_valid x) (proven_votes x past (kind_certified c))
          (proven_attest x laws past possible (kind_certified c))

  none_taken : (batch.processed == 0) ≡ true → quorum_in x ≤ count (is_valid x) looked
  none_taken none =
      let no : length checked ≡ 0 = sym after.attempt.processed ∙ eqb-true batch.processed 0 none in
      omega (arith, no, looked_valid, reached)

  fell_back : batch.fallback ≡ true → quorum_in x ≤ count (is_valid x) looked
  fell_back fell =
      ⊎_elim
      (λ at_once. absurd (true≢false (sym fell ∙ at_once.fallback)))
      (⊎_elim
      (λ back.
      omega (
        arith,
        looked_valid,
        counted (is_valid x) checked,
        length-append after.verified (filter (is_valid x) checked),
        leb-true _ _ (sym back.certificate ∙ ap is_some given),
      ))
      (λ only. absurd (true≢false (sym (ap is_some given) ∙ only.certificate))))
      after.attempt.way

  -- They are usable votes for it.
  attest_enough : quorum_in x ≤ count (is_valid x) looked
      → quorum_in x ≤ length (filter (is_valid x) (votes_behind x past c))
  attest_enough valid =
      omega (
        arith,
        valid,
        counted (is_valid x) (filter is_behind usable),
        count-filter (is_valid x) is_behind usable,
        looked_usable (λ v. is_behind v && is_valid x v),
        all_counted_both is_behind (is_valid x) looked all_behind,
      )

  behind_first : ElementsWithin (votes_behind x past c) (first_votes x past)
  behind_first test =
      omega (arith, count-filter_le test is_behind usable, usable_are_first x past (kind_certified c) test)

  pub backed_here : IsBacked x past batch c
  backed_here =
      record {
        enough = omega (arith, behind_enough, counted is_behind usable);
        first = behind_first;
        once =
            once_fewer signer_of usable (votes_behind x past c) (λ test. count-filter_le test is_behind usable)
            (usable_once x past (kind_certified c));
        participants =
            AllPass-from_list_all (λ v. nat_lt (signer_of v) (participants_in x)) (votes_behind x past c)
            (all_count (λ v. nat_lt (signer_of v) (participants_in x)) (votes_behind x past c)
            (omega (arith, behind_first (is_outside x), firsts_take_part x laws past possible)));
        attested = λ each. attest_enough (⊎_elim fell_back none_taken (or_cases batch.fallback (batch.processed == 0) each));
      }
