-- What is reported: each vote that is added, and with each vote the kept one that is contrary to
-- it.
use Rattle.batcher_histories.proofs.Words.{◌≡◌, ◌==◌, Bool, true, false, not, cond, ◌&&◌, ◌||◌, List, [], ◌∷◌, ◌++◌, Option, Some, None, refl, ap, sym, ◌∙◌}
use Rattle.batcher_histories.proofs.Words.{⊎_elim, subst, filter, is_some, IfSome, option_and_then, list_any, cases_Bool, cond_both, and_parts, and_from}
use Rattle.batcher_histories.proofs.Words.{and_right, or_left, or_right, or_cases, false_from_ne_true, eqb-true, true≢false, false≢true, list_any-append, Round}
use Rattle.batcher_histories.proofs.Words.{Participant, Vote, NotarizeVote, NullifyVote, FinalizeVote, Kind, Notarization, Nullification, Finalization}
use Rattle.batcher_histories.proofs.Words.{Activity, Admission, BlockReason, Outcome, Added, Duplicate, Conflicting, Call, NetworkCall, OwnCall}
use Rattle.batcher_histories.proofs.Words.{CertificateCall, LeaderCall, ConstructCall, ForwardCall, MissingCall, NetworkAnswer, OwnAnswer, Config, sender_in}
use Rattle.batcher_histories.proofs.Words.{is_kind, kind_of, signer_of, subject_of, round_in, same_round, same_proposal, are_opposite, is_vote_of, opposes}
use Rattle.batcher_histories.proofs.Words.{any_filter, any_found, same_round-true, same_round-refl, is_kind-true, is_released_in, same_vote, report_of}
use Rattle.batcher_histories.proofs.Words.{addition, refusal, block_for, mismatch_reason, conflict_reason, admission_after, admission_after_facts}
use Rattle.batcher_histories.proofs.Words.{admission_beside, is_added, report_by, MayCall, Event, History, names_sender, cast_votes, first_votes, first_like}
use Rattle.batcher_histories.proofs.Words.{opposite_vote, is_free, is_certified, is_released, conflicts, IsPossible, network_answer, AtEachVote, votes_cast}
use Rattle.batcher_histories.proofs.Words.{carry_different, subjects_contradict, vote_in, evidence_in, ordered_pair, are_contrary, kept_votes, contrary_vote}
use Rattle.batcher_histories.proofs.Words.{contrary_pair, IsAmong, AreContrary, ReportsAdded, ReportsEvidence, ReportsEachContrary, ReportsContrary}
use Rattle.batcher_histories.proofs.Words.{ReportsTruly}
use Rattle.std.specs.Prelude.{option_map}
use Rattle.batcher_histories.proofs.History.Distinct.{found_is_of, firsts_apart}
use Rattle.batcher_histories.proofs.Blocks.Blocked.{named_answer, answer_by_name}
use Rattle.batcher_histories.proofs.Blocks.Contrary.{opposed_parts, found_at, unopposed_only, if_contrary, contrary_of_kind, contrary_is}
use Rattle.batcher_histories.proofs.Headline.Promises.{first_is_cast, at_each_event, at_each_allowed, at_each_vote}
use Rattle.batcher_histories.proofs.Correctness.Kept.{found_passes}
use Rattle.batcher_histories.proofs.History.ByFirst.{admission_against, admission_by_first, admission_sent_by, network_is}

-- THE SORTS OF ANSWERS
module _ {D K G C : Type 0} (x : Config D K G C) (P : Admission G D → Type 0) (refused : P refusal)
    (blocked : (reason : BlockReason) (report : Option (Activity G D)) →
    option_and_then vote_in report ≡ None → P (block_for reason report)) where
  unless_equal : (same : Bool) (reason : BlockReason) →
      P (cond same refusal (block_for reason None))
  unless_equal true reason = refused
  unless_equal false reason = blocked reason None refl

  unless_alike : (alike same : Bool) (reason other : BlockReason) (report : Option (Activity G D)) →
      option_and_then vote_in report ≡ None →
      P (cond alike (cond same refusal (block_for other None)) (block_for reason report))
  unless_alike true same reason other report alone = unless_equal same other
  unless_alike false same reason other report alone = blocked reason report alone

  sort_beside : (kept vote : Vote G D) →
      P (admission_beside x.same_digest x.same_signature kept vote)
  sort_beside (NotarizeVote a) (NotarizeVote b) = unless_alike (same_proposal x.same_digest a.proposal b.proposal) _ _ _ _ refl
  sort_beside (FinalizeVote a) (FinalizeVote b) = unless_alike (same_proposal x.same_digest a.proposal b.proposal) _ _ _ _ refl
  sort_beside (NullifyVote a) (NullifyVote b) = unless_equal (same_vote x.same_digest x.same_signature (NullifyVote a) (NullifyVote b)) _
  sort_beside kept vote = refused

  sort_after : (earlier vote : Vote G D) → P (admission_after earlier vote)
  sort_after (FinalizeVote earlier) (NullifyVote vote) = blocked _ _ refl
  sort_after (NullifyVote earlier) (FinalizeVote vote) = blocked _ _ refl
  sort_after earlier vote = refused

  sort_after_facts : (vote : Vote G D) → P (admission_after_facts vote)
  sort_after_facts (NotarizeVote vote) = refused
  sort_after_facts (NullifyVote vote) = blocked _ None refl
  sort_after_facts (FinalizeVote vote) = blocked _ None refl

  module _ (past : History D K G C) (vote : Vote G D) (added : P (addition vote)) where
    sort_by_first : (first : Option (Vote G D)) (released conflict : Bool) →
        P (admission_by_first x first released conflict vote)
    sort_by_first None released conflict = added
    sort_by_first (Some kept) false conflict = sort_beside kept vote
    sort_by_first (Some seen) true true = blocked (conflict_reason (kind_of vote)) None refl
    sort_by_first (Some seen) true false = refused

    sort_against : (opposite : Option (Vote G D)) → P (admission_against x past opposite vote)
    sort_against (Some earlier) =
        cond_both (is_released x past (kind_of earlier)) (admission_after_facts vote) (admission_after earlier vote) P
        (λ _. sort_after_facts vote) (λ _. sort_after earlier vote)
    sort_against None =
        sort_by_first (first_like x past vote) (is_released x past (kind_of vote)) (conflicts x past vote)

    -- What holds of an addition, of a refusal and of each block that doesn't report a vote alone,
    -- holds of each answer.
    of_answer : (sender : K) → P (network_answer x past sender vote)
    of_answer sender = subst P (sym (network_is x past vote sender)) (by_index (sender_in x sender))
      where
        by_index : (index : Option Participant) → P (admission_sent_by x past index vote)
        by_index None = blocked _ None refl
        by_index (Some i) =
            cond_both (i.0 == signer_of vote) (named_answer x past vote) (block_for (mismatch_reason (kind_of vote)) None) P
            (λ _. sort_against (opposite_vote x past vote)) (λ _. blocked _ None refl)

-- VOTES ALONE
module _ {G D : Type 0} where
  alone_is : (vote : Vote G D) → vote_in (report_of vote) ≡ Some vote
  alone_is (NotarizeVote vote) = refl
  alone_is (NullifyVote vote) = refl
  alone_is (FinalizeVote vote) = refl

  own_is : (outcome : Outcome) (vote : Vote G D) →
      option_and_then vote_in (report_by outcome vote) ≡ cond (is_added outcome) (Some vote) None
  own_is (Added retained) vote = alone_is vote
  own_is (Duplicate retained) vote = refl
  own_is Conflicting vote = refl

  -- a vote alone is no evidence
  alone_none : (vote : Vote G D) → evidence_in (report_of vote) ≡ None
  alone_none (NotarizeVote vote) = refl
  alone_none (NullifyVote vote) = refl
  alone_none (FinalizeVote vote) = refl

  own_none : (outcome : Outcome) (vote : Vote G D) →
      option_and_then evidence_in (report_by outcome vote) ≡ None
  own_none (Added retained) vote = alone_none vote
  own_none (Duplicate retained) vote = refl
  own_none Conflicting vote = refl

  abbrev evidence : Admission G D → Option (Vote G D × Vote G D)
  evidence admission = option_and_then evidence_in admission.report

module _ {D K G C : Type 0} (x : Config D K G C) where
  -- an answer reports its vote exactly if it adds it
  reports_its_vote : (past : History D K G C) (sender : K) (vote : Vote G D) →
      option_and_then vote_in (network_answer x past sender vote).report
      ≡ cond (network_answer x past sender vote).added (Some vote) None
  reports_its_vote past sender vote =
      of_answer x (λ a. option_and_then vote_in a.report ≡ cond a.added (Some vote) None) refl (λ reason report none. none)
      past vote (alone_is vote) sender

  -- and blocks with evidence
  evidence_blocks : (past : History D K G C) (sender : K) (vote : Vote G D) →
      is_some (evidence (network_answer x past sender vote)) ≡ true →
      is_some (network_answer x past sender vote).block ≡ true
  evidence_blocks past sender vote =
      of_answer x (λ a. is_some (evidence a) ≡ true → is_some a.block ≡ true) (λ h. absurd (false≢true h)) (λ reason report none h. refl)
      past vote (λ h. absurd (false≢true (sym (ap is_some (alone_none vote)) ∙ h))) sender

-- PAIRS OF VOTES
rounds_same : (r s : Round) → r ≡ s → same_round r s ≡ true
rounds_same r s e = subst (λ (t : Round). same_round r t ≡ true) e (same_round-refl r)

-- a pair with a vote of the same kind that is kept, and with one that is released
kept_pair : {X Y : Type 0} (f : X → Y) (v : X) (released opposed alike different : Bool) →
    released ≡ false → opposed ≡ false → alike ≡ true →
    option_map f (cond (not released && (opposed || (alike && different))) (Some v) None)
    ≡ cond different (Some (f v)) None
kept_pair f v false false true true r o a = refl
kept_pair f v false false true false r o a = refl
kept_pair f v true opposed alike different r o a = absurd (true≢false r)
kept_pair f v false true alike different r o a = absurd (true≢false o)
kept_pair f v false false false different r o a = absurd (false≢true a)

released_pair : {X Y : Type 0} (f : X → Y) (v : X) (released contrary : Bool) → released ≡ true →
    option_map f (cond (not released && contrary) (Some v) None) ≡ None
released_pair f v true contrary r = refl
released_pair f v false contrary r = absurd (false≢true r)

alike_unopposed : (a b : Kind) → is_kind a b ≡ true → are_opposite a b ≡ false
alike_unopposed Notarization Notarization k = refl
alike_unopposed Nullification Nullification k = refl
alike_unopposed Finalization Finalization k = refl
alike_unopposed a b k = absurd (false≢true k)

module _ {D K G C : Type 0} (x : Config D K G C) where
  -- WHAT IS REPORTED OF TWO VOTES
  after_facts_none : (vote : Vote G D) → evidence (admission_after_facts vote) ≡ None
  after_facts_none (NotarizeVote vote) = refl
  after_facts_none (NullifyVote vote) = refl
  after_facts_none (FinalizeVote vote) = refl

  evidence_after : (earlier vote : Vote G D) →
      are_opposite (kind_of earlier) (kind_of vote) ≡ true →
      evidence (admission_after earlier vote) ≡ Some (ordered_pair earlier vote)
  evidence_after (NullifyVote earlier) (FinalizeVote vote) o = refl
  evidence_after (FinalizeVote earlier) (NullifyVote vote) o = refl
  evidence_after earlier vote o = absurd (false≢true o)

  unless_alike_is : (alike same : Bool) (reason other : BlockReason) (report : Activity G D) →
      evidence
      (cond alike (cond same refusal (block_for other None)) (block_for reason (Some report)))
      ≡ cond (not alike) (evidence_in report) None
  unless_alike_is true true reason other report = refl
  unless_alike_is true false reason other report = refl
  unless_alike_is false same reason other report = refl

  unless_equal_none : (same : Bool) (reason : BlockReason) →
      evidence {G = G} {D = D} (cond same refusal (block_for reason None)) ≡ None
  unless_equal_none true reason = refl
  unless_equal_none false reason = refl

  evidence_beside : (kept vote : Vote G D) → is_kind (kind_of kept) (kind_of vote) ≡ true →
      evidence (admission_beside x.same_digest x.same_signature kept vote)
      ≡ cond (carry_different x.same_digest kept vote) (Some (ordered_pair kept vote)) None
  evidence_beside (NotarizeVote a) (NotarizeVote b) k = unless_alike_is (same_proposal x.same_digest a.proposal b.proposal) _ _ _ _
  evidence_beside (FinalizeVote a) (FinalizeVote b) k = unless_alike_is (same_proposal x.same_digest a.proposal b.proposal) _ _ _ _
  evidence_beside (NullifyVote a) (NullifyVote b) k =
      unless_equal_none (same_vote x.same_digest x.same_signature (NullifyVote a) (NullifyVote b)) _
  evidence_beside kept vote k = absurd (false≢true k)

-- EVIDENCE WITH A NETWORK VOTE
module _ {D K G C : Type 0} (x : Config D K G C) (past : History D K G C) (vote : Vote G D) where
  abbrev pair_with : Option (Vote G D) → Option (Vote G D × Vote G D)
  pair_with earlier = option_map (λ v. ordered_pair v vote) earlier

  evidence_by_first : (first : Option (Vote G D)) (released conflict : Bool) →
      first_like x past vote ≡ first → is_released x past (kind_of vote) ≡ released →
      evidence (admission_by_first x first released conflict vote)
      ≡ pair_with (if_contrary x past vote first)
  evidence_by_first None released conflict e r = alone_none vote
  evidence_by_first (Some kept) false conflict e r =
      let of = found_is_of (first_votes x past) (kind_of vote) (signer_of vote) kept e in
      let alike = (and_parts _ _ of).0 in
      evidence_beside x kept vote alike
      ∙ sym (kept_pair (λ v. ordered_pair v vote) kept _ _ _ _ (ap (is_released x past) (is_kind-true _ _ alike) ∙ r)
      (and_right (signer_of kept == signer_of vote) _ (alike_unopposed (kind_of kept) (kind_of vote) alike)) of)
  evidence_by_first (Some seen) true conflict e r =
      let alike = (and_parts _ _ (found_is_of (first_votes x past) (kind_of vote) (signer_of vote) seen e)).0 in
      none_by conflict
      ∙ sym (released_pair (λ v. ordered_pair v vote) seen _ _ (ap (is_released x past) (is_kind-true _ _ alike) ∙ r))
    where
      none_by : (b : Bool) → evidence (admission_by_first x (Some seen) true b vote) ≡ None
      none_by true = refl
      none_by false = refl

  evidence_against : (opposite : Option (Vote G D)) → opposite_vote x past vote ≡ opposite →
      evidence (admission_against x past opposite vote) ≡ contrary_pair x past vote
  evidence_against None none =
      evidence_by_first (first_like x past vote) (is_released x past (kind_of vote)) (conflicts x past vote) refl refl
      ∙ ap pair_with (sym (contrary_of_kind x past vote (kind_of vote) (unopposed_only x past vote none)))
  evidence_against (Some earlier) found =
      let opposed : opposes earlier vote ≡ true = found_passes (λ v. opposes v vote) (first_votes x past) earlier found in
      let at = found_at (λ v. opposes v vote) (first_votes x past) earlier (firsts_apart x past) found in
      by_release (opposed_parts earlier vote opposed).1 (is_released x past (kind_of earlier))
      ∙ ap pair_with (sym (contrary_is x past vote earlier at (or_left (opposes earlier vote) _ opposed)))
    where
      by_release : are_opposite (kind_of earlier) (kind_of vote) ≡ true → (released : Bool) →
          evidence (cond released (admission_after_facts vote) (admission_after earlier vote))
          ≡ pair_with (cond (not released) (Some earlier) None)
      by_release opposite true = after_facts_none x vote
      by_release opposite false = evidence_after x earlier vote opposite

  module _ (sender : K) where
    -- Evidence is exact.
    evidence_is : evidence (network_answer x past sender vote)
        ≡ cond (names_sender x sender vote) (contrary_pair x past vote) None
    evidence_is =
        answer_by_name x past vote evidence None (λ reason. refl) sender
        ∙ ap (λ pair. cond (names_sender x sender vote) pair None) (evidence_against (opposite_vote x past vote) refl)

    evidence_named : names_sender x sender vote ≡ true → (earlier : Option (Vote G D)) →
        contrary_vote x past vote ≡ earlier →
        evidence (network_answer x past sender vote) ≡ pair_with earlier
    evidence_named names earlier found =
        evidence_is ∙ (ap (λ b. cond b (contrary_pair x past vote) None) names ∙ ap pair_with found)

    -- A retaining round loses none.
    contraries_reported : ReportsEachContrary x past sender vote (network_answer x past sender vote)
    contraries_reported retains names kind v found contrary =
        evidence_named names (Some v)
        (contrary_is x past vote v (found_at (is_vote_of kind (signer_of vote)) (first_votes x past) v (firsts_apart x past) found) contrary
        ∙ ap (λ mode. cond (not (is_released_in mode (is_certified past (kind_of v)))) (Some v) None) retains)

-- FIRST VOTES ARE OF THE ROUND
module _ {D K G C : Type 0} (x : Config D K G C) where
  abbrev is_elsewhere : Vote G D → Bool
  is_elsewhere v = not (same_round (round_in (subject_of v)) x.number)

  none_elsewhere : (vote : Vote G D) → round_in (subject_of vote) ≡ x.number →
      list_any is_elsewhere (vote ∷ []) ≡ false
  none_elsewhere vote e = rw (rounds_same _ _ e) refl

  casts_here : (call : Call K G C D) → MayCall x.meaning x.number call →
      list_any is_elsewhere (cast_votes x call) ≡ false
  casts_here (NetworkCall sender vote) may =
      ⊎_elim
      (λ names. ap (λ b. list_any is_elsewhere (cond b (vote ∷ []) [] ++ [])) names ∙ none_elsewhere vote may)
      (λ other. ap (λ b. list_any is_elsewhere (cond b (vote ∷ []) [] ++ [])) other)
      (cases_Bool (names_sender x sender vote))
  casts_here (OwnCall vote) may = none_elsewhere vote may.0
  casts_here (CertificateCall c) may = refl
  casts_here (LeaderCall i) may = refl
  casts_here ConstructCall may = refl
  casts_here (ForwardCall i) may = refl
  casts_here (MissingCall p) may = refl

  firsts_here : (past : History D K G C) → IsPossible x past →
      list_any is_elsewhere (first_votes x past) ≡ false
  firsts_here [] possible = refl
  firsts_here (event ∷ past) possible =
      false_from_ne_true _ (λ some.
      ⊎_elim
      (λ now. true≢false (sym (any_filter is_elsewhere (is_free (first_votes x past)) (cast_votes x event.0) now) ∙ casts_here event.0 possible.0))
      (λ before. true≢false (sym before ∙ firsts_here past possible.1.1.1))
      (or_cases _ _ (sym (list_any-append is_elsewhere (filter (is_free (first_votes x past)) (cast_votes x event.0)) (first_votes x past)) ∙ some)))

  first_here : (past : History D K G C) → IsPossible x past → (v : Vote G D) →
      IsAmong v (first_votes x past) → round_in (subject_of v) ≡ x.number
  first_here past possible v among =
      ⊎_elim
      (λ same. same_round-true _ _ same)
      (λ other. absurd (true≢false (sym (among is_elsewhere (ap not other)) ∙ firsts_here past possible)))
      (cases_Bool (same_round (round_in (subject_of v)) x.number))

-- CONTRARY VOTES
module _ {D K G C : Type 0} (x : Config D K G C) where
  abbrev contradict : Vote G D → Vote G D → Bool
  contradict a b = subjects_contradict x.same_digest (subject_of a) (subject_of b)

  abbrev are_of_one_round : Vote G D → Vote G D → Bool
  are_of_one_round a b = same_round (round_in (subject_of a)) (round_in (subject_of b))

  opposites_contradict : (a b : Vote G D) → are_opposite (kind_of a) (kind_of b) ≡ true →
      are_of_one_round a b ≡ true → contradict a b ≡ true
  opposites_contradict (NullifyVote a) (FinalizeVote b) o r = r
  opposites_contradict (FinalizeVote a) (NullifyVote b) o r = r
  opposites_contradict a b o r = absurd (false≢true o)

  different_contradict : (a b : Vote G D) → is_kind (kind_of a) (kind_of b) ≡ true →
      carry_different x.same_digest a b ≡ true → are_of_one_round a b ≡ true →
      contradict a b ≡ true
  different_contradict (NotarizeVote a) (NotarizeVote b) k d r = and_from _ _ r d
  different_contradict (FinalizeVote a) (FinalizeVote b) k d r = and_from _ _ r d
  different_contradict (NullifyVote a) (NullifyVote b) k d r = absurd (false≢true d)
  different_contradict a b k d r = absurd (false≢true k)

  contrary_parts : (a b : Vote G D) → are_contrary x a b ≡ true → are_of_one_round a b ≡ true →
      (signer_of a ≡ signer_of b) × (contradict a b ≡ true)
  contrary_parts a b contrary r =
      ⊎_elim
      (λ opposed.
      let parts = opposed_parts a b opposed in (eqb-true _ _ parts.0, opposites_contradict a b parts.1 r))
      (λ differs.
      let parts = and_parts (is_vote_of (kind_of b) (signer_of b) a) (carry_different x.same_digest a b) differs in
      let alike = and_parts (is_kind (kind_of a) (kind_of b)) (signer_of a == signer_of b) parts.0 in
      (eqb-true _ _ alike.1, different_contradict a b alike.0 parts.1 r))
      (or_cases (opposes a b) _ contrary)

  -- They are so in the order in which evidence holds them.
  module _ (votes : List (Vote G D)) where
    abbrev IsCastHere : Vote G D → Type 0
    IsCastHere v = (round_in (subject_of v) ≡ x.number) × IsAmong v votes

    are_pair : (earlier vote : Vote G D) → are_contrary x earlier vote ≡ true →
        IsCastHere earlier → IsCastHere vote →
        AreContrary x votes (ordered_pair earlier vote).0 (ordered_pair earlier vote).1
        × (signer_of (ordered_pair earlier vote).0 ≡ signer_of vote)
    are_pair (FinalizeVote a) (NullifyVote b) contrary before now =
        let signer = (contrary_parts (FinalizeVote a) (NullifyVote b) contrary (rounds_same _ _ (before.0 ∙ sym now.0))).0 in (
          record {
            one_signer = sym signer;
            contradict = rounds_same _ _ (now.0 ∙ sym before.0);
            of_round = (now.0, before.0);
            both_cast = (now.1, before.1);
          },
          refl,
        )
    are_pair a b contrary before now =
        let parts = contrary_parts a b contrary (rounds_same _ _ (before.0 ∙ sym now.0)) in
        (record { one_signer = parts.0; contradict = parts.1; of_round = (before.0, now.0); both_cast = (before.1, now.1) }, parts.0)

module _ {D K G C : Type 0} (x : Config D K G C) (past : History D K G C)
    (sender : K) (vote : Vote G D) where
  abbrev answer : Admission G D
  answer = network_answer x past sender vote

  abbrev votes_then : List (Vote G D)
  votes_then = votes_cast x ((NetworkCall sender vote, NetworkAnswer answer) ∷ past)

  cast_now : names_sender x sender vote ≡ true → IsAmong vote votes_then
  cast_now names test passes =
      ap (λ b. list_any test ((cond b (vote ∷ []) [] ++ []) ++ votes_cast x past)) names ∙ or_left (test vote) _ passes

  cast_before : (earlier : Vote G D) → IsAmong earlier (first_votes x past) →
      IsAmong earlier votes_then
  cast_before earlier among test passes =
      list_any-append test (cast_votes x (NetworkCall sender vote)) (votes_cast x past)
      ∙ or_right _ _ (first_is_cast x test past (among test passes))

  first_among : (earlier : Vote G D) → contrary_vote x past vote ≡ Some earlier →
      IsAmong earlier (first_votes x past)
  first_among earlier found test passes =
      any_filter test (λ v. not (is_released x past (kind_of v))) (first_votes x past)
      (any_found (λ v. are_contrary x v vote) test (kept_votes x past) earlier found passes)

  abbrev IsTrueEvidence : Vote G D × Vote G D → Type 0
  IsTrueEvidence pair =
      AreContrary x votes_then pair.0 pair.1
      × ((is_some answer.block ≡ true)
      × ((names_sender x sender vote ≡ true) × (signer_of pair.0 ≡ signer_of vote)))

  evidence_contrary : IsPossible x past → round_in (subject_of vote) ≡ x.number →
      ReportsContrary x past sender vote answer
  evidence_contrary possible here =
      subst (λ (pair : Option (Vote G D × Vote G D)). IfSome pair IsTrueEvidence) (sym (evidence_is x past vote sender))
      (by_name (names_sender x sender vote) (contrary_vote x past vote) refl refl)
    where
      by_name : (named : Bool) (earlier : Option (Vote G D)) →
          names_sender x sender vote ≡ named → contrary_vote x past vote ≡ earlier →
          IfSome (cond named (pair_with x past vote earlier) None) IsTrueEvidence
      by_name true (Some earlier) names found =
          let among = first_among earlier found in
          let pair = are_pair x votes_then earlier vote (found_passes (λ v. are_contrary x v vote) (kept_votes x past) earlier found)
          (first_here x past possible earlier among, cast_before earlier among) (here, cast_now names) in
          (pair.0, (evidence_blocks x past sender vote (ap is_some (evidence_named x past vote sender names (Some earlier) found)), (names, pair.1)))
      by_name true None names none = tt
      by_name false earlier names found = tt

-- AT EACH EVENT OF A HISTORY
module _ {D K G C : Type 0} (x : Config D K G C) where
  reports_added : (past : History D K G C) (event : Event D K G C) → IsPossible x (event ∷ past) →
      ReportsAdded past event
  reports_added past (NetworkCall sender vote, NetworkAnswer admission) possible =
      subst (λ (a : Admission G D). option_and_then vote_in a.report ≡ cond a.added (Some vote) None) (sym possible.1.1.0)
      (reports_its_vote x past sender vote)
  reports_added past (OwnCall vote, OwnAnswer outcome report) possible =
      ap (option_and_then vote_in) possible.1.1.0.1 ∙ own_is outcome vote
  reports_added past event possible = tt

  reports_evidence : (past : History D K G C) (event : Event D K G C) →
      IsPossible x (event ∷ past) → ReportsEvidence x past event
  reports_evidence past (NetworkCall sender vote, NetworkAnswer admission) possible =
      ap evidence possible.1.1.0 ∙ evidence_is x past vote sender
  reports_evidence past (OwnCall vote, OwnAnswer outcome report) possible =
      ap (option_and_then evidence_in) possible.1.1.0.1 ∙ own_none outcome vote
  reports_evidence past event possible = tt

  pub reports_contrary : (past : History D K G C) → IsPossible x past →
      AtEachVote (ReportsContrary x) past
  reports_contrary =
      at_each_allowed x (ReportsContrary x) (λ past sender vote possible here. evidence_contrary x past sender vote possible here)

  -- Each history that is possible reports what it has to, and nothing else.
  pub reports_truly : (past : History D K G C) → IsPossible x past → ReportsTruly x past
  reports_truly past possible =
      record {
        added_are_reported = at_each_event x ReportsAdded reports_added past possible;
        evidence_is_exact = at_each_event x (ReportsEvidence x) reports_evidence past possible;
        evidence_is_contrary = reports_contrary past possible;
        contraries_are_reported =
            at_each_vote x (ReportsEachContrary x) (λ before sender vote. contraries_reported x before vote sender) past possible;
      }
