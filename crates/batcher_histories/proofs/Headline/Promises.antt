-- What is promised: of each network vote that acceptance is exact, that the honest are never
-- blocked and that contradictions are
-- blocked; and the rest by the lemmas before.
use Rattle.batcher_histories.proofs.Words.{◌≡◌, ℕ, Bool, true, false, not, cond, ◌&&◌, ◌||◌, List, [], ◌∷◌, ◌++◌, Option, Some, None, refl, ap, sym, ◌∙◌}
use Rattle.batcher_histories.proofs.Words.{⊎_elim, eqb, ltb, subst, IfSome, filter, is_some, list_any, and_parts, and_from, or_left, or_right, or_cases}
use Rattle.batcher_histories.proofs.Words.{true≢false, false≢true, eqb-true, eq-eqb, list_any-append, Participant, Vote, NotarizeVote, NullifyVote}
use Rattle.batcher_histories.proofs.Words.{FinalizeVote, Kind, Subject, Certificate, Batch, Call, Admission, Retaining, NetworkCall, OwnCall, CertificateCall}
use Rattle.batcher_histories.proofs.Words.{LeaderCall, ConstructCall, ForwardCall, MissingCall, Answer, OutOfMemory, NetworkAnswer, OwnAnswer, OwnRefused}
use Rattle.batcher_histories.proofs.Words.{CertificateAnswer, LeaderAnswer, ConstructAnswer, ForwardAnswer, MissingAnswer, Config, sender_in, is_some_and}
use Rattle.batcher_histories.proofs.Words.{is_kind, kind_of, signer_of, subject_of, round_in, is_vote_of, are_opposite, excludes, opposes, same_proposal}
use Rattle.batcher_histories.proofs.Words.{any_more, any_filter, any_found, none_found, any_other, is_released_in, same_vote, refusal, mismatch_reason}
use Rattle.batcher_histories.proofs.Words.{block_for, admission_after, admission_after_facts, admission_beside, Event, History, names_sender, cast_votes}
use Rattle.batcher_histories.proofs.Words.{batch_given, first_votes, is_free, contradicts, first_like, opposite_vote, is_certified, is_released, compared_votes}
use Rattle.batcher_histories.proofs.Words.{is_compared, is_compared_at_release, conflicts, network_answer, MayAnswer, IsPossible, AtEachVote, IsAcceptedExactly}
use Rattle.batcher_histories.proofs.Words.{votes_cast, contradicts_itself, gave_cause, IsBlockedForCause, IsBlockedIfContradicting, AtEachEvent, AtEachTime}
use Rattle.batcher_histories.proofs.Words.{GivesVerified, CompletesQuorums, Rests, GivesNone, Promises, certifies_answer, certifies_subject, certifies_itself}
use Rattle.batcher_histories.proofs.Words.{carry_different, IsWorkBounded}
use Rattle.batcher_histories.proofs.History.Attempts.{batch_made}
use Rattle.batcher_histories.proofs.Headline.Conflicts.{conflict_with_compared, carried_differ}
use Rattle.batcher_histories.proofs.History.Laws.{HasLaws}
use Rattle.batcher_histories.proofs.Correctness.Kept.{found_passes}
use Rattle.batcher_histories.proofs.History.Distinct.{any_count, count_at, positive, firsts_apart, found_is_of}
use Rattle.batcher_histories.proofs.Simulation.Network.{added_is}
use Rattle.batcher_histories.proofs.Quorums.Completed.{completes, rests}
use Rattle.batcher_histories.proofs.Headline.Work.{work_bounded, skipped_gives_none}
use Rattle.batcher_histories.proofs.History.ByFirst.{admission_against, admission_by_first, admission_sent_by, network_is}

module _ {G D : Type 0} (same : D → D → Bool) (equal : G → G → Bool) where
  -- VOTES THAT CONTRADICT EACH OTHER
  pub opposites_differ : (a b : Vote G D) → opposes a b ≡ true → same_vote same equal a b ≡ false
  opposites_differ (NotarizeVote a) (NotarizeVote b) h = absurd (true≢false (sym (and_parts _ _ h).1))
  opposites_differ (NotarizeVote a) (NullifyVote b) h = refl
  opposites_differ (NotarizeVote a) (FinalizeVote b) h = refl
  opposites_differ (NullifyVote a) (NotarizeVote b) h = refl
  opposites_differ (NullifyVote a) (NullifyVote b) h = absurd (true≢false (sym (and_parts _ _ h).1))
  opposites_differ (NullifyVote a) (FinalizeVote b) h = refl
  opposites_differ (FinalizeVote a) (NotarizeVote b) h = refl
  opposites_differ (FinalizeVote a) (NullifyVote b) h = refl
  opposites_differ (FinalizeVote a) (FinalizeVote b) h = absurd (true≢false (sym (and_parts _ _ h).1))

  block_unless : (p s : Bool) (block other : Admission G D) → is_some block.block ≡ true
      → is_some other.block ≡ true → is_some (cond p (cond (p && s) refusal block) other).block
      ≡ not (p && s)
  block_unless true true block other h k = refl
  block_unless true false block other h k = h
  block_unless false s block other h k = k

  block_or_none : (s : Bool) (block : Admission G D) → is_some block.block ≡ true
      → is_some (cond s refusal block).block ≡ not s
  block_or_none true block h = refl
  block_or_none false block h = h

  -- Beside the kept vote of its kind a vote is blocked where it differs.
  pub beside_blocks : (kept vote : Vote G D) → is_some (admission_beside same equal kept vote).block
      ≡ (is_kind (kind_of kept) (kind_of vote) && not (same_vote same equal kept vote))
  beside_blocks (NotarizeVote a) (NotarizeVote b) = block_unless (same_proposal same a.proposal b.proposal) _ _ _ refl refl
  beside_blocks (NotarizeVote a) (NullifyVote b) = refl
  beside_blocks (NotarizeVote a) (FinalizeVote b) = refl
  beside_blocks (NullifyVote a) (NotarizeVote b) = refl
  beside_blocks (NullifyVote a) (NullifyVote b) = block_or_none (same_vote same equal (NullifyVote a) (NullifyVote b)) _ refl
  beside_blocks (NullifyVote a) (FinalizeVote b) = refl
  beside_blocks (FinalizeVote a) (NotarizeVote b) = refl
  beside_blocks (FinalizeVote a) (NullifyVote b) = refl
  beside_blocks (FinalizeVote a) (FinalizeVote b) = block_unless (same_proposal same a.proposal b.proposal) _ _ _ refl refl

  -- and after the opposite one always.
  pub after_blocks : (earlier vote : Vote G D) → is_some (admission_after earlier vote).block
      ≡ are_opposite (kind_of earlier) (kind_of vote)
  after_blocks (NotarizeVote a) (NotarizeVote b) = refl
  after_blocks (NotarizeVote a) (NullifyVote b) = refl
  after_blocks (NotarizeVote a) (FinalizeVote b) = refl
  after_blocks (NullifyVote a) (NotarizeVote b) = refl
  after_blocks (NullifyVote a) (NullifyVote b) = refl
  after_blocks (NullifyVote a) (FinalizeVote b) = refl
  after_blocks (FinalizeVote a) (NotarizeVote b) = refl
  after_blocks (FinalizeVote a) (NullifyVote b) = refl
  after_blocks (FinalizeVote a) (FinalizeVote b) = refl

module _ {D K G C : Type 0} (x : Config D K G C) where
  -- CAST VOTES
  pub first_is_cast : (p : Vote G D → Bool) (past : History D K G C)
      → list_any p (first_votes x past) ≡ true → list_any p (votes_cast x past) ≡ true
  first_is_cast p [] h = h
  first_is_cast p (event ∷ past) h =
      list_any-append p (cast_votes x event.0) (votes_cast x past)
      ∙ ⊎_elim
      (λ here. or_left _ (list_any p (votes_cast x past)) (any_filter p (is_free (first_votes x past)) (cast_votes x event.0) here))
      (λ rest. or_right (list_any p (cast_votes x event.0)) _ (first_is_cast p past rest))
      (or_cases _ _ (sym (list_any-append p (filter (is_free (first_votes x past)) (cast_votes x event.0)) (first_votes x past)) ∙ h))

  pub compared_is_cast : (p : Vote G D → Bool) (past : History D K G C)
      → list_any p (compared_votes x past) ≡ true → list_any p (votes_cast x past) ≡ true
  compared_is_cast p [] h = h
  compared_is_cast p (event ∷ past) h =
      list_any-append p (cast_votes x event.0) (votes_cast x past)
      ∙ ⊎_elim
      (λ here. or_left _ (list_any p (votes_cast x past)) (any_filter p (is_compared x past event) (cast_votes x event.0) here))
      (λ rest.
      or_right (list_any p (cast_votes x event.0)) _
      (⊎_elim
      (λ released. first_is_cast p past (any_filter p (is_compared_at_release x past event) (first_votes x past) released))
      (λ before. compared_is_cast p past before)
      (or_cases _ _ (sym (list_any-append p (filter (is_compared_at_release x past event) (first_votes x past)) (compared_votes x past)) ∙ rest))))
      (or_cases _ _ (sym (list_any-append p (filter (is_compared x past event) (cast_votes x event.0))
      (filter (is_compared_at_release x past event) (first_votes x past) ++ compared_votes x past)) ∙ h))

  alike_excludes : (k s o : Bool) → (k && s) ≡ true → (s && (k || o)) ≡ true
  alike_excludes true s o h = and_from s true h refl
  alike_excludes false s o h = absurd (false≢true h)

  opposite_excludes : (s k o : Bool) → (s && o) ≡ true → (s && (k || o)) ≡ true
  opposite_excludes s k o h = and_from s (k || o) (and_parts _ _ h).0 (or_right k o (and_parts _ _ h).1)

  pub like_excludes : (v vote : Vote G D) → is_vote_of (kind_of vote) (signer_of vote) v ≡ true
      → excludes v vote ≡ true
  like_excludes v vote h = alike_excludes (is_kind (kind_of v) (kind_of vote)) (eqb (signer_of v) (signer_of vote)) (are_opposite (kind_of v) (kind_of vote)) h

  -- WHOM A ROUND BLOCKS
  abbrev differs : Vote G D → Vote G D → Bool
  differs vote v = not (same_vote x.same_digest x.same_signature v vote)

  conflict_contradicts : HasLaws x → (past : History D K G C) (vote : Vote G D)
      → conflicts x past vote ≡ true → list_any (λ v. contradicts x v vote) (votes_cast x past)
      ≡ true
  conflict_contradicts laws past vote h =
      compared_is_cast (λ v. contradicts x v vote) past
      (any_more (λ v. is_vote_of (kind_of vote) (signer_of vote) v && carry_different x.same_digest v vote) (λ v. contradicts x v vote)
      (λ v both. and_from _ _ (like_excludes v vote (and_parts _ _ both).0) (carried_differ x.same_digest x.same_signature v vote (and_parts _ _ both).1))
      (compared_votes x past) (conflict_with_compared x laws past vote h))

  by_first_contradicts : HasLaws x → (past : History D K G C) (vote : Vote G D)
      (first : Option (Vote G D)) (released conflict : Bool) → first_like x past vote ≡ first
      → conflicts x past vote ≡ conflict →
      is_some (admission_by_first x first released conflict vote).block ≡ true
      → list_any (λ v. contradicts x v vote) (votes_cast x past) ≡ true
  by_first_contradicts laws past vote None released conflict e c h = absurd (false≢true h)
  by_first_contradicts laws past vote (Some kept) false conflict e c h =
      let differs = (and_parts _ _ (sym (beside_blocks x.same_digest x.same_signature kept vote) ∙ h)).1 in
      first_is_cast (λ v. contradicts x v vote) past
      (any_found (is_vote_of (kind_of vote) (signer_of vote)) (λ v. contradicts x v vote) (first_votes x past) kept e
      (and_from _ _ (like_excludes kept vote (found_is_of (first_votes x past) (kind_of vote) (signer_of vote) kept e)) differs))
  by_first_contradicts laws past vote (Some seen) true true e c h = conflict_contradicts laws past vote c
  by_first_contradicts laws past vote (Some seen) true false e c h = absurd (false≢true h)

  pub against_contradicts : HasLaws x
      → (past : History D K G C) (vote : Vote G D) (opposite : Option (Vote G D))
      → opposite_vote x past vote ≡ opposite →
      is_some (admission_against x past opposite vote).block ≡ true
      → list_any (λ v. contradicts x v vote) (votes_cast x past) ≡ true
  against_contradicts laws past vote (Some earlier) e h =
      let opposed : opposes earlier vote ≡ true = found_passes (λ v. opposes v vote) (first_votes x past) earlier e in
      first_is_cast (λ v. contradicts x v vote) past
      (any_found (λ v. opposes v vote) (λ v. contradicts x v vote) (first_votes x past) earlier e
      (and_from _ _ (opposite_excludes (eqb (signer_of earlier) (signer_of vote)) (is_kind (kind_of earlier) (kind_of vote))
      (are_opposite (kind_of earlier) (kind_of vote)) opposed)
      (ap not (opposites_differ x.same_digest x.same_signature earlier vote opposed))))
  against_contradicts laws past vote None e h =
      by_first_contradicts laws past vote (first_like x past vote) (is_released x past (kind_of vote)) (conflicts x past vote) refl refl h

  -- who contradicts an earlier vote of its own contradicts itself
  itself : (vote : Vote G D) (votes : List (Vote G D)) → list_any (λ v. contradicts x v vote) votes
      ≡ true → contradicts_itself x (vote ∷ votes) (signer_of vote) ≡ true
  itself vote votes h =
      or_right _ _
      (any_more (λ v. contradicts x v vote) (λ v. eqb (signer_of v) (signer_of vote) && list_any (contradicts x v) (vote ∷ votes))
      (λ v against. and_from _ _ (and_parts _ _ (and_parts _ _ against).0).0 (or_left (contradicts x v vote) _ against)) votes h)

  module _ (laws : HasLaws x) (past : History D K G C) (sender : K) (vote : Vote G D)
      (i : Participant) (known : sender_in x sender ≡ Some i) where
    named_by : (b : Bool) → eqb i.0 (signer_of vote) ≡ b → names_sender x sender vote ≡ b
    named_by b e = ap (λ o. is_some_and o (λ p. eqb p.0 (signer_of vote))) known ∙ e

    by_name : (b : Bool) (answer : Answer G C D) → eqb i.0 (signer_of vote) ≡ b →
        is_some (cond b (admission_against x past (opposite_vote x past vote) vote)
        (block_for (mismatch_reason (kind_of vote)) None)).block ≡ true →
        gave_cause x ((NetworkCall sender vote, answer) ∷ past) i.0 ≡ true
    by_name true answer e h =
        or_right _ _
        (subst (λ (j : ℕ). contradicts_itself x (votes_cast x ((NetworkCall sender vote, answer) ∷ past)) j ≡ true) (sym (eqb-true _ _ e))
        (subst (λ (named : Bool). contradicts_itself x ((cond named (vote ∷ []) [] ++ []) ++ votes_cast x past) (signer_of vote) ≡ true) (sym (named_by true e))
        (itself vote (votes_cast x past) (against_contradicts laws past vote (opposite_vote x past vote) refl h))))
    by_name false answer e h =
        or_left _ _
        (or_left _ _
        (ap (λ o. is_some_and o (λ p. eqb p.0 i.0 && not (eqb p.0 (signer_of vote)))) known ∙ and_from _ _ (eq-eqb i.0 i.0 refl) (ap not e)))

    pub blocked_for_cause : (answer : Answer G C D)
        → is_some (network_answer x past sender vote).block ≡ true
        → gave_cause x ((NetworkCall sender vote, answer) ∷ past) i.0 ≡ true
    blocked_for_cause answer h =
        by_name (eqb i.0 (signer_of vote)) answer refl
        (sym (ap (λ a. is_some a.block) (network_is x past vote sender) ∙ ap (λ o. is_some (admission_sent_by x past o vote).block) known) ∙ h)

module _ {D K G C : Type 0} (x : Config D K G C) (retains : x.mode ≡ Retaining) where
  kept_in_full : (past : History D K G C) (kind : Kind) → is_released x past kind ≡ false
  kept_in_full past kind = ap (λ m. is_released_in m (is_certified past kind)) retains

  -- what contradicts a vote is of its kind and another vote, or its opposite
  contradicts_by : (k s o d : Bool) → ((s && (k || o)) && d) ≡ true → ((d && (k && s)) || (s && o))
      ≡ true
  contradicts_by true true o true h = refl
  contradicts_by false true true true h = refl
  contradicts_by k false o d h = absurd (false≢true h)
  contradicts_by true true o false h = absurd (false≢true h)
  contradicts_by false true false d h = absurd (false≢true h)
  contradicts_by false true true false h = absurd (false≢true h)

  module _ (past : History D K G C) (vote : Vote G D) where
    abbrev differs_alike : Vote G D → Bool
    differs_alike v = differs x vote v && is_vote_of (kind_of vote) (signer_of vote) v

    blocked_by_first : (first : Option (Vote G D)) (conflict : Bool) → first_like x past vote
        ≡ first → is_some_and first (differs x vote) ≡ true →
        is_some (admission_by_first x first false conflict vote).block ≡ true
    blocked_by_first None conflict e h = absurd (false≢true h)
    blocked_by_first (Some kept) conflict e h =
        beside_blocks x.same_digest x.same_signature kept vote
        ∙ and_from _ _ (and_parts _ _ (found_is_of (first_votes x past) (kind_of vote) (signer_of vote) kept e)).0 h

    one_alike : list_any differs_alike (first_votes x past)
        ≡ is_some_and (first_like x past vote) (differs x vote)
    one_alike =
        any_count differs_alike (first_votes x past)
        ∙ (ap (λ n. ltb 0 n) (count_at (differs x vote) (first_votes x past) (kind_of vote) (signer_of vote) (firsts_apart x past))
        ∙ positive (is_some_and (first_like x past vote) (differs x vote)))

    blocked_against : (opposite : Option (Vote G D)) → opposite_vote x past vote ≡ opposite
        → list_any (λ v. contradicts x v vote) (first_votes x past) ≡ true →
        is_some (admission_against x past opposite vote).block ≡ true
    blocked_against (Some earlier) e h =
        ap (λ b. is_some (cond b (admission_after_facts vote) (admission_after earlier vote)).block) (kept_in_full past (kind_of earlier))
        ∙ (after_blocks x.same_digest x.same_signature earlier vote ∙ (and_parts _ _ (found_passes (λ v. opposes v vote) (first_votes x past) earlier e)).1)
    blocked_against None e h =
        ap (λ b. is_some (admission_by_first x (first_like x past vote) b (conflicts x past vote) vote).block) (kept_in_full past (kind_of vote))
        ∙ blocked_by_first (first_like x past vote) (conflicts x past vote) refl
        (sym one_alike
        ∙ any_other differs_alike (λ v. opposes v vote) (first_votes x past)
        (any_more (λ v. contradicts x v vote) (λ v. differs_alike v || opposes v vote)
        (λ v. contradicts_by (is_kind (kind_of v) (kind_of vote)) (eqb (signer_of v) (signer_of vote)) (are_opposite (kind_of v) (kind_of vote))
        (differs x vote v)) (first_votes x past) h)
        (none_found (λ v. opposes v vote) (first_votes x past) e))

    blocked_of : (index : Option Participant) → is_some_and index (λ p. eqb p.0 (signer_of vote))
        ≡ true → list_any (λ v. contradicts x v vote) (first_votes x past) ≡ true →
        is_some (admission_sent_by x past index vote).block ≡ true
    blocked_of None named h = absurd (false≢true named)
    blocked_of (Some i) named h =
        ap (λ b. is_some (cond b (admission_against x past (opposite_vote x past vote) vote) (block_for (mismatch_reason (kind_of vote)) None)).block) named
        ∙ blocked_against (opposite_vote x past vote) refl h

  -- In a retaining round whoever contradicts its own first vote is blocked.
  pub blocked_if_contradicting : (past : History D K G C) (sender : K) (vote : Vote G D)
      → (names_sender x sender vote && list_any (λ v. contradicts x v vote) (first_votes x past))
      ≡ true →
      is_some (network_answer x past sender vote).block ≡ true
  blocked_if_contradicting past sender vote h =
      ap (λ a. is_some a.block) (network_is x past vote sender) ∙ blocked_of past vote (sender_in x sender) (and_parts _ _ h).0 (and_parts _ _ h).1

-- AT EACH EVENT OF A HISTORY
module _ {D K G C : Type 0} (x : Config D K G C) (holds : History D K G C → Event D K G C → Type 0)
    (each : (past : History D K G C) (event : Event D K G C) → IsPossible x (event ∷ past) → holds past event) where
  pub at_each_event : (past : History D K G C) → IsPossible x past → AtEachEvent holds past
  at_each_event [] possible = tt
  at_each_event (event ∷ past) possible = (each past event possible, at_each_event past possible.1.1.1)

-- after each,
module _ {D K G C : Type 0} (x : Config D K G C) (holds : History D K G C → Type 0)
    (each : (past : History D K G C) → IsPossible x past → holds past) where
  pub at_each_time : (past : History D K G C) → IsPossible x past → AtEachTime holds past
  at_each_time [] possible = each [] possible
  at_each_time (event ∷ past) possible = (each (event ∷ past) possible, at_each_time past possible.1.1.1)

-- at each network vote, which is of this round,
module _ {D K G C : Type 0} (x : Config D K G C)
    (holds : History D K G C → K → Vote G D → Admission G D → Type 0)
    (named : (past : History D K G C) (sender : K) (vote : Vote G D) → IsPossible x past →
    round_in (subject_of vote) ≡ x.number → holds past sender vote (network_answer x past sender vote)) where
  pub at_each_allowed : (past : History D K G C) → IsPossible x past → AtEachVote holds past
  at_each_allowed [] possible = tt
  at_each_allowed ((NetworkCall sender vote, NetworkAnswer admission) ∷ past) possible = (
    subst (λ (a : Admission G D). holds past sender vote a) (sym possible.1.1.0) (named past sender vote possible.1.1.1 possible.0),
    at_each_allowed past
        possible.1.1.1,
  )
  at_each_allowed ((NetworkCall sender vote, OwnAnswer outcome report) ∷ past) possible = at_each_allowed past possible.1.1.1
  at_each_allowed ((NetworkCall sender vote, OwnRefused fault) ∷ past) possible = at_each_allowed past possible.1.1.1
  at_each_allowed ((NetworkCall sender vote, CertificateAnswer changed) ∷ past) possible = at_each_allowed past possible.1.1.1
  at_each_allowed ((NetworkCall sender vote, LeaderAnswer result) ∷ past) possible = at_each_allowed past possible.1.1.1
  at_each_allowed ((NetworkCall sender vote, ConstructAnswer batch) ∷ past) possible = at_each_allowed past possible.1.1.1
  at_each_allowed ((NetworkCall sender vote, ForwardAnswer proposal) ∷ past) possible = at_each_allowed past possible.1.1.1
  at_each_allowed ((NetworkCall sender vote, MissingAnswer missing) ∷ past) possible = at_each_allowed past possible.1.1.1
  at_each_allowed ((NetworkCall sender vote, OutOfMemory) ∷ past) possible = at_each_allowed past possible.1.1.1
  at_each_allowed ((OwnCall vote, answer) ∷ past) possible = at_each_allowed past possible.1.1.1
  at_each_allowed ((CertificateCall certificate, answer) ∷ past) possible = at_each_allowed past possible.1.1.1
  at_each_allowed ((LeaderCall leader, answer) ∷ past) possible = at_each_allowed past possible.1.1.1
  at_each_allowed ((ConstructCall, answer) ∷ past) possible = at_each_allowed past possible.1.1.1
  at_each_allowed ((ForwardCall me, answer) ∷ past) possible = at_each_allowed past possible.1.1.1
  at_each_allowed ((MissingCall p, answer) ∷ past) possible = at_each_allowed past possible.1.1.1

-- and at each whatever round it is of
module _ {D K G C : Type 0} (x : Config D K G C)
    (holds : History D K G C → K → Vote G D → Admission G D → Type 0)
    (named : (past : History D K G C) (sender : K) (vote : Vote G D) → holds past sender vote (network_answer x past sender vote)) where
  pub at_each_vote : (past : History D K G C) → IsPossible x past → AtEachVote holds past
  at_each_vote = at_each_allowed x holds (λ past sender vote _ _. named past sender vote)

module _ {D K G C : Type 0} (x : Config D K G C) where
  accepted_exactly : (past : History D K G C) → IsPossible x past
      → AtEachVote (IsAcceptedExactly x) past
  accepted_exactly = at_each_vote x (IsAcceptedExactly x) (added_is x)

  honest_not_blocked : HasLaws x → (past : History D K G C) → IsPossible x past
      → AtEachVote (IsBlockedForCause x) past
  honest_not_blocked laws =
      at_each_vote x (IsBlockedForCause x)
      (λ past sender vote blocked i known. blocked_for_cause x laws past sender vote i known (NetworkAnswer (network_answer x past sender vote)) blocked)

  contradictions_blocked : (past : History D K G C) → IsPossible x past
      → AtEachVote (IsBlockedIfContradicting x) past
  contradictions_blocked = at_each_vote x (IsBlockedIfContradicting x) (λ past sender vote retains. blocked_if_contradicting x retains past sender vote)

  -- CERTIFICATES
  certifies_at_least : (subject : Subject D) (certificate : Option (Certificate C D))
      → IfSome certificate (λ c. certifies_subject x subject c ≡ true)
      → IfSome certificate (λ c. certifies_itself x.meaning c ≡ true)
  certifies_at_least subject None h = tt
  certifies_at_least subject (Some c) h = (and_parts _ _ h).1

  certifies_if_given : (past : History D K G C) (call : Call K G C D) (answer : Answer G C D)
      (batch : Option (Batch (Certificate C D))) → MayAnswer x past call answer → batch_given answer
      ≡ batch →
      IfSome batch (λ b. IfSome b.certificate (λ c. certifies_itself x.meaning c ≡ true))
  certifies_if_given past call answer None may given = tt
  certifies_if_given past call answer (Some batch) may given =
      let tried = (batch_made x past call answer batch may given).after.attempt in certifies_at_least tried.subject batch.certificate tried.certified

  gives_verified : (past : History D K G C) (call : Call K G C D) (answer : Answer G C D)
      → MayAnswer x past call answer → certifies_answer x.meaning answer
  gives_verified past call (ConstructAnswer batch) may = certifies_if_given past call (ConstructAnswer batch) batch may refl
  gives_verified past call (NetworkAnswer admission) may = tt
  gives_verified past call (OwnAnswer outcome report) may = tt
  gives_verified past call (OwnRefused fault) may = tt
  gives_verified past call (CertificateAnswer changed) may = tt
  gives_verified past call (LeaderAnswer result) may = tt
  gives_verified past call (ForwardAnswer proposal) may = tt
  gives_verified past call (MissingAnswer missing) may = tt
  gives_verified past call OutOfMemory may = tt

  -- What is promised holds of each history that is possible.
  pub promised : HasLaws x → (past : History D K G C) → IsPossible x past → Promises x past
  promised laws past possible =
      record {
        acceptance_is_exact = accepted_exactly past possible;
        honest_are_never_blocked = honest_not_blocked laws past possible;
        contradictions_are_blocked = contradictions_blocked past possible;
        certificates_verify = at_each_event x (GivesVerified x) (λ before event made. gives_verified before event.0 event.1 made.1.1.0) past possible;
        quorums_complete = at_each_event x (CompletesQuorums x) (completes x laws) past possible;
        constructions_rest = at_each_event x Rests (rests x laws) past possible;
        no_double_work = at_each_time x (IsWorkBounded x) (work_bounded x laws) past possible;
        no_batch_when_skipped = at_each_event x (GivesNone x) (skipped_gives_none x laws) past possible;
      }
