-- Whom a vote blocks: until the release of its kind exactly who gives cause beside the first votes,
-- and in every mode nobody without cause.
use Rattle.batcher_histories.proofs.Words.{◌≡◌, Bool, true, false, not, cond, ◌&&◌, ◌||◌, List, [], ◌∷◌, Option, Some, None, refl, ap, sym, ◌∙◌, ⊎_elim, eqb}
use Rattle.batcher_histories.proofs.Words.{ltb, is_some, list_any, and_parts, and_from, or_left, or_right, or_cases, or_parts, true≢false, Participant, Vote}
use Rattle.batcher_histories.proofs.Words.{Admission, BlockReason, Config, sender_in, is_some_and, is_kind, kind_of, signer_of, is_vote_of, are_opposite}
use Rattle.batcher_histories.proofs.Words.{opposes, any_found, none_found, is_released_in, same_vote, block_for, mismatch_reason, History, names_sender}
use Rattle.batcher_histories.proofs.Words.{first_votes, contradicts, first_like, opposite_vote, is_certified, is_released, conflicts, IsPossible}
use Rattle.batcher_histories.proofs.Words.{network_answer, votes_cast, IsBlockedForItself, IsBlockedInEveryMode, IsBlockedExactlyUntilRelease}
use Rattle.batcher_histories.proofs.Words.{IsBlockedExactlyIfRetaining, BlocksJustly}
use Rattle.batcher_histories.proofs.History.Distinct.{any_count, count_at, positive, option_cases, firsts_apart, found_is_of}
use Rattle.batcher_histories.proofs.History.Laws.{HasLaws}
use Rattle.batcher_histories.proofs.Headline.Promises.{opposites_differ, beside_blocks, against_contradicts, at_each_vote}
use Rattle.batcher_histories.proofs.Blocks.Refused.{opposed_blocks}
use Rattle.batcher_histories.proofs.Correctness.Kept.{found_passes}
use Rattle.batcher_histories.proofs.History.ByFirst.{admission_against, admission_by_first, admission_sent_by, network_is}

-- WHO SENDS A VOTE
module _ {D K G C : Type 0} (x : Config D K G C) (past : History D K G C) (vote : Vote G D) where
  -- what is answered to a vote that names its sender
  abbrev pub named_answer : Admission G D
  named_answer = admission_against x past (opposite_vote x past vote) vote

  -- What is the same of all blocks without a report is so of the answer to a vote that doesn't name
  -- its sender.
  module _ {X : Type 0} (f : Admission G D → X) (other : X)
      (blocked : (reason : BlockReason) → f (block_for reason None) ≡ other) where
    by_name : (named : Bool) →
        f (cond named named_answer (block_for (mismatch_reason (kind_of vote)) None))
        ≡ cond named (f named_answer) other
    by_name true = refl
    by_name false = blocked (mismatch_reason (kind_of vote))

    by_index : (index : Option Participant) →
        f (admission_sent_by x past index vote)
        ≡ cond (is_some_and index (λ i. eqb i.0 (signer_of vote))) (f named_answer) other
    by_index None = blocked _
    by_index (Some i) = by_name (eqb i.0 (signer_of vote))

    pub answer_by_name : (sender : K) →
        f (network_answer x past sender vote)
        ≡ cond (names_sender x sender vote) (f named_answer) other
    answer_by_name sender = ap f (network_is x past vote sender) ∙ by_index (sender_in x sender)

-- LISTS AND TESTS
-- two tests that agree where a third fails, of a list in which none passes that one
any_same : {X : Type 0} (p q r : X → Bool) → ((v : X) → r v ≡ false → p v ≡ q v) →
    (vs : List X) → list_any r vs ≡ false → list_any p vs ≡ list_any q vs
any_same p q r agree [] none = refl
any_same p q r agree (v ∷ vs) none =
    let parts = or_parts (r v) (list_any r vs) none in rw (agree v parts.0, any_same p q r agree vs parts.1) refl

-- Votes that exclude each other and aren't opposite are of one kind.
unopposed_excludes : (s k o d : Bool) → (s && o) ≡ false → ((s && (k || o)) && d) ≡ (d && (k && s))
unopposed_excludes true true o true h = refl
unopposed_excludes true true o false h = refl
unopposed_excludes true false true d h = absurd (true≢false h)
unopposed_excludes true false false true h = refl
unopposed_excludes true false false false h = refl
unopposed_excludes false true o true h = refl
unopposed_excludes false true o false h = refl
unopposed_excludes false false o true h = refl
unopposed_excludes false false o false h = refl

true_unless : (b c : Bool) → cond b c true ≡ (not b || c)
true_unless true c = refl
true_unless false c = refl

module _ {D K G C : Type 0} (x : Config D K G C) (past : History D K G C) (vote : Vote G D) where
  -- UNTIL THE RELEASE
  abbrev differs : Vote G D → Bool
  differs v = not (same_vote x.same_digest x.same_signature v vote)

  abbrev is_contradicted : Bool
  is_contradicted = list_any (λ v. contradicts x v vote) (first_votes x past)

  abbrev is_opposed : Bool
  is_opposed = list_any (λ v. opposes v vote) (first_votes x past)

  -- beside the first vote of its kind and signer a vote is blocked where it differs
  blocked_beside : (first : Option (Vote G D)) (conflict : Bool) → first_like x past vote ≡ first →
      is_some (admission_by_first x first false conflict vote).block ≡ is_some_and first differs
  blocked_beside None conflict e = refl
  blocked_beside (Some kept) conflict e =
      beside_blocks x.same_digest x.same_signature kept vote
      ∙ ap (λ b. b && differs kept) (and_parts _ _ (found_is_of (first_votes x past) (kind_of vote) (signer_of vote) kept e)).0

  -- which is where it contradicts a first vote, while none opposes it
  unopposed_contradicted : opposite_vote x past vote ≡ None →
      is_contradicted ≡ is_some_and (first_like x past vote) differs
  unopposed_contradicted none =
      any_same (λ v. contradicts x v vote) differs_alike (λ v. opposes v vote)
      (λ v. unopposed_excludes (eqb (signer_of v) (signer_of vote)) (is_kind (kind_of v) (kind_of vote)) (are_opposite (kind_of v) (kind_of vote)) (differs v))
      (first_votes x past) (none_found (λ v. opposes v vote) (first_votes x past) none)
      ∙ (any_count differs_alike (first_votes x past)
      ∙ (ap (λ n. ltb 0 n) (count_at differs (first_votes x past) (kind_of vote) (signer_of vote) (firsts_apart x past))
      ∙ positive (is_some_and (first_like x past vote) differs)))
    where
      differs_alike : Vote G D → Bool
      differs_alike v = differs v && is_vote_of (kind_of vote) (signer_of vote) v

  opposed_contradicts : (v : Vote G D) → opposes v vote ≡ true → contradicts x v vote ≡ true
  opposed_contradicts v opposed =
      let parts = and_parts (eqb (signer_of v) (signer_of vote)) (are_opposite (kind_of v) (kind_of vote)) opposed in
      and_from _ _ (and_from _ _ parts.0 (or_right (is_kind (kind_of v) (kind_of vote)) _ parts.1))
      (ap not (opposites_differ x.same_digest x.same_signature v vote opposed))

  blocked_against : (opposite : Option (Vote G D)) → opposite_vote x past vote ≡ opposite →
      is_released x past (kind_of vote) ≡ false →
      is_some (admission_against x past opposite vote).block ≡ is_contradicted
  blocked_against (Some earlier) found unreleased =
      let opposed : opposes earlier vote ≡ true = found_passes (λ v. opposes v vote) (first_votes x past) earlier found in
      opposed_blocks x past earlier vote (and_parts _ _ opposed).1
      ∙ sym (any_found (λ v. opposes v vote) (λ v. contradicts x v vote) (first_votes x past) earlier found (opposed_contradicts earlier opposed))
  blocked_against None found unreleased =
      ap (λ released. is_some (admission_by_first x (first_like x past vote) released (conflicts x past vote) vote).block) unreleased
      ∙ (blocked_beside (first_like x past vote) (conflicts x past vote) refl ∙ sym (unopposed_contradicted found))

  -- IN EVERY MODE
  blocked_if_opposed : is_opposed ≡ true → is_some (named_answer x past vote).block ≡ true
  blocked_if_opposed some =
      ⊎_elim
      (λ none. absurd (true≢false (sym some ∙ none_found (λ v. opposes v vote) (first_votes x past) none)))
      (λ (found : (earlier : Vote G D) × (opposite_vote x past vote ≡ Some earlier)).
      ap (λ o. is_some (admission_against x past o vote).block) found.1
      ∙ opposed_blocks x past found.0 vote (and_parts _ _ (found_passes (λ v. opposes v vote) (first_votes x past) found.0 found.1)).1)
      (option_cases (opposite_vote x past vote))

  -- OF EACH NETWORK VOTE
  module _ (sender : K) where
    abbrev answer : Admission G D
    answer = network_answer x past sender vote

    abbrev is_named : Bool
    is_named = names_sender x sender vote

    blocked_is : is_some answer.block ≡ (not is_named || is_some (named_answer x past vote).block)
    blocked_is =
        answer_by_name x past vote (λ admission. is_some admission.block) true (λ reason. refl) sender
        ∙ true_unless is_named (is_some (named_answer x past vote).block)

    for_itself : HasLaws x → IsBlockedForItself x past sender vote answer
    for_itself laws blocked =
        ⊎_elim
        (λ unnamed. or_left _ (list_any (λ v. contradicts x v vote) (votes_cast x past)) unnamed)
        (λ against. or_right (not is_named) _ (against_contradicts x laws past vote (opposite_vote x past vote) refl against))
        (or_cases _ _ (sym blocked_is ∙ blocked))

    in_every_mode : IsBlockedInEveryMode x past sender vote answer
    in_every_mode cause =
        blocked_is
        ∙ ⊎_elim
        (λ unnamed. or_left _ (is_some (named_answer x past vote).block) unnamed)
        (λ opposed. or_right (not is_named) _ (blocked_if_opposed opposed))
        (or_cases _ _ cause)

    until_release : IsBlockedExactlyUntilRelease x past sender vote answer
    until_release unreleased =
        blocked_is ∙ ap (λ b. not is_named || b) (blocked_against (opposite_vote x past vote) refl unreleased)

    if_retaining : IsBlockedExactlyIfRetaining x past sender vote answer
    if_retaining retains = until_release (ap (λ mode. is_released_in mode (is_certified past (kind_of vote))) retains)

module _ {D K G C : Type 0} (x : Config D K G C) where
  -- Each history that is possible blocks whom it has to, and nobody without cause.
  pub blocks_justly : HasLaws x → (past : History D K G C) → IsPossible x past → BlocksJustly x past
  blocks_justly laws past possible =
      record {
        for_the_vote_itself = at_each_vote x (IsBlockedForItself x) (λ before sender vote. for_itself x before vote sender laws) past possible;
        in_every_mode = at_each_vote x (IsBlockedInEveryMode x) (λ before sender vote. in_every_mode x before vote sender) past possible;
        exact_until_release = at_each_vote x (IsBlockedExactlyUntilRelease x) (λ before sender vote. until_release x before vote sender) past possible;
        exact_where_votes_are_retained = at_each_vote x (IsBlockedExactlyIfRetaining x) (λ before sender vote. if_retaining x before vote sender) past possible;
      }
