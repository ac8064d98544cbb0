-- How soon certificates come: at once where no bad vote was accepted, one kind that is due at each
-- construction, and wherever a
-- quorum of the usable votes of the first ready kind attests.
use Rattle.batcher_histories.proofs.Words.{◌≡◌, ◌≤◌, ◌+◌, ℕ, Bool, true, false, not, cond, nat_le, nat_lt, ◌&&◌, ◌||◌, List, [], ◌∷◌, ◌++◌, length}
use Rattle.batcher_histories.proofs.Words.{length-append, map, Option, Some, None, refl, ap, sym, ◌∙◌, subst, arith, ⊎_elim, filter, is_some, is_none}
use Rattle.batcher_histories.proofs.Words.{option_or, cases_Bool, and_parts, and_from, or_right, or_cases, cond_both, false_from_ne_true, not-true, leb-true}
use Rattle.batcher_histories.proofs.Words.{le-leb, lt-ltb, true≢false, none-some, same_Some, nil_from_length, list_all-from_AllPass, Vote, Kind, Notarization}
use Rattle.batcher_histories.proofs.Words.{Nullification, Finalization, Certificate, Batch, ConstructCall, Config, quorum_in, count, is_some_and}
use Rattle.batcher_histories.proofs.Words.{attestation_of, is_kind, has_proposals, kind_certified, count-append, length_same, count_split, none_fails}
use Rattle.batcher_histories.proofs.Words.{is_kind-refl, have_one_subject, Event, History, batch_given, first_votes, selected_proposal, is_certified, is_valid}
use Rattle.batcher_histories.proofs.Words.{proven_votes, fresh_votes, ready_kind, is_ready_by, trials, AttemptAfter, bad_signers, votes_checked, IsPossible}
use Rattle.batcher_histories.proofs.Words.{usable_votes, HasNoBadVote, IsClean, GivesAtOnce, has_valid_quorum, is_due, kinds_due, TakesOne}
use Rattle.batcher_histories.proofs.Words.{GivesDespiteBadVotes, LeavesNoneDue, GivesPromptly}
use Rattle.batcher_histories.proofs.History.Laws.{HasLaws}
use Rattle.batcher_histories.proofs.History.Distinct.{some_of}
use Rattle.batcher_histories.proofs.Memory.Spared.{counted}
use Rattle.batcher_histories.proofs.History.Attempts.{batch_made, ready_is, full_gives}
use Rattle.batcher_histories.proofs.Quorums.ValidQuorums.{valid_quorum_ready}
use Rattle.batcher_histories.proofs.Quorums.Completed.{unchosen, construct_answered}
use Rattle.batcher_histories.proofs.Simulation.Settled.{constructed}
use Rattle.batcher_histories.proofs.Headline.Promises.{at_each_event}
use Rattle.batcher_histories.proofs.AnswerFacts.Told.{if_some}
use Rattle.batcher_histories.proofs.Certificates.Backing.{usable_are_first, checked_within, gave}
use Rattle.batcher_histories.proofs.Quorums.ValidVotes.{valid_stay, enough_valid}

-- AT ONCE
-- where votes are verified together, a kind of which there are enough has a quorum
enough_reaches : (batchable unselected one : Bool) (q p f : ℕ) → batchable ≡ true
    → cond unselected (nat_le q p && one)
    (nat_le q p || (nat_lt 0 f && (not batchable || nat_le q (p + f)))) ≡ true
    → q ≤ p + f
enough_reaches batchable true one q p f is h = omega (arith, leb-true q p (and_parts (nat_le q p) one h).0)
enough_reaches batchable false one q p f is h =
    ⊎_elim
    (λ full. omega (arith, leb-true q p full))
    (λ part.
    let rest : (not batchable || nat_le q (p + f)) ≡ true = (and_parts (nat_lt 0 f) (not batchable || nat_le q (p + f)) part).1 in
    leb-true q (p + f) (sym (ap (λ b. not b || nat_le q (p + f)) is) ∙ rest))
    (or_cases (nat_le q p) (nat_lt 0 f && (not batchable || nat_le q (p + f))) h)

module _ {D K G C : Type 0} (x : Config D K G C) (past : History D K G C) where
  ready_reaches : x.meaning.batchable ≡ true → (kind : Kind) → ready_kind x past ≡ Some kind
      → quorum_in x ≤ length (proven_votes x past kind) + length (fresh_votes x past kind)
  ready_reaches batchable kind ready =
      enough_reaches x.meaning.batchable (has_proposals kind && is_none (selected_proposal x past))
      (have_one_subject x.same_digest (proven_votes x past kind)) (quorum_in x)
      (length (proven_votes x past kind)) (length (fresh_votes x past kind)) batchable (and_parts _ _ (ready_is x past kind ready)).1

  module _ (possible : IsPossible x past) (kind : Kind) (batch : Batch (Certificate C D))
      (after : AttemptAfter x past kind batch) where
    -- the pending votes that the batch took
    abbrev checked : List (Vote G D)
    checked = votes_checked (quorum_in x) after.verified after.pending

    checked_reach :
        quorum_in x ≤ length (proven_votes x past kind) + length (fresh_votes x past kind)
        → quorum_in x ≤ length after.verified + length checked
    checked_reach reaches =
        cond_both (nat_le (quorum_in x) (length after.verified)) [] after.pending
        (λ votes. quorum_in x ≤ length after.verified + length votes)
        (λ full. omega (arith, leb-true (quorum_in x) (length after.verified) full))
        (λ part.
        omega (
          arith,
          reaches,
          length_same after.verified (proven_votes x past kind) after.verified_are,
          length_same after.pending (fresh_votes x past kind) after.pending_are,
        ))

    none_bad : HasNoBadVote x past → bad_signers x checked ≡ []
    none_bad clean =
        ap (map (λ v. (attestation_of v).signer))
        (nil_from_length (filter fails checked)
        (omega (
          arith,
          counted fails checked,
          after.pending_are fails,
          usable_are_first x past kind fails,
          checked_within (quorum_in x) after.verified after.pending fails,
          count-append fails (fresh_votes x past kind) (proven_votes x past kind),
          none_fails (is_valid x) (first_votes x past) (list_all-from_AllPass (is_valid x) (first_votes x past) clean),
        )))
      where
        fails : Vote G D → Bool
        fails v = not (is_valid x v)

    at_once : IsClean x past → ready_kind x past ≡ Some kind
        → (is_some batch.certificate ≡ true) × ((batch.invalid ≡ []) × (batch.fallback ≡ false))
    at_once clean ready =
        ⊎_elim
        (λ given. (given.certificate, (given.invalid, given.fallback)))
        (⊎_elim
        (λ fell. absurd (fell.some_bad (none_bad clean.1)))
        (λ only. absurd (omega (arith, checked_reach (ready_reaches clean.0 kind ready), only.unreached))))
        after.attempt.way

    -- DESPITE BAD VOTES
    valid_reach : quorum_in x ≤ length (filter (is_valid x) (usable_votes x past kind))
        → quorum_in x ≤ length after.verified + count (is_valid x) after.pending
    valid_reach enough =
        omega (
          arith,
          enough,
          counted (is_valid x) (usable_votes x past kind),
          count-append (is_valid x) (fresh_votes x past kind) (proven_votes x past kind),
          after.verified_are (is_valid x),
          after.pending_are (is_valid x),
          count_split (is_valid x) after.verified,
        )

    despite_bad : quorum_in x ≤ length (filter (is_valid x) (usable_votes x past kind))
        → is_some batch.certificate ≡ true
    despite_bad enough =
        ⊎_elim
        (λ full. full_gives x after.verified after.pending batch after.attempt (leb-true _ _ full))
        (λ part.
        let all : checked ≡ after.pending = ap (λ b. cond b [] after.pending) part in
        ⊎_elim
        (λ given. given.certificate)
        (⊎_elim
        (λ fell.
        fell.certificate
        ∙ le-leb (quorum_in x) (length (after.verified ++ filter (is_valid x) checked))
        (omega (
          arith,
          length-append after.verified (filter (is_valid x) checked),
          counted (is_valid x) checked,
          ap (count (is_valid x)) all,
          valid_reach enough,
        )))
        (λ only.
        absurd (omega (arith, only.unreached, ap length all, count_split (is_valid x) after.pending, valid_reach enough))))
        after.attempt.way)
        (cases_Bool (nat_le (quorum_in x) (length after.verified)))

-- ONE THAT IS DUE
abbrev as_number : Bool → ℕ
as_number b = cond b 1 0

-- of the three kinds one less passes where one that passed no longer does
one_less : (kind : Kind) (before after : Kind → Bool) → before kind ≡ true
    → ((j : Kind) → after j ≡ (not (is_kind kind j) && before j))
    → 1 + count after (Notarization ∷ Nullification ∷ Finalization ∷ [])
    ≡ count before (Notarization ∷ Nullification ∷ Finalization ∷ [])
one_less Notarization before after was is =
    omega (arith, ap as_number was, ap as_number (is Notarization), ap as_number (is Nullification), ap as_number (is Finalization))
one_less Nullification before after was is =
    omega (arith, ap as_number was, ap as_number (is Notarization), ap as_number (is Nullification), ap as_number (is Finalization))
one_less Finalization before after was is =
    omega (arith, ap as_number was, ap as_number (is Notarization), ap as_number (is Nullification), ap as_number (is Finalization))

none_passes : (p : Kind → Bool) → ((j : Kind) → p j ≡ false)
    → count p (Notarization ∷ Nullification ∷ Finalization ∷ []) ≡ 0
none_passes p none =
    omega (arith, ap as_number (none Notarization), ap as_number (none Nullification), ap as_number (none Finalization))

now_due : (k c q : Bool) → (not (k || c) && q) ≡ (not k && (not c && q))
now_due true c q = refl
now_due false c q = refl

module _ {D K G C : Type 0} (x : Config D K G C) (laws : HasLaws x) (past : History D K G C) where
  -- where no kind is ready, none is due
  pub none_due : IsPossible x past → ready_kind x past ≡ None
      → (kind : Kind) → is_due x past kind ≡ false
  none_due possible none kind =
      false_from_ne_true _ (λ due.
      let parts = and_parts (not (is_certified past kind)) (has_valid_quorum x past kind) due in
      let ready = valid_quorum_ready x laws past kind possible (not-true _ parts.0) (leb-true _ _ parts.1) in
      true≢false (sym ready ∙ unchosen (is_ready_by x (trials x past) past) _ _ _ refl refl refl none kind))

  -- a construction changes no valid quorum, where a proposal is selected
  due_then : (given : Option (Batch (Certificate C D)))
      → IsPossible x (constructed x past given ∷ past) → is_some (selected_proposal x past) ≡ true
      → (kind : Kind) → is_due x (constructed x past given ∷ past) kind
      ≡ (not (is_certified (constructed x past given ∷ past) kind) && has_valid_quorum x past kind)
  due_then given possible some kind =
      ap (λ votes. not (is_certified (constructed x past given ∷ past) kind) && nat_le (quorum_in x) (length votes))
      (valid_stay x laws past given possible kind (or_right _ _ some))

  takes_none : IsPossible x (constructed x past None ∷ past)
      → TakesOne x past (constructed x past None)
  takes_none possible clean some =
      (sym (ap (nat_lt 0) before), omega (arith, before, after))
    where
      none : (kind : Kind) → is_due x past kind ≡ false
      none = none_due possible.1.1.1 possible.1.1.0

      before : kinds_due x past ≡ 0
      before = none_passes (is_due x past) none

      after : kinds_due x (constructed x past None ∷ past) ≡ 0
      after = none_passes (is_due x (constructed x past None ∷ past)) (λ kind. due_then None possible some kind ∙ none kind)

  module _ (batch : Batch (Certificate C D))
      (possible : IsPossible x (constructed x past (Some batch) ∷ past)) where
    -- the certificate that a clean history is given is of a kind that was due,
    was_due : IsClean x past → is_some (selected_proposal x past) ≡ true
        → (c : Certificate C D) → batch.certificate ≡ Some c
        → is_due x past (kind_certified c) ≡ true
    was_due clean some c gives =
        let ready = (gave x past (constructed x past (Some batch)) laws possible c gives).ready in
        and_from _ _ (and_parts _ _ (ready_is x past (kind_certified c) ready)).0
        (le-leb _ _
        (enough_valid x laws past possible.1.1.1 (kind_certified c) (or_right _ _ some) clean.1
        (ready_reaches x past clean.0 (kind_certified c) ready)))

    -- and no longer is
    due_but : is_some (selected_proposal x past) ≡ true
        → (c : Certificate C D) → batch.certificate ≡ Some c → (j : Kind)
        → is_due x (constructed x past (Some batch) ∷ past) j
        ≡ (not (is_kind (kind_certified c) j) && is_due x past j)
    due_but some c gives j =
        due_then (Some batch) possible some j
        ∙ (ap (λ o. not (is_some_and (option_or None o) (λ d. is_kind (kind_certified d) j) || is_certified past j) && has_valid_quorum x past j) gives
        ∙ now_due (is_kind (kind_certified c) j) (is_certified past j) (has_valid_quorum x past j))

    takes_due : TakesOne x past (constructed x past (Some batch))
    takes_due clean some =
        (sym (lt-ltb 0 (kinds_due x past) (omega (arith, less))), omega (arith, less))
      where
        certificate : is_some batch.certificate ≡ true
        certificate =
            (at_once x past possible.1.1.1 possible.1.1.0.0 batch possible.1.1.0.1.1 clean possible.1.1.0.1.0).0

        less : 1 + kinds_due x (constructed x past (Some batch) ∷ past) ≡ kinds_due x past
        less =
            let c = some_of batch.certificate certificate in
            one_less (kind_certified c.0) (is_due x past) (is_due x (constructed x past (Some batch) ∷ past))
            (was_due clean some c.0 c.1) (due_but some c.0 c.1)

  takes_so : (given : Option (Batch (Certificate C D)))
      → IsPossible x (constructed x past given ∷ past) → TakesOne x past (constructed x past given)
  takes_so None possible = takes_none possible
  takes_so (Some batch) possible = takes_due batch possible

  gives_so : (given : Option (Batch (Certificate C D)))
      → IsPossible x (constructed x past given ∷ past)
      → GivesDespiteBadVotes x past (constructed x past given)
  gives_so None possible kind ready enough = absurd (none-some kind (sym possible.1.1.0 ∙ ready))
  gives_so (Some batch) possible kind ready enough =
      ap (λ o. is_some_and o (λ d. is_kind (kind_certified d) kind)) c.1
      ∙ (ap (λ k. is_kind k kind) of_kind ∙ is_kind-refl kind)
    where
      after : AttemptAfter x past kind batch
      after =
          subst (λ k. AttemptAfter x past k batch) (same_Some _ _ (sym possible.1.1.0.1.0 ∙ ready)) possible.1.1.0.1.1

      c : (d : Certificate C D) × (batch.certificate ≡ Some d)
      c = some_of batch.certificate (despite_bad x past possible.1.1.1 kind batch after enough)

      of_kind : kind_certified c.0 ≡ kind
      of_kind = same_Some _ _ (sym (gave x past (constructed x past (Some batch)) laws possible c.0 c.1).ready ∙ ready)

  leaves_so : (given : Option (Batch (Certificate C D)))
      → IsPossible x (constructed x past given ∷ past)
      → LeavesNoneDue x past (constructed x past given)
  leaves_so None possible = none_due possible.1.1.1 possible.1.1.0
  leaves_so (Some batch) possible = tt

-- AT EACH EVENT
module _ {D K G C : Type 0} (x : Config D K G C) (laws : HasLaws x)
    (past : History D K G C) where
  gives_at_once : (event : Event D K G C) → IsPossible x (event ∷ past) → GivesAtOnce x past event
  gives_at_once event possible clean =
      if_some (batch_given event.1)
      (λ batch. (is_some batch.certificate ≡ true) × ((batch.invalid ≡ []) × (batch.fallback ≡ false))) (λ batch given.
      let made = batch_made x past event.0 event.1 batch possible.1.1.0 given in
      at_once x past possible.1.1.1 made.kind batch made.after clean made.ready)

  takes_one : (event : Event D K G C) → IsPossible x (event ∷ past) → TakesOne x past event
  takes_one (ConstructCall, answer) possible =
      construct_answered x past answer possible.1.1.0
      (λ a. IsPossible x ((ConstructCall, a) ∷ past) → TakesOne x past (ConstructCall, a))
      (λ given may. takes_so x laws past given) possible
  takes_one event possible = tt

  gives_despite_bad_votes : (event : Event D K G C) → IsPossible x (event ∷ past)
      → GivesDespiteBadVotes x past event
  gives_despite_bad_votes (ConstructCall, answer) possible =
      construct_answered x past answer possible.1.1.0
      (λ a. IsPossible x ((ConstructCall, a) ∷ past) → GivesDespiteBadVotes x past (ConstructCall, a))
      (λ given may. gives_so x laws past given) possible
  gives_despite_bad_votes event possible = tt

  leaves_none_due : (event : Event D K G C) → IsPossible x (event ∷ past)
      → LeavesNoneDue x past event
  leaves_none_due (ConstructCall, answer) possible =
      construct_answered x past answer possible.1.1.0
      (λ a. IsPossible x ((ConstructCall, a) ∷ past) → LeavesNoneDue x past (ConstructCall, a))
      (λ given may. leaves_so x laws past given) possible
  leaves_none_due event possible = tt

module _ {D K G C : Type 0} (x : Config D K G C) (laws : HasLaws x) where
  -- Certificates come promptly in each history that is possible.
  pub gives_promptly : (past : History D K G C) → IsPossible x past → GivesPromptly x past
  gives_promptly past possible =
      record {
        gives_at_once = at_each_event x (GivesAtOnce x) (gives_at_once x laws) past possible;
        takes_one = at_each_event x (TakesOne x) (takes_one x laws) past possible;
        gives_despite_bad_votes = at_each_event x (GivesDespiteBadVotes x) (gives_despite_bad_votes x laws) past possible;
        none_left_due = at_each_event x (LeavesNoneDue x) (leaves_none_due x laws) past possible;
      }
