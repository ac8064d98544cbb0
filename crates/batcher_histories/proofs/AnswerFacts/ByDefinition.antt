-- What follows from the definitions alone, whatever is answered.
use Rattle.batcher_histories.proofs.Words.{inl, inr, ◌≡◌, ◌≤◌, ◌⊎◌, ℕ, ◌+◌, Bool, true, false, cond, [], ◌∷◌, Option, Some, None, refl, ap, ◌∙◌, arith, is_some}
use Rattle.batcher_histories.proofs.Words.{option_and_then, option_or, Proposal, LeadersProposal, FixedProposal, Config, replaces, Event, History, selection_by}
use Rattle.batcher_histories.proofs.Words.{fixed_proposal, fixing_evidence, leaders_proposal, AtEachEvent, AtEachTime, KeepsFixed, KeepsLeaders, replacements}
use Rattle.batcher_histories.proofs.Words.{FollowsThen, FollowsByDefinition}
use Rattle.batcher_histories.proofs.Headline.Promises.{compared_is_cast}
use Rattle.batcher_histories.proofs.Headline.NeverBoth.{never_both}
use Rattle.batcher_histories.proofs.Headline.Conflicts.{conflict_with_compared}
use Rattle.batcher_histories.proofs.Headline.Attesting.{usable_once, usable_for}
use Rattle.batcher_histories.proofs.History.Laws.{HasLaws}
use Rattle.batcher_histories.proofs.History.Selection.{leaders_stays}

-- HOW THE SELECTION CHANGES
module _ {D : Type 0} where
  fixed_by : (fixed evidence leaders after : Option (Proposal D)) (p : Proposal D)
      → selection_by fixed leaders ≡ FixedProposal p → selection_by (option_or fixed evidence) after
      ≡ FixedProposal p
  fixed_by (Some f) evidence leaders after p h = h
  fixed_by None evidence (Some l) after p h = absurd (cc)
  fixed_by None evidence None after p h = absurd (cc)

  leaders_by : (fixed evidence leaders after : Option (Proposal D))
      → ((p : Proposal D) → leaders ≡ Some p → after ≡ Some p) → (p : Proposal D)
      → selection_by fixed leaders ≡ LeadersProposal p →
      (selection_by (option_or fixed evidence) after ≡ LeadersProposal p)
      ⊎ ((q : Proposal D) × (selection_by (option_or fixed evidence) after ≡ FixedProposal q))
  leaders_by (Some f) evidence leaders after stays p h = absurd (cc)
  leaders_by None evidence None after stays p h = absurd (cc)
  leaders_by None None (Some l) after stays p h = inl (ap (selection_by None) (stays l refl) ∙ h)
  leaders_by None (Some e) (Some l) after stays p h = inr (e, refl)

one_at_most : (b : Bool) (n : ℕ) → n ≤ 0 → cond b 1 0 + n ≤ 1
one_at_most true n h = omega (arith, h)
one_at_most false n h = omega (arith, h)

module _ {D K G C : Type 0} (x : Config D K G C) where
  pub keeps_fixed : (past : History D K G C) (event : Event D K G C) → KeepsFixed x past event
  keeps_fixed past event p h = fixed_by (fixed_proposal past) (fixing_evidence event) (leaders_proposal x past) (leaders_proposal x (event ∷ past)) p h

  pub keeps_leaders : HasLaws x → (past : History D K G C) (event : Event D K G C)
      → KeepsLeaders x past event
  keeps_leaders laws past event p h =
      leaders_by (fixed_proposal past) (fixing_evidence event) (leaders_proposal x past) (leaders_proposal x (event ∷ past)) (leaders_stays x laws past event) p
      h

  -- nothing is replaced but by the first evidence that fixes a proposal
  replaced_by_first : (fixed leaders evidence : Option (Proposal D)) (n : ℕ) → n
      ≤ cond (is_some fixed) 1 0 →
      cond (is_some (option_and_then (λ p. cond
      (replaces x.same_digest (selection_by fixed leaders) p) (Some p) None) evidence)) 1 0 + n
      ≤ cond (is_some (option_or fixed evidence)) 1 0
  replaced_by_first (Some f) leaders None n h = omega (arith, h)
  replaced_by_first (Some f) leaders (Some e) n h = omega (arith, h)
  replaced_by_first None leaders None n h = omega (arith, h)
  replaced_by_first None leaders (Some e) n h = one_at_most _ n h

  replaced_if_fixed : (past : History D K G C) → replacements x past
      ≤ cond (is_some (fixed_proposal past)) 1 0
  replaced_if_fixed [] = omega arith
  replaced_if_fixed (event ∷ past) =
      replaced_by_first (fixed_proposal past) (leaders_proposal x past) (fixing_evidence event) (replacements x past) (replaced_if_fixed past)

  within_one : (b : Bool) (n : ℕ) → n ≤ cond b 1 0 → n ≤ 1
  within_one true n h = h
  within_one false n h = omega (arith, h)

  pub replaced_once : (past : History D K G C) → replacements x past ≤ 1
  replaced_once past = within_one (is_some (fixed_proposal past)) (replacements x past) (replaced_if_fixed past)

-- AT EACH EVENT OF A HISTORY, AND AFTER EACH
module _ {D K G C : Type 0} where
  each_event : (holds : History D K G C → Event D K G C → Type 0)
      → ((past : History D K G C) (event : Event D K G C) → holds past event)
      → (past : History D K G C) → AtEachEvent holds past
  each_event holds each [] = tt
  each_event holds each (event ∷ past) = (each past event, each_event holds each past)

  each_time : (holds : History D K G C → Type 0) → ((past : History D K G C) → holds past)
      → (past : History D K G C) → AtEachTime holds past
  each_time holds each [] = each []
  each_time holds each (event ∷ past) = (each (event ∷ past), each_time holds each past)

module _ {D K G C : Type 0} (x : Config D K G C) (laws : HasLaws x) where
  follows_then : (past : History D K G C) → FollowsThen x past
  follows_then past =
      record {
        usable_once_each = usable_once x past;
        usable_for_selected = usable_for x past;
        nullify_or_finalize = never_both x past;
        conflicts_differ = λ vote h. compared_is_cast x _ past (conflict_with_compared x laws past vote h);
      }

  pub follows_by_definition : (past : History D K G C) → FollowsByDefinition x past
  follows_by_definition past =
      record {
        at_each_time = each_time (FollowsThen x) follows_then past;
        fixed_stays = each_event (KeepsFixed x) (keeps_fixed x) past;
        leaders_stays_until_fixed = each_event (KeepsLeaders x) (keeps_leaders x laws) past;
        replaced_at_most_once = replaced_once x past;
      }
