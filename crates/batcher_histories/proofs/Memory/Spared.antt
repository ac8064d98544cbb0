-- Calls that take no memory, by the history.
use Rattle.batcher_histories.proofs.Words.{◌≡◌, Bool, true, false, cond, ◌&&◌, ◌||◌, List, [], ◌∷◌, length, Option, Some, None, refl, ap, sym, ◌∙◌, arith}
use Rattle.batcher_histories.proofs.Words.{filter, nil_from_length, and-true, Proposal, Kind, Certificate, CertificateCall, CertificateAnswer, Config, count}
use Rattle.batcher_histories.proofs.Words.{is_empty, is_kind, is_of_kind, has_proposals, kind_certified, subject_certified, proposal_in, signer_of, is_eligible}
use Rattle.batcher_histories.proofs.Words.{count-filter_le, count_same, count-true, count-filter, is_kind-refl, is_kind-true, proposal_of, replaces, fixes}
use Rattle.batcher_histories.proofs.Words.{of_kind, RoundState, restored_by_fix, restored_by, restored_with, Event, History, first_votes, selected_proposal}
use Rattle.batcher_histories.proofs.Words.{leader_of, is_certified, leaders_proposal, is_restored, votes_restored_by, is_released, Represents, first_by_signer}
use Rattle.batcher_histories.proofs.Simulation.Buffers.{count_ordered}
use Rattle.batcher_histories.proofs.Simulation.Frame.{or_nothing, leaders_same}
use Rattle.batcher_histories.proofs.Simulation.Restored.{returned, replaced_is}
use Rattle.batcher_histories.proofs.History.Selection.{selection_fixes}

empty_is : {X : Type 0} (xs : List X) → is_empty xs ≡ true → xs ≡ []
empty_is [] h = refl
empty_is (x ∷ xs) h = absurd (cc)

pub counted : {X : Type 0} (p : X → Bool) (xs : List X) → count p xs ≡ length (filter p xs)
counted p xs = count_same p (λ v. p v && true) xs (λ v. sym (and-true (p v))) ∙ (sym (count-filter (λ v. true) p xs) ∙ count-true (filter p xs))

either_empty : {X : Type 0} (b : Bool) (xs : List X) → (b ≡ false → xs ≡ []) → cond b [] xs ≡ []
either_empty true xs h = refl
either_empty false xs h = h refl

kind_swapped : (a b : Kind) → is_kind a b ≡ false → is_kind b a ≡ false
kind_swapped a b h = by (is_kind b a) refl
  where
    by : (t : Bool) → is_kind b a ≡ t → t ≡ false
    by true e = let same : b ≡ a = is_kind-true b a e in let no : true ≡ false = sym (is_kind-refl a) ∙ (ap (is_kind a) (sym same) ∙ h) in absurd (cc)
    by false e = refl

module _ {D K G C : Type 0} (x : Config D K G C) where
  -- where no first vote is restored, no kept one does
  none_kept_back : (past : History D K G C) (event : Event D K G C) (held : RoundState G D)
      (kind : Kind)
      → Represents x past held → is_empty (votes_restored_by x past event) ≡ true →
      filter (is_restored x past event) (of_kind held.tracked.kept kind) ≡ []
  none_kept_back past event held kind represents none =
      nil_from_length (filter (is_restored x past event) (of_kind held.tracked.kept kind))
      (sym (counted (is_restored x past event) (of_kind held.tracked.kept kind)) ∙ ap (count (is_restored x past event)) (represents.each_kind kind).kept_are
      ∙ by_released (is_released x past kind))
    where
      none_first : count (is_restored x past event) (first_votes x past) ≡ 0
      none_first = counted (is_restored x past event) (first_votes x past) ∙ ap length (empty_is (votes_restored_by x past event) none)

      by_released : (r : Bool) → count (is_restored x past event)
          (cond r [] (first_by_signer x past kind)) ≡ 0
      by_released true = refl
      by_released false =
          count_ordered (is_restored x past event) signer_of (filter (is_of_kind kind) (first_votes x past))
          ∙ omega (arith, none_first, count-filter_le (is_restored x past event) (is_of_kind kind) (first_votes x past))

  -- With a certificate that brings no vote back, nothing waits again.
  pub nothing_restored : (past : History D K G C) (held : RoundState G D) (c : Certificate C D)
      (answer : Bool) → Represents x past held →
      is_empty (votes_restored_by x past (CertificateCall c, CertificateAnswer answer)) ≡ true
      → (kind : Kind) → restored_with x held c kind ≡ []
  nothing_restored past held c answer represents none kind =
      either_empty (is_kind kind (kind_certified c)) _ (λ other. by_proposal other (proposal_in (subject_certified c)) refl)
    where
      leaders_stay : leaders_proposal x ((CertificateCall c, CertificateAnswer answer) ∷ past)
          ≡ leaders_proposal x past
      leaders_stay = leaders_same x past (CertificateCall c, CertificateAnswer answer) refl (or_nothing (leader_of past))

      by_proposal : is_kind kind (kind_certified c) ≡ false → (o : Option (Proposal D))
          → proposal_in (subject_certified c) ≡ o → restored_by x held o kind ≡ []
      by_proposal other None is = refl
      by_proposal other (Some p) is =
          either_empty (of_kind held.buffered.certified kind) _ (λ unfinished. by_replaced unfinished (replaces x.same_digest held.buffered.selection p) refl)
        where
          by_replaced : of_kind held.buffered.certified kind ≡ false → (r : Bool)
              → replaces x.same_digest held.buffered.selection p ≡ r
              → filter (is_eligible x.same_digest (Some p))
              (restored_by_fix x.same_digest held.buffered held.tracked.kept p kind) ≡ []
          by_replaced unfinished false e =
              ap (λ b. filter (is_eligible x.same_digest (Some p)) (cond (b && has_proposals kind) (of_kind held.tracked.kept kind) [])) e
          by_replaced unfinished true e =
              ap (λ o. filter (is_eligible x.same_digest o) (restored_by_fix x.same_digest held.buffered held.tracked.kept p kind)) (sym selected)
              ∙ (returned x past (CertificateCall c, CertificateAnswer answer) held kind p held.buffered represents refl is leaders_stay still
              ∙ ap (filter (is_eligible x.same_digest (selected_proposal x ((CertificateCall c, CertificateAnswer answer) ∷ past))))
              (none_kept_back past (CertificateCall c, CertificateAnswer answer) held kind represents none))
            where
              still : is_certified ((CertificateCall c, CertificateAnswer answer) ∷ past) kind
                  ≡ false
              still =
                  ap (λ b. b || is_certified past kind) (kind_swapped kind (kind_certified c) other)
                  ∙ (sym (represents.each_kind kind).certified_is ∙ unfinished)

              selected : selected_proposal x ((CertificateCall c, CertificateAnswer answer) ∷ past)
                  ≡ Some p
              selected =
                  ap proposal_of (selection_fixes x past (CertificateCall c, CertificateAnswer answer) (Some p) leaders_stay is)
                  ∙ (ap (λ s. proposal_of (fixes s (Some p))) (sym represents.selection_is) ∙ replaced_is x held.buffered.selection p e)
