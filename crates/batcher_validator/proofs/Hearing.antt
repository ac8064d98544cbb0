-- What is noted of signs of life, and of views that are entered.
use Rattle.batcher_validator.proofs.Words.{◌≡◌, ◌+◌, ◌-◌, ◌^◌, ◌<◌, ◌&&◌, ◌==◌, ◌∙◌, ℕ, Bool, true, false, List, [], ◌∷◌, Option, Some, None, ap, arith, cond}
use Rattle.batcher_validator.proofs.Words.{length, map, min, nat_le, option_map, refl, set, subst, sym, slice_get, slice_get-map, slice_get_within, count_by}
use Rattle.batcher_validator.proofs.Words.{◌≤◌, cases_lt, eqb-false, eqb-true, inl, inr, le-leb, lt-leb, sum_by-cons}
use Rattle.batcher_validator.proofs.Words.{is_some_and, Participant, Admission, Certificate, Vote, called, NodeEvent, NodeConfig}
use Rattle.batcher_validator.proofs.Words.{certificate_came, vote_came, view_entered, Receipt, peer_in, calls_in, did, ValidatorHistory, AreSilent}
use Rattle.batcher_validator.proofs.Words.{enters, is_sign, is_sign_of, silence_of, with_sign}
use Rattle.batcher_validator.proofs.Blocking.{get_set_other, get_set_same}
use Rattle.batcher_validator.specs.Absence.{since_sign}
use Rattle.batcher_node.specs.declared.answers.Verdict.{Verdict}

-- what is noted of a number of views
abbrev pub noted : ℕ → ℕ
noted silence = min silence (2 ^ 64 - 1)

pub one_more : (silence : ℕ) → min (noted silence + 1) (2 ^ 64 - 1) ≡ noted (1 + silence)
one_more silence = omega arith

-- Fewer views than are noted at most are told apart.
pub as_noted :
    (views silence : ℕ) → views < 2 ^ 64 → nat_le views (noted silence) ≡ nat_le views silence
as_noted views silence few = elim (cases_lt silence views) [
  | inl less ↦
      let lower : noted silence < views = omega (arith, less) in
      lt-leb views (noted silence) lower ∙ sym (lt-leb views silence less)
  | inr more ↦
      let up : views ≤ noted silence = omega (arith, few, more) in
      le-leb views (noted silence) up ∙ sym (le-leb views silence more)
]

none_more : (silence : ℕ) → 0 + silence ≡ silence
none_more silence = omega arith

module _ {D K G C : Type 0} (x : NodeConfig D K G C) (past : ValidatorHistory D K G C)
    (silences : List ℕ) (are : AreSilent x past silences) where
  pub silent_entered :
      (view : ℕ) (leader : Participant)
      → AreSilent x (did (called (view_entered view leader)) ∷ past)
      (map (λ silence. min (silence + 1) (2 ^ 64 - 1)) silences)
  silent_entered view leader i lt =
      slice_get-map (λ silence. min (silence + 1) (2 ^ 64 - 1)) silences i
      ∙ ap (option_map (λ silence. min (silence + 1) (2 ^ 64 - 1))) (are i lt)
      ∙ ap Some (one_more (silence_of x i (calls_in past)))
      ∙ ap (λ silence. Some (noted silence)) (sym (sum_by-cons (λ event. cond (enters event) 1 0)
      (view_entered view leader) (since_sign x i (calls_in past))))

  module _ (event : NodeEvent D K G C) (quiet : enters event ≡ false) where
    silence_by :
        (i : ℕ) (b : Bool) → is_sign_of x i event ≡ b
        → silence_of x i (event ∷ calls_in past) ≡ cond b 0 (silence_of x i (calls_in past))
    silence_by i true e =
        ap (λ b. count_by enters (cond b [] (event ∷ since_sign x i (calls_in past)))) e
    silence_by i false e =
        ap (λ b. count_by enters (cond b [] (event ∷ since_sign x i (calls_in past)))) e
        ∙ sum_by-cons (λ other. cond (enters other) 1 0) event (since_sign x i (calls_in past))
        ∙ ap (λ b. cond b 1 0 + silence_of x i (calls_in past)) quiet
        ∙ none_more (silence_of x i (calls_in past))

    silent_by :
        (b : Bool) (sender : Option Participant)
        → ((i : ℕ) → is_sign_of x i event ≡ b && is_some_and sender (λ who. who.0 == i))
        → AreSilent x (did (called event) ∷ past) (with_sign b sender silences)
    silent_by false sender signs i lt =
        are i lt ∙ ap (λ silence. Some (noted silence)) (sym (silence_by i false (signs i)))
    silent_by true None signs i lt =
        are i lt ∙ ap (λ silence. Some (noted silence)) (sym (silence_by i false (signs i)))
    silent_by true (Some who) signs i lt = of_cases (who.0 == i) refl
      where
        of_cases :
            (b : Bool) → (who.0 == i) ≡ b
            → slice_get (set silences who.0 0) i
            ≡ Some (noted (silence_of x i (event ∷ calls_in past)))
        of_cases true e =
            let same = eqb-true who.0 i e in
            subst (λ j. slice_get (set silences who.0 0) j ≡ Some 0) same
            (get_set_same silences who.0 0
            (subst (λ j. j < length silences) (sym same) (slice_get_within silences i _ (are i lt))))
            ∙ ap (λ silence. Some (noted silence)) (sym (silence_by i true (signs i ∙ e)))
        of_cases false e =
            get_set_other silences who.0 i 0 (eqb-false who.0 i e) ∙ are i lt
            ∙ ap (λ silence. Some (noted silence)) (sym (silence_by i false (signs i ∙ e)))

  pub silent_vote :
      (peer : K) (vote : Vote G D) (receipt : Receipt (Admission G D)) (b : Bool)
      (sender : Option Participant) → b ≡ is_sign receipt → sender ≡ peer_in x peer
      → AreSilent x (did (called (vote_came peer vote receipt)) ∷ past)
      (with_sign b sender silences)
  silent_vote peer vote receipt b sender sign from =
      silent_by (vote_came peer vote receipt) refl b sender (λ i. rw (sign, from) refl)

  pub silent_certificate :
      (peer : K) (certificate : Certificate C D) (receipt : Receipt Verdict) (b : Bool)
      (sender : Option Participant) → b ≡ is_sign receipt → sender ≡ peer_in x peer
      → AreSilent x (did (called (certificate_came peer certificate receipt)) ∷ past)
      (with_sign b sender silences)
  silent_certificate peer certificate receipt b sender sign from =
      silent_by (certificate_came peer certificate receipt) refl b sender (λ i. rw (sign, from) refl)
