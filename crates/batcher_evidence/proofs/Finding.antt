-- What a search of a list finds, and what it doesn't.
use Rattle.batcher_evidence.proofs.Words.{◌≡◌, Bool, true, false, cond, List, [], ◌∷◌, Option, Some, None, refl, ap, subst, sym, ◌∙◌, arith, ⊎_elim, Contains}
use Rattle.batcher_evidence.proofs.Words.{is_some, cases_Bool, Contains-append_cases, Contains-append_left, Contains-append_right, Contains-push}
use Rattle.batcher_evidence.proofs.Words.{Contains-push_cases, Meaning, Certificate, IsContradiction, certify_and_contradict}
use Rattle.std.specs.Prelude.{find}

nothing_in : {X : Type 0} (x : X) → Contains [] x → ⊥
nothing_in x there = omega (arith, there.1)

is_nothing : {X : Type 0} (o : Option X) → is_some o ≡ false → None ≡ o
is_nothing None e = refl
is_nothing (Some x) e = absurd (cc)

module _ {X : Type 0} (p : X → Bool) where
  pub record IsFound (xs : List X) (x : X) : Type 0 where
    pub there : Contains xs x
    pub passes : p x ≡ true

  pub found : (xs : List X) (x : X) → Some x ≡ find p xs → IsFound xs x
  found [] x e = absurd (cc)
  found (y ∷ xs) x e =
      ⊎_elim
      (λ yes.
      let equal : Some x ≡ Some y = e ∙ ap (λ b. cond b (Some y) (find p xs)) yes in
      let same : x ≡ y = cc in
      record {
        there = subst (λ it. Contains (y ∷ xs) it) (sym same) (Contains-append_left (y ∷ []) xs y (Contains-push [] y));
        passes = ap p same ∙ yes;
      })
      (λ no.
      let rest = found xs x (e ∙ ap (λ b. cond b (Some y) (find p xs)) no) in
      record { there = Contains-append_right (y ∷ []) xs x rest.there; passes = rest.passes })
      (cases_Bool (p y))

  pub none_found : (xs : List X) → None ≡ find p xs → (x : X) → Contains xs x → p x ≡ false
  none_found [] e x there = absurd (nothing_in x there)
  none_found (y ∷ xs) e x there =
      ⊎_elim
      (λ yes. let wrong : None ≡ Some y = e ∙ ap (λ b. cond b (Some y) (find p xs)) yes in absurd (cc))
      (λ no.
      ⊎_elim
      (λ first.
      let is : y ≡ x = ⊎_elim (λ none. absurd (nothing_in x none)) (λ equal. equal) (Contains-push_cases [] y x first) in
      ap p (sym is) ∙ no)
      (λ later. none_found xs (e ∙ ap (λ b. cond b (Some y) (find p xs)) no) x later)
      (Contains-append_cases (y ∷ []) xs x there))
      (cases_Bool (p y))

module _ {D K G C : Type 0} (m : Meaning D K G C) (same : D → D → Bool) (certificates : List (Certificate C D)) where
  abbrev against : Certificate C D → Option (Certificate C D)
  against a = find (certify_and_contradict m same a) certificates

  pub two_found :
      (a b : Certificate C D) → Some a ≡ find (λ it. is_some (against it)) certificates
      → Some b ≡ against a → IsContradiction m certificates same a b
  two_found a b first second =
      let one = found (λ it. is_some (against it)) certificates a first in
      let other = found (certify_and_contradict m same a) certificates b second in
      record { first = one.there; second = other.there; contradict = other.passes }

  pub second_found :
      (a : Certificate C D) → Some a ≡ find (λ it. is_some (against it)) certificates
      → None ≡ against a → ⊥
  second_found a first second =
      let passes = (found (λ it. is_some (against it)) certificates a first).passes in
      let fails : is_some (against a) ≡ false = ap is_some (sym second) in
      cc

  pub no_two :
      None ≡ find (λ it. is_some (against it)) certificates → (a b : Certificate C D)
      → IsContradiction m certificates same a b → ⊥
  no_two none a b two =
      let unfound : is_some (against a) ≡ false = none_found (λ it. is_some (against it)) certificates none a two.first in
      let nothing : None ≡ against a = is_nothing (against a) unfound in
      let fails : certify_and_contradict m same a b ≡ false =
      none_found (certify_and_contradict m same a) certificates nothing b two.second in
      let passes = two.contradict in
      cc
