-- The votes of a kind that a tracker keeps: each is of the kind, and no signer has two.
use Rattle.batcher_votes.proofs.Words.{◌≡◌, ◌≤◌, ◌<◌, ◌==◌, ◌&&◌, ℕ, Bool, true, false, cond, List, [], ◌∷◌, length, filter, find, Option, Some, None, is_some}
use Rattle.batcher_votes.proofs.Words.{refl, ap, sym, subst, ◌∙◌, arith, nat_tests, AllPass-from_list_all, AllByRecursion, AllPass, list_all, filter_map}
use Rattle.batcher_votes.proofs.Words.{cons_option, Vote, Kind, count, is_some_and, rec_from_all, rec_weaker, signer_of, is_of_kind, is_vote_of, PerKind}
use Rattle.batcher_votes.proofs.Words.{of_kind, KeepsEach, Entry, entry_key, part, vote_at, kept_part, kept_among, may_say, Fits, tracked_by}
use Rattle.batcher_types.specs.Ascending.{IsAscending}
use Rattle.batcher_votes.proofs.TrackerLemmas.ShownParts.{Of}
use Rattle.batcher_votes.proofs.TrackerLemmas.SignerFacts.{kept_numbered, kept_kinded, kept_is, kept_says, no_vote}
use Rattle.batcher_votes.proofs.TrackerLemmas.RecordVote.{filter_map-same_each}

module _ {E X : Type 0} (part : E → Option X) where
  all_cons : (p : X → Bool) (o : Option X) (zs : List X) → Of o (λ x. p x ≡ true) → list_all p zs
      ≡ true → list_all p (cons_option o zs) ≡ true
  all_cons p None zs h rest = rest
  all_cons p (Some x) zs h rest = rw h rest

  all_parts : (p : X → Bool) → ((e : E) → Of (part e) (λ x. p x ≡ true)) → (es : List E)
      → list_all p (filter_map part es) ≡ true
  all_parts p h [] = refl
  all_parts p h (e ∷ es) = all_cons p (part e) (filter_map part es) (h e) (all_parts p h es)

  module _ (key : E → ℕ) (number : X → ℕ) (numbered : (e : E) → Of (part e) (λ x. number x ≡ key e))
      (i : ℕ) where
    abbrev pub by_number : X → Bool
    by_number x = number x == i

    none_cons : (n : ℕ) (o : Option X) (zs : List X) → i < n → Of o (λ x. number x ≡ n)
        → count by_number zs ≡ 0 → count by_number (cons_option o zs) ≡ 0
    none_cons n None zs above same rest = rest
    none_cons n (Some x) zs above same rest = let no : (number x == i) ≡ false = grind (arith, nat_tests) in rw no (omega (arith, rest))

    none_above : (es : List E) → AllByRecursion (λ e. i < key e) es
        → count by_number (filter_map part es) ≡ 0
    none_above [] up = refl
    none_above (e ∷ es) up = none_cons (key e) (part e) (filter_map part es) up.0 (numbered e) (none_above es up.1)

module _ {E X : Type 0} (key : E → ℕ) (part : E → Option X) (number : X → ℕ)
    (numbered : (e : E) → Of (part e) (λ x. number x ≡ key e)) (test : X → Bool) (i : ℕ)
    (tested : (e : E) → Of (part e) (λ x. test x ≡ (number x == i))) where
  rising : (n : ℕ) (es : List E) → AllByRecursion (λ e. n < key e) es → n ≡ i
      → AllByRecursion (λ e. i < key e) es
  rising n es up is = subst (λ m. AllByRecursion (λ e. m < key e) es) is up

  one_cons : (n : ℕ) (o : Option X) (zs : List X) (b : Bool) → (n == i) ≡ b
      → Of o (λ x. number x ≡ n) → Of o (λ x. test x ≡ (number x == i))
      → (n ≡ i → count (λ x. number x == i) zs ≡ 0) → count (λ x. number x == i) zs
      ≤ cond (is_some (find test zs)) 1 0
      → count (λ x. number x == i) (cons_option o zs)
      ≤ cond (is_some (find test (cons_option o zs))) 1 0
  one_cons n None zs b e same own none rest = rest
  one_cons n (Some x) zs true e same own none rest =
      let is : (number x == i) ≡ true = ap (λ m. m == i) same ∙ e in
      let rest_none = none (grind (arith, nat_tests)) in
      rw (own, is) (omega (arith, rest_none))
  one_cons n (Some x) zs false e same own none rest =
      let is : (number x == i) ≡ false = ap (λ m. m == i) same ∙ e in
      rw (own, is) (omega (arith, rest))

  -- An ascending list shows one element of each number at most, and a search finds it.
  one_each : (es : List E) → IsAscending key es → count (λ x. number x == i) (filter_map part es)
      ≤ cond (is_some (find test (filter_map part es))) 1 0
  unfolding IsAscending
  one_each [] up = omega arith
  one_each (e ∷ es) up =
      one_cons (key e) (part e) (filter_map part es) (key e == i) refl (numbered e) (tested e)
      (λ is. none_above part key number numbered i es (rising (key e) es up.0 is)) (one_each es up.1)

module _ {G D : Type 0} where
  tested_of : (kind : Kind) (i : ℕ) (o : Option (Vote G D)) → Of o (λ v. is_of_kind kind v ≡ true)
      → Of o (λ v. is_vote_of kind i v ≡ (signer_of v == i))
  tested_of kind i None h = tt
  tested_of kind i (Some v) h = ap (λ b. b && (signer_of v == i)) h

  once_among : (c : Bool) (votes : List (Vote G D)) (kind : Kind) (es : List Entry)
      → IsAscending entry_key es → (i : ℕ)
      → count (λ v. signer_of v == i) (kept_among c votes kind es)
      ≤ cond (is_some (find (is_vote_of kind i) (kept_among c votes kind es))) 1 0
  once_among true votes kind es up i = omega arith
  once_among false votes kind es up i =
      one_each entry_key (kept_part votes kind) signer_of (kept_numbered votes kind) (is_vote_of kind i) i
      (λ e. tested_of kind i (kept_part votes kind e) (kept_kinded votes kind e)) es up

  kinds_among : (c : Bool) (votes : List (Vote G D)) (kind : Kind) (es : List Entry)
      → AllPass (is_of_kind kind) (kept_among c votes kind es)
  kinds_among true votes kind es = λ k d below. absurd (omega arith)
  kinds_among false votes kind es =
      AllPass-from_list_all (is_of_kind kind) (filter_map (kept_part votes kind) es)
      (all_parts (kept_part votes kind) (is_of_kind kind) (kept_kinded votes kind) es)

  pub keeps_each : (c : PerKind Bool) (votes : PerKind (List (Vote G D))) (es : List Entry)
      (kind : Kind) → IsAscending entry_key es → KeepsEach (tracked_by c votes es) kind
  keeps_each c votes es kind up =
      record {
        kinds = rw (kept_is c votes es kind) (kinds_among (of_kind c kind) (of_kind votes kind) kind es);
        once = λ i. rw (kept_is c votes es kind) (once_among (of_kind c kind) (of_kind votes kind) kind es up i);
      }

  -- what is kept, by the places that may be there
  shown_among : (b : Bool) (votes : List (Vote G D)) (kind : Kind) (es : List Entry)
      → AllPass (λ e. may_say b kind votes (entry_key e) (part kind e)) es
      → kept_among b votes kind es ≡ filter_map (λ e. vote_at votes (part kind e)) es
  shown_among true votes kind es each = sym (none_among es (rec_from_all (λ e. may_say true kind votes (entry_key e) (part kind e) ≡ true) es each)) where
    none_among : (es : List Entry)
        → AllByRecursion (λ e. may_say true kind votes (entry_key e) (part kind e) ≡ true) es
        → filter_map (λ e. vote_at votes (part kind e)) es ≡ []
    none_among [] h = refl
    none_among (e ∷ es) h = let rest = none_among es h.1 in rw (no_vote votes kind (entry_key e) (part kind e) h.0, rest)
  shown_among false votes kind es each =
      filter_map-same_each (kept_part votes kind) (λ e. vote_at votes (part kind e)) es
      (rec_weaker (λ e. may_say false kind votes (entry_key e) (part kind e) ≡ true) (λ e. kept_part votes kind e ≡ vote_at votes (part kind e))
      (λ e h. kept_says votes false kind (entry_key e) (part kind e) h) es
      (rec_from_all (λ e. may_say false kind votes (entry_key e) (part kind e) ≡ true) es each))

  pub kept_shown : (c : PerKind Bool) (votes : PerKind (List (Vote G D))) (es : List Entry)
      (kind : Kind) → Fits (of_kind c kind) kind (of_kind votes kind) es
      → of_kind (tracked_by c votes es).kept kind
      ≡ filter_map (λ e. vote_at (of_kind votes kind) (part kind e)) es
  kept_shown c votes es kind fits = kept_is c votes es kind ∙ shown_among (of_kind c kind) (of_kind votes kind) kind es fits.each

module _ {E X : Type 0} (part : E → Option X) (p : X → Bool) where
  one_more : (b : Bool) (e : E) (x : X) (es : List E) (xs : List X) → length es ≡ length xs
      → length (cond b (e ∷ es) es) ≡ length (cond b (x ∷ xs) xs)
  one_more true e x es xs same = omega (arith, same)
  one_more false e x es xs same = same

  counted_so : (e : E) (o : Option X) (es : List E) (zs : List X) → length es ≡ length (filter p zs)
      → length (cond (is_some_and o p) (e ∷ es) es) ≡ length (filter p (cons_option o zs))
  counted_so e None es zs same = same
  counted_so e (Some x) es zs same = one_more (p x) e x es (filter p zs) same

  -- As many elements show a value that passes as values pass.
  pub length-filter_map : (es : List E) → length (filter (λ e. is_some_and (part e) p) es)
      ≡ length (filter p (filter_map part es))
  length-filter_map [] = refl
  length-filter_map (e ∷ es) = counted_so e (part e) (filter (λ e. is_some_and (part e) p) es) (filter_map part es) (length-filter_map es)
