-- The signers of both of two quorums.
use Rattle.batcher_evidence.proofs.Words.{◌≡◌, ◌≤◌, ◌<◌, ◌+◌, ◌==◌, ℕ, Bool, true, false, cond, List, [], ◌∷◌, length, Option, Some, None, is_some, refl, ap}
use Rattle.batcher_evidence.proofs.Words.{sym, ◌∙◌, arith, ◌&&◌, ◌||◌, ⊎_elim, nat_lt, subst, IfOk, IfSome, Result, Ok, Err, option_map, list_any, list_all}
use Rattle.batcher_evidence.proofs.Words.{find, filter_map, cons_option, AllByRecursion, cases_Bool, and_right, and_from, and_parts, eqb-true, lt-ltb}
use Rattle.batcher_evidence.proofs.Words.{AllPass-from_list_all, list_all-from_AllPass, and-true, quorums_overlap, quorum_of, index_of_signer, Meaning}
use Rattle.batcher_evidence.proofs.Words.{IsLawful, subject_certified, content_of, Attestation, Subject, Certificate, Culprit, ShowsQuorum, has_signed}
use Rattle.batcher_evidence.proofs.Words.{AreCulprits, attests_both, beside, index_of_culprit, signed_both}
use Rattle.batcher.specs.Ascending.{IsAscending}
use Rattle.batcher_evidence.proofs.Counting.{below_both, below_more, distinct_below, few_have, has_number}

-- Parts of elements, each with the number of its element.
module _ {X Y : Type 0} (number : X → ℕ) (key : Y → ℕ) (part : X → Option Y)
    (keeps : (x : X) (y : Y) → part x ≡ Some y → key y ≡ number x) where
  above_more :
      (m : ℕ) (x : X) (o : Option Y) (ys : List Y) → part x ≡ o → m < number x
      → AllByRecursion (λ y. m < key y) ys → AllByRecursion (λ y. m < key y) (cons_option o ys)
  above_more m x None ys e below h = h
  above_more m x (Some y) ys e below h = (omega (arith, keeps x y e, below), h)

  parts_above :
      (m : ℕ) (xs : List X) → AllByRecursion (λ x. m < number x) xs
      → AllByRecursion (λ y. m < key y) (filter_map part xs)
  parts_above m [] h = tt
  parts_above m (x ∷ xs) h =
      above_more m x (part x) (filter_map part xs) refl h.0 (parts_above m xs h.1)

  ascend_more :
      (x : X) (o : Option Y) (ys : List Y) → part x ≡ o
      → AllByRecursion (λ y. number x < key y) ys → IsAscending key ys
      → IsAscending key (cons_option o ys)
  unfolding IsAscending
  ascend_more x None ys e below h = h
  ascend_more x (Some y) ys e below h =
      (subst (λ k. AllByRecursion (λ z. k < key z) ys) (sym (keeps x y e)) below, h)

  parts_ascend : (xs : List X) → IsAscending number xs → IsAscending key (filter_map part xs)
  unfolding IsAscending
  parts_ascend [] h = tt
  parts_ascend (x ∷ xs) h =
      ascend_more x (part x) (filter_map part xs) refl (parts_above (number x) xs h.0) (parts_ascend xs h.1)

  any_more :
      (i : ℕ) (x : X) (o : Option Y) (ys : List Y) → part x ≡ o
      → list_any (λ y. key y == i) (cons_option o ys)
      ≡ ((is_some o && (number x == i)) || list_any (λ y. key y == i) ys)
  any_more i x None ys e = refl
  any_more i x (Some y) ys e = ap (λ k. (k == i) || list_any (λ z. key z == i) ys) (keeps x y e)

  any_part :
      (i : ℕ) (xs : List X)
      → list_any (λ y. key y == i) (filter_map part xs)
      ≡ list_any (λ x. is_some (part x) && (number x == i)) xs
  any_part i [] = refl
  any_part i (x ∷ xs) =
      any_more i x (part x) (filter_map part xs) refl
      ∙ ap (λ b. (is_some (part x) && (number x == i)) || b) (any_part i xs)

module _ {X Y : Type 0} (part : X → Option Y) where
  all_more :
      (q : Y → Bool) (o : Option Y) (ys : List Y) → IfSome o (λ y. q y ≡ true)
      → list_all q ys ≡ true → list_all q (cons_option o ys) ≡ true
  all_more q None ys now h = h
  all_more q (Some y) ys now h = and_from _ _ now h

  -- what holds of the part of each element that passes
  all_parts :
      (p : X → Bool) (q : Y → Bool) → ((x : X) → p x ≡ true → IfSome (part x) (λ y. q y ≡ true))
      → (xs : List X) → list_all p xs ≡ true → list_all q (filter_map part xs) ≡ true
  all_parts p q holds [] h = refl
  all_parts p q holds (x ∷ xs) h =
      let parts = and_parts (p x) (list_all p xs) h in
      all_more q (part x) (filter_map part xs) (holds x parts.0) (all_parts p q holds xs parts.1)

module _ {X : Type 0} where
  found_more :
      (p : X → Bool) (x : X) (xs : List X) (b : Bool) → p x ≡ b
      → is_some (find p xs) ≡ list_any p xs
      → is_some (cond b (Some x) (find p xs)) ≡ (b || list_any p xs)
  found_more p x xs true e h = refl
  found_more p x xs false e h = h

  any_found : (p : X → Bool) (xs : List X) → is_some (find p xs) ≡ list_any p xs
  any_found p [] = refl
  any_found p (x ∷ xs) = found_more p x xs (p x) refl (any_found p xs)

  passes_more :
      (p q : X → Bool) (x : X) (xs : List X) (b : Bool) → p x ≡ b → q x ≡ true
      → IfSome (find p xs) (λ y. (p y && q y) ≡ true)
      → IfSome (cond b (Some x) (find p xs)) (λ y. (p y && q y) ≡ true)
  passes_more p q x xs true e now h = and_from _ _ e now
  passes_more p q x xs false e now h = h

  -- what is found passes, and so does each element
  found_passes :
      (p q : X → Bool) (xs : List X) → list_all q xs ≡ true
      → IfSome (find p xs) (λ y. (p y && q y) ≡ true)
  found_passes p q [] h = tt
  found_passes p q (x ∷ xs) h =
      let parts = and_parts (q x) (list_all q xs) h in
      passes_more p q x xs (p x) refl parts.0 (found_passes p q xs parts.1)

module _ {G : Type 0} where
  keeps_signer :
      (o : Option (Attestation G)) (a : Attestation G) (culprit : Culprit G)
      → option_map (λ b. record { first = a; second = b }) o ≡ Some culprit
      → index_of_culprit culprit ≡ index_of_signer a
  keeps_signer None a culprit e = absurd (cc)
  keeps_signer (Some b) a culprit e =
      ap (λ (o : Option (Culprit G)). index_in o) (sym e)
    where
      index_in : Option (Culprit G) → ℕ
      index_in None = 0
      index_in (Some c) = index_of_culprit c

  is_beside :
      (ys : List (Attestation G)) (a : Attestation G)
      → is_some (beside ys a) ≡ has_number index_of_signer ys (index_of_signer a)
  is_beside ys a =
      mapped (find (λ b. index_of_signer b == index_of_signer a) ys)
      ∙ any_found (λ b. index_of_signer b == index_of_signer a) ys
    where
      mapped :
          (o : Option (Attestation G))
          → is_some (option_map {U = Culprit G} (λ b. record { first = a; second = b }) o)
          ≡ is_some o
      mapped None = refl
      mapped (Some b) = refl

  shared_at :
      (ys : List (Attestation G)) (i : ℕ) (a : Attestation G)
      → (has_number index_of_signer ys (index_of_signer a) && (index_of_signer a == i))
      ≡ ((index_of_signer a == i) && list_any (λ b. index_of_signer b == i) ys)
  shared_at ys i a =
      ⊎_elim
      (λ same.
      let at : index_of_signer a ≡ i = eqb-true (index_of_signer a) i same in
      ap (λ b. has_number index_of_signer ys (index_of_signer a) && b) same
      ∙ (and-true (has_number index_of_signer ys (index_of_signer a))
      ∙ (ap (λ j. list_any (λ b. index_of_signer b == j) ys) at
      ∙ ap (λ b. b && list_any (λ c. index_of_signer c == i) ys) (sym same))))
      (λ other.
      and_right (has_number index_of_signer ys (index_of_signer a)) (index_of_signer a == i) other
      ∙ ap (λ b. b && list_any (λ c. index_of_signer c == i) ys) (sym other))
      (cases_Bool (index_of_signer a == i))

  any_beside :
      (xs ys : List (Attestation G)) (i : ℕ)
      → list_any (λ a. is_some (beside ys a) && (index_of_signer a == i)) xs
      ≡ (list_any (λ a. index_of_signer a == i) xs && list_any (λ b. index_of_signer b == i) ys)
  any_beside [] ys i = refl
  any_beside (a ∷ xs) ys i =
      ap
      (λ b. b || list_any (λ c. is_some (beside ys c) && (index_of_signer c == i)) xs)
      (ap (λ b. b && (index_of_signer a == i)) (is_beside ys a) ∙ shared_at ys i a)
      ∙ (ap
      (λ b. ((index_of_signer a == i) && list_any (λ c. index_of_signer c == i) ys) || b)
      (any_beside xs ys i)
      ∙ together (index_of_signer a == i) (list_any (λ c. index_of_signer c == i) xs) (list_any (λ c. index_of_signer c == i) ys))
    where
      together : (a b c : Bool) → ((a && c) || (b && c)) ≡ ((a || b) && c)
      together true b true = refl
      together true true false = refl
      together true false false = refl
      together false b c = refl

  any_attests :
      (p : Attestation G → Bool) (xs : List (Attestation G)) (i : ℕ) → list_all p xs ≡ true
      → list_any (λ a. (index_of_signer a == i) && p a) xs
      ≡ list_any (λ a. index_of_signer a == i) xs
  any_attests p [] i h = refl
  any_attests p (a ∷ xs) i h =
      let parts = and_parts (p a) (list_all p xs) h in
      ap
      (λ b. ((index_of_signer a == i) && b) || list_any (λ c. (index_of_signer c == i) && p c) xs)
      parts.0
      ∙ (ap (λ b. b || list_any (λ c. (index_of_signer c == i) && p c) xs) (and-true (index_of_signer a == i))
      ∙ ap (λ b. (index_of_signer a == i) || b) (any_attests p xs i parts.1))

module _ {D K G C : Type 0} (m : Meaning D K G C) (lawful : IsLawful m) where
  in_range :
      (subject : Subject D) (xs : List (Attestation G))
      → list_all (m.attests subject) xs ≡ true
      → list_all (λ a. nat_lt (index_of_signer a) (length m.participants)) xs ≡ true
  in_range subject [] h = refl
  in_range subject (a ∷ xs) h =
      let parts = and_parts (m.attests subject a) (list_all (m.attests subject) xs) h in
      and_from _ _
      (lt-ltb (index_of_signer a) (length m.participants) (lawful.signers_in_range subject a parts.0))
      (in_range subject xs parts.1)

  attests_beside :
      (subject other : Subject D) (ys : List (Attestation G)) → list_all (m.attests other) ys ≡ true
      → (a : Attestation G) → m.attests subject a ≡ true
      → IfSome (beside ys a) (λ culprit. attests_both m subject other culprit ≡ true)
  attests_beside subject other ys all a h =
      mapped
      (find (λ b. index_of_signer b == index_of_signer a) ys)
      (found_passes (λ b. index_of_signer b == index_of_signer a) (m.attests other) ys all)
    where
      mapped :
          (o : Option (Attestation G))
          → IfSome o (λ b. ((index_of_signer b == index_of_signer a) && m.attests other b) ≡ true)
          → IfSome (option_map {U = Culprit G} (λ b. record { first = a; second = b }) o)
          (λ culprit. attests_both m subject other culprit ≡ true)
      mapped None e = tt
      mapped (Some b) e =
          let parts = and_parts (index_of_signer b == index_of_signer a) (m.attests other b) e in
          and_from _ _ parts.0 (and_from _ _ h parts.1)

  below_beside :
      (ys : List (Attestation G)) (a : Attestation G)
      → nat_lt (index_of_signer a) (length m.participants) ≡ true
      → IfSome (beside ys a) (λ c. nat_lt (index_of_culprit c) (length m.participants) ≡ true)
  below_beside ys a h = mapped (find (λ b. index_of_signer b == index_of_signer a) ys)
    where
      mapped :
          (o : Option (Attestation G))
          → IfSome (option_map {U = Culprit G} (λ b. record { first = a; second = b }) o)
          (λ c. nat_lt (index_of_culprit c) (length m.participants) ≡ true)
      mapped None = tt
      mapped (Some b) = h

  -- Who signed both of two quorums that are shown.
  pub both_signed :
      (shown : C → List (Attestation G)) (a b : Certificate C D)
      → ShowsQuorum m (subject_certified a) (shown (content_of a))
      → ShowsQuorum m (subject_certified b) (shown (content_of b))
      → AreCulprits m shown a b (signed_both (shown (content_of a)) (shown (content_of b)))
  both_signed shown a b first second =
      record {
        ascending = parts_ascend index_of_signer index_of_culprit (beside ys) (λ a c e. keeps_signer _ a c e) xs first.ascending;
        attested = AllPass-from_list_all (attests_both m (subject_certified a) (subject_certified b)) (signed_both xs ys)
            (all_parts (beside ys) (m.attests (subject_certified a)) (attests_both m (subject_certified a) (subject_certified b))
            (attests_beside (subject_certified a) (subject_certified b) ys all_second) xs all_first);
        exactly = λ i.
            signed_by_both i
            ∙ (ap (λ c. c && has_number index_of_signer ys i) (sym (any_attests (m.attests (subject_certified a)) xs i all_first))
            ∙ ap (λ c. has_signed m (subject_certified a) xs i && c) (sym (any_attests (m.attests (subject_certified b)) ys i all_second)));
        participants = AllPass-from_list_all (λ c. nat_lt (index_of_culprit c) n) (signed_both xs ys)
            (all_parts (beside ys) (λ a. nat_lt (index_of_signer a) n) (λ c. nat_lt (index_of_culprit c) n) (below_beside ys) xs inside_first);
        enough = enough;
        more_than_faulty = omega (arith, enough, quorums_overlap n first.some);
      }
    where
      n : ℕ
      n = length m.participants

      xs : List (Attestation G)
      xs = shown (content_of a)

      ys : List (Attestation G)
      ys = shown (content_of b)

      all_first : list_all (m.attests (subject_certified a)) xs ≡ true
      all_first = list_all-from_AllPass (m.attests (subject_certified a)) xs first.attested

      all_second : list_all (m.attests (subject_certified b)) ys ≡ true
      all_second = list_all-from_AllPass (m.attests (subject_certified b)) ys second.attested

      inside_first : list_all (λ a. nat_lt (index_of_signer a) n) xs ≡ true
      inside_first = in_range (subject_certified a) xs all_first

      signed_by_both :
          (i : ℕ)
          → has_number index_of_culprit (signed_both xs ys) i
          ≡ (has_number index_of_signer xs i && has_number index_of_signer ys i)
      signed_by_both i =
          any_part index_of_signer index_of_culprit (beside ys) (λ a c e. keeps_signer _ a c e) i xs
          ∙ any_beside xs ys i

      enough : quorum_of n + quorum_of n ≤ length (signed_both xs ys) + n
      enough =
          omega (
            arith,
            first.quorum.enough,
            second.quorum.enough,
            distinct_below index_of_signer n xs first.quorum.once inside_first,
            distinct_below index_of_signer n ys second.quorum.once (in_range (subject_certified b) ys all_second),
            below_both (has_number index_of_signer xs) (has_number index_of_signer ys) n,
            below_more (λ i. has_number index_of_signer xs i && has_number index_of_signer ys i)
                (has_number index_of_culprit (signed_both xs ys)) (λ i h. signed_by_both i ∙ h) n,
            few_have index_of_culprit n (signed_both xs ys),
          )

  -- The same of what is found in the lists.
  pub merged_if_ok :
      {E V : Type 0} (items : V → List (Culprit G)) (shown : C → List (Attestation G))
      (a b : Certificate C D) (xs ys : List (Attestation G))
      → xs ≡ shown (content_of a) → ys ≡ shown (content_of b)
      → ShowsQuorum m (subject_certified a) (shown (content_of a))
      → ShowsQuorum m (subject_certified b) (shown (content_of b))
      → (r : Result V E) → IfOk r (λ list. items list ≡ signed_both xs ys)
      → IfOk r (λ list. AreCulprits m shown a b (items list))
  merged_if_ok items shown a b xs ys is_x is_y first second (Err fault) e = tt
  merged_if_ok items shown a b xs ys is_x is_y first second (Ok list) e =
      let same = ap (λ zs. signed_both zs ys) is_x ∙ ap (signed_both (shown (content_of a))) is_y in
      subst
      (λ found. AreCulprits m shown a b found)
      (sym (e ∙ same))
      (both_signed shown a b first second)
