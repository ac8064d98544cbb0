-- Records that are written and read one after the other, as a loop does.
use Rattle.batcher_journal.proofs.Words.{◌≡◌, ◌<◌, ◌++◌, ◌∙◌, Fits, ℕ, zero, suc, List, [], ◌∷◌, Ok, Err, ap, append_assoc, arith, get_or, length, refl, subst}
use Rattle.batcher_journal.proofs.Words.{sym, w8, append-nil, flat_map_more, length-append, AllByRecursion, flat_map, AreBytes-rest, bind_ok, bytes_is_exact}
use Rattle.batcher_journal.proofs.Words.{exact_is_prefix_free, ok_is, pair_is_exact, AreBytes, Format, IsExact, bytes_format, round_is_exact, round_format}
use Rattle.batcher_journal.proofs.Words.{DecodeFault, Certifies, Record, Voted, certified_format, record_at, record_bytes, record_format, Vote}

pub certified_is_exact : IsExact certified_format
certified_is_exact = pair_is_exact round_format bytes_format round_is_exact bytes_is_exact

-- the format of records is exact
module _ {G D : Type 0} (f : Format (Vote G D)) (exact : IsExact f) where
  abbrev Found : List ℕ → Record G D × List ℕ → Type 0
  Found bytes y = (record_format f).IsValue y.0 × (bytes ≡ record_bytes f y.0 ++ y.1)

  record_found : (bytes : List ℕ) (x : Record G D) (rest : List ℕ) → AreBytes bytes
      → record_at f bytes ≡ Ok (x, rest) → Found bytes (x, rest)
  record_found [] x rest are e = absurd cc
  record_found (zero ∷ bytes) x rest are e =
      let a = bind_ok (f.decoding bytes) (λ v. Ok (Voted v.0, v.1)) (x, rest) e in
      let t = exact.found bytes a.0.0 a.0.1 (λ i. are (suc i)) a.1 in
      let made : Record G D × List ℕ = (Voted a.0.0, a.0.1) in
      subst (Found (0 ∷ bytes)) (ok_is made (x, rest) a.2) (t.0, ap (λ bs. 0 ∷ bs) t.1)
  record_found (suc zero ∷ bytes) x rest are e =
      let a = bind_ok (certified_format.decoding bytes) (λ v. Ok (Certifies v.0, v.1)) (x, rest) e in
      let t = certified_is_exact.found bytes a.0.0 a.0.1 (λ i. are (suc i)) a.1 in
      let made : Record G D × List ℕ = (Certifies a.0.0, a.0.1) in
      subst (Found (1 ∷ bytes)) (ok_is made (x, rest) a.2) (t.0, ap (λ bs. 1 ∷ bs) t.1)
  record_found (suc (suc b) ∷ bytes) x rest are e = absurd cc

  record_again : (x : Record G D) (rest : List ℕ) → (record_format f).IsValue x
      → record_at f (record_bytes f x ++ rest) ≡ Ok (x, rest)
  record_again (Voted vote) rest value = rw (exact.again vote rest value) refl
  record_again (Certifies it) rest value = rw (certified_is_exact.again it rest value) refl

  pub record_is_exact : IsExact (record_format f)
  record_is_exact = record { found = record_found; again = record_again }

-- a record has bytes
pub record_some : {G D : Type 0} (f : Format (Vote G D)) (x : Record G D)
    → 0 < length (record_bytes f x)
record_some f (Voted vote) = omega arith
record_some f (Certifies it) = omega arith

module _ {V : Type 0} (f : Format V) where
  abbrev text_of : List V → List ℕ
  text_of xs = flat_map f.encoding xs

  abbrev AreValues : List V → Type 0
  AreValues xs = AllByRecursion f.IsValue xs

  pub text_push : (records : List V) (it : V)
      → text_of (records ++ it ∷ []) ≡ text_of records ++ f.encoding it
  text_push records it = sym (flat_map_more f.encoding [] records it)

  pub values_push : (records : List V) (it : V) → AreValues records → f.IsValue it
      → AreValues (records ++ it ∷ [])
  values_push [] it values value = (value, tt)
  values_push (v ∷ records) it values value = (values.0, values_push records it values.1 value)

  pub values_append : (xs ys : List V) → AreValues xs → AreValues ys → AreValues (xs ++ ys)
  values_append [] ys vx vy = vy
  values_append (x ∷ xs) ys vx vy = (vx.0, values_append xs ys vx.1 vy)

  -- these records, and then what is left
  pub record IsReadSoFar (bytes : List ℕ) (records : List V) (left : List ℕ) : Type 0 where
    pub parts : bytes ≡ text_of records ++ left
    pub values : AreValues records

  module _ (exact : IsExact f) (some : (it : V) → 0 < length (f.encoding it)) where
    module _ (bytes : List ℕ) (records : List V) (left : List ℕ) (so_far : IsReadSoFar bytes records left)
        (fits : (i : ℕ) → Fits w8 (get_or bytes i 0)) where
      are : AreBytes left
      are = AreBytes-rest bytes (text_of records) left (λ i. omega (arith, fits i)) so_far.parts

      pub one_more : (it : V) (after : List ℕ) → f.decoding left ≡ Ok (it, after)
          → IsReadSoFar bytes (records ++ it ∷ []) after
      one_more it after read =
          let found = exact.found left it after are read in
          record {
            parts = so_far.parts ∙ ap (λ t. text_of records ++ t) found.1
                ∙ sym (append_assoc (text_of records) (f.encoding it) after)
                ∙ ap (λ t. t ++ after) (sym (text_push records it));
            values = values_push records it so_far.values found.0;
          }

      pub shorter : (it : V) (after : List ℕ) → f.decoding left ≡ Ok (it, after)
          → length after < length left
      shorter it after read =
          let found = exact.found left it after are read in
          omega (arith, ap length found.1, length-append (f.encoding it) after, some it)

    -- a list of records that begins with others
    record Begins (xs ys : List V) (left : List ℕ) : Type 0 where
      more : List V
      all : ys ≡ xs ++ more
      values : AreValues more
      rest : left ≡ text_of more

    begins : (xs ys : List V) (left : List ℕ) → AreValues xs → AreValues ys
        → text_of xs ++ left ≡ text_of ys → Begins xs ys left
    begins [] ys left vx vy same = record { more = ys; all = refl; values = vy; rest = same }
    begins (x ∷ xs) [] left vx vy same =
        absurd (omega (
          arith,
          ap length same,
          length-append (f.encoding x ++ text_of xs) left,
          length-append (f.encoding x) (text_of xs),
          some x,
        ))
    begins (x ∷ xs) (y ∷ ys) left vx vy same =
        let grouped : f.encoding x ++ (text_of xs ++ left) ≡ f.encoding y ++ text_of ys =
        sym (append_assoc (f.encoding x) (text_of xs) left) ∙ same in
        let here = exact_is_prefix_free f exact x y (text_of xs ++ left) (text_of ys) vx.0 vy.0 grouped in
        let on = begins xs ys left vx.1 vy.1 here.1 in
        record {
          more = on.more;
          all = ap (λ z. z ∷ ys) (sym here.0) ∙ ap (λ zs. x ∷ zs) on.all;
          values = on.values;
          rest = on.rest;
        }

    -- what can't be read is no list of records
    pub unread : (bytes : List ℕ) (records : List V) (left : List ℕ) (fault : DecodeFault)
        → IsReadSoFar bytes records left → f.decoding left ≡ Err fault → 0 < length left
        → (others : List V)
        → AreValues others → bytes ≡ text_of others → ⊥
    unread bytes records left fault so_far read long others values is =
        let on = begins records others left so_far.values values (sym so_far.parts ∙ is) in
        of_more on.more on.values on.rest
      where
        of_more : (more : List V) → AreValues more → left ≡ text_of more → ⊥
        of_more [] values rest = absurd (omega (arith, long, ap length rest))
        of_more (x ∷ more) values rest =
            not_both (x, text_of more)
            (sym (exact.again x (text_of more) values.0) ∙ ap f.decoding (sym rest) ∙ read)
          where
            not_both : (y : V × List ℕ) → Ok y ≡ Err fault → ⊥
            not_both y e = absurd cc

    -- records of the same bytes are one list
    pub one_list : (xs ys : List V) → AreValues xs → AreValues ys
        → text_of xs ≡ text_of ys
        → xs ≡ ys
    one_list xs ys vx vy same =
        let on = begins xs ys [] vx vy (append-nil (text_of xs) ∙ same) in
        of_more on.more on.all on.rest
      where
        of_more : (more : List V) → ys ≡ xs ++ more → [] ≡ text_of more → xs ≡ ys
        of_more [] all rest = sym (append-nil xs) ∙ sym all
        of_more (x ∷ more) all rest =
            absurd (omega (arith, ap length rest, length-append (f.encoding x) (text_of more), some x))
