-- Which votes and certificates records have.
use Rattle.batcher_journal.proofs.Words.{◌≡◌, ◌<◌, ◌++◌, ◌∙◌, Fits, ℕ, List, [], ◌∷◌, Ok, Err, ap, append_assoc, arith, drop, get_or, length, map, refl, subst}
use Rattle.batcher_journal.proofs.Words.{sym, w8, append-nil, drop_all, take_all, flat_map-append, Format, IsExact, DecodeFault, first_of, AreRecords}
use Rattle.batcher_journal.proofs.Words.{Certified, Certifies, HasRecords, Record, Voted, certificates_of, certified_format, record_bytes, record_format}
use Rattle.batcher_journal.proofs.Words.{records_of, records_text, votes_of, Contents, IsText, OwnerFields, owner_format, Vote, Round}
use Rattle.batcher_journal.proofs.Texts.{IsReadSoFar, one_more, record_is_exact, record_some, shorter, unread}

certificates_alone : (G D : Type 0) (its : List Certified)
    → certificates_of {G = G} {D = D} (map Certifies its) ≡ its
certificates_alone G D [] = refl
certificates_alone G D (it ∷ its) = ap (λ xs. it ∷ xs) (certificates_alone G D its)

no_votes : (G D : Type 0) (its : List Certified)
    → votes_of {G = G} {D = D} (map Certifies its) ≡ []
no_votes G D [] = refl
no_votes G D (it ∷ its) = no_votes G D its

module _ {G D : Type 0} where
  pub votes_append : (xs ys : List (Record G D)) → votes_of (xs ++ ys) ≡ votes_of xs ++ votes_of ys
  votes_append [] ys = refl
  votes_append (Voted vote ∷ xs) ys = ap (λ vs. vote ∷ vs) (votes_append xs ys)
  votes_append (Certifies it ∷ xs) ys = votes_append xs ys

  pub certificates_append : (xs ys : List (Record G D))
      → certificates_of (xs ++ ys) ≡ certificates_of xs ++ certificates_of ys
  certificates_append [] ys = refl
  certificates_append (Voted vote ∷ xs) ys = certificates_append xs ys
  certificates_append (Certifies it ∷ xs) ys = ap (λ its. it ∷ its) (certificates_append xs ys)

  votes_alone : (votes : List (Vote G D)) → votes_of (map Voted votes) ≡ votes
  votes_alone [] = refl
  votes_alone (vote ∷ votes) = ap (λ vs. vote ∷ vs) (votes_alone votes)

  no_certificates : (votes : List (Vote G D)) → certificates_of (map Voted votes) ≡ []
  no_certificates [] = refl
  no_certificates (vote ∷ votes) = no_certificates votes

  pub votes_are : (votes : List (Vote G D)) (its : List Certified)
      → votes_of (records_of votes its) ≡ votes
  votes_are votes its =
      votes_append (map Voted votes) (map Certifies its)
      ∙ ap (λ vs. vs ++ votes_of {G = G} {D = D} (map Certifies its)) (votes_alone votes)
      ∙ ap (λ vs. votes ++ vs) (no_votes G D its) ∙ append-nil votes

  pub certificates_are : (votes : List (Vote G D)) (its : List Certified)
      → certificates_of (records_of votes its) ≡ its
  certificates_are votes its =
      certificates_append (map Voted votes) (map Certifies its)
      ∙ ap (λ xs. xs ++ certificates_of {G = G} {D = D} (map Certifies its)) (no_certificates votes)
      ∙ certificates_alone G D its

module _ {G D : Type 0} (f : Format (Vote G D)) where
  pub text_append : (xs ys : List (Record G D))
      → records_text f (xs ++ ys) ≡ records_text f xs ++ records_text f ys
  text_append xs ys = flat_map-append (record_bytes f) xs ys

  module _ (exact : IsExact f) (bytes : List ℕ) (votes : List (Vote G D)) (its : List Certified)
      (left : List ℕ) (so_far : HasRecords f bytes votes its left) where
    so_read : IsReadSoFar (record_format f) bytes so_far.records left
    so_read = record { parts = so_far.parts; values = so_far.values }

    pub no_records : (fault : DecodeFault) → (record_format f).decoding left ≡ Err fault
        → 0 < length left → (others : List (Record G D)) → AreRecords f others
        → bytes ≡ records_text f others → ⊥
    no_records fault read long =
        unread (record_format f) (record_is_exact f exact) (record_some f) bytes so_far.records left fault so_read read long

    module _ (fits : (i : ℕ) → Fits w8 (get_or bytes i 0)) (after : List ℕ) where
      pub less : (x : Record G D) → (record_format f).decoding left ≡ Ok (x, after)
          → length after < length left
      less x read =
          shorter (record_format f) (record_is_exact f exact) (record_some f) bytes so_far.records left so_read fits x after read

      more : (x : Record G D) → (record_format f).decoding left ≡ Ok (x, after)
          → IsReadSoFar (record_format f) bytes (so_far.records ++ x ∷ []) after
      more x read =
          one_more (record_format f) (record_is_exact f exact) (record_some f) bytes so_far.records left so_read fits x after read

      pub one_record : (x : Record G D) → (record_format f).decoding left ≡ Ok (x, after)
          → (new : List (Vote G D)) (new_its : List Certified)
          → new ≡ votes ++ votes_of (x ∷ []) → new_its ≡ its ++ certificates_of (x ∷ [])
          → HasRecords f bytes new new_its after
      one_record x read new new_its new_is its_are =
          let on = more x read in
          record {
            records = so_far.records ++ x ∷ [];
            parts = on.parts;
            values = on.values;
            votes_are = new_is ∙ ap (λ vs. vs ++ votes_of (x ∷ [])) so_far.votes_are
                ∙ sym (votes_append so_far.records (x ∷ []));
            certificates_are = its_are ∙ ap (λ xs. xs ++ certificates_of (x ∷ [])) so_far.certificates_are
                ∙ sym (certificates_append so_far.records (x ∷ []));
          }

-- the text of a journal that has been written, part after part
pub whole_text : {G D : Type 0} (f : Format (Vote G D)) (contents : Contents G D)
    (owner : OwnerFields) (finalization : List ℕ) (votes : List (Vote G D)) (its : List Certified)
    (first one two bytes : List ℕ)
    → contents.owner ≡ owner → contents.finalization ≡ finalization
    → votes ≡ contents.votes → its ≡ contents.certificates
    → first ≡ [] → one ≡ first ++ owner_format.encoding owner → owner_format.IsValue owner
    → two ≡ one ++ certified_format.encoding (contents.floor, finalization)
    → certified_format.IsValue (contents.floor, finalization)
    → bytes ≡ two ++ records_text f (records_of votes its) → AreRecords f (records_of votes its)
    → IsText f bytes contents
whole_text f contents owner finalization votes its first one two bytes owner_is finalization_is votes_is its_is none a owner_value b floor_value c values =
    let front : List ℕ = owner_format.encoding owner in
    let floor : List ℕ = certified_format.encoding (contents.floor, finalization) in
    let rest : List ℕ = records_text f (records_of votes its) in
    let all : bytes ≡ front ++ (floor ++ rest) =
    c ∙ ap (λ t. t ++ rest) (b ∙ ap (λ t. t ++ floor) (a ∙ ap (λ t. t ++ front) none))
    ∙ append_assoc front floor rest in
    record {
      records = records_of votes its;
      parts = all ∙ ap (λ o. owner_format.encoding o ++ (floor ++ rest)) (sym owner_is)
          ∙ ap (λ t. owner_format.encoding contents.owner
          ++ (certified_format.encoding (contents.floor, t) ++ rest)) (sym finalization_is);
      owner_value = subst owner_format.IsValue (sym owner_is) owner_value;
      floor_value = subst (λ t. certified_format.IsValue (contents.floor, t)) (sym finalization_is) floor_value;
      values = values;
      votes_are = sym votes_is ∙ sym (votes_are votes its);
      certificates_are = sym its_is ∙ sym (certificates_are votes its);
    }

module _ {G D : Type 0} where
  -- a journal with these contents
  abbrev pub made : OwnerFields → Round → List ℕ → List (Vote G D) → List Certified → Contents G D
  made owner floor finalization votes certificates = record {
    owner = owner;
    floor = floor;
    finalization = finalization;
    votes = votes;
    certificates = certificates;
  }

  pub same_contents : (x y : Contents G D) → x.owner ≡ y.owner → x.floor ≡ y.floor
      → x.finalization ≡ y.finalization → x.votes ≡ y.votes → x.certificates ≡ y.certificates
      → x ≡ y
  same_contents x y a b c d e =
      ap (λ o. made o x.floor x.finalization x.votes x.certificates) a
      ∙ ap (λ r. made y.owner r x.finalization x.votes x.certificates) b
      ∙ ap (λ t. made y.owner y.floor t x.votes x.certificates) c
      ∙ ap (λ vs. made y.owner y.floor y.finalization vs x.certificates) d
      ∙ ap (λ its. made y.owner y.floor y.finalization y.votes its) e

  -- Where all certificates are written, the first of them are all.
  pub all_of : (n : ℕ) (contents : Contents G D) → n ≡ length contents.certificates
      → first_of n contents ≡ contents
  all_of n contents is =
      ap (made contents.owner contents.floor contents.finalization contents.votes)
      (take_all n contents.certificates (omega (arith, is)))

pub none_left : (n : ℕ) (its : List Certified) → n ≡ length its → drop n its ≡ []
none_left n its is = drop_all n its (omega (arith, is))
