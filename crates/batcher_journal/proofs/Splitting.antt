-- The parts of a journal's bytes.
use Rattle.batcher_journal.proofs.Words.{◌≡◌, ◌≢◌, ◌++◌, ◌∙◌, Fits, ℕ, Bool, List, [], Ok, Err, ap, arith, get_or, subst, sym, w8, append-nil, AreBytes-rest}
use Rattle.batcher_journal.proofs.Words.{bytes_is_exact, ok_is, pair_is_exact, u32_is_exact, AreBytes, Format, IsExact, bytes_format, pair, u32_format}
use Rattle.batcher_journal.proofs.Words.{versioned_is_exact, DecodeFault, Version, refl, Vote, Round, MayBeWrittenBehind, Cause, IsOneText, Unfollowed}
use Rattle.batcher_journal.proofs.Words.{AreNoText, MayBeOf, AreRecords, Certified, SaysNoOwner, false, length, inl, inr, ◌∷◌}
use Rattle.std.specs.Prelude.{◌==◌, Result}
use Rattle.batcher_journal.proofs.Words.{HasRecords, Record, certificates_of, certified_format, record_format, records_text, votes_of, Contents, IsText}
use Rattle.batcher_journal.proofs.Words.{OwnerFields, owner_format, OpenFault, Contradiction, Malformed, NotBegun, OtherKeys, OtherLengths, OtherNamespace}
use Rattle.batcher_journal.proofs.Words.{OtherParticipant, OtherVersion, OutOfMemory}
use Rattle.batcher_journal.proofs.Sorting.{same_contents}
use Rattle.batcher_journal.proofs.Texts.{certified_is_exact, one_list, record_is_exact, record_some}

owner_exact : IsExact owner_format
owner_exact =
    versioned_is_exact (pair u32_format (pair u32_format (pair u32_format (pair bytes_format bytes_format))))
    (pair_is_exact u32_format (pair u32_format (pair u32_format (pair bytes_format bytes_format))) u32_is_exact
    (pair_is_exact u32_format (pair u32_format (pair bytes_format bytes_format)) u32_is_exact
    (pair_is_exact u32_format (pair bytes_format bytes_format) u32_is_exact
    (pair_is_exact bytes_format bytes_format bytes_is_exact bytes_is_exact))))

abbrev parted : Round → List ℕ → List ℕ → Certified × List ℕ
parted floor finalization rest = ((floor, finalization), rest)

abbrev headed : OwnerFields → List ℕ → OwnerFields × List ℕ
headed owner rest = (owner, rest)

pub some_bytes : (bytes : List ℕ) → false ≡ (length bytes == 0) → bytes ≢ []
some_bytes [] not none = absurd cc
some_bytes (b ∷ bytes) not none = absurd cc

same_fault : {A : Type 0} (x y : DecodeFault) (read : Result A DecodeFault) → read ≡ Err x
    → read ≡ Err y → x ≡ y
same_fault x y read is also = cc

not_both : {A : Type 0} (x : A) (fault : DecodeFault) → Ok x ≡ Err fault → ⊥
not_both x fault e = absurd cc

module _ {G D : Type 0} (f : Format (Vote G D)) (exact : IsExact f) (written : List ℕ) where
  module _ (contents : Contents G D) (it : IsText f written contents) where
    abbrev Rest : List ℕ
    Rest = certified_format.encoding (contents.floor, contents.finalization) ++ records_text f it.records

    read_owner : owner_format.decoding written ≡ Ok (contents.owner, Rest)
    read_owner = ap owner_format.decoding it.parts ∙ owner_exact.again contents.owner Rest it.owner_value

    read_floor : certified_format.decoding Rest
        ≡ Ok ((contents.floor, contents.finalization), records_text f it.records)
    read_floor =
        certified_is_exact.again (contents.floor, contents.finalization) (records_text f it.records) it.floor_value

    pub no_owner : (fault : DecodeFault) → owner_format.decoding written ≡ Err fault → ⊥
    no_owner fault read = not_both (contents.owner, Rest) fault (sym read_owner ∙ read)

    module _ (other : OwnerFields) (rest : List ℕ) (read : owner_format.decoding written ≡ Ok (other, rest)) where
      rest_is : rest ≡ Rest
      rest_is =
          ap (λ (p : OwnerFields × List ℕ). p.1)
          (ok_is (other, rest) (contents.owner, Rest) (sym read ∙ read_owner))

      pub no_floor : (fault : DecodeFault) → certified_format.decoding rest ≡ Err fault → ⊥
      no_floor fault bad =
          not_both ((contents.floor, contents.finalization), records_text f it.records) fault
          (sym read_floor ∙ ap certified_format.decoding (sym rest_is) ∙ bad)

      module _ (at : Round) (lent after : List ℕ) (found : certified_format.decoding rest ≡ Ok ((at, lent), after)) where
        whole : parted at lent after
            ≡ parted contents.floor contents.finalization (records_text f it.records)
        whole =
            ok_is (parted at lent after) (parted contents.floor contents.finalization (records_text f it.records))
            (sym found ∙ ap certified_format.decoding rest_is ∙ read_floor)

        pub no_records : ((others : List (Record G D)) → AreRecords f others
            → after ≡ records_text f others → ⊥) → ⊥
        no_records none = none it.records it.values (ap (λ (p : Certified × List ℕ). p.1) whole)

  -- whose they are was read: they aren't another's
  pub read_by : (owner : OwnerFields) (rest : List ℕ)
      → owner_format.decoding written ≡ Ok (owner, rest) → written ≢ [] → MayBeOf written owner
  read_by owner rest read some = record {
    some = some;
    of_version = λ bad. not_both (owner, rest) Version (sym read ∙ bad);
    of_owner = λ other after is.
        ap (λ (p : OwnerFields × List ℕ). p.0) (ok_is (headed other after) (headed owner rest) (sym is ∙ read));
  }

  -- it wasn't read: they are no journal's
  no_journal : (owner : OwnerFields) (fault : DecodeFault)
      → owner_format.decoding written ≡ Err fault → fault ≢ Version → written ≢ []
      → AreNoText f written owner
  no_journal owner fault read known some = record {
    may_be = record {
      some = some;
      of_version = λ bad. known (same_fault fault Version (owner_format.decoding written) read bad);
      of_owner = λ other rest is. absurd (not_both (other, rest) fault (sym is ∙ read));
    };
    none = λ contents text. no_owner contents text fault read;
  }

  pub unread : (owner : OwnerFields) (same : D → D → Bool) (read : DecodeFault) (fault : OpenFault)
      → owner_format.decoding written ≡ Err read → SaysNoOwner read fault → written ≢ []
      → Cause f written owner same fault
  unread owner same read fault is (inl (version, other)) some =
      subst (Cause f written owner same) (sym other) (is ∙ ap (λ (e : DecodeFault). Err e) version)
  unread owner same read fault is (inr (known, bad)) some =
      subst (Cause f written owner same) (sym bad) (no_journal owner read is known some)

  -- what was read is all that is there
  pub found_text : (contents : Contents G D) (other : OwnerFields) (rest after : List ℕ)
      → ((i : ℕ) → Fits w8 (get_or written i 0)) → owner_format.decoding written ≡ Ok (other, rest)
      → other ≡ contents.owner
      → certified_format.decoding rest ≡ Ok ((contents.floor, contents.finalization), after)
      → HasRecords f after contents.votes contents.certificates []
      → IsText f written contents
  found_text contents other rest after fits read same floor records =
      let are : AreBytes written = λ i. omega (arith, fits i) in
      let one = owner_exact.found written other rest are read in
      let two = certified_is_exact.found rest (contents.floor, contents.finalization) after (AreBytes-rest written (owner_format.encoding other) rest
      are one.1) floor in
      record {
        records = records.records;
        parts = one.1 ∙ ap (λ o. owner_format.encoding o ++ rest) same
            ∙ ap (λ t. owner_format.encoding contents.owner ++ t) (two.1
            ∙ ap (λ t. certified_format.encoding (contents.floor, contents.finalization) ++ t)
            (records.parts ∙ append-nil (records_text f records.records)));
        owner_value = subst owner_format.IsValue same one.0;
        floor_value = two.0;
        values = records.values;
        votes_are = records.votes_are;
        certificates_are = records.certificates_are;
      }

  -- votes that aren't a journal's were written by none
  pub refused : (owner other : OwnerFields) (rest after : List ℕ)
      → ((i : ℕ) → Fits w8 (get_or written i 0)) → owner_format.decoding written ≡ Ok (other, rest)
      → other ≡ owner → (at : Round) (lent : List ℕ)
      → certified_format.decoding rest ≡ Ok ((at, lent), after)
      → (same : D → D → Bool) (votes : List (Vote G D)) (its : List Certified)
      → HasRecords f after votes its [] → (fault : OpenFault) → Unfollowed same at votes fault
      → Cause f written owner same fault
  refused owner other rest after fits read is at lent found same votes its records OutOfMemory why = tt
  refused owner other rest after fits read is at lent found same votes its records Contradiction why =
      let contents : Contents G D =
      record { owner = owner; floor = at; finalization = lent; votes = votes; certificates = its } in
      record {
        contents = contents;
        owner_is = refl;
        text = found_text contents other rest after fits read is found records;
        unfollowed = why;
      }
  refused owner other rest after fits read is at lent found same votes its records NotBegun why = absurd why
  refused owner other rest after fits read is at lent found same votes its records OtherVersion why = absurd why
  refused owner other rest after fits read is at lent found same votes its records OtherLengths why = absurd why
  refused owner other rest after fits read is at lent found same votes its records OtherParticipant why = absurd why
  refused owner other rest after fits read is at lent found same votes its records OtherKeys why = absurd why
  refused owner other rest after fits read is at lent found same votes its records OtherNamespace why = absurd why
  refused owner other rest after fits read is at lent found same votes its records Malformed why = absurd why

-- one journal has these bytes
pub one_text : {G D : Type 0} (f : Format (Vote G D)) → IsExact f → IsOneText f
one_text {G} {D} f exact written x y a b =
    let first = read_owner f exact written x a in
    let second = read_owner f exact written y b in
    let one = read_floor f exact written x a in
    let two = read_floor f exact written y b in
    let heads : headed x.owner (Rest f exact written x a) ≡ headed y.owner (Rest f exact written y b) =
    ok_is (headed x.owner (Rest f exact written x a)) (headed y.owner (Rest f exact written y b)) (sym first ∙ second) in
    let parts : parted x.floor x.finalization (records_text f a.records)
    ≡ parted y.floor y.finalization (records_text f b.records) =
    ok_is (parted x.floor x.finalization (records_text f a.records)) (parted y.floor y.finalization (records_text f b.records))
    (sym one ∙ ap certified_format.decoding (ap (λ (p : OwnerFields × List ℕ). p.1) heads) ∙ two) in
    let list : a.records ≡ b.records =
    one_list (record_format f) (record_is_exact f exact) (record_some f) a.records b.records a.values b.values
    (ap (λ (p : Certified × List ℕ). p.1) parts) in
    same_contents x y (ap (λ (p : OwnerFields × List ℕ). p.0) heads)
    (ap (λ (p : Certified × List ℕ). p.0.0) parts) (ap (λ (p : Certified × List ℕ). p.0.1) parts)
    (a.votes_are ∙ ap votes_of list ∙ sym b.votes_are)
    (a.certificates_are ∙ ap certificates_of list ∙ sym b.certificates_are)
