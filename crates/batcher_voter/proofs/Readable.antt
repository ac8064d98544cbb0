-- What a voter has stays readable.
use Rattle.batcher_voter.proofs.Words.{◌≡◌, ◌≢◌, ◌⊎◌, ◌++◌, ◌∙◌, ℕ, zero, suc, Bool, true, false, not, List, [], ◌∷◌, Result, Ok, Err, OnErr}
use Rattle.batcher_voter.proofs.Words.{◌<◌, ◌+◌, ⊎_elim, All, slice_index_or, cases_lt, ap, arith, inl, inr, refl, subst, sym, Contains, filter}
use Rattle.batcher_voter.proofs.Words.{All-contains, All-contains_itself, All-filter}
use Rattle.batcher_voter.proofs.Words.{Contains-append_cases, Contains-append_left, Contains-append_right, append-nil, kind_certified}
use Rattle.batcher_voter.proofs.Words.{round_in, subject_certified, Certificate, Kind, Finalization, Round, Vote, Format, versioned, whole, Certified}
use Rattle.batcher_voter.proofs.Words.{Contents, OwnerFields, JournalView, HasContents, IsAsBefore, Keeps, is_below, raised, with_more}
use Rattle.batcher_voter.proofs.Words.{StartFault, NoMemoryToStart, NotFinal, Malformed, ForgedToStart, IsReadAs, IsVouched, IsCertifiedAs}
use Rattle.batcher_voter.proofs.Words.{AreReadable, HasFinalization, HasForged, HasNoFinalization, HasUnread, KeepsReadable, WhyNotStarted, WhyUncertified}
use Rattle.batcher_voter.proofs.Words.{WhyUnread, WhyNotLearned, all_in}
use Rattle.std.specs.Prelude.{OnOk}
use Rattle.batcher_bytes.specs.Format.{IsExact, at_end}
use Rattle.batcher_bytes.specs.Lawful.{versioned_is_exact}
use Rattle.batcher_journal.specs.declared.journal.RaiseFault.{RaiseFault}
use Rattle.batcher_journal.specs.declared.journal.RaiseFault.TheVariants.{Closed as ShutToRaise, Full as NoRoomToRaise, Lower}
use Rattle.batcher_journal.specs.declared.journal.RaiseFault.TheVariants.{OutOfMemory as NoMemoryToRaise}
use Rattle.batcher_journal.specs.declared.journal.WriteFault.{WriteFault}
use Rattle.batcher_journal.specs.declared.journal.WriteFault.TheVariants.{Closed as ShutToWrite, Full as NoRoomToWrite, NotFree}
use Rattle.batcher_journal.specs.declared.journal.WriteFault.TheVariants.{OutOfMemory as NoMemoryToWrite}
use Rattle.batcher_voter.proofs.Words.{IfOk, MatchBool, Option, Subject, KnowledgeView, Receipt, Verdict, was_recorded}
use Rattle.batcher_voter.proofs.Keeping.{StaysKeeping, as_pair, one_more_stays, the_same}
use Rattle.batcher_voter.proofs.Unstarted.{one_decoded, some_decoded}

pub more_at : (P : Certified → Type 0) (xs : List Certified) (i : ℕ)
    → ((k : ℕ) (d : Certified) → k < i → P (slice_index_or xs k d))
    → ((d : Certified) → P (slice_index_or xs i d))
    → (k : ℕ) (d : Certified) → k < i + 1 → P (slice_index_or xs k d)
more_at P xs i before here k d low =
    ⊎_elim
    (λ less. before k d less)
    (λ most.
    let is : i ≡ k = omega (arith, low, most) in
    subst (λ at. P (slice_index_or xs at d)) is (here d))
    (cases_lt k i)

pub if_true : (A B : Type 0) (b : Bool) → MatchBool b A B → b ≡ true → A
if_true A B true it e = it
if_true A B false it e = absurd cc

-- what these have together
abbrev with_behind : {G D : Type 0} → Contents G D → List Certified → Contents G D
with_behind contents more = record {
  owner = contents.owner;
  floor = contents.floor;
  finalization = contents.finalization;
  votes = contents.votes;
  certificates = contents.certificates ++ more;
}

module _ {C D : Type 0} (format : Format (Certificate C D)) where
  -- what is encoded is read again
  pub read_again : IsExact format → (c : Certificate C D) (bytes : List ℕ) → format.IsValue c
      → bytes ≡ (versioned format).encoding c → whole (versioned format) bytes ≡ Ok c
  read_again exact c bytes value is =
      let read : (versioned format).decoding bytes ≡ Ok (c, []) =
      ap (versioned format).decoding (is ∙ sym (append-nil ((versioned format).encoding c)))
      ∙ (versioned_is_exact format exact).again c [] value in
      rw read refl

  -- what reads certificates reads them as certified
  pub read_certified : (certifies : Certificate C D → Bool) (round : Round) (bytes : List ℕ)
      (c : Certificate C D) → whole (versioned format) bytes ≡ Ok c
      → round_in (subject_certified c) ≡ round → certifies c ≡ true
      → IsVouched format certifies (round, bytes)
  read_certified certifies round bytes c decoded of_round holds =
      (c, (record { decoded = decoded; of_round = of_round }, holds))

  pub certifies_one : (certifies : Certificate C D → Bool) (kept : Certified)
      (c : Certificate C D) → whole (versioned format) kept.1 ≡ Ok c
      → IsVouched format certifies kept → certifies c ≡ true
  certifies_one certifies kept c decoded (d, (read, holds)) =
      subst (λ e. certifies e ≡ true) (one_decoded format kept.1 d c read.decoded decoded) holds

module _ {C D : Type 0} (format : Format (Certificate C D)) (certifies : Certificate C D → Bool)
  where
    both_certified : (one more : List Certified)
        → ((kept : Certified) → Contains one kept → IsVouched format certifies kept)
        → ((kept : Certified) → Contains more kept → IsVouched format certifies kept)
        → (kept : Certified) → Contains (one ++ more) kept → IsVouched format certifies kept
    both_certified one more first second kept there =
        elim (Contains-append_cases one more kept there) [
          | inl left ↦ first kept left
          | inr right ↦ second kept right
        ]

    one_certified : (it : Certified) → IsVouched format certifies it → (kept : Certified)
        → Contains (it ∷ []) kept → IsVouched format certifies kept
    one_certified it holds kept (zero, lt, is) = subst (λ k. IsVouched format certifies k) is holds
    one_certified it holds kept (suc i, lt, is) = absurd (omega (arith, lt))

    module _ {G : Type 0} where
      -- by what the floor's finalization is, and what is beside votes
      pub final_as : (old new : Contents G D) → new.floor ≡ old.floor
          → new.finalization ≡ old.finalization
          → HasFinalization format old certifies → HasFinalization format new certifies
      final_as old new floor finalization it =
          record {
            certificate = it.certificate;
            read = record {
              decoded = subst (λ bytes. whole (versioned format) bytes ≡ Ok it.certificate) (sym finalization)
                  it.read.decoded;
              of_round = it.read.of_round ∙ sym floor;
            };
            final = it.final;
            certifies_it = it.certifies_it;
          }

      pub readable_by : (old new : Contents G D) → new.floor ≡ old.floor
          → new.finalization ≡ old.finalization
          → ((kept : Certified) → Contains new.certificates kept → IsVouched format certifies kept)
          → AreReadable format old certifies → AreReadable format new certifies
      readable_by old new floor finalization each it =
          record {
            floor = elim it.floor [
              | inl (none, start) ↦ inl (finalization ∙ none, ap (λ (r : Round). r.view.0) floor ∙ start)
              | inr final ↦ inr (final_as old new floor finalization final)
            ];
            beside = each;
          }

    module _ {G L : Type 0} where
      pub all_readable : (journal : JournalView G D L)
          → ((journal.contents.finalization ≡ []) × (journal.contents.floor.view.0 ≡ 0))
          ⊎ HasFinalization format journal.contents certifies
          → All (IsVouched format certifies) journal.contents.certificates
          → All (IsVouched format certifies) journal.unwritten
          → AreReadable format (all_in journal) certifies
      all_readable journal floor beside unwritten =
          record {
            floor = elim floor [
              | inl start ↦ inl start
              | inr final ↦ inr (final_as journal.contents (all_in journal) refl refl final)
            ];
            beside = both_certified journal.contents.certificates journal.unwritten
                (λ kept there. All-contains (IsVouched format certifies) journal.contents.certificates kept beside there)
                (λ kept there. All-contains (IsVouched format certifies) journal.unwritten kept unwritten there);
          }

      -- What is on the disk is readable too.
      pub readable_on_disk : (journal : JournalView G D L)
          → AreReadable format (all_in journal) certifies
          → AreReadable format journal.contents certifies
      readable_on_disk journal it =
          readable_by (all_in journal) journal.contents refl refl
          (λ kept there. it.beside kept
          (Contains-append_left journal.contents.certificates journal.unwritten kept there)) it

      -- of what a journal has otherwise
      of_contents : (new : JournalView G D L) (contents : Contents G D) (more : List Certified)
          → new.contents ≡ contents → new.unwritten ≡ more
          → AreReadable format (with_behind contents more) certifies
          → AreReadable format (all_in new) certifies
      of_contents new contents more is also it =
          subst (λ (c : Contents G D). AreReadable format (with_behind c new.unwritten) certifies) (sym is)
          (subst (λ (u : List Certified). AreReadable format (with_behind contents u) certifies) (sym also) it)

      -- what has the same
      pub same_readable : (old new : JournalView G D L) → IsAsBefore old new
          → KeepsReadable format certifies old → KeepsReadable format certifies new
      same_readable old new same was is_open =
          of_contents new old.contents old.unwritten same.contents same.unwritten
          (was (sym same.is_open ∙ is_open))

      pub equal_readable : (old new : JournalView G D L) → new ≡ old
          → KeepsReadable format certifies old → KeepsReadable format certifies new
      equal_readable old new e was =
          subst (λ (j : JournalView G D L). KeepsReadable format certifies j) (sym e) was

      -- one more is to be written
      pub kept_readable : (old new : JournalView G D L) (it : Certified) → Keeps old new it
          → IsVouched format certifies it → KeepsReadable format certifies old
          → KeepsReadable format certifies new
      kept_readable old new it keeps holds was is_open =
          let before = was (sym keeps.is_open ∙ is_open) in
          of_contents new old.contents (old.unwritten ++ it ∷ []) keeps.contents keeps.unwritten_are
          (readable_by (all_in old) (with_behind old.contents (old.unwritten ++ it ∷ [])) refl refl
          (both_certified old.contents.certificates (old.unwritten ++ it ∷ [])
          (λ kept there. before.beside kept
          (Contains-append_left old.contents.certificates old.unwritten kept there))
          (both_certified old.unwritten (it ∷ [])
          (λ kept there. before.beside kept
          (Contains-append_right old.contents.certificates old.unwritten kept there))
          (one_certified it holds))) before)

      -- votes are written, and with them all that is kept
      pub written_readable : (old new : JournalView G D L) (votes : List (Vote G D))
          → HasContents new (with_more old.contents votes old.unwritten) → old.is_open ≡ true
          → KeepsReadable format certifies old → KeepsReadable format certifies new
      written_readable old new votes has was_open was is_open =
          let before = was was_open in
          of_contents new (with_more old.contents votes old.unwritten) [] has.contents_are has.all_written
          (readable_by (all_in old) (with_behind (with_more old.contents votes old.unwritten) []) refl refl
          (λ kept there. before.beside kept
          (subst (λ (xs : List Certified). Contains xs kept)
          (append-nil (old.contents.certificates ++ old.unwritten)) there)) before)

      module _ (old : JournalView G D L) (owner : OwnerFields) (round : Round)
          (finalization : List ℕ)
          (final : HasFinalization format
          (raised old.contents old.unwritten owner round finalization) certifies) where
        -- the floor is raised
        pub raised_leaves : AreReadable format (all_in old) certifies
            → AreReadable format
            (raised old.contents old.unwritten owner round finalization) certifies
        raised_leaves before =
            record {
              floor = inr final;
              beside = λ kept there. before.beside kept (All-contains
                  (Contains (old.contents.certificates ++ old.unwritten))
                  (filter (λ it. not (is_below round it.0)) (old.contents.certificates ++ old.unwritten)) kept
                  (All-filter (λ it. not (is_below round it.0))
                  (Contains (old.contents.certificates ++ old.unwritten))
                  (old.contents.certificates ++ old.unwritten)
                  (All-contains_itself (old.contents.certificates ++ old.unwritten))) there);
            }

        pub raised_readable : (new : JournalView G D L)
            → HasContents new (raised old.contents old.unwritten owner round finalization)
            → old.is_open ≡ true
            → KeepsReadable format certifies old → KeepsReadable format certifies new
        raised_readable new has was_open was is_open =
            let after = raised_leaves (was was_open) in
            let contents = raised old.contents old.unwritten owner round finalization in
            of_contents new contents [] has.contents_are has.all_written
            (readable_by contents (with_behind contents []) refl refl
            (λ kept there. after.beside kept
            (subst (λ (xs : List Certified). Contains xs kept) (append-nil contents.certificates) there)) after)

      shut_readable : (new : JournalView G D L) → new.is_open ≡ false
          → KeepsReadable format certifies new
      shut_readable new shut is_open = absurd (differ (sym is_open ∙ shut))
        where
          differ : true ≡ false → ⊥
          differ e = absurd cc

      module _ (old new : JournalView G D L) where
        pub readable_after_keep : {U E : Type 0} (result : Result U E) (it : Certified)
            → OnOk result (Keeps old new it) → OnErr result (new ≡ old)
            → IsVouched format certifies it → KeepsReadable format certifies old
            → KeepsReadable format certifies new
        readable_after_keep (Ok u) it ok err holds was = kept_readable old new it ok holds was
        readable_after_keep (Err e) it ok err holds was = equal_readable old new err was

        pub readable_after_write : {U : Type 0} (result : Result U WriteFault)
            (votes : List (Vote G D)) (A : Type 0) (B : Type 0) (E : Type 0)
            → OnOk result ((old.is_open ≡ true) × A
            × HasContents new (with_more old.contents votes old.unwritten))
            → (result ≡ Err NoMemoryToWrite → IsAsBefore old new)
            → (result ≡ Err NoRoomToWrite → IsAsBefore old new)
            → (result ≡ Err NotFree → (new ≡ old) × B)
            → (result ≡ Err ShutToWrite → (new.is_open ≡ false) × E)
            → KeepsReadable format certifies old → KeepsReadable format certifies new
        readable_after_write (Ok u) votes A B E ok memory full not_free closed was =
            written_readable old new votes ok.2 ok.0 was
        readable_after_write (Err NoMemoryToWrite) votes A B E ok memory full not_free closed was =
            same_readable old new (memory refl) was
        readable_after_write (Err NoRoomToWrite) votes A B E ok memory full not_free closed was =
            same_readable old new (full refl) was
        readable_after_write (Err NotFree) votes A B E ok memory full not_free closed was =
            equal_readable old new (not_free refl).0 was
        readable_after_write (Err ShutToWrite) votes A B E ok memory full not_free closed was =
            shut_readable new (closed refl).0

        pub readable_after_raise : {U : Type 0} (fault : RaiseFault) (result : Result U RaiseFault)
            (B : Type 0) (E : Type 0) → result ≡ Err fault
            → (result ≡ Err NoMemoryToRaise → IsAsBefore old new)
            → (result ≡ Err NoRoomToRaise → IsAsBefore old new)
            → (result ≡ Err Lower → (new ≡ old) × B)
            → (result ≡ Err ShutToRaise → (new.is_open ≡ false) × E)
            → KeepsReadable format certifies old → KeepsReadable format certifies new
        readable_after_raise NoMemoryToRaise result B E e memory full lower closed was =
            same_readable old new (memory e) was
        readable_after_raise NoRoomToRaise result B E e memory full lower closed was =
            same_readable old new (full e) was
        readable_after_raise Lower result B E e memory full lower closed was =
            equal_readable old new (lower e).0 was
        readable_after_raise ShutToRaise result B E e memory full lower closed was =
            shut_readable new (closed e).0

    -- why a start is refused
    module _ {G L : Type 0} (journal : JournalView G D L) where
      pub not_all_started : (fault : StartFault)
          → WhyNotStarted format journal.contents certifies fault
          → WhyNotStarted format (all_in journal) certifies fault
      not_all_started NoMemoryToStart why = tt
      not_all_started NotFinal why = why
      not_all_started Malformed (inl has) = inl (record { some = has.some; none = has.none })
      not_all_started Malformed (inr has) = inr (record {
        kept = has.kept;
        there = Contains-append_left journal.contents.certificates journal.unwritten has.kept has.there;
        unread = has.unread;
      })
      not_all_started ForgedToStart has = record {
        kept = has.kept;
        there = Contains-append_left ((journal.contents.floor, journal.contents.finalization)
            ∷ journal.contents.certificates) journal.unwritten has.kept has.there;
        certificate = has.certificate;
        read = has.read;
        forged = has.forged;
      }

    pub not_certified : (kept : Certified) (c : Certificate C D)
        → whole (versioned format) kept.1 ≡ Ok c → (fault : StartFault)
        → WhyNotLearned certifies kept.0 c fault → WhyUncertified format certifies kept fault
    not_certified kept c is NoMemoryToStart why = tt
    not_certified kept c is NotFinal why = why
    not_certified kept c is Malformed why = λ d read. why
        (subst (λ e. round_in (subject_certified e) ≡ kept.0) (one_decoded format kept.1 d c read.decoded is)
        read.of_round)
    not_certified kept c is ForgedToStart why =
        (c, (record { decoded = is; of_round = why.0 }, why.1))

    pub certified_of : (kept : Certified) (round : Round) (bytes : List ℕ) (kind : Kind)
        → round ≡ kept.0 → bytes ≡ kept.1 → IsCertifiedAs format certifies kind (round, bytes)
        → IsVouched format certifies kept
    certified_of kept round bytes kind first second it =
        subst (λ k. IsVouched format certifies k) (sym (as_pair kept round bytes (sym first) (sym second)))
        (it.certificate, (it.read, it.certifies_it))

    pub uncertified_of : (kept : Certified) (round : Round) (bytes : List ℕ) (fault : StartFault)
        → round ≡ kept.0 → bytes ≡ kept.1 → WhyUncertified format certifies (round, bytes) fault
        → WhyUncertified format certifies kept fault
    uncertified_of kept round bytes fault first second why =
        subst (λ k. WhyUncertified format certifies k fault)
        (sym (as_pair kept round bytes (sym first) (sym second))) why

    pub not_read : (kept : Certified) (fault : StartFault) → WhyUnread format kept fault
        → WhyUncertified format certifies kept fault
    not_read kept NoMemoryToStart why = tt
    not_read kept NotFinal why = absurd why
    not_read kept Malformed why = why
    not_read kept ForgedToStart why = absurd why

    module _ {G : Type 0} (contents : Contents G D) where
      pub beside_uncertified : (kept : Certified) → Contains contents.certificates kept
          → (fault : StartFault) → WhyUncertified format certifies kept fault
          → WhyNotStarted format contents certifies fault
      beside_uncertified kept there NoMemoryToStart why = tt
      beside_uncertified kept there NotFinal why = absurd why
      beside_uncertified kept there Malformed why =
          inr (record { kept = kept; there = there; unread = why })
      beside_uncertified kept (i, lt, at) ForgedToStart (c, (read, fails)) =
          record {
            kept = kept;
            there = (suc i, omega (arith, lt), at);
            certificate = c;
            read = read;
            forged = fails;
          }

      pub floor_uncertified : (round : Round) (bytes : List ℕ) → round ≡ contents.floor
          → bytes ≡ contents.finalization → contents.finalization ≢ [] → (fault : StartFault)
          → WhyUncertified format certifies (round, bytes) fault
          → WhyNotStarted format contents certifies fault
      floor_uncertified round bytes first second some fault why =
          by_fault fault (uncertified_of (contents.floor, contents.finalization) round bytes fault first second why)
        where
          by_fault : (fault : StartFault)
              → WhyUncertified format certifies (contents.floor, contents.finalization) fault
              → WhyNotStarted format contents certifies fault
          by_fault NoMemoryToStart why = tt
          by_fault NotFinal why = absurd why
          by_fault Malformed why = inl (record { some = some; none = λ c read final. why c read })
          by_fault ForgedToStart (c, (read, fails)) =
              record {
                kept = (contents.floor, contents.finalization);
                there = (0, omega arith, refl);
                certificate = c;
                read = read;
                forged = fails;
              }

      module _ (round : Round) (bytes : List ℕ) (kind : Kind) (first : round ≡ contents.floor)
          (second : bytes ≡ contents.finalization)
          (it : IsCertifiedAs format certifies kind (round, bytes)) where
        decoded_as : whole (versioned format) contents.finalization ≡ Ok it.certificate
        decoded_as =
            subst (λ bs. whole (versioned format) bs ≡ Ok it.certificate) second it.read.decoded

        -- another kind
        pub floor_of_kind : kind ≢ Finalization → contents.finalization ≢ []
            → WhyNotStarted format contents certifies Malformed
        floor_of_kind other some =
            inl (record {
              some = some;
              none = λ c read final. other (sym it.is_kind
                  ∙ ap kind_certified (one_decoded format contents.finalization it.certificate c decoded_as
                  read.decoded) ∙ final);
            })

        pub floor_is_final : kind ≡ Finalization → HasFinalization format contents certifies
        floor_is_final is =
            record {
              certificate = it.certificate;
              read = record { decoded = decoded_as; of_round = it.read.of_round ∙ first };
              final = it.is_kind ∙ is;
              certifies_it = it.certifies_it;
            }

      -- what was read certifies
      pub floor_certifies : AreReadable format contents certifies → (c : Certificate C D)
          → whole (versioned format) contents.finalization ≡ Ok c → certifies c ≡ true
      floor_certifies readable c decoded =
          elim readable.floor [
            | inl (none, start) ↦ absurd (some_decoded format contents.finalization c decoded none)
            | inr it ↦ subst (λ e. certifies e ≡ true)
                (one_decoded format contents.finalization it.certificate c it.read.decoded decoded) it.certifies_it
          ]

module _ {C G D L : Type 0} (format : Format (Certificate C D)) (certifies : Certificate C D → Bool)
    (old new : JournalView G D L) (knowledge : KnowledgeView D) (waits : Option (Subject D)) where
  -- what is kept true, once a certificate was kept and perhaps taken back
  abbrev pub StaysTrue : Type 0
  StaysTrue = StaysKeeping format old new knowledge waits
      × (KeepsReadable format certifies old → KeepsReadable format certifies new)

  the_same_stays : new ≡ old → StaysTrue
  the_same_stays e =
      (the_same format old new knowledge waits e, equal_readable format certifies old new e)

  by_record : (recorded : Bool) (it : Certified) → MatchBool recorded (Keeps old new it) (new ≡ old)
      → (recorded ≡ true → IsVouched format certifies it) → StaysTrue
  by_record true it keeps holds = (
    one_more_stays format old new knowledge waits it keeps,
    kept_readable format certifies old new it keeps (holds refl),
  )
  by_record false it e holds = the_same_stays e

  pub after_taking : {E : Type 0} (result : Result (Receipt Verdict) E) (it : Certified)
      (A : Type 0)
      → IfOk result (λ receipt. MatchBool (was_recorded receipt) (Keeps old new it) (new ≡ old))
      → IfOk result (λ receipt. was_recorded receipt ≡ true → IsVouched format certifies it)
      → OnErr result (A × (new ≡ old)) → StaysTrue
  after_taking (Ok receipt) it A keeps holds err = by_record (was_recorded receipt) it keeps holds
  after_taking (Err fault) it A keeps holds err = the_same_stays err.1
