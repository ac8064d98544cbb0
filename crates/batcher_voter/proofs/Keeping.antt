-- What is known stays kept for the disk.
use Rattle.batcher_voter.proofs.Words.{◌≡◌, ◌≤◌, ◌<◌, ◌⊎◌, ◌++◌, ◌∙◌, ℕ, zero, suc, Bool, true, false, not, List, [], ◌∷◌, Option, Some, None, ap, arith, cond}
use Rattle.batcher_voter.proofs.Words.{eqb}
use Rattle.batcher_voter.proofs.Words.{eqb-true, inl, inr, is_some, refl, subst, sym, Contains, same_Some, le-ltb, round_in, subject_certified, Certificate}
use Rattle.batcher_voter.proofs.Words.{Proposal, Subject, Notarize, Nullify, Finalize, Epoch, Round, Format, Certified, JournalView, Contents, OwnerFields}
use Rattle.batcher_voter.proofs.Words.{HasContents, IsAsBefore, Keeps, HasLearned, nothing_learned, certified_from, is_below, raised, with_more}
use Rattle.batcher_voter.proofs.Words.{contains_filter, numbered, Forgets, KnowledgeView, Learns}
use Rattle.batcher_voter.proofs.Words.{SameKnowledge, learned_at, Learned, with_learned, versioned, append-nil, append_assoc, Contains-append_left}
use Rattle.batcher_voter.proofs.Words.{Contains-append_right}
use Rattle.batcher_voter.proofs.Words.{DoesFor, HasOf, IsKnownAlready, IsKnownHere, WaitsFor, certificates_in, kept_for, HasOnDisk, IsKeptAmong}
use Rattle.batcher_voter.proofs.Words.{IsSafelyKept, KeepsWhatIsKnown, kind_certified, Finalization}
use Rattle.batcher_voter.proofs.Words.{NotarizationCertificate, NullificationCertificate, FinalizationCertificate}
use Rattle.batcher_voter.proofs.Windowed.{never}
use Rattle.std.proofs.lemmas.List.Elements.{Contains-from_at}
use Rattle.std.specs.List.{HoldsAt}
use Rattle.std.specs.Prelude.{slice_index_or, length, Result, Ok, Err, OnErr, OnOk}
use Rattle.batcher.specs.messages.Vote.{Vote}
use Rattle.batcher_journal.specs.declared.journal.RaiseFault.{RaiseFault}
use Rattle.batcher_journal.specs.declared.journal.RaiseFault.TheVariants.{Closed as ShutToRaise, Full as NoRoomToRaise, Lower}
use Rattle.batcher_journal.specs.declared.journal.RaiseFault.TheVariants.{OutOfMemory as NoMemoryToRaise}
use Rattle.batcher_journal.specs.declared.journal.WriteFault.{WriteFault}
use Rattle.batcher_journal.specs.declared.journal.WriteFault.TheVariants.{Closed as ShutToWrite, Full as NoRoomToWrite, NotFree}
use Rattle.batcher_journal.specs.declared.journal.WriteFault.TheVariants.{OutOfMemory as NoMemoryToWrite}

pub as_pair :
    (it : Certified) (round : Round) (bytes : List ℕ) → it.0 ≡ round → it.1 ≡ bytes
    → it ≡ (round, bytes)
as_pair it round bytes first second =
    ap (λ (r : Round). (r, it.1)) first ∙ ap (λ (b : List ℕ). (round, b)) second

-- a round is its epoch and its view
pub same_rounds :
    (a b : Round) → a.epoch ≡ b.epoch → a.view.0 ≡ b.view.0 → a ≡ b
same_rounds a b epoch view =
    ap (λ e. numbered e a.view.0) epoch ∙ ap (λ n. numbered b.epoch n) view

module _ {D : Type 0} where
  after :
      (s t : Subject D) (before : Learned D) → round_in s ≡ round_in t
      → HasOf (with_learned s before) t → DoesFor s t ⊎ HasOf before t
  after (Notarize p) (Notarize q) before same h = inl (ap (λ (it : Proposal D). Notarize it) (same_Some p q h))
  after (Notarize p) (Nullify n) before same h = inr h
  after (Notarize p) (Finalize q) before same h = inr h
  after (Nullify m) (Notarize q) before same h = inr h
  after (Nullify m) (Nullify n) before same h = inl (ap (λ it. Nullify it) same)
  after (Nullify m) (Finalize q) before same h = inr h
  after (Finalize p) (Notarize q) before same h = inr h
  after (Finalize p) (Nullify n) before same h = inr h
  after (Finalize p) (Finalize q) before same h = inl (p, (refl, same))

  by_view :
      (s t : Subject D) (before : Learned D) (same : Bool)
      → eqb (round_in s).view.0 (round_in t).view.0 ≡ same
      → (round_in s).epoch ≡ (round_in t).epoch
      → HasOf (cond same (with_learned s before) before) t → DoesFor s t ⊎ HasOf before t
  by_view s t before true e epoch h =
      after s t before
      (same_rounds (round_in s) (round_in t) epoch (eqb-true (round_in s).view.0 (round_in t).view.0 e)) h
  by_view s t before false e epoch h = inr h

  -- What is known once a certificate was learned was known before, or is of it.
  pub known_before :
      (s t : Subject D) (old new : KnowledgeView D) → Learns s old new
      → (round_in s).epoch ≡ old.epoch → IsKnownHere new t → DoesFor s t ⊎ IsKnownHere old t
  known_before s t old new learns epoch known =
      elim (by_view s t (learned_at old (round_in t).view.0) (eqb (round_in s).view.0 (round_in t).view.0)
      refl (epoch ∙ sym (known.of_epoch ∙ learns.epoch))
      (subst (λ it. HasOf it t) (learns.each (round_in t).view.0) known.known)) [
        | inl does ↦ inl does
        | inr had ↦ inr (record {
          of_epoch = known.of_epoch ∙ learns.epoch;
          from_floor = subst (λ floor. floor ≤ (round_in t).view.0) learns.floor known.from_floor;
          known = had;
        })
      ]

  pub known_same :
      (t : Subject D) (old new : KnowledgeView D) → SameKnowledge old new → IsKnownHere new t
      → IsKnownHere old t
  known_same t old new same known =
      record {
        of_epoch = known.of_epoch ∙ same.epoch;
        from_floor = subst (λ floor. floor ≤ (round_in t).view.0) same.floor known.from_floor;
        known = subst (λ it. HasOf it t) (same.each (round_in t).view.0) known.known;
      }

  pub known_from :
      (t : Subject D) (first : ℕ) (old new : KnowledgeView D) → Forgets first old new
      → IsKnownHere new t → IsKnownHere old t
  known_from t first old new forgets known =
      record {
        of_epoch = known.of_epoch ∙ forgets.epoch;
        from_floor = omega (arith, known.from_floor, forgets.floor);
        known = subst (λ it. HasOf it t)
            (forgets.each (round_in t).view.0 (omega (arith, known.from_floor, forgets.floor))) known.known;
      }

module _ {C D : Type 0} (format : Format (Certificate C D)) where
  -- The same certificates, and more.
  pub kept_more :
      (old new : List Certified) → ((it : Certified) → Contains old it → Contains new it)
      → (s : Subject D) → IsKeptAmong format old s → IsKeptAmong format new s
  kept_more old new more s it =
      record { certificate = it.certificate; does = it.does; there = more _ it.there }

module _ {C G D L : Type 0} (format : Format (Certificate C D)) where
  module _ (old new : JournalView G D L)
      (floor : new.contents.floor ≡ old.contents.floor)
      (finalization : new.contents.finalization ≡ old.contents.finalization)
      (more : (it : Certified) → Contains (old.contents.certificates ++ old.unwritten) it
      → Contains (new.contents.certificates ++ new.unwritten) it) where
    head_or_more :
        (it : Certified)
        → Contains ((old.contents.floor, old.contents.finalization)
        ∷ (old.contents.certificates ++ old.unwritten)) it
        → Contains ((new.contents.floor, new.contents.finalization)
        ∷ (new.contents.certificates ++ new.unwritten)) it
    head_or_more it (zero, lt, is) = (0, omega arith, rw (floor, finalization) is)
    head_or_more it (suc i, lt, is) =
        let there = more it (i, omega (arith, lt), is) in
        (suc there.0, omega (arith, there.1), there.2)

    pub more_for :
        (s : Subject D) → IsKeptAmong format (kept_for old s) s
        → IsKeptAmong format (kept_for new s) s
    more_for (Notarize p) = kept_more format _ _ more (Notarize p)
    more_for (Nullify number) = kept_more format _ _ more (Nullify number)
    more_for (Finalize p) = kept_more format _ _ head_or_more (Finalize p)

    -- nothing is known that wasn't, and nothing is dropped
    pub still_keeps :
        (before after : KnowledgeView D) (waits : Option (Subject D))
        → ((s : Subject D) → IsKnownHere after s → IsKnownHere before s)
        → (new.is_open ≡ true → old.is_open ≡ true) → KeepsWhatIsKnown format old before waits
        → KeepsWhatIsKnown format new after waits
    still_keeps before after waits known was_open keeps is_open s here =
        elim (keeps (was_open is_open) s (known s here)) [
          | inl kept ↦ inl (more_for s kept)
          | inr waiting ↦ inr waiting
        ]

  -- One more is known, which is kept or waits.
  pub learned_keeps :
      (journal : JournalView G D L) (s : Subject D) (old new : KnowledgeView D)
      (before after : Option (Subject D)) → Learns s old new → (round_in s).epoch ≡ old.epoch
      → ((t : Subject D) → WaitsFor before t → WaitsFor after t)
      → (old.floor ≤ (round_in s).view.0 → IsSafelyKept format journal after s)
      → KeepsWhatIsKnown format journal old before → KeepsWhatIsKnown format journal new after
  learned_keeps journal s old new before after learns epoch more one keeps is_open t here =
      elim (known_before s t old new learns epoch here) [
        | inl does ↦ one (subst (λ (r : Round). old.floor ≤ r.view.0) (of_round s t does)
            (subst (λ floor. floor ≤ (round_in t).view.0) learns.floor here.from_floor))
            is_open t does (of_round s t does)
        | inr was ↦ (elim (keeps is_open t was) [
          | inl kept ↦ inl kept
          | inr waiting ↦ inr (more t waiting)
        ])
      ]
    where
      of_round : (u t : Subject D) → DoesFor u t → round_in t ≡ round_in u
      of_round u (Notarize p) e = ap (λ it. round_in it) (sym e)
      of_round u (Nullify number) e = ap (λ it. round_in it) (sym e)
      of_round u (Finalize p) (q, (e, r)) = sym r ∙ ap (λ it. round_in it) (sym e)

  -- a certificate is kept
  module _ (old new : JournalView G D L) (it : Certified) (keeps_it : Keeps old new it) where
    pub kept_is_there : Contains (new.contents.certificates ++ new.unwritten) it
    kept_is_there =
        Contains-append_right new.contents.certificates new.unwritten it
        (rw (keeps_it.unwritten_are)
        (Contains-append_right old.unwritten (it ∷ []) it (0, omega arith, refl)))

    more_kept :
        (one : Certified) → Contains (old.contents.certificates ++ old.unwritten) one
        → Contains (new.contents.certificates ++ new.unwritten) one
    more_kept one there =
        rw (
          keeps_it.contents,
          keeps_it.unwritten_are,
          sym (append_assoc old.contents.certificates old.unwritten (it ∷ [])),
        )
        (Contains-append_left (old.contents.certificates ++ old.unwritten) (it ∷ []) one there)

    pub one_more_keeps :
        (knowledge : KnowledgeView D) (waits : Option (Subject D))
        → KeepsWhatIsKnown format old knowledge waits → KeepsWhatIsKnown format new knowledge waits
    one_more_keeps knowledge waits =
        still_keeps old new (ap (λ (c : Contents G D). c.floor) keeps_it.contents)
        (ap (λ (c : Contents G D). c.finalization) keeps_it.contents) more_kept knowledge knowledge waits
        (λ s here. here) (λ is_open. sym keeps_it.is_open ∙ is_open)

  -- what has the same certificates
  pub same_keeps :
      (old new : JournalView G D L) (knowledge : KnowledgeView D) (waits : Option (Subject D))
      → IsAsBefore old new → KeepsWhatIsKnown format old knowledge waits
      → KeepsWhatIsKnown format new knowledge waits
  same_keeps old new knowledge waits same =
      still_keeps old new (ap (λ (c : Contents G D). c.floor) same.contents)
      (ap (λ (c : Contents G D). c.finalization) same.contents)
      (λ one there. rw (same.contents, same.unwritten) there) knowledge knowledge waits
      (λ s here. here) (λ is_open. sym same.is_open ∙ is_open)

  -- votes are written, and with them all that is kept
  pub written_keeps :
      (old new : JournalView G D L) (votes : List _) (knowledge : KnowledgeView D)
      (waits : Option (Subject D))
      → HasContents new (with_more old.contents votes old.unwritten) → old.is_open ≡ true
      → KeepsWhatIsKnown format old knowledge waits → KeepsWhatIsKnown format new knowledge waits
  written_keeps old new votes knowledge waits has was_open =
      still_keeps old new (ap (λ (c : Contents G D). c.floor) has.contents_are)
      (ap (λ (c : Contents G D). c.finalization) has.contents_are)
      (λ one there. rw (
        has.contents_are,
        has.all_written,
        append-nil (old.contents.certificates ++ old.unwritten),
      ) there) knowledge knowledge waits
      (λ s here. here) (λ is_open. was_open)

  -- The floor is raised to the round of a finalization.
  module _ (old new : JournalView G D L) (owner : OwnerFields) (round : Round) (c : Certificate C D)
      (q : Proposal D) (final : subject_certified c ≡ Finalize q) (of_round : q.round ≡ round)
      (finalization : List ℕ) (bytes : finalization ≡ (versioned format).encoding c)
      (has : HasContents new (raised old.contents old.unwritten owner round finalization))
      (was_open : old.is_open ≡ true)
      (before after : KnowledgeView D) (forgets : Forgets round.view.0 before after)
      (epoch : round.epoch ≡ before.epoch)
      (floor : old.contents.floor ≡ numbered before.epoch before.floor)
      (up : before.floor ≤ round.view.0) where
    not_below : (s : Subject D) → IsKnownHere after s → is_below round (round_in s) ≡ false
    not_below s here =
        rw (
          le-ltb (round_in s).epoch.0 round.epoch.0 (omega (
            arith,
            ap (λ (e : Epoch). e.0) (here.of_epoch ∙ forgets.epoch),
            ap (λ (e : Epoch). e.0) epoch,
          )),
          le-ltb (round_in s).view.0 round.view.0 (omega (arith, here.from_floor, forgets.floor)),
        )
        (never (eqb (round_in s).epoch.0 round.epoch.0))

    left :
        (s : Subject D) → IsKnownHere after s → (it : Certified) → it.0 ≡ round_in s
        → Contains (old.contents.certificates ++ old.unwritten) it
        → Contains (new.contents.certificates ++ new.unwritten) it
    left s here it of there =
        rw (has.contents_are, has.all_written)
        (rw (append-nil (certified_from round (old.contents.certificates ++ old.unwritten)))
        (contains_filter (λ one. not (is_below round one.0))
        (old.contents.certificates ++ old.unwritten) it there
        (ap not (ap (is_below round) of ∙ not_below s here))))

    by_floor :
        (p : Proposal D) → IsKnownHere after (Finalize p) → p.round ≡ old.contents.floor
        → IsKeptAmong format (kept_for new (Finalize p)) (Finalize p)
    by_floor p here is =
        record {
          certificate = c;
          does = (q, (final, of_round ∙ sym here_is));
          there = (0, omega arith, rw (has.contents_are, bytes, here_is) refl);
        }
      where
        here_is : p.round ≡ round
        here_is =
            same_rounds p.round round (here.of_epoch ∙ forgets.epoch ∙ sym epoch)
            (omega (arith, ap (λ (r : Round). r.view.0) (is ∙ floor), up, here.from_floor, forgets.floor))

    by_place :
        (p : Proposal D) → IsKnownHere after (Finalize p) → (d : Certificate C D)
        → DoesFor (subject_certified d) (Finalize p)
        → Contains (kept_for old (Finalize p)) (p.round, (versioned format).encoding d)
        → IsKeptAmong format (kept_for new (Finalize p)) (Finalize p)
    by_place p here d does (zero, lt, is) = by_floor p here (ap (λ (it : Certified). it.0) (sym is))
    by_place p here d does (suc i, lt, is) =
        let there = left (Finalize p) here (p.round, (versioned format).encoding d) refl
        (i, omega (arith, lt), is) in
        record { certificate = d; does = does; there = (suc there.0, omega (arith, there.1), there.2) }

    still_for :
        (s : Subject D) → IsKnownHere after s → IsKeptAmong format (kept_for old s) s
        → IsKeptAmong format (kept_for new s) s
    still_for (Notarize p) here it =
        record { certificate = it.certificate; does = it.does; there = left (Notarize p) here _ refl it.there }
    still_for (Nullify number) here it =
        record { certificate = it.certificate; does = it.does; there = left (Nullify number) here _ refl it.there }
    still_for (Finalize p) here it = by_place p here it.certificate it.does it.there

    pub raised_keeps :
        (waits later : Option (Subject D))
        → ((t : Subject D) → IsKnownHere after t → WaitsFor waits t → WaitsFor later t)
        → KeepsWhatIsKnown format old before waits → KeepsWhatIsKnown format new after later
    raised_keeps waits later more keeps is_open s here =
        elim (keeps was_open s (known_from s round.view.0 before after forgets here)) [
          | inl kept ↦ inl (still_for s here kept)
          | inr waiting ↦ inr (more s here waiting)
        ]

  -- Where nothing was learned, nothing is to be kept.
  pub nothing_keeps :
      (journal : JournalView G D L) (knowledge : KnowledgeView D) (waits : Option (Subject D))
      → HasLearned knowledge [] → KeepsWhatIsKnown format journal knowledge waits
  nothing_keeps journal knowledge waits nothing is_open s here =
      absurd (has_none s (subst (λ it. HasOf it s)
      (nothing (round_in s).view.0 here.from_floor) here.known))
    where
      has_none : (t : Subject D) → HasOf nothing_learned t → ⊥
      has_none (Notarize p) h = absurd cc
      has_none (Nullify number) h = absurd cc
      has_none (Finalize p) h = absurd cc

module _ {D : Type 0} where
  pub none_waits : (s t : Subject D) → WaitsFor None t → WaitsFor (Some s) t
  none_waits s t it = absurd (no_some it.subject it.waiting)
    where
      no_some : (u : Subject D) → None ≡ Some u → ⊥
      no_some u e = absurd cc

  pub waits_itself : (s t : Subject D) → DoesFor s t → WaitsFor (Some s) t
  waits_itself s t does = record { subject = s; waiting = refl; does = does }

  known_of :
      (knowledge : KnowledgeView D) (s t : Subject D) → DoesFor s t → IsKnownAlready knowledge s
      → IsKnownAlready knowledge t
  known_of knowledge s (Notarize p) e known = subst (λ u. IsKnownAlready knowledge u) e known
  known_of knowledge s (Nullify number) e known = subst (λ u. IsKnownAlready knowledge u) e known
  known_of knowledge s (Finalize p) (q, (e, r)) known =
      subst (λ (number : Round). is_some (learned_at knowledge number.view.0).finalized ≡ true) r
      (subst (λ u. IsKnownAlready knowledge u) e known)

module _ {G D : Type 0} where
  one_for_other :
      (contents : Contents G D) (s t : Subject D) (it : Certified) → DoesFor s t
      → Contains (certificates_in contents s) it → Contains (certificates_in contents t) it
  one_for_other contents s (Notarize p) it e there =
      subst (λ u. Contains (certificates_in contents u) it) e there
  one_for_other contents s (Nullify number) it e there =
      subst (λ u. Contains (certificates_in contents u) it) e there
  one_for_other contents s (Finalize p) it (q, (e, r)) there =
      subst (λ u. Contains (certificates_in contents u) it) e there

module _ {C G D : Type 0} (format : Format (Certificate C D)) where
  -- One that is beside votes is on the disk,
  pub beside_votes :
      (contents : Contents G D) (c : Certificate C D) (number : Round) (i : ℕ)
      → i < length contents.certificates
      → HoldsAt (λ kept. (kept.0 ≡ number) × (kept.1 ≡ (versioned format).encoding c))
      contents.certificates i
      → round_in (subject_certified c) ≡ number → HasOnDisk format contents c
  beside_votes contents c number i within at is =
      of_subject (subject_certified c)
      (Contains-from_at contents.certificates it (
        i,
        within,
        λ d.
            let one = at d in
            as_pair (slice_index_or contents.certificates i d) (round_in (subject_certified c))
            ((versioned format).encoding c) (one.0 ∙ sym is) one.1,
      ))
    where
      it : Certified
      it = (round_in (subject_certified c), (versioned format).encoding c)

      of_subject : (s : Subject D) → Contains contents.certificates it
          → Contains (certificates_in contents s) it
      of_subject (Notarize p) there = there
      of_subject (Nullify n) there = there
      of_subject (Finalize p) there = (suc there.0, omega (arith, there.1), there.2)

  -- and so is the floor's finalization.
  pub final_on_disk :
      (contents : Contents G D) (c : Certificate C D) (q : Proposal D)
      → subject_certified c ≡ Finalize q → contents.floor ≡ round_in (subject_certified c)
      → contents.finalization ≡ (versioned format).encoding c → HasOnDisk format contents c
  final_on_disk contents c q final floor bytes =
      subst (λ s. Contains (certificates_in contents s)
      (round_in (subject_certified c), (versioned format).encoding c)) (sym final)
      (0, omega arith, rw (floor, bytes) refl)

module _ {C G D L : Type 0} (format : Format (Certificate C D)) where
  -- What is known is kept, or waits.
  pub known_safely :
      (journal : JournalView G D L) (s : Subject D) (knowledge : KnowledgeView D)
      (waits : Option (Subject D)) → KeepsWhatIsKnown format journal knowledge waits
      → (round_in s).epoch ≡ knowledge.epoch → IsKnownAlready knowledge s
      → knowledge.floor ≤ (round_in s).view.0 → IsSafelyKept format journal waits s
  known_safely journal s knowledge waits keeps epoch known from is_open t does same =
      keeps is_open t (record {
        of_epoch = ap (λ (r : Round). r.epoch) same ∙ epoch;
        from_floor = subst (λ (r : Round). knowledge.floor ≤ r.view.0) (sym same) from;
        known = known_of knowledge s t does known;
      })

  in_kept :
      (journal : JournalView G D L) (t : Subject D) (it : Certified)
      → Contains (journal.contents.certificates ++ journal.unwritten) it
      → Contains (kept_for journal t) it
  in_kept journal (Notarize p) it there = there
  in_kept journal (Nullify number) it there = there
  in_kept journal (Finalize p) it there = (suc there.0, omega (arith, there.1), there.2)

  -- So is what was kept last.
  pub safely_kept :
      (old new : JournalView G D L) (c : Certificate C D) (waits : Option (Subject D))
      → Keeps old new (round_in (subject_certified c), (versioned format).encoding c)
      → IsSafelyKept format new waits (subject_certified c)
  safely_kept old new c waits keeps is_open t does same =
      inl (record {
        certificate = c;
        does = does;
        there = subst (λ r. Contains (kept_for new t) (r, (versioned format).encoding c)) (sym same)
            (in_kept new t _ (kept_is_there format old new _ keeps));
      })

  -- And what is on the disk.
  pub safely_on_disk :
      (journal : JournalView G D L) (c : Certificate C D) (waits : Option (Subject D))
      → HasOnDisk format journal.contents c
      → IsSafelyKept format journal waits (subject_certified c)
  safely_on_disk journal c waits there is_open t does same =
      inl (record {
        certificate = c;
        does = does;
        there = subst (λ r. Contains (kept_for journal t) (r, (versioned format).encoding c)) (sym same)
            (Contains-append_left (certificates_in journal.contents t) journal.unwritten _
            (one_for_other journal.contents (subject_certified c) t _ does there));
      })

  -- What waited is kept.
  pub kept_waits :
      (old new : JournalView G D L) (c : Certificate C D) (waits : Option (Subject D))
      → Keeps old new (round_in (subject_certified c), (versioned format).encoding c)
      → waits ≡ Some (subject_certified c) → (t : Subject D) → WaitsFor waits t
      → IsKeptAmong format (kept_for new t) t
  kept_waits old new c waits keeps is t it =
      by_subject (same_Some it.subject (subject_certified c) (sym it.waiting ∙ is)) it.does
    where
      of_round : (u v : Subject D) → DoesFor u v → round_in v ≡ round_in u
      of_round u (Notarize p) e = ap (λ it. round_in it) (sym e)
      of_round u (Nullify number) e = ap (λ it. round_in it) (sym e)
      of_round u (Finalize p) (q, (e, r)) = sym r ∙ ap (λ it. round_in it) (sym e)

      by_subject : it.subject ≡ subject_certified c → DoesFor it.subject t
          → IsKeptAmong format (kept_for new t) t
      by_subject e does =
          let it_does = subst (λ s. DoesFor s t) e does in
          record {
            certificate = c;
            does = it_does;
            there = subst (λ r. Contains (kept_for new t) (r, (versioned format).encoding c))
                (sym (of_round (subject_certified c) t it_does))
                (in_kept new t _ (kept_is_there format old new _ keeps));
          }

  -- Nothing waits any more.
  pub done_keeps :
      (journal : JournalView G D L) (knowledge : KnowledgeView D) (waits : Option (Subject D))
      → (journal.is_open ≡ true → (t : Subject D) → WaitsFor waits t
      → IsKeptAmong format (kept_for journal t) t)
      → KeepsWhatIsKnown format journal knowledge waits
      → KeepsWhatIsKnown format journal knowledge None
  done_keeps journal knowledge waits done keeps is_open s here =
      elim (keeps is_open s here) [
        | inl kept ↦ inl kept
        | inr waiting ↦ inl (done is_open s waiting)
      ]

-- A finalization is of a proposal that is final.
pub final_of :
    {C D : Type 0} (c : Certificate C D) → kind_certified c ≡ Finalization
    → (q : Proposal D) × (subject_certified c ≡ Finalize q)
final_of (NotarizationCertificate it) e = absurd cc
final_of (NullificationCertificate it) e = absurd cc
final_of (FinalizationCertificate it) e = (it.proposal, refl)

module _ {C G D L : Type 0} (format : Format (Certificate C D)) (old new : JournalView G D L)
    (knowledge : KnowledgeView D) (waits : Option (Subject D)) where
  -- what is to be kept true of a journal, once votes were to be written
  abbrev pub StaysKeeping : Type 0
  StaysKeeping =
      (new.is_open ≡ true → (old.is_open ≡ true) × (new.contents.floor ≡ old.contents.floor))
      × (KeepsWhatIsKnown format old knowledge waits → KeepsWhatIsKnown format new knowledge waits)

  as_before : IsAsBefore old new → StaysKeeping
  as_before same = (
    λ is_open. (sym same.is_open ∙ is_open, ap (λ (c : Contents G D). c.floor) same.contents),
    same_keeps format old new knowledge waits same,
  )

  pub the_same : new ≡ old → StaysKeeping
  the_same e = (
    λ is_open. (
      subst (λ (j : JournalView G D L). j.is_open ≡ true) e is_open,
      ap (λ (j : JournalView G D L). j.contents.floor) e,
    ),
    λ keeps. subst (λ (j : JournalView G D L). KeepsWhatIsKnown format j knowledge waits) (sym e) keeps,
  )

  is_shut : new.is_open ≡ false → StaysKeeping
  is_shut shut =
      (λ is_open. absurd (wrong is_open), λ keeps is_open. absurd (wrong is_open))
    where
      differ : true ≡ false → ⊥
      differ e = absurd cc

      wrong : new.is_open ≡ true → ⊥
      wrong is_open = differ (sym is_open ∙ shut)

  pub one_more_stays : (it : Certified) → Keeps old new it → StaysKeeping
  one_more_stays it keeps = (
    λ is_open. (sym keeps.is_open ∙ is_open, ap (λ (c : Contents G D). c.floor) keeps.contents),
    one_more_keeps format old new it keeps knowledge waits,
  )

  pub after_keep :
      {U E : Type 0} (result : Result U E) (it : Certified) → OnOk result (Keeps old new it)
      → OnErr result (new ≡ old) → StaysKeeping
  after_keep (Ok u) it ok err = one_more_stays it ok
  after_keep (Err e) it ok err = the_same err

  pub after_write :
      {U : Type 0} (result : Result U WriteFault) (votes : List (Vote G D))
      (A : Type 0) (B : Type 0) (E : Type 0)
      → OnOk result ((old.is_open ≡ true) × A
      × HasContents new (with_more old.contents votes old.unwritten))
      → (result ≡ Err NoMemoryToWrite → IsAsBefore old new)
      → (result ≡ Err NoRoomToWrite → IsAsBefore old new)
      → (result ≡ Err NotFree → (new ≡ old) × B)
      → (result ≡ Err ShutToWrite → (new.is_open ≡ false) × E) → StaysKeeping
  after_write (Ok u) votes A B E ok memory full not_free closed = (
    λ is_open. (ok.0, ap (λ (c : Contents G D). c.floor) ok.2.contents_are),
    written_keeps format old new votes knowledge waits ok.2 ok.0,
  )
  after_write (Err NoMemoryToWrite) votes A B E ok memory full not_free closed = as_before (memory refl)
  after_write (Err NoRoomToWrite) votes A B E ok memory full not_free closed = as_before (full refl)
  after_write (Err NotFree) votes A B E ok memory full not_free closed = the_same (not_free refl).0
  after_write (Err ShutToWrite) votes A B E ok memory full not_free closed = is_shut (closed refl).0

  pub after_raise :
      {U : Type 0} (fault : RaiseFault) (result : Result U RaiseFault) (B : Type 0) (E : Type 0)
      → result ≡ Err fault
      → (result ≡ Err NoMemoryToRaise → IsAsBefore old new)
      → (result ≡ Err NoRoomToRaise → IsAsBefore old new)
      → (result ≡ Err Lower → (new ≡ old) × B)
      → (result ≡ Err ShutToRaise → (new.is_open ≡ false) × E) → StaysKeeping
  after_raise NoMemoryToRaise result B E e memory full lower closed = as_before (memory e)
  after_raise NoRoomToRaise result B E e memory full lower closed = as_before (full e)
  after_raise Lower result B E e memory full lower closed = the_same (lower e).0
  after_raise ShutToRaise result B E e memory full lower closed = is_shut (closed e).0
