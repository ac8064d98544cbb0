-- Why a voter isn't made from its journal.
use Rattle.batcher_voter.proofs.Words.{◌≡◌, ◌≢◌, ◌<◌, ◌∙◌, ℕ, zero, suc, Bool, true, false, List, [], ◌∷◌, Ok, arith, ap, inl, inr, length, refl}
use Rattle.batcher_voter.proofs.Words.{slice_index_or, subst, sym}
use Rattle.batcher_voter.proofs.Words.{Contains, kind_certified, round_in, subject_certified, Certificate, Finalization, Format, versioned, whole, Certified}
use Rattle.batcher_voter.proofs.Words.{Contents, StartFault, NoMemoryToStart, NotFinal, Malformed, ForgedToStart, IsReadAs, IsNoCertificate, WhyNotLearned}
use Rattle.batcher_voter.proofs.Words.{AreReadable, HasForged, HasNoFinalization, WhyNotStarted, WhyUnread}
use Rattle.std.proofs.lemmas.List.{get_or_default}
use Rattle.std.specs.Prelude.{◌==◌}

pub some_bytes : (bytes : List ℕ) → false ≡ (length bytes == 0) → bytes ≢ []
some_bytes [] not none = absurd cc
some_bytes (b ∷ bytes) not none = absurd cc

module _ {C D : Type 0} (format : Format (Certificate C D)) where
  -- what bytes decode to is one
  pub one_decoded : (bytes : List ℕ) (c d : Certificate C D) → whole (versioned format) bytes ≡ Ok c
      → whole (versioned format) bytes ≡ Ok d → c ≡ d
  one_decoded bytes c d is also = cc

  true_false : (b : Bool) → b ≡ true → b ≡ false → ⊥
  true_false b is not = absurd cc

  -- and there are some
  pub some_decoded : (bytes : List ℕ) (c : Certificate C D) → whole (versioned format) bytes ≡ Ok c
      → bytes ≢ []
  some_decoded bytes c is none =
      let wrong : whole (versioned format) [] ≡ Ok c =
      subst (λ b. whole (versioned format) b ≡ Ok c) none is in
      absurd cc

  module _ (certifies : Certificate C D → Bool) {G : Type 0} (contents : Contents G D) where
    -- what is kept at a place is there
    pub at_place : (i : ℕ) (d : Certified) → i < length contents.certificates
        → Contains contents.certificates (slice_index_or contents.certificates i d)
    at_place i d lt =
        (i, lt, sym (get_or_default contents.certificates i d (slice_index_or contents.certificates i d) lt))

    -- of what is beside votes
    pub beside_unread : (kept : Certified) → Contains contents.certificates kept
        → (fault : StartFault) → WhyUnread format kept fault
        → WhyNotStarted format contents certifies fault
    beside_unread kept there NoMemoryToStart why = tt
    beside_unread kept there Malformed why = inr (record { kept = kept; there = there; unread = why })
    beside_unread kept there NotFinal why = absurd why
    beside_unread kept there ForgedToStart why = absurd why

    pub beside_unlearned : (kept : Certified) → Contains contents.certificates kept
        → (c : Certificate C D) → whole (versioned format) kept.1 ≡ Ok c → (fault : StartFault)
        → WhyNotLearned certifies kept.0 c fault → WhyNotStarted format contents certifies fault
    beside_unlearned kept there c is NoMemoryToStart why = tt
    beside_unlearned kept there c is Malformed why = inr (record {
      kept = kept;
      there = there;
      unread = λ d read. why (subst (λ e. round_in (subject_certified e) ≡ kept.0)
          (one_decoded kept.1 d c read.decoded is) read.of_round);
    })
    beside_unlearned kept there c is NotFinal why = absurd why
    beside_unlearned kept (i, lt, at) c is ForgedToStart why = record {
      kept = kept;
      there = (suc i, omega (arith, lt), at);
      certificate = c;
      read = record { decoded = is; of_round = why.0 };
      forged = why.1;
    }

    -- of the floor's finalization
    pub floor_unread : contents.finalization ≢ [] → (fault : StartFault)
        → WhyUnread format (contents.floor, contents.finalization) fault
        → WhyNotStarted format contents certifies fault
    floor_unread some NoMemoryToStart why = tt
    floor_unread some Malformed why =
        inl (record { some = some; none = λ c read final. why c read })
    floor_unread some NotFinal why = absurd why
    floor_unread some ForgedToStart why = absurd why

    module _ (c : Certificate C D) (is : whole (versioned format) contents.finalization ≡ Ok c)
      where
        pub floor_unlearned : (fault : StartFault) → WhyNotLearned certifies contents.floor c fault
            → WhyNotStarted format contents certifies fault
        floor_unlearned NoMemoryToStart why = tt
        floor_unlearned Malformed why = inl (record {
          some = some_decoded contents.finalization c is;
          none = λ d read final. why (subst (λ e. round_in (subject_certified e) ≡ contents.floor)
              (one_decoded contents.finalization d c read.decoded is) read.of_round);
        })
        floor_unlearned NotFinal why = absurd why
        floor_unlearned ForgedToStart why = record {
          kept = (contents.floor, contents.finalization);
          there = (0, omega arith, refl);
          certificate = c;
          read = record { decoded = is; of_round = why.0 };
          forged = why.1;
        }

    module _ (readable : AreReadable format contents certifies) where
      no_finalization : HasNoFinalization format contents → ⊥
      no_finalization has = elim readable.floor [
        | inl (none, start) ↦ has.some none
        | inr it ↦ has.none it.certificate it.read it.final
      ]

      no_forged : HasForged format contents certifies → ⊥
      no_forged has = of_one has.kept has.there has.certificate has.read has.forged
        where
          of_floor : (kept : Certified) → (contents.floor, contents.finalization) ≡ kept
              → (c : Certificate C D) → IsReadAs format kept c → certifies c ≡ false → ⊥
          of_floor kept is c read forged = elim readable.floor [
            | inl (none, start) ↦ some_decoded contents.finalization c
                (subst (λ (k : Certified). whole (versioned format) k.1 ≡ Ok c) (sym is) read.decoded) none
            | inr it ↦ true_false (certifies c)
                (subst (λ e. certifies e ≡ true) (one_decoded contents.finalization it.certificate c it.read.decoded
                (subst (λ (k : Certified). whole (versioned format) k.1 ≡ Ok c) (sym is) read.decoded)) it.certifies_it) forged
          ]

          of_one : (kept : Certified)
              → Contains ((contents.floor, contents.finalization) ∷ contents.certificates) kept
              → (c : Certificate C D) → IsReadAs format kept c → certifies c ≡ false → ⊥
          of_one kept (zero, lt, is) c read forged = of_floor kept is c read forged
          of_one kept (suc i, lt, is) c read forged =
              let it = readable.beside kept (i, omega (arith, lt), is) in
              true_false (certifies c)
              (subst (λ e. certifies e ≡ true) (one_decoded kept.1 it.0 c it.1.0.decoded read.decoded) it.1.1) forged

      pub readable_starts : (fault : StartFault) → WhyNotStarted format contents certifies fault
          → fault ≡ NoMemoryToStart
      readable_starts NoMemoryToStart why = refl
      readable_starts Malformed (inl has) = absurd (no_finalization has)
      readable_starts Malformed (inr has) =
          let it = readable.beside has.kept has.there in
          absurd (has.unread it.0 it.1.0)
      readable_starts NotFinal (none, later) = elim readable.floor [
        | inl (nothing, start) ↦ absurd (later start)
        | inr it ↦ absurd (some_decoded contents.finalization it.certificate it.read.decoded none)
      ]
      readable_starts ForgedToStart has = absurd (no_forged has)
