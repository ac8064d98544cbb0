-- What was taken in stays known.
use Rattle.batcher_voter.proofs.Words.{◌≡◌, ◌<◌, ◌+◌, ◌⊎◌, ℕ, All, List, slice_index_or, arith, inl, inr, subst, ⊎_elim, cases_lt, subject_certified}
use Rattle.batcher_voter.proofs.Words.{Certificate}
use Rattle.batcher_voter.proofs.Words.{Subject, Notarize, Nullify, Finalize, Epoch, Format, Certified, KnowledgeView, IsFinalView, IsKindKnown, IsTakenIn}
use Rattle.batcher_voter.proofs.Words.{StaysKnown}

module _ {C D : Type 0} (format : Format (Certificate C D)) (epoch : Epoch) where
  kind_stays :
      (old new : KnowledgeView D) → StaysKnown old new → (s : Subject D) → IsKindKnown old s
      → IsKindKnown new s
  kind_stays old new stays (Notarize p) h = stays.notarized p.round.view.0 h
  kind_stays old new stays (Nullify number) h = stays.nullified number.view.0 h
  kind_stays old new stays (Finalize p) h = stays.finalized p.round.view.0 h

  taken_in_stays :
      (old new : KnowledgeView D) → StaysKnown old new → (kept : Certified)
      → IsTakenIn format epoch old kept → IsTakenIn format epoch new kept
  taken_in_stays old new stays kept =
      ⊎_elim
      (λ other. inl other)
      (λ known.
      inr (record {
        certificate = known.certificate;
        encoded = known.encoded;
        of_round = known.of_round;
        known = kind_stays old new stays (subject_certified known.certificate) known.known;
      }))

  pub one_more :
      (old new : KnowledgeView D) → StaysKnown old new → (all : List Certified) (i : ℕ)
      → ((k : ℕ) (d : Certified) → k < i → IsTakenIn format epoch old (slice_index_or all k d))
      → ((d : Certified) → IsTakenIn format epoch new (slice_index_or all i d))
      → (k : ℕ) (d : Certified) → k < i + 1 → IsTakenIn format epoch new (slice_index_or all k d)
  one_more old new stays all i before here k d low =
      ⊎_elim
      (λ less. taken_in_stays old new stays (slice_index_or all k d) (before k d less))
      (λ most.
      let is : i ≡ k = omega (arith, low, most) in
      subst (λ at. IsTakenIn format epoch new (slice_index_or all at d)) is (here d))
      (cases_lt k i)

  -- and so do all of them
  pub all_taken_in :
      (old new : KnowledgeView D) → StaysKnown old new → (all : List Certified)
      → All (IsTakenIn format epoch old) all → All (IsTakenIn format epoch new) all
  all_taken_in old new stays all known =
      λ i d within. taken_in_stays old new stays (slice_index_or all i d) (known i d within)

module _ {D : Type 0} where
  pub stays_both :
      (old mid new : KnowledgeView D) → StaysKnown old mid → StaysKnown mid new → StaysKnown old new
  stays_both old mid new first later =
      record {
        notarized = λ view h. later.notarized view (first.notarized view h);
        nullified = λ view h. later.nullified view (first.nullified view h);
        finalized = λ view h. later.finalized view (first.finalized view h);
      }

  pub final_stays :
      (old new : KnowledgeView D) → StaysKnown old new → (view : ℕ)
      → (view ≡ 0) ⊎ IsFinalView old view → (view ≡ 0) ⊎ IsFinalView new view
  final_stays old new stays view (inl start) = inl start
  final_stays old new stays view (inr known) = inr (stays.finalized view known)
