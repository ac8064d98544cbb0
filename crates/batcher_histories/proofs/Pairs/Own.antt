-- Own votes of a pair: whatever fault a releasing round finds, the retaining one finds one too.
use Rattle.batcher_histories.proofs.Words.{◌≡◌, Bool, true, false, ◌&&◌, Option, Some, None, Err, is_err, refl, ap, sym, ◌∙◌, find, and_parts, true≢false}
use Rattle.batcher_histories.proofs.Words.{false≢true, list_any_none, Vote, NotarizeVote, NullifyVote, FinalizeVote, Kind, Notarization, Nullification}
use Rattle.batcher_histories.proofs.Words.{Finalization, Retaining, Releasing, OwnFault, Call, NetworkCall, OwnCall, CertificateCall, LeaderCall, ConstructCall}
use Rattle.batcher_histories.proofs.Words.{ForwardCall, MissingCall, Answer, OutOfMemory, NetworkAnswer, OwnAnswer, OwnRefused, CertificateAnswer, LeaderAnswer}
use Rattle.batcher_histories.proofs.Words.{ConstructAnswer, ForwardAnswer, MissingAnswer, Config, kind_of, signer_of, is_vote_of, opposes, has_proposals}
use Rattle.batcher_histories.proofs.Words.{any_more, unopposed_result, duplicate_result, History, first_like, opposite_vote, is_released, conflicts}
use Rattle.batcher_histories.proofs.Words.{compared_votes, carry_different, own_answer, IsAnswered, in_mode, ends_pair, is_own_fault}
use Rattle.batcher_histories.proofs.History.Laws.{HasLaws}
use Rattle.batcher_histories.proofs.Headline.Conflicts.{conflict_with_compared}
use Rattle.batcher_histories.proofs.Pairs.Alike.{AreAlike, firsts_alike}
use Rattle.batcher_histories.proofs.History.ByFirst.{outcome_by_first, own_answer_against, own_is}

duplicate_errs : (kind : Kind) → has_proposals kind ≡ true → is_err (duplicate_result kind) ≡ true
duplicate_errs Notarization h = refl
duplicate_errs Nullification h = absurd (false≢true h)
duplicate_errs Finalization h = refl

module _ {G D : Type 0} (same : D → D → Bool) where
  -- no vote carries another proposal than a nullify
  none_carried : (a b : Vote G D) → has_proposals (kind_of b) ≡ false → carry_different same a b
      ≡ true → false ≡ true
  none_carried a (NotarizeVote b) none h = absurd (true≢false none)
  none_carried (NotarizeVote a) (NullifyVote b) none h = h
  none_carried (NullifyVote a) (NullifyVote b) none h = h
  none_carried (FinalizeVote a) (NullifyVote b) none h = h
  none_carried a (FinalizeVote b) none h = absurd (true≢false none)

module _ {D K G C : Type 0} (x : Config D K G C) (laws : HasLaws x) where
  -- A nullify never conflicts.
  conflict_has_proposal : (past : History D K G C) (vote : Vote G D) → conflicts x past vote ≡ true
      → has_proposals (kind_of vote) ≡ true
  conflict_has_proposal past vote h = by_kind (has_proposals (kind_of vote)) refl
    where
      by_kind : (b : Bool) → has_proposals (kind_of vote) ≡ b → b ≡ true
      by_kind true e = refl
      by_kind false e =
          absurd (true≢false (sym (any_more (λ v. is_vote_of (kind_of vote) (signer_of vote) v && carry_different x.same_digest v vote) (λ v. false)
          (λ v both. none_carried x.same_digest v vote e (and_parts _ _ both).1) (compared_votes x past) (conflict_with_compared x laws past vote h))
          ∙ list_any_none (λ v. false) (compared_votes x past) (λ k d below. refl)))

module _ {D K G C : Type 0} (x : Config D K G C) (laws : HasLaws (in_mode x Releasing))
    (retained released : History D K G C) (alike : AreAlike retained released) (vote : Vote G D)
  where
    errs_by_first : (first : Option (Vote G D)) (r c conflict : Bool) (fault : OwnFault)
        → (c ≡ true → has_proposals (kind_of vote) ≡ true) →
        unopposed_result (kind_of vote) (outcome_by_first x first r c) ≡ Err fault
        → is_err (unopposed_result (kind_of vote) (outcome_by_first x first false conflict))
        ≡ true
    errs_by_first None r c conflict fault proposes h = absurd (false≢true (ap is_err h))
    errs_by_first (Some kept) false c conflict fault proposes h = ap is_err h
    errs_by_first (Some kept) true true conflict fault proposes h = duplicate_errs (kind_of vote) (proposes refl)
    errs_by_first (Some kept) true false conflict fault proposes h = absurd (false≢true (ap is_err h))

    errs_against : (opposite : Option (Vote G D)) (fault : OwnFault)
        → own_answer_against (in_mode x Releasing) released opposite vote ≡ Err fault
        → is_err (own_answer_against (in_mode x Retaining) retained opposite vote) ≡ true
    errs_against (Some earlier) fault h = refl
    errs_against None fault h =
        ap (λ first. is_err (unopposed_result (kind_of vote) (outcome_by_first x first false (conflicts (in_mode x Retaining) retained vote))))
        (ap (find (is_vote_of (kind_of vote) (signer_of vote))) (firsts_alike x retained released alike))
        ∙ errs_by_first (first_like (in_mode x Releasing) released vote) (is_released (in_mode x Releasing) released (kind_of vote))
        (conflicts (in_mode x Releasing) released vote) (conflicts (in_mode x Retaining) retained vote) fault
        (conflict_has_proposal (in_mode x Releasing) laws released vote) h

    -- Where the releasing round finds a fault, so does the retaining one.
    pub fault_in_both : (fault : OwnFault) → own_answer (in_mode x Releasing) released vote
        ≡ Err fault → is_err (own_answer (in_mode x Retaining) retained vote) ≡ true
    fault_in_both fault h =
        ap is_err (own_is (in_mode x Retaining) retained vote)
        ∙ ap (λ opposite. is_err (own_answer_against (in_mode x Retaining) retained opposite vote))
        (ap (find (λ v. opposes v vote)) (firsts_alike x retained released alike))
        ∙ errs_against (opposite_vote (in_mode x Releasing) released vote) fault (sym (own_is (in_mode x Releasing) released vote) ∙ h)

module _ {D K G C : Type 0} (x : Config D K G C) (laws : HasLaws (in_mode x Releasing))
    (retained released : History D K G C) (alike : AreAlike retained released) where
  taken_own : (vote : Vote G D) (a : Answer G C D) → ends_pair a ≡ false
      → IsAnswered (in_mode x Retaining) retained (OwnCall vote) a
      → is_err (own_answer (in_mode x Retaining) retained vote) ≡ true → false ≡ true
  taken_own vote (OwnAnswer outcome report) on answered errs = sym (ap is_err answered.0) ∙ errs
  taken_own vote (OwnRefused fault) on answered errs = absurd (true≢false on)
  taken_own vote OutOfMemory on answered errs = absurd (true≢false on)
  taken_own vote (NetworkAnswer admission) on answered errs = absurd answered
  taken_own vote (CertificateAnswer changed) on answered errs = absurd answered
  taken_own vote (LeaderAnswer result) on answered errs = absurd answered
  taken_own vote (ConstructAnswer batch) on answered errs = absurd answered
  taken_own vote (ForwardAnswer proposal) on answered errs = absurd answered
  taken_own vote (MissingAnswer missing) on answered errs = absurd answered

  -- What the retaining round has made the releasing one refuses for memory alone.
  pub not_own_fault : (call : Call K G C D) (a b : Answer G C D) → ends_pair a ≡ false
      → IsAnswered (in_mode x Retaining) retained call a
      → IsAnswered (in_mode x Releasing) released call b → is_own_fault b ≡ false
  not_own_fault (OwnCall vote) a (OwnRefused fault) on answered also =
      absurd (false≢true (taken_own vote a on answered (fault_in_both x laws retained released alike vote fault also)))
  not_own_fault (NetworkCall sender vote) a (OwnRefused fault) on answered also = absurd also
  not_own_fault (CertificateCall certificate) a (OwnRefused fault) on answered also = absurd also
  not_own_fault (LeaderCall leader) a (OwnRefused fault) on answered also = absurd also
  not_own_fault ConstructCall a (OwnRefused fault) on answered also = absurd also
  not_own_fault (ForwardCall me) a (OwnRefused fault) on answered also = absurd also
  not_own_fault (MissingCall p) a (OwnRefused fault) on answered also = absurd also
  not_own_fault call a (NetworkAnswer admission) on answered also = refl
  not_own_fault call a (OwnAnswer outcome report) on answered also = refl
  not_own_fault call a (CertificateAnswer changed) on answered also = refl
  not_own_fault call a (LeaderAnswer result) on answered also = refl
  not_own_fault call a (ConstructAnswer batch) on answered also = refl
  not_own_fault call a (ForwardAnswer proposal) on answered also = refl
  not_own_fault call a (MissingAnswer missing) on answered also = refl
  not_own_fault call a OutOfMemory on answered also = refl
