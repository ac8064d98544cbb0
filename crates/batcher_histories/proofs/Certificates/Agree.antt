-- Which certificates one round never gives together.
use Rattle.batcher_histories.proofs.Words.{inl, inr, ◌≡◌, ◌≤◌, ◌+◌, ◌==◌, ◌⊎◌, ℕ, Bool, true, false, not, cond, ◌&&◌, ◌||◌, [], ◌∷◌, Option, Some, None, refl}
use Rattle.batcher_histories.proofs.Words.{ap, sym, ◌∙◌, subst, arith, ⊎_elim, filter, is_some, option_and_then, IfSome, option_or, cases_Bool, and_parts}
use Rattle.batcher_histories.proofs.Words.{and_from, and_right, or_left, or_right, or_cases, false_from_ne_true, not-true, true≢false, false≢true, Proposal}
use Rattle.batcher_histories.proofs.Words.{Vote, NotarizeVote, NullifyVote, FinalizeVote, Kind, Nullification, Finalization, Certificate}
use Rattle.batcher_histories.proofs.Words.{NotarizationCertificate, NullificationCertificate, FinalizationCertificate, FixedProposal, Call, Answer, Config}
use Rattle.batcher_histories.proofs.Words.{participants_in, quorum_in, count, is_some_and, EachOnce, is_kind, signer_of, kind_certified, subject_certified}
use Rattle.batcher_histories.proofs.Words.{same_proposal, same_round, is_of_kind, is_vote_of, count-append, count-filter_le, count_covers, few_distinct}
use Rattle.batcher_histories.proofs.Words.{quorums_overlap, count_none, count-filter, same_proposal-refl, is_kind-refl, is_kind-true, proposal_of, Event}
use Rattle.batcher_histories.proofs.Words.{History, batch_given, certificate_given, cast_votes, first_votes, first_vote, is_free, is_certified, selection}
use Rattle.batcher_histories.proofs.Words.{selection_by, fixed_proposal, leaders_proposal, fixing_evidence, finalized_by, certificate_of, IsPossible}
use Rattle.batcher_histories.proofs.Words.{subjects_contradict, proposal_certified, gives_kind, was_given, IsGiven, GivesOnce, IsBacked, GivesBacked}
use Rattle.batcher_histories.proofs.Words.{GivesFixed, NameOneProposal, GivesSafely}
use Rattle.batcher_histories.proofs.History.Laws.{HasLaws}
use Rattle.batcher_histories.proofs.History.Distinct.{count_at, count_sum, firsts_apart, where_holds}
use Rattle.batcher_histories.proofs.Memory.Spared.{counted}
use Rattle.batcher_histories.proofs.History.Attempts.{ready_is}
use Rattle.batcher_histories.proofs.Headline.NeverBoth.{never_both}
use Rattle.batcher_histories.proofs.Headline.Promises.{at_each_event}
use Rattle.batcher_histories.proofs.AnswerFacts.ByDefinition.{keeps_fixed}
use Rattle.batcher_histories.proofs.Certificates.Backing.{is_outside, firsts_take_part, Gave, gave_in, gave, kind_enough, backed_here}
use Rattle.batcher_histories.proofs.AnswerFacts.Told.{if_some}
use Rattle.batcher_histories.proofs.Quorums.Left.{given_evidence}

-- AT EACH EVENT
module _ {D : Type 0} where
  -- a proposal that is evidence is fixed, where it was the selected one if any was
  fixed_then : (fixed leaders after e : Option (Proposal D)) (p : Proposal D) → e ≡ Some p
      → (e ≡ None)
      ⊎ ((q : Proposal D) × ((e ≡ Some q)
      × ((proposal_of (selection_by fixed leaders) ≡ None)
      ⊎ (proposal_of (selection_by fixed leaders) ≡ Some q))))
      → selection_by (option_or fixed e) after ≡ FixedProposal p
  fixed_then None leaders after e p is evidence = ap (λ o. selection_by o after) is
  fixed_then (Some f) leaders after e p is (inl none) = absurd (cc)
  fixed_then (Some f) leaders after e p is (inr (q, (so, inl none))) = absurd (cc)
  fixed_then (Some f) leaders after e p is (inr (q, (so, inr some))) =
      let same : f ≡ p = cc in ap FixedProposal same

module _ {D K G C : Type 0} (x : Config D K G C) (laws : HasLaws x)
    (past : History D K G C) (event : Event D K G C) (possible : IsPossible x (event ∷ past)) where
  gives_backed : GivesBacked x past event
  gives_backed =
      if_some (batch_given event.1) (λ batch. IfSome batch.certificate (IsBacked x past batch)) (λ batch made.
      if_some batch.certificate (IsBacked x past batch) (λ c gives.
      backed_here x laws past possible.1.1.1 batch c gives (gave_in x past event laws possible batch made c gives).1))

  gives_once : GivesOnce past event
  gives_once =
      if_some (certificate_given event.1) (λ c. is_certified past (kind_certified c) ≡ false) (λ c given.
      not-true _ (and_parts _ _ (ready_is x past (kind_certified c) (gave x past event laws possible c given).ready)).0)

  fixes_named : (c : Certificate C D) → certificate_given event.1 ≡ Some c
      → (p : Proposal D) → proposal_certified c ≡ Some p
      → selection x (event ∷ past) ≡ FixedProposal p
  fixes_named c given p named =
      ap (λ e. selection_by (option_or (fixed_proposal past) e) (leaders_proposal x (event ∷ past))) evidence
      ∙ fixed_then (fixed_proposal past) (leaders_proposal x past) (leaders_proposal x (event ∷ past)) (proposal_certified c) p
      named (given_evidence x laws past (kind_certified c) g.batch c g.after g.gives)
    where
      g : Gave x past event c
      g = gave x past event laws possible c given

      evidence : fixing_evidence event ≡ proposal_certified c
      evidence =
          ap (λ (call : Call K G C D). option_or (finalized_by call) (option_and_then proposal_certified (certificate_of event)))
          g.constructs
          ∙ ap (option_and_then proposal_certified) g.certificate

  gives_fixed : GivesFixed x past event
  gives_fixed =
      if_some (certificate_given event.1)
      (λ c. IfSome (proposal_certified c) (λ p. selection x (event ∷ past) ≡ FixedProposal p)) (λ c given.
      if_some (proposal_certified c) (λ p. selection x (event ∷ past) ≡ FixedProposal p) (fixes_named c given))

-- the certificate of a kind that an answer gives
given_where : {G C D : Type 0} (kind : Kind) (answer : Answer G C D)
    → gives_kind kind answer ≡ true
    → (c : Certificate C D) × (certificate_given answer ≡ Some c)
    × (is_kind (kind_certified c) kind ≡ true)
given_where kind answer = where_holds (λ c. is_kind (kind_certified c) kind) (certificate_given answer)

module _ {D K G C : Type 0} (x : Config D K G C) (laws : HasLaws x) where
  -- ONE OF EACH KIND
  given_is_certified : (past : History D K G C) → IsPossible x past → (kind : Kind)
      → was_given past kind ≡ true → is_certified past kind ≡ true
  given_is_certified [] possible kind h = absurd (false≢true h)
  given_is_certified (event ∷ past) possible kind h =
      ⊎_elim
      (λ now.
      let c = given_where kind event.1 now in
      or_left _ (is_certified past kind)
      (ap (λ o. is_some_and o (λ d. is_kind (kind_certified d) kind)) (gave x past event laws possible c.0 c.1).certificate
      ∙ c.2))
      (λ before. or_right _ (is_certified past kind) (given_is_certified past possible.1.1.1 kind before))
      (or_cases (gives_kind kind event.1) (was_given past kind) h)

  none_before : (past : History D K G C) (event : Event D K G C) → IsPossible x (event ∷ past)
      → (kind : Kind) → gives_kind kind event.1 ≡ true → was_given past kind ≡ false
  none_before past event possible kind now =
      false_from_ne_true _ (λ before.
      true≢false (sym (given_is_certified past possible.1.1.1 kind before) ∙ uncertified))
    where
      uncertified : is_certified past kind ≡ false
      uncertified =
          let c = given_where kind event.1 now in
          subst (λ k. is_certified past k ≡ false) (is_kind-true _ _ c.2)
          (subst (λ o. IfSome o (λ d. is_certified past (kind_certified d) ≡ false)) c.1
          (gives_once x laws past event possible))

  one_given : (past : History D K G C) → IsPossible x past → (kind : Kind)
      → count (λ event. gives_kind kind event.1) past ≤ 1
  one_given [] possible kind = omega arith
  one_given (event ∷ past) possible kind =
      ⊎_elim
      (λ now.
      rw now (omega (arith, count_none (λ e. gives_kind kind e.1) past (none_before past event possible kind now))))
      (λ other. rw other (omega (arith, one_given past possible.1.1.1 kind)))
      (cases_Bool (gives_kind kind event.1))

  -- NEVER BOTH A NULLIFICATION AND A FINALIZATION
  -- A quorum of the first votes is of a kind of which a certificate was given.
  quorum_cast : (past : History D K G C) → IsPossible x past → (kind : Kind)
      → was_given past kind ≡ true → quorum_in x ≤ count (is_of_kind kind) (first_votes x past)
  quorum_cast [] possible kind h = absurd (false≢true h)
  quorum_cast (event ∷ past) possible kind h =
      more
      (⊎_elim now (λ before. quorum_cast past possible.1.1.1 kind before) (or_cases (gives_kind kind event.1) (was_given past kind) h))
    where
      now : gives_kind kind event.1 ≡ true
          → quorum_in x ≤ count (is_of_kind kind) (first_votes x past)
      now gives =
          let c = given_where kind event.1 gives in
          let g = gave x past event laws possible c.0 c.1 in
          subst (λ k. quorum_in x ≤ count (is_of_kind k) (first_votes x past)) (is_kind-true _ _ c.2)
          (kind_enough x laws past possible.1.1.1 g.batch c.0 g.gives g.after)

      more : quorum_in x ≤ count (is_of_kind kind) (first_votes x past)
          → quorum_in x ≤ count (is_of_kind kind) (first_votes x (event ∷ past))
      more before =
          let new = filter (is_free (first_votes x past)) (cast_votes x event.0) in
          omega (arith, before, count-append (is_of_kind kind) new (first_votes x past))

  -- The first nullifies and finalizes are of different participants.
  abbrev pub is_either : Vote G D → Bool
  is_either v = is_of_kind Nullification v || is_of_kind Finalization v

  either_of : (v : Vote G D)
      → cond (is_of_kind Nullification v) 1 0 + cond (is_of_kind Finalization v) 1 0
      ≡ cond (is_either v) 1 0
  either_of (NotarizeVote v) = omega arith
  either_of (NullifyVote v) = omega arith
  either_of (FinalizeVote v) = omega arith

  pub one_at : (past : History D K G C) (kind : Kind) (i : ℕ)
      → count (is_vote_of kind i) (first_votes x past)
      ≡ cond (is_some (first_vote x past kind i)) 1 0
  one_at past kind i =
      count_at (λ _. true) (first_votes x past) kind i (firsts_apart x past)
      ∙ ap (λ b. cond b 1 0) (always (first_vote x past kind i))
    where
      always : (o : Option (Vote G D)) → is_some_and o (λ _. true) ≡ is_some o
      always None = refl
      always (Some v) = refl

  pub either_once : (past : History D K G C)
      → EachOnce signer_of (filter is_either (first_votes x past))
  either_once past i =
      omega (
        arith,
        count-filter (λ v. signer_of v == i) is_either (first_votes x past),
        count_covers (λ v. is_either v && (signer_of v == i)) (is_vote_of Nullification i) (is_vote_of Finalization i)
            (first_votes x past) (λ v. covered (is_of_kind Nullification v) (is_of_kind Finalization v) (signer_of v == i)),
        one_at past Nullification i,
        one_at past Finalization i,
        not_two (is_some (first_vote x past Nullification i)) (is_some (first_vote x past Finalization i)) (never_both x past i),
      )
    where
      covered : (a b s : Bool) → cond ((a || b) && s) 1 0 ≤ cond (a && s) 1 0 + cond (b && s) 1 0
      covered a b s = grind arith

      not_two : (a b : Bool) → (a && b) ≡ false → cond a 1 0 + cond b 1 0 ≤ 1
      not_two a b h = grind arith

  few_either : (past : History D K G C) → IsPossible x past
      → count (is_of_kind Nullification) (first_votes x past)
      + count (is_of_kind Finalization) (first_votes x past) ≤ participants_in x
  few_either past possible =
      omega (
        arith,
        counted is_either (first_votes x past),
        count_sum (is_of_kind Nullification) (is_of_kind Finalization) is_either (first_votes x past) (firsts_apart x past)
            (λ v found. either_of v),
        few_distinct signer_of (participants_in x) (filter is_either (first_votes x past)) (either_once past)
            (omega (arith, count-filter_le (is_outside x) is_either (first_votes x past), firsts_take_part x laws past possible)),
      )

  never_given_both : (past : History D K G C) → IsPossible x past
      → (was_given past Nullification && was_given past Finalization) ≡ false
  never_given_both past possible =
      false_from_ne_true _ (λ both.
      let parts = and_parts (was_given past Nullification) (was_given past Finalization) both in
      absurd (omega (
        arith,
        quorum_cast past possible Nullification parts.0,
        quorum_cast past possible Finalization parts.1,
        few_either past possible,
        laws.some_participant,
        quorums_overlap (participants_in x) laws.some_participant,
      )))

  -- ALL NAME ONE PROPOSAL
  -- The proposal of a certificate that was given stays fixed.
  named_is_fixed : (past : History D K G C) → IsPossible x past
      → (c : Certificate C D) → IsGiven past c → (p : Proposal D) → proposal_certified c ≡ Some p
      → selection x past ≡ FixedProposal p
  named_is_fixed [] possible c given p named = absurd given
  named_is_fixed (event ∷ past) possible c (inl now) p named =
      fixes_named x laws past event possible c now p named
  named_is_fixed (event ∷ past) possible c (inr before) p named =
      keeps_fixed x past event p (named_is_fixed past possible.1.1.1 c before p named)

  one_proposal_named : (past : History D K G C) → IsPossible x past
      → (a b : Certificate C D) → IsGiven past a → IsGiven past b → NameOneProposal x a b
  one_proposal_named past possible a b given_a given_b =
      if_some (proposal_certified a)
      (λ p. IfSome (proposal_certified b) (λ q. same_proposal x.same_digest p q ≡ true)) (λ p names_p.
      if_some (proposal_certified b) (λ q. same_proposal x.same_digest p q ≡ true) (λ q names_q.
      subst (λ r. same_proposal x.same_digest p r ≡ true)
      (one_fixed
      (sym (named_is_fixed past possible a given_a p names_p) ∙ named_is_fixed past possible b given_b q names_q))
      (same_proposal-refl x.same_digest laws.digests_same p)))
    where
      one_fixed : {p q : Proposal D} → FixedProposal p ≡ FixedProposal q → p ≡ q
      one_fixed h = cc

  -- NO TWO CONTRADICT EACH OTHER
  given_of_kind : (past : History D K G C) (c : Certificate C D) → IsGiven past c
      → was_given past (kind_certified c) ≡ true
  given_of_kind [] c given = absurd given
  given_of_kind (event ∷ past) c (inl now) =
      or_left _ (was_given past (kind_certified c))
      (ap (λ o. is_some_and o (λ d. is_kind (kind_certified d) (kind_certified c))) now ∙ is_kind-refl (kind_certified c))
  given_of_kind (event ∷ past) c (inr before) =
      or_right (gives_kind (kind_certified c) event.1) _ (given_of_kind past c before)

  module _ (past : History D K G C) (possible : IsPossible x past) where
    not_both : was_given past Nullification ≡ true → was_given past Finalization ≡ true → ⊥
    not_both nullified finalized =
        true≢false (sym (and_from _ _ nullified finalized) ∙ never_given_both past possible)

    agree : (a b : Certificate C D) → IsGiven past a → IsGiven past b
        → subjects_contradict x.same_digest (subject_certified a) (subject_certified b) ≡ false
    agree (NotarizationCertificate a) (NotarizationCertificate b) given_a given_b =
        and_right (same_round a.proposal.round b.proposal.round) _
        (ap not (one_proposal_named past possible (NotarizationCertificate a) (NotarizationCertificate b) given_a given_b))
    agree (FinalizationCertificate a) (FinalizationCertificate b) given_a given_b =
        and_right (same_round a.proposal.round b.proposal.round) _
        (ap not (one_proposal_named past possible (FinalizationCertificate a) (FinalizationCertificate b) given_a given_b))
    agree (NullificationCertificate a) (FinalizationCertificate b) given_a given_b =
        absurd (not_both
        (given_of_kind past (NullificationCertificate a) given_a) (given_of_kind past (FinalizationCertificate b) given_b))
    agree (FinalizationCertificate a) (NullificationCertificate b) given_a given_b =
        absurd (not_both
        (given_of_kind past (NullificationCertificate b) given_b) (given_of_kind past (FinalizationCertificate a) given_a))
    agree a b given_a given_b = refl

  -- ALL OF IT
  -- What constructions give is safe in each history that is possible.
  pub gives_safely : (past : History D K G C) → IsPossible x past → GivesSafely x past
  gives_safely past possible =
      record {
        given_are_backed = at_each_event x (GivesBacked x) (gives_backed x laws) past possible;
        given_once = at_each_event x GivesOnce (gives_once x laws) past possible;
        given_are_fixed = at_each_event x (GivesFixed x) (gives_fixed x laws) past possible;
        one_of_each_kind = one_given past possible;
        nullification_or_finalization = never_given_both past possible;
        none_contradict = agree past possible;
        one_proposal = one_proposal_named past possible;
      }
