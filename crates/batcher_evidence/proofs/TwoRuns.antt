-- Two rounds that gave certificates which contradict each other.
use Rattle.batcher_evidence.proofs.Words.{inl, inr, ◌≡◌, Bool, true, cond, List, [], ◌∷◌, Option, Some, None, subst, sym, IfSome, IsSomeAnd, and_from, Ordering}
use Rattle.batcher_evidence.proofs.Words.{Meaning, IsLawful, subject_certified, content_of, certifies_itself, certifies_answer, History, certificate_given}
use Rattle.batcher_evidence.proofs.Words.{AtEachEvent, IsGiven, Attestation, Subject, Certificate, Answer, OutOfMemory, NetworkAnswer, OwnAnswer, OwnRefused}
use Rattle.batcher_evidence.proofs.Words.{CertificateAnswer, LeaderAnswer, ConstructAnswer, ForwardAnswer, MissingAnswer, ShowsQuorum, AreCulprits}
use Rattle.batcher_evidence.proofs.Words.{certificates_contradict, culprits_of, signed_both, AreAccountable}
use Rattle.batcher_evidence.proofs.Both.{both_signed}

module _ {D K G C : Type 0} (m : Meaning D K G C) where
  answer_certifies :
      (answer : Answer G C D) (c : Certificate C D) → certifies_answer m answer
      → certificate_given answer ≡ Some c → certifies_itself m c ≡ true
  answer_certifies (ConstructAnswer (Some batch)) c h e =
      subst (λ (o : Option (Certificate C D)). IfSome o (λ d. certifies_itself m d ≡ true)) e h
  answer_certifies (ConstructAnswer None) c h e = absurd (cc)
  answer_certifies (NetworkAnswer a) c h e = absurd (cc)
  answer_certifies (OwnAnswer a b) c h e = absurd (cc)
  answer_certifies (OwnRefused a) c h e = absurd (cc)
  answer_certifies (CertificateAnswer a) c h e = absurd (cc)
  answer_certifies (LeaderAnswer a) c h e = absurd (cc)
  answer_certifies (ForwardAnswer a) c h e = absurd (cc)
  answer_certifies (MissingAnswer a) c h e = absurd (cc)
  answer_certifies OutOfMemory c h e = absurd (cc)

  given_certifies :
      (past : History D K G C) (c : Certificate C D)
      → AtEachEvent (λ past event. certifies_answer m event.1) past → IsGiven past c
      → certifies_itself m c ≡ true
  given_certifies [] c each given = absurd given
  given_certifies (event ∷ past) c each (inl now) = answer_certifies event.1 c each.0 now
  given_certifies (event ∷ past) c each (inr before) = given_certifies past c each.1 before

  module _ (lawful : IsLawful m) (shown : C → List (Attestation G))
      (shows : (subject : Subject D) (c : C) → m.certifies subject c ≡ true
      → ShowsQuorum m subject (shown c)) where
    -- of two certificates that certify and contradict each other there are culprits
    found_of :
        (same : D → D → Bool) (a b : Certificate C D) → certifies_itself m a ≡ true
        → certifies_itself m b ≡ true → certificates_contradict same a b ≡ true
        → IsSomeAnd (culprits_of m shown same a b) (AreCulprits m shown a b)
    found_of same a b first second contradict =
        subst
        (λ yes. IsSomeAnd (cond yes (Some (signed_both (shown (content_of a)) (shown (content_of b)))) None) (AreCulprits m shown a b))
        (sym (and_from _ _ first (and_from _ _ second contradict)))
        (both_signed m lawful shown a b
        (shows (subject_certified a) (content_of a) first)
        (shows (subject_certified b) (content_of b) second))

    pub are_accountable :
        (compare_keys : K → K → Ordering) (same_signature : G → G → Bool) (same : D → D → Bool)
        → AreAccountable m compare_keys same_signature same shown
    are_accountable compare_keys same_signature same number other mode other_mode
        past other_past
        run other_run a b given_a given_b contradict =
        found_of same a b
        (given_certifies _ a run.promises.certificates_verify given_a)
        (given_certifies _ b other_run.promises.certificates_verify given_b)
        contradict
