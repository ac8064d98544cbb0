-- Who voted in both of two rounds that gave certificates which contradict each other.
use Rattle.batcher_evidence.proofs.Words.{inl, inr, ◌≡◌, ◌≤◌, ◌+◌, ◌==◌, ◌&&◌, ◌||◌, ℕ, Bool, true, false, cond, nat_lt, List, [], ◌∷◌, length, filter, Option}
use Rattle.batcher_evidence.proofs.Words.{Some, None, refl, ap, sym, ◌∙◌, subst, arith, IfSome, AllByRecursion, list_any, list_all, and_parts}
use Rattle.batcher_evidence.proofs.Words.{list_all-from_AllPass, Ordering, same_subject-true, and-true, any_within, count-append, count-filter, count_mono}
use Rattle.batcher_evidence.proofs.Words.{quorums_overlap, quorum_of, count, EachOnce, ElementsWithin, Meaning, Config, participants_in, quorum_in, signer_of}
use Rattle.batcher_evidence.proofs.Words.{subject_of, subject_certified, same_subject, Event, History, batch_given, certificate_given, cast_votes, first_votes}
use Rattle.batcher_evidence.proofs.Words.{is_free, AtEachEvent, votes_cast, subjects_contradict, GivesBacked, IsBacked, IsGiven, votes_behind, Round, Subject}
use Rattle.batcher_evidence.proofs.Words.{Vote, Certificate, Mode, Batch, Answer, OutOfMemory, NetworkAnswer, OwnAnswer, OwnRefused, CertificateAnswer}
use Rattle.batcher_evidence.proofs.Words.{LeaderAnswer, ConstructAnswer, ForwardAnswer, MissingAnswer, certificates_contradict, TakeContradictingVotes}
use Rattle.batcher_evidence.proofs.Words.{TakesContradicting, count_below, votes_contradict, config_with}
use Rattle.batcher_evidence.proofs.Counting.{below_both, below_more, distinct_below, filter_passes, has_number}

module _ {D : Type 0} (same : D → D → Bool) (identical : (a b : D) → same a b ≡ true → a ≡ b) where
  pub all_about :
      {G : Type 0} (s : Subject D) (vs : List (Vote G D))
      → list_all (λ v. same_subject same s (subject_of v)) vs ≡ true
      → AllByRecursion (λ v. s ≡ subject_of v) vs
  all_about s [] h = tt
  all_about s (v ∷ vs) h =
      let parts = and_parts (same_subject same s (subject_of v)) (list_all (λ w. same_subject same s (subject_of w)) vs) h in
      (same_subject-true same identical s (subject_of v) parts.0, all_about s vs parts.1)

module _ {G D : Type 0} where
  -- Where all votes are about one subject of which something is true, it is true of those that
  -- pass.
  about_passes :
      (s : Subject D) (p : Vote G D → Bool) (q : Subject D → Bool) (vs : List (Vote G D))
      → AllByRecursion (λ v. s ≡ subject_of v) vs → q s ≡ true → list_any p vs ≡ true
      → list_any (λ v. p v && q (subject_of v)) vs ≡ true
  about_passes s p q vs about holds h = alike vs about ∙ h
    where
      alike :
          (vs : List (Vote G D)) → AllByRecursion (λ v. s ≡ subject_of v) vs
          → list_any (λ v. p v && q (subject_of v)) vs ≡ list_any p vs
      alike [] about = refl
      alike (v ∷ vs) about =
          ap
          (λ b. (p v && b) || list_any (λ w. p w && q (subject_of w)) vs)
          (ap q (sym about.0) ∙ holds)
          ∙ (ap (λ b. b || list_any (λ w. p w && q (subject_of w)) vs) (and-true (p v)) ∙ ap (λ b. p v || b) (alike vs about.1))

  -- Votes that were cast, about two subjects that contradict each other.
  pub voted_both :
      (same : D → D → Bool) (s t : Subject D) (vs ws cast others : List (Vote G D)) (i : ℕ)
      → subjects_contradict same s t ≡ true
      → AllByRecursion (λ v. s ≡ subject_of v) vs → AllByRecursion (λ w. t ≡ subject_of w) ws
      → ElementsWithin vs cast → ElementsWithin ws others
      → (list_any (λ v. signer_of v == i) vs && list_any (λ w. signer_of w == i) ws) ≡ true
      → votes_contradict same cast others i ≡ true
  voted_both same s t vs ws cast others i contradict about other_about within other_within h =
      let parts = and_parts (list_any (λ v. signer_of v == i) vs) (list_any (λ w. signer_of w == i) ws) h in
      let second : list_any (λ w. (signer_of w == i) && subjects_contradict same s (subject_of w)) others ≡ true =
      any_within _ ws others other_within
      (about_passes t (λ w. signer_of w == i) (subjects_contradict same s) ws other_about contradict parts.1) in
      any_within _ vs cast within
      (about_passes s (λ v. signer_of v == i)
      (λ u. list_any (λ w. (signer_of w == i) && subjects_contradict same u (subject_of w)) others)
      vs about second parts.0)

module _ {D K G C : Type 0} (x : Config D K G C) where
  -- What is behind a certificate: votes of a quorum of participants, which were cast.
  pub record IsBehind (past : History D K G C) (c : Certificate C D) (votes : List (Vote G D)) :
      Type 0 where
    pub enough : quorum_in x ≤ length votes
    pub once : EachOnce signer_of votes
    pub below : list_all (λ v. nat_lt (signer_of v) (participants_in x)) votes ≡ true
    pub about :
        list_all (λ v. same_subject x.same_digest (subject_certified c) (subject_of v)) votes ≡ true
    pub cast : ElementsWithin votes (votes_cast x past)

  cast_more :
      (past : History D K G C) (event : Event D K G C) (test : Vote G D → Bool)
      → count test (votes_cast x past) ≤ count test (votes_cast x (event ∷ past))
  cast_more past event test = omega (arith, count-append test (cast_votes x event.0) (votes_cast x past))

  first_are_cast :
      (past : History D K G C) → ElementsWithin (first_votes x past) (votes_cast x past)
  first_are_cast [] test = omega arith
  first_are_cast (event ∷ past) test =
      omega (
        arith,
        count-append test (filter (is_free (first_votes x past)) (cast_votes x event.0)) (first_votes x past),
        count-append test (cast_votes x event.0) (votes_cast x past),
        count-filter test (is_free (first_votes x past)) (cast_votes x event.0),
        count_mono (λ v. is_free (first_votes x past) v && test v) test (cast_votes x event.0) (λ v. fewer (is_free (first_votes x past) v) (test v)),
        first_are_cast past test,
      )
    where
      fewer : (a b : Bool) → cond (a && b) 1 0 ≤ cond b 1 0
      fewer true b = omega arith
      fewer false true = omega arith
      fewer false false = omega arith

  later :
      (past : History D K G C) (event : Event D K G C) (c : Certificate C D)
      (votes : List (Vote G D))
      → IsBehind past c votes → IsBehind (event ∷ past) c votes
  later past event c votes behind =
      record {
        enough = behind.enough;
        once = behind.once;
        below = behind.below;
        about = behind.about;
        cast = λ test. omega (arith, behind.cast test, cast_more past event test);
      }

  backed_behind :
      (past : History D K G C) (batch : Batch (Certificate C D)) (c : Certificate C D)
      → IsBacked x past batch c → IsBehind past c (votes_behind x past c)
  backed_behind past batch c backed =
      record {
        enough = backed.enough;
        once = backed.once;
        below = list_all-from_AllPass (λ v. nat_lt (signer_of v) (participants_in x)) (votes_behind x past c) backed.participants;
        about = filter_passes (λ v. same_subject x.same_digest (subject_certified c) (subject_of v)) _;
        cast = λ test. omega (arith, backed.first test, first_are_cast past test);
      }

  answer_behind :
      (past : History D K G C) (answer : Answer G C D) (c : Certificate C D)
      → IfSome (batch_given answer) (λ batch. IfSome batch.certificate (IsBacked x past batch))
      → certificate_given answer ≡ Some c → IsBehind past c (votes_behind x past c)
  answer_behind past (ConstructAnswer (Some batch)) c h e =
      backed_behind past batch c
      (subst (λ (o : Option (Certificate C D)). IfSome o (IsBacked x past batch)) e h)
  answer_behind past (ConstructAnswer None) c h e = absurd (cc)
  answer_behind past (NetworkAnswer a) c h e = absurd (cc)
  answer_behind past (OwnAnswer a b) c h e = absurd (cc)
  answer_behind past (OwnRefused a) c h e = absurd (cc)
  answer_behind past (CertificateAnswer a) c h e = absurd (cc)
  answer_behind past (LeaderAnswer a) c h e = absurd (cc)
  answer_behind past (ForwardAnswer a) c h e = absurd (cc)
  answer_behind past (MissingAnswer a) c h e = absurd (cc)
  answer_behind past OutOfMemory c h e = absurd (cc)

  pub given_behind :
      (past : History D K G C) (c : Certificate C D) → AtEachEvent (GivesBacked x) past
      → IsGiven past c → (votes : List (Vote G D)) × IsBehind past c votes
  given_behind [] c each given = absurd given
  given_behind (event ∷ past) c each (inl now) =
      (votes_behind x past c, later past event c (votes_behind x past c) (answer_behind past event.1 c each.0 now))
  given_behind (event ∷ past) c each (inr before) =
      let behind = given_behind past c each.1 before in
      (behind.0, later past event c behind.0 behind.1)

module _ {D K G C : Type 0} (m : Meaning D K G C) (compare_keys : K → K → Ordering)
    (same_signature : G → G → Bool) (same : D → D → Bool)
    (identical : (a b : D) → same a b ≡ true → a ≡ b) where
  -- Votes behind two certificates that contradict each other.
  contradicting_behind :
      (number : Round) (mode other_mode : Mode) (past other_past : History D K G C)
      (a b : Certificate C D) (vs ws : List (Vote G D))
      → 1 ≤ length m.participants
      → IsBehind (config_with m compare_keys same_signature same number mode) past a vs
      → IsBehind (config_with m compare_keys same_signature same number other_mode) other_past b ws
      → certificates_contradict same a b ≡ true
      → TakesContradicting m same
      (config_with m compare_keys same_signature same number mode)
      (config_with m compare_keys same_signature same number other_mode)
      past other_past
  contradicting_behind number mode other_mode past other_past a b vs ws some first second contradict =
      record { enough = enough; more_than_faulty = omega (arith, enough, quorums_overlap n some) }
    where
      n : ℕ
      n = length m.participants

      cast : List (Vote G D)
      cast = votes_cast (config_with m compare_keys same_signature same number mode) past

      others : List (Vote G D)
      others = votes_cast (config_with m compare_keys same_signature same number other_mode) other_past

      each :
          (i : ℕ) → (has_number signer_of vs i && has_number signer_of ws i) ≡ true
          → votes_contradict same cast others i ≡ true
      each i h =
          voted_both same (subject_certified a) (subject_certified b) vs ws cast others i contradict
          (all_about same identical (subject_certified a) vs first.about)
          (all_about same identical (subject_certified b) ws second.about)
          first.cast second.cast h

      enough : quorum_of n + quorum_of n ≤ count_below n (votes_contradict same cast others) + n
      enough =
          omega (
            arith,
            first.enough,
            second.enough,
            distinct_below signer_of n vs first.once first.below,
            distinct_below signer_of n ws second.once second.below,
            below_both (has_number signer_of vs) (has_number signer_of ws) n,
            below_more (λ i. has_number signer_of vs i && has_number signer_of ws i) (votes_contradict same cast others) each n,
          )

  pub take_contradicting : TakeContradictingVotes m compare_keys same_signature same
  take_contradicting number mode other_mode past other_past some run other_run a b given_a given_b
      contradict =
      let x = config_with m compare_keys same_signature same number mode in
      let y = config_with m compare_keys same_signature same number other_mode in
      let first = given_behind x _ a run.gives_safely.given_are_backed given_a in
      let second = given_behind y _ b other_run.gives_safely.given_are_backed given_b in
      contradicting_behind number mode other_mode _ _ a b first.0 second.0
      some first.1 second.1 contradict
