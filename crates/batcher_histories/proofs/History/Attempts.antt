-- Whom an attempt names, what it leaves, and what has been tried.
use Rattle.batcher_histories.proofs.Words.{inl, inr, ◌≡◌, ℕ, ◌+◌, ◌≤◌, Bool, true, false, not, cond, ◌&&◌, ◌||◌, ◌⊎◌, List, [], ◌∷◌, ◌++◌, length, map, Option}
use Rattle.batcher_histories.proofs.Words.{Some, None, refl, ap, sym, ◌∙◌, arith, ⊎_elim, eqb, ltb, leb, subst, length-append, filter, is_some, IfSome}
use Rattle.batcher_histories.proofs.Words.{cases_Bool, and_parts, and_from, or_cases, cond_both, false_from_ne_true, leb-true, le-leb, or_right, true≢false}
use Rattle.batcher_histories.proofs.Words.{same_Some, IsPossible, MayAnswer, have_one_subject, is_enough, first_vote, first_votes, Event, History, batch_given}
use Rattle.batcher_histories.proofs.Words.{SameElements, count, is_some_and, proposal_of, certificate_of, is_restored, fixed_proposal, fixing_evidence}
use Rattle.batcher_histories.proofs.Words.{is_certified, leaders_proposal, selected_proposal, selection_by, Config, quorum_in, fresh_votes, is_among}
use Rattle.batcher_histories.proofs.Words.{is_counted, is_ready_by, is_trusted, is_valid, proven_votes, ready_kind, eligible_votes, was_eligible, trials}
use Rattle.batcher_histories.proofs.Words.{was_invalid, tries_kind, is_skipped, Attempt, AttemptAfter, are_of, bad_signers, certifies_subject, votes_checked}
use Rattle.batcher_histories.proofs.Words.{attestation_of, has_proposals, is_for, is_kind, is_of_kind, is_vote_of, kind_certified, kind_of, same_subject}
use Rattle.batcher_histories.proofs.Words.{signer_of, subject_certified, subject_of, is_eligible, Certificate, FinalizationCertificate, NotarizationCertificate}
use Rattle.batcher_histories.proofs.Words.{NullificationCertificate, Kind, Finalization, Notarization, Nullification, Proposal, Subject, FinalizeSubject}
use Rattle.batcher_histories.proofs.Words.{NotarizeSubject, NullifySubject, Vote, FinalizeVote, NotarizeVote, NullifyVote, Participant, count-append}
use Rattle.batcher_histories.proofs.Words.{count-false, count-map, count_same, length_same, keeps_all, count-filter, same_subject-true, is_kind-refl}
use Rattle.batcher_histories.proofs.Words.{is_kind-true, Answer, CertificateAnswer, ConstructAnswer, ForwardAnswer, LeaderAnswer, MissingAnswer, NetworkAnswer}
use Rattle.batcher_histories.proofs.Words.{OutOfMemoryAnswer, OwnAnswer, OwnRefusedAnswer, Call, CertificateCall, ConstructCall, ForwardCall, LeaderCall}
use Rattle.batcher_histories.proofs.Words.{MissingCall, NetworkCall, OwnCall, Batch}
use Rattle.batcher_histories.proofs.History.Distinct.{IsAt, any_count, count_at, first_stays, firsts_apart, positive, some_of, where_holds, option_cases}
use Rattle.batcher_histories.proofs.History.Laws.{HasLaws}
use Rattle.batcher_histories.proofs.KnownLemmas.Named.{or_none}
use Rattle.batcher_histories.proofs.History.Past.{among_eligible, closed_is_empty, count_fresh, count_proven, invalid_after, invalid_in, tried_after}
use Rattle.batcher_histories.proofs.History.Past.{tried_filled}
use Rattle.batcher_histories.proofs.History.Selection.{back_not_counted, certified_before, is_restored_by, leaders_stays}

module _ {D K G C : Type 0} (x : Config D K G C) where
  -- an attempt that gives no certificate looked at all of the pending votes
  pub bad_of_all : (verified pending : List (Vote G D)) (batch : Batch (Certificate C D))
      → Attempt x verified pending batch → is_some batch.certificate ≡ false →
      (batch.invalid ≡ bad_signers x pending)
      × (votes_checked (quorum_in x) verified pending ≡ pending)
  bad_of_all verified pending batch a none =
      ⊎_elim
      (λ full. let none_tried : votes_checked (quorum_in x) verified pending
      ≡ [] = rw full refl in ⊎_elim (λ given. let no : true ≡ false = sym given.certificate ∙ none in cc)
      (⊎_elim
      (λ fell. absurd (fell.some_bad (ap (bad_signers x) none_tried)))
      (λ only. let enough : (quorum_in x) ≤ length verified = leb-true _ _ full in absurd (omega (arith, only.unreached))))
      a.way)
      (λ part. let all_tried : votes_checked (quorum_in x) verified pending
      ≡ pending = rw part refl in ⊎_elim (λ given. let no : true ≡ false = sym given.certificate ∙ none in cc)
      (⊎_elim (λ fell. (fell.invalid ∙ ap (bad_signers x) all_tried, all_tried)) (λ only. (only.invalid ∙ ap (bad_signers x) all_tried, all_tried))) a.way)
      (cases_Bool (leb (quorum_in x) (length verified)))

  -- whom it names invalid
  pub invalid_cases : (verified pending : List (Vote G D)) (batch : Batch (Certificate C D))
      → Attempt x verified pending batch →
      (batch.invalid ≡ []) ⊎ (batch.invalid ≡ bad_signers x pending)
  invalid_cases verified pending batch a =
      ⊎_elim (λ given. inl given.invalid)
      (λ others. let named : batch.invalid ≡ bad_signers x (votes_checked (quorum_in x) verified pending) = ⊎_elim (λ fell. fell.invalid) (λ only. only.invalid)
      others in
      ⊎_elim (λ full. let none_tried : votes_checked (quorum_in x) verified pending ≡ [] = rw full refl in inl (named ∙ ap (bad_signers x) none_tried))
      (λ part. let all_tried : votes_checked (quorum_in x) verified pending ≡ pending = rw part refl in inr (named ∙ ap (bad_signers x) all_tried))
      (cases_Bool (leb (quorum_in x) (length verified))))
      a.way

  -- a certificate is given where the votes reach the quorum
  pub reached_by : (verified pending : List (Vote G D)) (batch : Batch (Certificate C D))
      → Attempt x verified pending batch → is_some batch.certificate ≡ true →
      (quorum_in x) ≤ length verified + length (votes_checked (quorum_in x) verified pending)
  reached_by verified pending batch a some =
      ⊎_elim (λ given. given.reached)
      (⊎_elim (λ fell. fell.reached) (λ only. let no : false ≡ true = sym only.certificate ∙ some in cc))
      a.way

  -- a verified quorum gives one
  pub full_gives : (verified pending : List (Vote G D)) (batch : Batch (Certificate C D))
      → Attempt x verified pending batch → (quorum_in x) ≤ length verified →
      is_some batch.certificate ≡ true
  full_gives verified pending batch a enough =
      ⊎_elim (λ given. given.certificate)
      (⊎_elim
      (λ fell. absurd (fell.some_bad (ap (bad_signers x) none_tried)))
      (λ only. absurd (omega (arith, only.unreached))))
      a.way
    where
      none_tried : votes_checked (quorum_in x) verified pending ≡ []
      none_tried = rw (le-leb (quorum_in x) (length verified) enough) refl

abbrev pub kind_in : {D : Type 0} → Subject D → Kind
kind_in (NotarizeSubject p) = Notarization
kind_in (NullifySubject r) = Nullification
kind_in (FinalizeSubject p) = Finalization

bad_order : (k w n a s : Bool) → (k && (w && (n && (a && s)))) ≡ ((w && (n && a)) && (k && s))
bad_order true true true true s = refl
bad_order true true true false s = refl
bad_order true true false a s = refl
bad_order true false n a s = refl
bad_order false true true true s = refl
bad_order false true true false s = refl
bad_order false true false a s = refl
bad_order false false n a s = refl

never : (k w n : Bool) → (k && (w && (n && not k))) ≡ false
never true true true = refl
never true true false = refl
never true false n = refl
never false w n = refl

pub counted_grows : {X : Type 0} (counted : Option X → Bool) (l l' : Option X)
    → ((p : X) → l ≡ Some p → l' ≡ Some p) →
    (counted None ≡ true → counted l' ≡ true) → counted l ≡ true → counted l' ≡ true
counted_grows counted None l' stays unknown h = unknown h
counted_grows counted (Some p) l' stays unknown h = ap counted (stays p refl) ∙ h

-- a choice of two that both go on
or_weaker : (l r a b a' b' : Bool) → l ≡ (a || b) → r ≡ (a' || b') → (a ≡ true → a' ≡ true)
    → (b ≡ true → b' ≡ true) → l ≡ true → r ≡ true
or_weaker l r true b a' b' is now first second h = rw (now, first refl) refl
or_weaker l r false true a' b' is now first second h = rw (now, second refl) (or_right a' true refl)
or_weaker l r false false a' b' is now first second h = absurd (true≢false (sym h ∙ is))

or_first : (a b : Bool) → (a || false) ≡ true → (a || b) ≡ true
or_first true b h = refl
or_first false b h = cc

unfixed_selects : {D : Type 0} (l : Option (Proposal D)) → proposal_of (selection_by None l) ≡ l
unfixed_selects None = refl
unfixed_selects (Some p) = refl

-- the first kind that passes does
pub chosen : (r : Kind → Bool) (a b c : Bool) (k : Kind) → r Notarization ≡ a → r Nullification ≡ b
    → r Finalization ≡ c →
    cond a (Some Notarization) (cond b (Some Nullification) (cond c (Some Finalization) None))
    ≡ Some k → r k ≡ true
chosen r true b c k ea eb ec h = let e : Notarization ≡ k = cc in subst (λ (l : Kind). r l ≡ true) e ea
chosen r false true c k ea eb ec h = let e : Nullification ≡ k = cc in subst (λ (l : Kind). r l ≡ true) e eb
chosen r false false true k ea eb ec h = let e : Finalization ≡ k = cc in subst (λ (l : Kind). r l ≡ true) e ec
chosen r false false false k ea eb ec h = cc

module _ {D K G C : Type 0} (x : Config D K G C) where
  pub kind_of_vote : (v : Vote G D) → kind_in (subject_of v) ≡ kind_of v
  kind_of_vote (NotarizeVote v) = refl
  kind_of_vote (NullifyVote v) = refl
  kind_of_vote (FinalizeVote v) = refl

  kind_of_certificate : (c : Certificate C D) → kind_in (subject_certified c) ≡ kind_certified c
  kind_of_certificate (NotarizationCertificate c) = refl
  kind_of_certificate (NullificationCertificate c) = refl
  kind_of_certificate (FinalizationCertificate c) = refl

  -- the signers that an attempt finds bad
  pub any_bad : (votes : List (Vote G D)) (i : ℕ) →
      is_among i (map (λ j. j.0) (bad_signers x votes))
      ≡ ltb 0 (count (λ v. not (is_valid x v) && eqb (signer_of v) i) votes)
  any_bad votes i =
      any_count (λ j. eqb j i) (map (λ j. j.0) (bad_signers x votes))
      ∙ ap (λ n. ltb 0 n)
      (count-map (λ j. eqb j i) (λ j. j.0) (bad_signers x votes)
      ∙ (count-map (λ j. eqb j.0 i) (λ v. (attestation_of v).signer) (filter (λ v. not (is_valid x v)) votes)
      ∙ count-filter (λ v. eqb (signer_of v) i) (λ v. not (is_valid x v)) votes))

  abbrev pub is_fresh_bad : History D K G C → Vote G D → Bool
  is_fresh_bad past v = is_eligible x.same_digest (selected_proposal x past) v
      && (not (is_trusted x past v || was_eligible (trials x past) v) && not (is_valid x v))

  -- An attempt over the fresh votes finds bad those that don't attest.
  pub any_bad_fresh : (past : History D K G C) (kind : Kind) (votes : List (Vote G D)) (i : ℕ)
      → (is_certified past kind || is_skipped x.mode) ≡ false
      → SameElements votes (fresh_votes x past kind) →
      is_among i (map (λ j. j.0) (bad_signers x votes))
      ≡ is_some_and (first_vote x past kind i) (is_fresh_bad past)
  any_bad_fresh past kind votes i still same =
      any_bad votes i
      ∙ (ap (λ n. ltb 0 n)
      (same (λ v. not (is_valid x v) && eqb (signer_of v) i)
      ∙ (count_fresh x past kind (λ v. not (is_valid x v) && eqb (signer_of v) i) still
      ∙ (count_same _ (λ v. is_fresh_bad past v && is_vote_of kind i v) (first_votes x past)
      (λ v. bad_order (is_of_kind kind v) (is_eligible x.same_digest (selected_proposal x past) v) (not (is_trusted x past v || was_eligible (trials x past) v))
      (not (is_valid x v)) (eqb (signer_of v) i))
      ∙ count_at (is_fresh_bad past) (first_votes x past) kind i (firsts_apart x past))))
      ∙ positive (is_some_and (first_vote x past kind i) (is_fresh_bad past)))

  none_bad_closed : (past : History D K G C) (kind : Kind) (votes : List (Vote G D)) (i : ℕ)
      → (is_certified past kind || is_skipped x.mode) ≡ true
      → SameElements votes (fresh_votes x past kind) →
      is_among i (map (λ j. j.0) (bad_signers x votes)) ≡ false
  none_bad_closed past kind votes i closed same =
      any_bad votes i
      ∙ ap (λ n. ltb 0 n)
      (same (λ v. not (is_valid x v) && eqb (signer_of v) i)
      ∙ ap (count (λ v. not (is_valid x v) && eqb (signer_of v) i)) (closed_is_empty x past kind closed).0)

  -- The batch of a possible answer: it is of a construction, at the first ready kind, and its
  -- certificate is the event's.
  pub record MadeBatch (past : History D K G C) (call : Call K G C D) (answer : Answer G C D)
      (batch : Batch (Certificate C D)) : Type 0 where
    pub constructs : call ≡ ConstructCall
    pub certificate : certificate_of (call, answer) ≡ batch.certificate
    pub kind : Kind
    pub ready : ready_kind x past ≡ Some kind
    pub after : AttemptAfter x past kind batch

  pub batch_made : (past : History D K G C) (call : Call K G C D) (answer : Answer G C D)
      (batch : Batch (Certificate C D)) → MayAnswer x past call answer → batch_given answer
      ≡ Some batch → MadeBatch past call answer batch
  batch_made past call (NetworkAnswer a) batch may e = absurd (cc)
  batch_made past call (OwnAnswer a b) batch may e = absurd (cc)
  batch_made past call (OwnRefusedAnswer a) batch may e = absurd (cc)
  batch_made past call (CertificateAnswer a) batch may e = absurd (cc)
  batch_made past call (LeaderAnswer a) batch may e = absurd (cc)
  batch_made past call (ForwardAnswer a) batch may e = absurd (cc)
  batch_made past call (MissingAnswer a) batch may e = absurd (cc)
  batch_made past call OutOfMemoryAnswer batch may e = absurd (cc)
  batch_made past call (ConstructAnswer None) batch may e = absurd (cc)
  batch_made past (NetworkCall sender vote) (ConstructAnswer (Some b)) batch may e = absurd may
  batch_made past (OwnCall vote) (ConstructAnswer (Some b)) batch may e = absurd may
  batch_made past (CertificateCall c) (ConstructAnswer (Some b)) batch may e = absurd may
  batch_made past (LeaderCall i) (ConstructAnswer (Some b)) batch may e = absurd may
  batch_made past (ForwardCall i) (ConstructAnswer (Some b)) batch may e = absurd may
  batch_made past (MissingCall p) (ConstructAnswer (Some b)) batch may e = absurd may
  batch_made past ConstructCall (ConstructAnswer (Some b)) batch may e =
      let same : b ≡ batch = cc in
      record {
        constructs = refl;
        certificate = ap (λ (c : Batch (Certificate C D)). c.certificate) same;
        kind = may.0;
        ready = may.1.0;
        after = subst (λ (c : Batch (Certificate C D)). AttemptAfter x past may.0 c) same may.1.1;
      }

  -- whom an attempt names has a fresh vote that doesn't attest
  pub found_among : (past : History D K G C) (kind : Kind) (i : ℕ)
      (verified pending : List (Vote G D)) (batch : Batch (Certificate C D)) →
      Attempt x verified pending batch → SameElements pending (fresh_votes x past kind)
      → is_among i (map (λ j. j.0) batch.invalid) ≡ true →
      ((is_certified past kind || is_skipped x.mode) ≡ false)
      × (is_some_and (first_vote x past kind i) (is_fresh_bad past) ≡ true)
  found_among past kind i verified pending batch tried same among =
      ⊎_elim
      (λ none. let no : is_among i [] ≡ true = subst (λ (l : List Participant). is_among i (map (λ j. j.0) l) ≡ true) none among in cc)
      (λ bad.
      let some : is_among i (map (λ j. j.0) (bad_signers x pending))
      ≡ true = subst (λ (l : List Participant). is_among i (map (λ j. j.0) l) ≡ true) bad among in
      ⊎_elim
      (λ closed. let no : false ≡ true = sym (none_bad_closed past kind pending i closed same) ∙ some in cc)
      (λ still. (still, sym (any_bad_fresh past kind pending i still same) ∙ some))
      (cases_Bool (is_certified past kind || is_skipped x.mode)))
      (invalid_cases x verified pending batch tried)

  -- the batch of a call that tries a kind
  pub record TriesKind (past : History D K G C) (answer : Answer G C D) (kind : Kind) : Type 0 where
    pub batch : Batch (Certificate C D)
    pub given : batch_given answer ≡ Some batch
    pub ready : ready_kind x past ≡ Some kind
    pub after : AttemptAfter x past kind batch

  pub tries_by : (past : History D K G C) (call : Call K G C D) (answer : Answer G C D)
      (kind : Kind) → MayAnswer x past call answer → tries_kind x past answer kind ≡ true
      → TriesKind past answer kind
  tries_by past call answer kind may tries =
      let parts = and_parts (is_some (batch_given answer)) (is_some_and (ready_kind x past) (λ k. is_kind k kind)) tries in
      let given = some_of (batch_given answer) parts.0 in
      let made = batch_made past call answer given.0 may given.1 in
      let now : is_kind made.kind kind ≡ true = subst (λ (o : Option Kind). is_some_and o (λ k. is_kind k kind) ≡ true) made.ready parts.1 in
      let same : made.kind ≡ kind = is_kind-true made.kind kind now in
      record {
        batch = given.0;
        given = given.1;
        ready = made.ready
            ∙ ap Some same;
        after = subst (λ (k : Kind). AttemptAfter x past k given.0) same
            made.after;
      }

  -- What was found invalid was tried.
  pub invalid_tried : (past : History D K G C) → IsPossible x past → (v : Vote G D)
      → was_invalid (trials x past) v ≡ true → was_eligible (trials x past) v ≡ true
  invalid_tried [] possible v h = cc
  invalid_tried (event ∷ past) possible v h =
      or_weaker _ _ _ _ _ _ (invalid_after x past event v) (tried_after x past event v)
      (λ now. and_from _ _ (and_parts _ _ now).0 (tried_now (and_parts _ _ now).0 (and_parts _ _ now).1))
      (invalid_tried past possible.1.1.1 v) h
    where
      eligible_if_bad : (o : Option (Vote G D)) → is_some_and o (is_fresh_bad past) ≡ true
          → is_some_and o (is_eligible x.same_digest (selected_proposal x past)) ≡ true
      eligible_if_bad None e = e
      eligible_if_bad (Some w) e = (and_parts _ _ e).0

      tried_now : tries_kind x past event.1 (kind_of v) ≡ true
          → is_among (signer_of v) (invalid_in x (batch_given event.1)) ≡ true
          → is_among (signer_of v) (map signer_of (eligible_votes x past (kind_of v))) ≡ true
      tried_now tries among =
          let t = tries_by past event.0 event.1 (kind_of v) possible.1.1.0 tries in
          let named : is_among (signer_of v) (map (λ j. j.0) t.batch.invalid)
          ≡ true = subst (λ (o : Option (Batch (Certificate C D))). is_among (signer_of v) (invalid_in x o) ≡ true) t.given among in
          let found = found_among past (kind_of v) (signer_of v) t.after.verified t.after.pending t.batch t.after.attempt t.after.pending_are named in
          among_eligible x past (kind_of v) (signer_of v)
          ∙ and_from _ _ (ap not found.0) (eligible_if_bad (first_vote x past (kind_of v) (signer_of v)) found.1)

  -- the buffers of a kind have votes of it alone
  count_never : (kind : Kind) (others : Vote G D → Bool) (more : Vote G D → Bool)
      (votes : List (Vote G D)) →
      count (λ v. is_of_kind kind v && (others v && (more v && not (is_of_kind kind v)))) votes ≡ 0
  count_never kind others more votes = count_same _ (λ _. false) votes (λ v. never (is_of_kind kind v) (others v) (more v)) ∙ count-false votes

  pub fresh_of_kind : (past : History D K G C) (kind : Kind)
      → count (λ v. not (is_of_kind kind v)) (fresh_votes x past kind) ≡ 0
  fresh_of_kind past kind =
      ⊎_elim
      (λ closed. ap (count (λ v. not (is_of_kind kind v))) (closed_is_empty x past kind closed).0)
      (λ still. count_fresh x past kind (λ v. not (is_of_kind kind v)) still
      ∙ count_never kind (is_eligible x.same_digest (selected_proposal x past)) (λ v. not (is_trusted x past v || was_eligible (trials x past) v))
      (first_votes x past))
      (cases_Bool (is_certified past kind || is_skipped x.mode))

  pub proven_of_kind : (past : History D K G C) (kind : Kind)
      → count (λ v. not (is_of_kind kind v)) (proven_votes x past kind) ≡ 0
  proven_of_kind past kind =
      ⊎_elim
      (λ closed. ap (count (λ v. not (is_of_kind kind v))) (closed_is_empty x past kind closed).1)
      (λ still. count_proven x past kind (λ v. not (is_of_kind kind v)) still
      ∙ count_never kind (is_eligible x.same_digest (selected_proposal x past))
      (λ v. (is_trusted x past v || was_eligible (trials x past) v) && not (was_invalid (trials x past) v)) (first_votes x past))
      (cases_Bool (is_certified past kind || is_skipped x.mode))

  tried_none : (test : Vote G D → Bool) (verified pending : List (Vote G D)) → count test pending
      ≡ 0 → count test (votes_checked (quorum_in x) verified pending) ≡ 0
  tried_none test verified pending h =
      cond_both (leb (quorum_in x) (length verified)) [] pending (λ (vs : List (Vote G D)). count test vs ≡ 0) (λ _. refl) (λ _. h)

  pub quorum_positive : HasLaws x → 1 ≤ quorum_in x
  quorum_positive lawful = omega (arith, lawful.some_participant)

  first_of_kind : (kind : Kind) (votes : List (Vote G D)) (v : Vote G D) (rest : List (Vote G D))
      → votes ≡ v ∷ rest → count (λ w. not (is_of_kind kind w)) votes ≡ 0 → is_of_kind kind v ≡ true
  first_of_kind kind votes v rest is none =
      (keeps_all (is_of_kind kind v) (count (λ w. not (is_of_kind kind w)) rest) (sym (ap (count (λ w. not (is_of_kind kind w))) is) ∙ none)).0

  head_of : (votes : List (Vote G D)) → 1 ≤ length votes → (v : Vote G D) × (rest : List (Vote G D))
      × (votes ≡ v ∷ rest)
  head_of [] h = absurd (omega arith)
  head_of (v ∷ votes) h = (v, votes, refl)

  -- a certificate is of the kind that is tried: there is a vote that the attempt looked at, of its
  -- subject
  pub record Witnessed (verified pending : List (Vote G D)) (batch : Batch (Certificate C D))
      (kind : Kind) (c : Certificate C D) : Type 0 where
    pub vote : Vote G D
    pub rest : List (Vote G D)
    pub looked_at : verified ++ votes_checked (quorum_in x) verified pending ≡ vote ∷ rest
    pub subject : Subject D
    pub of_vote : same_subject x.same_digest subject (subject_of vote) ≡ true
    pub of_certificate : same_subject x.same_digest subject (subject_certified c) ≡ true
    pub kind_is : kind_of vote ≡ kind
    pub certified_kind : kind_certified c ≡ kind

  -- by the first of the votes that it looked at
  witnessed_by : HasLaws x → (past : History D K G C) (kind : Kind)
      (verified pending : List (Vote G D)) (batch : Batch (Certificate C D)) (c : Certificate C D)
      (v : Vote G D) (rest : List (Vote G D)) →
      verified ++ votes_checked (quorum_in x) verified pending ≡ v ∷ rest →
      Attempt x verified pending batch → SameElements verified (proven_votes x past kind)
      → SameElements pending (fresh_votes x past kind) → batch.certificate ≡ Some c →
      Witnessed verified pending batch kind c
  witnessed_by lawful past kind verified pending batch c v rest is tried verified_are pending_are given =
      let none_other : count (λ w. not (is_of_kind kind w)) (verified ++ votes_checked (quorum_in x) verified pending) ≡ 0 =
      count-append (λ w. not (is_of_kind kind w)) verified (votes_checked (quorum_in x) verified pending)
      ∙ (ap (λ n. n + count (λ w. not (is_of_kind kind w)) (votes_checked (quorum_in x) verified pending))
      (verified_are (λ w. not (is_of_kind kind w)) ∙ proven_of_kind past kind)
      ∙ ap (λ n. 0 + n) (tried_none (λ w. not (is_of_kind kind w)) verified pending (pending_are (λ w. not (is_of_kind kind w)) ∙ fresh_of_kind past kind))) in
      let all_of : are_of x tried.subject (v ∷ rest) ≡ true = subst (λ (vs : List (Vote G D)). are_of x tried.subject vs ≡ true) is tried.one_subject in
      let of_vote = (and_parts _ _ all_of).0 in
      let certifies : certifies_subject x tried.subject c
      ≡ true = subst (λ (o : Option (Certificate C D)). IfSome o (λ d. certifies_subject x tried.subject d ≡ true)) given tried.certified in
      let of_certificate = (and_parts _ _ certifies).0 in
      let is_kind_now : kind_of v ≡ kind = is_kind-true _ _ (first_of_kind kind (verified ++ votes_checked (quorum_in x) verified pending) v rest is none_other)
      in
      record {
        vote = v;
        rest = rest;
        looked_at = is;
        subject = tried.subject;
        of_vote = of_vote;
        of_certificate = of_certificate;
        kind_is = is_kind_now;
        certified_kind =
            sym (kind_of_certificate c)
            ∙ (sym (ap kind_in (same_subject-true x.same_digest lawful.digests_equal tried.subject (subject_certified c) of_certificate))
            ∙ (ap kind_in (same_subject-true x.same_digest lawful.digests_equal tried.subject (subject_of v) of_vote) ∙ (kind_of_vote v ∙ is_kind_now)));
      }

  pub witnessed : HasLaws x → (past : History D K G C) (kind : Kind)
      (verified pending : List (Vote G D)) (batch : Batch (Certificate C D)) (c : Certificate C D) →
      Attempt x verified pending batch → SameElements verified (proven_votes x past kind)
      → SameElements pending (fresh_votes x past kind) → batch.certificate ≡ Some c →
      Witnessed verified pending batch kind c
  witnessed lawful past kind verified pending batch c tried verified_are pending_are given =
      let reached : quorum_in x ≤ length verified + length (votes_checked (quorum_in x) verified pending) = reached_by x verified pending batch tried
      (ap is_some given) in
      let some : 1 ≤ length (verified ++ votes_checked (quorum_in x) verified pending) = omega
      (arith, quorum_positive lawful, length-append verified (votes_checked (quorum_in x) verified pending), reached) in
      let head = head_of (verified ++ votes_checked (quorum_in x) verified pending) some in
      witnessed_by lawful past kind verified pending batch c head.0 head.1 head.2 tried verified_are pending_are given

  -- with a certificate it certifies the kind that was tried
  pub given_certified : HasLaws x → (past : History D K G C) (call : Call K G C D)
      (answer : Answer G C D) (kind : Kind) (verified pending : List (Vote G D))
      (batch : Batch (Certificate C D)) →
      MayAnswer x past call answer → batch_given answer ≡ Some batch
      → Attempt x verified pending batch → SameElements verified (proven_votes x past kind)
      → SameElements pending (fresh_votes x past kind) →
      is_some batch.certificate ≡ true → is_certified ((call, answer) ∷ past) kind ≡ true
  given_certified lawful past call answer kind verified pending batch may given tried verified_are pending_are some =
      let c = some_of batch.certificate some in
      let w = witnessed lawful past kind verified pending batch c.0 tried verified_are pending_are c.1 in
      let event_is : certificate_of (call, answer) ≡ Some c.0 = (batch_made past call answer batch may given).certificate ∙ c.1 in
      ap (λ o. is_some_and o (λ d. is_kind (kind_certified d) kind) || is_certified past kind) event_is
      ∙ (ap (λ k. is_kind k kind || is_certified past kind) w.certified_kind ∙ ap (λ b. b || is_certified past kind) (is_kind-refl kind))

  pub ready_is : (past : History D K G C) (k : Kind) → ready_kind x past ≡ Some k
      → is_ready_by x (trials x past) past k ≡ true
  ready_is past k h = chosen (is_ready_by x (trials x past) past) _ _ _ k refl refl refl h

  -- with nothing selected, a kind whose votes have proposals is tried with a verified quorum alone,
  -- which gives a certificate
  pub unselected_gives : HasLaws x → (past : History D K G C) (call : Call K G C D)
      (answer : Answer G C D) (kind : Kind) → MayAnswer x past call answer
      → tries_kind x past answer kind ≡ true →
      selected_proposal x past ≡ None → has_proposals kind ≡ true
      → is_certified ((call, answer) ∷ past) kind ≡ true
  unselected_gives lawful past call answer kind may tries unknown has =
      let t = tries_by past call answer kind may tries in
      let enough : is_enough x.same_digest x.meaning.batchable (quorum_in x) kind (selected_proposal x past) (proven_votes x past kind)
      (fresh_votes x past kind) ≡ true = (and_parts _ _ (ready_is past kind t.ready)).1 in
      let by_none : is_enough x.same_digest x.meaning.batchable (quorum_in x) kind None (proven_votes x past kind) (fresh_votes x past kind)
      ≡ true = subst (λ (o : Option (Proposal D)). is_enough x.same_digest x.meaning.batchable (quorum_in x) kind o (proven_votes x past kind)
      (fresh_votes x past kind) ≡ true) unknown enough in
      let full : (leb (quorum_in x) (length (proven_votes x past kind)) && have_one_subject x.same_digest (proven_votes x past kind)) ≡ true =
      subst (λ (b : Bool). (cond (b && true) (leb (quorum_in x) (length (proven_votes x past kind))
      && have_one_subject x.same_digest (proven_votes x past kind))
      (leb (quorum_in x) (length (proven_votes x past kind))
      || (ltb 0 (length (fresh_votes x past kind)) &&
      (not x.meaning.batchable || leb (quorum_in x) (length (proven_votes x past kind) + length (fresh_votes x past kind)))))) ≡ true) has by_none in
      let reached : quorum_in x ≤ length (proven_votes x past kind) = leb-true _ _ (and_parts _ _ full).0 in
      let lengths : length t.after.verified ≡ length (proven_votes x past kind) = length_same _ _ t.after.verified_are in
      let some : is_some t.batch.certificate ≡ true = full_gives x t.after.verified t.after.pending t.batch t.after.attempt
      (subst (λ (n : ℕ). quorum_in x ≤ n) (sym lengths) reached) in
      given_certified lawful past call answer kind t.after.verified t.after.pending t.batch may t.given t.after.attempt t.after.verified_are t.after.pending_are
      some

  -- Until a proposal is fixed, what was tried and isn't certified is counted for the leader's
  -- proposal.
  pub tried_counts : HasLaws x → (past : History D K G C) → IsPossible x past → (v : Vote G D)
      → IsAt (first_votes x past) v → fixed_proposal past ≡ None →
      was_eligible (trials x past) v ≡ true → is_certified past (kind_of v) ≡ false
      → is_counted x (leaders_proposal x past) v ≡ true
  tried_counts lawful [] possible v found unfixed h still = cc
  tried_counts lawful (event ∷ past) possible v found unfixed h still =
      counted_grows (λ o. is_counted x o v) (leaders_proposal x past) (leaders_proposal x (event ∷ past)) (leaders_stays x lawful past event)
      (or_first (not (has_proposals (kind_of v))) (is_some_and (leaders_proposal x (event ∷ past)) (λ p. is_for x.same_digest p v)))
      (⊎_elim
      (λ now. tried_now (and_parts _ _ now).0 (and_parts _ _ now).1)
      (λ before. tried_counts lawful past possible.1.1.1 v (found_before before) unfixed_before before still_before)
      (or_cases _ _ (sym (tried_after x past event v) ∙ h)))
    where
      unfixed_before : fixed_proposal past ≡ None
      unfixed_before = (or_none (fixed_proposal past) (fixing_evidence event) unfixed).0

      still_before : is_certified past (kind_of v) ≡ false
      still_before = certified_before past event (kind_of v) still

      found_before : was_eligible (trials x past) v ≡ true → IsAt (first_votes x past) v
      found_before before =
          let w = some_of (first_vote x past (kind_of v) (signer_of v)) (tried_filled x past v before) in
          w.1 ∙ ap Some (same_Some w.0 v (sym (first_stays x past event (kind_of v) (signer_of v) w.0 w.1) ∙ found))

      selected_is : selected_proposal x past ≡ leaders_proposal x past
      selected_is = ap (λ f. proposal_of (selection_by f (leaders_proposal x past))) unfixed_before ∙ unfixed_selects (leaders_proposal x past)

      tried_now : tries_kind x past event.1 (kind_of v) ≡ true
          → is_among (signer_of v) (map signer_of (eligible_votes x past (kind_of v))) ≡ true
          → is_counted x (leaders_proposal x past) v ≡ true
      tried_now tries among =
          let w = where_holds (is_eligible x.same_digest (selected_proposal x past)) (first_vote x past (kind_of v) (signer_of v))
          (and_parts (not (is_certified past (kind_of v) || is_skipped x.mode))
          (is_some_and (first_vote x past (kind_of v) (signer_of v)) (is_eligible x.same_digest (selected_proposal x past)))
          (sym (among_eligible x past (kind_of v) (signer_of v)) ∙ among)).1 in
          let same = same_Some w.0 v (sym (first_stays x past event (kind_of v) (signer_of v) w.0 w.1) ∙ found) in
          let waited : is_eligible x.same_digest (selected_proposal x past) v
          ≡ true = subst (λ (u : Vote G D). is_eligible x.same_digest (selected_proposal x past) u ≡ true) same w.2 in
          ⊎_elim
          (λ none.
          ⊎_elim
          (λ has. absurd (true≢false (sym (unselected_gives lawful past event.0 event.1 (kind_of v) possible.1.1.0 tries (selected_is ∙ none) has) ∙ still)))
          (λ has_none. rw has_none refl)
          (cases_Bool (has_proposals (kind_of v))))
          (λ (some : (p : Proposal D) × (leaders_proposal x past ≡ Some p)).
          ap (λ o. is_counted x o v) some.1 ∙ (ap (λ o. is_eligible x.same_digest o v) (sym (selected_is ∙ some.1)) ∙ waited))
          (option_cases (leaders_proposal x past))

  -- what is restored wasn't tried
  pub back_not_tried : HasLaws x → (past : History D K G C) (event : Event D K G C)
      → IsPossible x past → (v : Vote G D) → IsAt (first_votes x past) v
      → is_restored x past event v ≡ true → was_eligible (trials x past) v ≡ false
  back_not_tried lawful past event possible v found back =
      false_from_ne_true _ (λ tried.
      let c = is_restored_by x lawful past event v back in
      let counted : is_counted x (leaders_proposal x past) v
      ≡ true = tried_counts lawful past possible v found c.replaced.unfixed tried (certified_before past event (kind_of v) c.still) in
      let no : false ≡ true = sym (back_not_counted x lawful past event v back) ∙ counted in cc)
