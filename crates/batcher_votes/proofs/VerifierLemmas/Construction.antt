-- What an attempt is about, and what it leaves.
use Rattle.batcher_votes.proofs.Words.{◌≡◌, ◌≤◌, ◌+◌, ◌==◌, ◌&&◌, ◌||◌, ℕ, Bool, true, false, not, cond, nat_le, List, [], ◌∷◌, ◌++◌, length, map, Option, Some}
use Rattle.batcher_votes.proofs.Words.{None, IfSome, is_some, is_none, append-nil, refl, sym, ap, subst, ◌∙◌, arith, All, AllPass, list_all, option_map}
use Rattle.batcher_votes.proofs.Words.{nat_tests, map-append, All-cons, All-head, All-tail, All-nil, same_Some, and_parts, and_from, not-true, Stream, Round}
use Rattle.batcher_votes.proofs.Words.{Attestation, Proposal, Subject, NotarizeSubject, NullifySubject, FinalizeSubject, Vote, NotarizeVote, NullifyVote}
use Rattle.batcher_votes.proofs.Words.{FinalizeVote, Certificate, NotarizationCertificate, NullificationCertificate, FinalizationCertificate, Kind}
use Rattle.batcher_votes.proofs.Words.{Notarization, Nullification, Finalization, Batch, quorum_of, count, EachOnce, index_of_signer, Meaning, IsLawful}
use Rattle.batcher_votes.proofs.Words.{is_kind, is_of_kind, signer_of, subject_of, attestation_of, proposal_in, same_subject, subject_certified, content_of}
use Rattle.batcher_votes.proofs.Words.{proposal_of, of_kind, VerifierState, AttemptResult, attempt_of, checked, count-map, once_front, is_kind-true}
use Rattle.batcher_votes.proofs.Words.{is_kind-refl, same_subject-true, same_subject-refl, given, is_some-option_map, is_some-false, attestations_of, vote_for}
use Rattle.batcher_votes.proofs.Words.{subject_from, first_proposal, is_enough, is_ready, CompletesKind, certificate_for, subject_tried, batch_of, TriesKind}
use Rattle.batcher_votes.proofs.Words.{SameVerifierState, IsSound, IsSoundKind, attests_itself, is_about, may_be_buffered, subject_ready, certifies_itself}
use Rattle.batcher_votes.proofs.Words.{BatchCertifies, NamesSomebody, IsFine, TakesIn, attempt_result}
use Rattle.batcher_votes.proofs.VerifierLemmas.Changes.{Absorbs}
use Rattle.batcher_votes.proofs.VerifierLemmas.Runs.{vote_again, attestation_again, subject_again}
use Rattle.batcher_votes.proofs.VerifierLemmas.AttemptLaws.{fine}

module _ {D : Type 0} (same : D → D → Bool) (identical : (a b : D) → same a b ≡ true → a ≡ b) where
  module _ {G : Type 0} (number : Round) (subject : Subject D) where
    about_of : (proposal : Option (Proposal D)) (kind : Kind) (v : Vote G D)
        → may_be_buffered same number proposal kind v ≡ true → subject_from kind number proposal
        ≡ Some subject → subject_of v ≡ subject
    about_of proposal kind v h e =
        let about : is_about same (subject_from kind number proposal) (subject_of v)
        ≡ true = (and_parts (is_of_kind kind v) (is_about same (subject_from kind number proposal) (subject_of v)) h).1 in
        let there : is_about same (Some subject) (subject_of v) ≡ true = subst (λ o. is_about same o (subject_of v) ≡ true) e about in
        sym (same_subject-true same identical subject (subject_of v) there)

    -- the subject is known, so all that may be there are about it
    pub known : (proposal : Option (Proposal D)) (kind : Kind) (xs : List (Vote G D))
        → subject_from kind number proposal ≡ Some subject
        → AllPass (may_be_buffered same number proposal kind) xs
        → All (λ v. subject_of v ≡ subject) xs
    known proposal kind xs e h = λ k d below. about_of proposal kind _ (h k d below) e

    all_alike : (s : Subject D) (xs : List (Vote G D)) → s ≡ subject
        → list_all (λ v. same_subject same s (subject_of v)) xs ≡ true
        → All (λ v. subject_of v ≡ subject) xs
    all_alike s [] e h = All-nil (λ v. subject_of v ≡ subject)
    all_alike s (x ∷ xs) e h =
        let parts = and_parts (same_subject same s (subject_of x)) (list_all (λ v. same_subject same s (subject_of v)) xs) h in
        All-cons (λ v. subject_of v ≡ subject) x xs (sym (same_subject-true same identical s (subject_of x) parts.0) ∙ e) (all_alike s xs e parts.1)

    alike_notarizes : (x : Vote G D) (xs : List (Vote G D)) → is_of_kind Notarization x ≡ true
        → option_map NotarizeSubject (proposal_in (subject_of x)) ≡ Some subject
        → list_all (λ v. same_subject same (subject_of x) (subject_of v)) xs ≡ true
        → All (λ v. subject_of v ≡ subject) (x ∷ xs)
    alike_notarizes (NotarizeVote v) xs k e h =
        let same_one = same_Some (NotarizeSubject v.proposal) subject e in All-cons (λ w. subject_of w ≡ subject) (NotarizeVote v) xs same_one
        (all_alike (NotarizeSubject v.proposal) xs same_one h)
    alike_notarizes (NullifyVote v) xs k e h = absurd (cc)
    alike_notarizes (FinalizeVote v) xs k e h = absurd (cc)

    alike_finalizes : (x : Vote G D) (xs : List (Vote G D)) → is_of_kind Finalization x ≡ true
        → option_map FinalizeSubject (proposal_in (subject_of x)) ≡ Some subject
        → list_all (λ v. same_subject same (subject_of x) (subject_of v)) xs ≡ true
        → All (λ v. subject_of v ≡ subject) (x ∷ xs)
    alike_finalizes (FinalizeVote v) xs k e h =
        let same_one = same_Some (FinalizeSubject v.proposal) subject e in All-cons (λ w. subject_of w ≡ subject) (FinalizeVote v) xs same_one
        (all_alike (FinalizeSubject v.proposal) xs same_one h)
    alike_finalizes (NullifyVote v) xs k e h = absurd (cc)
    alike_finalizes (NotarizeVote v) xs k e h = absurd (cc)

    -- where a kind is ready, its verified votes are about what is tried
    ready_about :
        (batchable : Bool) (q : ℕ) (proposal : Option (Proposal D)) (kind : Kind)
        (verified pending : List (Vote G D))
        → is_enough same batchable q kind proposal verified pending ≡ true
        → subject_from kind number (cond (is_none proposal) (first_proposal verified) proposal)
        ≡ Some subject
        → AllPass (may_be_buffered same number proposal kind) verified
        → All (λ v. subject_of v ≡ subject) verified
    ready_about batchable q (Some p) kind verified pending h e stand = known (Some p) kind verified e stand
    ready_about batchable q None Nullification verified pending h e stand = known None Nullification verified e stand
    ready_about batchable q None Notarization [] pending h e stand = All-nil (λ v. subject_of v ≡ subject)
    ready_about batchable q None Finalization [] pending h e stand = All-nil (λ v. subject_of v ≡ subject)
    ready_about batchable q None Notarization (x ∷ xs) pending h e stand =
        alike_notarizes x xs ((and_parts _ _ (All-head (λ v. may_be_buffered same number None Notarization v ≡ true) x xs stand)).0) e ((and_parts _ _ h).1)
    ready_about batchable q None Finalization (x ∷ xs) pending h e stand =
        alike_finalizes x xs ((and_parts _ _ (All-head (λ v. may_be_buffered same number None Finalization v ≡ true) x xs stand)).0) e ((and_parts _ _ h).1)

    pub verified_about :
        (batchable : Bool) (q : ℕ) (held : VerifierState G D) (kind : Kind)
        → subject_ready same batchable q held number kind ≡ Some subject
        → AllPass (may_be_buffered same number (proposal_of held.selection) kind)
        (of_kind held.verified kind) → All (λ v. subject_of v ≡ subject)
        (of_kind held.verified kind)
    verified_about batchable q held kind ready stand =
        let parts = given _ _ subject ready in
        let is = and_parts _ _ parts.0 in
        ready_about batchable q (proposal_of held.selection) kind (of_kind held.verified kind) (of_kind held.pending kind) is.1 parts.1 stand

module _ {D K G C : Type 0} (m : Meaning D K G C) (same : D → D → Bool) (number : Round)
    (subject : Subject D) where
  pub attested_about : (xs : List (Vote G D)) → All (λ v. subject_of v ≡ subject) xs
      → AllPass (attests_itself m same number) xs → AllPass (m.attests subject) (attestations_of xs)
  attested_about [] about h = All-nil (λ a. m.attests subject a ≡ true)
  attested_about (x ∷ xs) about h =
      All-cons (λ a. m.attests subject a ≡ true) (attestation_of x) (attestations_of xs)
      (subst (λ s. m.attests s (attestation_of x) ≡ true) (All-head (λ v. subject_of v ≡ subject) x xs about)
      (All-head (λ v. attests_itself m same number v ≡ true) x xs h))
      (attested_about xs (All-tail (λ v. subject_of v ≡ subject) x xs about) (All-tail (λ v. attests_itself m same number v ≡ true) x xs h))

module _ {G D : Type 0} where
  pub votes_again : (subject : Subject D) (xs : List (Vote G D))
      → All (λ v. subject_of v ≡ subject) xs → map (vote_for subject) (attestations_of xs) ≡ xs
  votes_again subject [] about = refl
  votes_again subject (x ∷ xs) about =
      let here : vote_for subject (attestation_of x) ≡ x = rw (← (All-head (λ v. subject_of v ≡ subject) x xs about)) (vote_again x) in
      let others = votes_again subject xs (All-tail (λ v. subject_of v ≡ subject) x xs about) in
      cc

  attestations-append : (xs ys : List (Vote G D)) → attestations_of (xs ++ ys) ≡ attestations_of xs
      ++ attestations_of ys
  attestations-append [] ys = refl
  attestations-append (x ∷ xs) ys = ap (λ zs. attestation_of x ∷ zs) (attestations-append xs ys)

  -- the signers of votes are those of their attestations
  pub once_attestations : (xs ys : List (Vote G D)) → EachOnce signer_of (xs ++ ys)
      → EachOnce index_of_signer (attestations_of xs ++ attestations_of ys)
  once_attestations xs ys once = λ i.
      let counted : count (λ a. index_of_signer a == i) (attestations_of (xs ++ ys))
      ≡ count (λ v. signer_of v == i) (xs ++ ys) = count-map (λ a. index_of_signer a == i) attestation_of (xs ++ ys) in
      rw (← (attestations-append xs ys), counted) (once i)

  count_votes : (subject : Subject D) (i : ℕ) (ones : List (Attestation G))
      → count (λ v. signer_of v == i) (map (vote_for subject) ones)
      ≡ count (λ a. index_of_signer a == i) ones
  count_votes subject i [] = refl
  count_votes (NotarizeSubject p) i (a ∷ ones) = ap (λ n. cond (a.signer.0 == i) 1 0 + n) (count_votes (NotarizeSubject p) i ones)
  count_votes (NullifySubject r) i (a ∷ ones) = ap (λ n. cond (a.signer.0 == i) 1 0 + n) (count_votes (NullifySubject r) i ones)
  count_votes (FinalizeSubject p) i (a ∷ ones) = ap (λ n. cond (a.signer.0 == i) 1 0 + n) (count_votes (FinalizeSubject p) i ones)

  once_votes : (subject : Subject D) (ones : List (Attestation G)) → EachOnce index_of_signer ones
      → EachOnce signer_of (map (vote_for subject) ones ++ [])
  once_votes subject ones once = λ i. rw (append-nil, count_votes subject i ones) (once i)

-- a kind's subject is of the kind
of_its_kind : {G D : Type 0} (kind : Kind) (number : Round) (proposal : Option (Proposal D))
    (subject : Subject D) (a : Attestation G) → subject_from kind number proposal ≡ Some subject
    → is_of_kind kind (vote_for subject a) ≡ true
of_its_kind Notarization number None subject a e = absurd (cc)
of_its_kind Notarization number (Some p) subject a e =
    let s : NotarizeSubject p ≡ subject = cc in subst (λ t. is_of_kind Notarization (vote_for t a) ≡ true) s refl
of_its_kind Nullification number proposal subject a e =
    let s : NullifySubject number ≡ subject = cc in subst (λ t. is_of_kind Nullification (vote_for t a) ≡ true) s refl
of_its_kind Finalization number None subject a e = absurd (cc)
of_its_kind Finalization number (Some p) subject a e =
    let s : FinalizeSubject p ≡ subject = cc in subst (λ t. is_of_kind Finalization (vote_for t a) ≡ true) s refl

module _ {D : Type 0} (same : D → D → Bool) (reflexive : (d : D) → same d d ≡ true) where
  -- what is tried of a kind is what its votes have to be about
  about_tried : (number : Round) (proposal other : Option (Proposal D)) (kind : Kind)
      (subject : Subject D) → subject_from kind number (cond (is_none proposal) other proposal)
      ≡ Some subject → is_about same (subject_from kind number proposal) subject ≡ true
  about_tried number (Some p) other kind subject e = subst (λ o. is_about same o subject ≡ true) (sym e) (same_subject-refl same reflexive subject)
  about_tried number None other Notarization subject e = refl
  about_tried number None other Nullification subject e = subst (λ o. is_about same o subject ≡ true) (sym e) (same_subject-refl same reflexive subject)
  about_tried number None other Finalization subject e = refl

  all_of_map : {X Y : Type 0} (p : Y → Bool) (f : X → Y) (xs : List X) → ((x : X) → p (f x) ≡ true)
      → AllPass p (map f xs)
  all_of_map p f [] h = All-nil (λ y. p y ≡ true)
  all_of_map p f (x ∷ xs) h = All-cons (λ y. p y ≡ true) (f x) (map f xs) (h x) (all_of_map p f xs h)

  stand_tried :
      {G : Type 0} (number : Round) (proposal other : Option (Proposal D)) (kind : Kind)
      (subject : Subject D) → subject_from kind number (cond (is_none proposal) other proposal)
      ≡ Some subject
      → (ones : List (Attestation G)) → AllPass (may_be_buffered same number proposal kind)
      (map (vote_for subject) ones)
  stand_tried number proposal other kind subject e ones =
      all_of_map (may_be_buffered same number proposal kind) (vote_for subject) ones
      (λ a. and_from (is_of_kind kind (vote_for subject a)) (is_about same (subject_from kind number proposal) (subject_of (vote_for subject a)))
      (of_its_kind kind number (cond (is_none proposal) other proposal) subject a e)
      (subst (λ s. is_about same (subject_from kind number proposal) s ≡ true) (sym (subject_again subject a))
      (about_tried number proposal other kind subject e)))

module _ {D K G C : Type 0} (m : Meaning D K G C) (same : D → D → Bool)
    (reflexive : (d : D) → same d d ≡ true) (number : Round) where
  attest_tried : (subject : Subject D) (ones : List (Attestation G))
      → AllPass (m.attests subject) ones
      → AllPass (attests_itself m same number) (map (vote_for subject) ones)
  attest_tried subject [] h = All-nil (λ v. attests_itself m same number v ≡ true)
  attest_tried subject (a ∷ ones) h =
      let here : attests_itself m same number (vote_for subject a) ≡ true
      =
      ap (λ s. m.attests s (attestation_of (vote_for subject a))) (subject_again subject a)
      ∙ (ap (λ x. m.attests subject x) (attestation_again subject a) ∙ All-head (λ x. m.attests subject x ≡ true) a ones h) in
      All-cons (λ v. attests_itself m same number v ≡ true) (vote_for subject a) (map (vote_for subject) ones) here
      (attest_tried subject ones (All-tail (λ x. m.attests subject x ≡ true) a ones h))

  sound_tried :
      (old new : VerifierState G D) (kind : Kind) (subject : Subject D)
      (outcome : AttemptResult G C)
      → subject_tried old number kind ≡ Some subject → IsFine m subject outcome → new.selection
      ≡ old.selection
      → of_kind new.certified kind ≡ is_some outcome.certificate → of_kind new.pending kind ≡ []
      → of_kind new.verified kind ≡ map (vote_for subject) outcome.verified
      → IsSoundKind m same number new kind
  sound_tried old new kind subject outcome e fine sel certified pending verified =
      record {
        pending = rw pending (All-nil (λ v. may_be_buffered same number (proposal_of new.selection) kind v ≡ true));
        verified =
            rw (verified, sel) (stand_tried same reflexive number (proposal_of old.selection) (first_proposal (of_kind old.verified kind)) kind subject e
            outcome.verified);
        attested = rw verified (attest_tried subject outcome.verified fine.attested);
        once = rw (pending, verified) (once_votes subject outcome.verified fine.once);
        none_pending = λ _. pending;
        none_verified = λ done. verified ∙ ap (λ ones. map (vote_for subject) ones) (fine.emptied (sym certified ∙ done));
      }

  sound_same : (old new : VerifierState G D) (kind : Kind) → new.selection ≡ old.selection
      → SameVerifierState old new kind → IsSoundKind m same number old kind
      → IsSoundKind m same number new kind
  sound_same old new kind sel b s =
      record {
        pending = rw (b.pending, sel) s.pending;
        verified = rw (b.verified, sel) s.verified;
        attested = rw b.verified s.attested;
        once = rw (b.pending, b.verified) s.once;
        none_pending = λ done. b.pending ∙ s.none_pending (sym b.certified ∙ done);
        none_verified = λ done. b.verified ∙ s.none_verified (sym b.certified ∙ done);
      }

  this_or_other : (old new : VerifierState G D) (tried kind : Kind) (b : Bool) → is_kind tried kind
      ≡ b
      → (is_kind tried kind ≡ false → SameVerifierState old new kind) → new.selection
      ≡ old.selection
      → IsSoundKind m same number old kind → IsSoundKind m same number new tried
      → IsSoundKind m same number new kind
  this_or_other old new tried kind true e others sel s this = subst (λ k. IsSoundKind m same number new k) (is_kind-true tried kind e) this
  this_or_other old new tried kind false e others sel s this = sound_same old new kind sel (others e) s

  -- what an attempt leaves is sound
  pub sound_taken :
      (q : ℕ) (old new : VerifierState G D) (tried : Kind) (subject : Subject D)
      (outcome : AttemptResult G C) (batch : Batch (Certificate C D))
      → IsSound m same number q old → TakesIn number old tried subject outcome batch new
      → IsFine m subject outcome → IsSound m same number q new
  sound_taken q old new tried subject outcome batch s t fine =
      record {
        some = s.some;
        enough = s.enough;
        kinds =
            λ kind. this_or_other old new tried kind (is_kind tried kind) refl (t.others kind) t.selection (s.kinds kind)
            (sound_tried old new tried subject outcome t.subject_is fine t.selection t.certified t.pending t.verified);
      }

certified_itself : {D K G C : Type 0} (m : Meaning D K G C) (subject : Subject D) (c : C)
    → m.certifies subject c ≡ true → certifies_itself m (certificate_for subject c) ≡ true
certified_itself m (NotarizeSubject p) c h = h
certified_itself m (NullifySubject r) c h = h
certified_itself m (FinalizeSubject p) c h = h

-- a certificate certifies what it names
pub batch_certifies : {D K G C : Type 0} (m : Meaning D K G C) (subject : Subject D) (o : Option C)
    → IfSome o (λ c. m.certifies subject c ≡ true)
    → IfSome (option_map (certificate_for subject) o) (λ c. certifies_itself m c ≡ true)
batch_certifies m subject None h = tt
batch_certifies m subject (Some c) h = certified_itself m subject c h

some_of : {X : Type 0} (b : Bool) (x : X) → is_some (cond b (Some x) None) ≡ b
some_of true x = refl
some_of false x = refl

none_reached : (certified rest : Bool) (b : Bool) → b ≡ false → (not certified && (b && rest))
    ≡ false
none_reached true rest b e = refl
none_reached false rest b e = rw e

quorum_some : (n q : ℕ) → 1 ≤ n → quorum_of n ≤ q → nat_le q 0 ≡ false
quorum_some n q some enough = let more : 1 ≤ q = omega arith in grind (arith, nat_tests)

-- where something is there to try, it is what is tried
pub some_left : {X : Type 0} (b : Bool) (tried o : Option X) → is_some (cond b tried None) ≡ b
    → b ≡ true → o ≡ tried → is_some o ≡ b
some_left true tried o some h e = ap is_some e ∙ some
some_left false tried o some h e = absurd (cc)

module _ {G D : Type 0} (same : D → D → Bool) (number : Round) where
  some_notarize : (x : Vote G D) (b : Bool) → is_of_kind Notarization x ≡ true
      → is_some (cond b (option_map NotarizeSubject (proposal_in (subject_of x))) None) ≡ b
  some_notarize (NotarizeVote v) b h = some_of b (NotarizeSubject v.proposal)
  some_notarize (NullifyVote v) b h = absurd (cc)
  some_notarize (FinalizeVote v) b h = absurd (cc)

  some_finalize : (x : Vote G D) (b : Bool) → is_of_kind Finalization x ≡ true
      → is_some (cond b (option_map FinalizeSubject (proposal_in (subject_of x))) None) ≡ b
  some_finalize (FinalizeVote v) b h = some_of b (FinalizeSubject v.proposal)
  some_finalize (NullifyVote v) b h = absurd (cc)
  some_finalize (NotarizeVote v) b h = absurd (cc)

  some_subject :
      (batchable certified : Bool) (q : ℕ) (proposal : Option (Proposal D)) (kind : Kind)
      (verified pending : List (Vote G D)) → nat_le q 0 ≡ false
      → AllPass (may_be_buffered same number proposal kind) verified
      → is_some (cond (not certified && is_enough same batchable q kind proposal verified pending)
      (subject_from kind number (cond (is_none proposal) (first_proposal verified) proposal))
      None) ≡ (not certified && is_enough same batchable q kind proposal verified pending)
  some_subject batchable certified q (Some p) Notarization verified pending more stand = some_of _ (NotarizeSubject p)
  some_subject batchable certified q (Some p) Nullification verified pending more stand = some_of _ (NullifySubject number)
  some_subject batchable certified q (Some p) Finalization verified pending more stand = some_of _ (FinalizeSubject p)
  some_subject batchable certified q None Nullification verified pending more stand = some_of _ (NullifySubject number)
  some_subject batchable certified q None Notarization [] pending more stand = rw (none_reached certified true (nat_le q 0) more)
  some_subject batchable certified q None Finalization [] pending more stand = rw (none_reached certified true (nat_le q 0) more)
  some_subject batchable certified q None Notarization (x ∷ xs) pending more stand =
      some_notarize x _ ((and_parts _ _ (All-head (λ v. may_be_buffered same number None Notarization v ≡ true) x xs stand)).0)
  some_subject batchable certified q None Finalization (x ∷ xs) pending more stand =
      some_finalize x _ ((and_parts _ _ (All-head (λ v. may_be_buffered same number None Finalization v ≡ true) x xs stand)).0)

  -- a kind that is ready has something to try
  pub ready_some :
      {K C : Type 0} (m : Meaning D K G C) (q : ℕ) (held : VerifierState G D) (kind : Kind)
      → IsSound m same number q held → is_some
      (subject_ready same m.batchable q held number kind)
      ≡ is_ready same m.batchable q held kind
  ready_some m q held kind s =
      some_subject m.batchable (of_kind held.certified kind) q (proposal_of held.selection) kind (of_kind held.verified kind) (of_kind held.pending kind)
      (quorum_some (length m.participants) q s.some s.enough) (s.kinds kind).verified

pub untouched : {X : Type 0} (b : Bool) (x y z : X) → b ≡ false → z ≡ cond b x y → z ≡ y
untouched true x y z e h = absurd (cc)
untouched false x y z e h = h

pub either_false : (a b c : Bool) → a ≡ false → c ≡ (a || b) → c ≡ b
either_false true b c e h = absurd (cc)
either_false false b c e h = h

pub gone : {X : Type 0} (b : Bool) (x y z : X) → b ≡ true → z ≡ cond b x y → z ≡ x
gone true x y z e h = h
gone false x y z e h = absurd (cc)

pub either_true : (a b c : Bool) → a ≡ true → c ≡ (a || b) → c ≡ true
either_true true b c e h = h
either_true false b c e h = absurd (cc)

module _ {D G C : Type 0} (same : D → D → Bool) (batchable : Bool) (number : Round) (q : ℕ)
    (old new : VerifierState G D) (kind : Kind) (subject : Subject D)
    (ready : subject_ready same batchable q old number kind ≡ Some subject)
    (batch : Batch (Certificate C D)) (t : AttemptResult G C) (batch_is : batch ≡ batch_of subject t)
  where
    -- a certificate was given
    abbrev pub takes_given : is_some t.certificate ≡ true → t.verified ≡ []
        → CompletesKind same old kind new → TakesIn number old kind subject t batch new
    takes_given there left c =
        record {
          subject_is = (given _ _ subject ready).1;
          batch_is = batch_is;
          leader = c.leader;
          selection = c.selection;
          others = λ other e. record {
            certified = either_false (is_kind kind other) (of_kind old.certified other) (of_kind new.certified other) e (c.certified other);
            pending = untouched (is_kind kind other) [] (of_kind old.pending other) (of_kind new.pending other) e (c.pending other);
            verified = untouched (is_kind kind other) [] (of_kind old.verified other) (of_kind new.verified other) e (c.verified other);
          };
          certified =
              either_true (is_kind kind kind) (of_kind old.certified kind) (of_kind new.certified kind) (is_kind-refl kind) (c.certified kind)
              ∙ sym there;
          pending = gone (is_kind kind kind) [] (of_kind old.pending kind) (of_kind new.pending kind) (is_kind-refl kind) (c.pending kind);
          verified = rw left (gone (is_kind kind kind) [] (of_kind old.verified kind) (of_kind new.verified kind) (is_kind-refl kind) (c.verified kind));
        }

    -- none was given
    abbrev pub takes_without :
        (joining : List (Attestation G)) → t.certificate ≡ None → t.verified
        ≡ attestations_of (of_kind old.verified kind) ++ joining
        → All (λ v. subject_of v ≡ subject) (of_kind old.verified kind)
        → Absorbs old kind subject joining new
        → TakesIn number old kind subject t batch new
    takes_without joining none left about a =
        let parts = given _ _ subject ready in
        let open_kind = not-true (of_kind old.certified kind) ((and_parts _ _ parts.0).0) in
        record {
          subject_is = parts.1;
          batch_is = batch_is;
          leader = a.leader;
          selection = a.selection;
          others = a.others;
          certified = a.certified ∙ (open_kind ∙ sym (ap is_some none));
          pending = a.pending;
          verified =
              rw (
                left,
                map-append (vote_for subject) (attestations_of (of_kind old.verified kind)) joining,
                votes_again subject (of_kind old.verified kind)
                    about,
              ) a.verified;
        }

-- what was taken in, with the attempt that came to it
pub tries_by : {D K G C : Type 0} (m : Meaning D K G C) (number : Round) (q : ℕ)
    (old new : VerifierState G D) (kind : Kind) (subject : Subject D) (before after : Stream)
    (batch : Batch (Certificate C D)) (t : AttemptResult G C)
    → TakesIn number old kind subject t batch new
    → (t, after) ≡ attempt_of m subject q (attestations_of (of_kind old.verified kind))
    (attestations_of (of_kind old.pending kind)) before
    → TriesKind m number q old kind before batch after new
tries_by m number q old new kind subject before after batch t takes attempted =
    record {
      subject = subject;
      outcome = t;
      subject_is = takes.subject_is;
      attempt = attempted;
      batch_is = takes.batch_is;
      leader = takes.leader;
      selection = takes.selection;
      others = takes.others;
      certified = takes.certified;
      pending = takes.pending;
      verified = takes.verified;
    }

-- what an attempt gives is fine, once there is an equation of both
pub fine_attempt :
    {D K G C : Type 0} (m : Meaning D K G C) (lawful : IsLawful m) (same : D → D → Bool)
    (number : Round) (q : ℕ) (old : VerifierState G D) (kind : Kind) (subject : Subject D)
    → IsSound m same number q old → All (λ v. subject_of v ≡ subject)
    (of_kind old.verified kind)
    → (before after : Stream) (t : AttemptResult G C) → (t, after)
    ≡ attempt_of m subject q (attestations_of (of_kind old.verified kind))
    (attestations_of (of_kind old.pending kind)) before → IsFine m subject t
fine_attempt m lawful same number q old kind subject s about before after t attempted =
    let verified = of_kind old.verified kind in
    let pending = of_kind old.pending kind in
    let it = fine m lawful subject q (attestations_of verified) (attestations_of pending) s.some s.enough
    (once_attestations verified pending (s.kinds kind).once) (attested_about m same number subject verified about (s.kinds kind).attested) before in
    subst (λ x. IsFine m subject x) (sym (ap (λ r. r.0) attempted)) it

-- what an attempt looks at is a part of what waits
pub once_checked : {G : Type 0} (q : ℕ) (xs ys : List (Attestation G))
    → EachOnce index_of_signer (xs ++ ys) → EachOnce index_of_signer (xs ++ checked q xs ys)
once_checked q xs ys once = looked (nat_le q (length xs)) where
  looked : (b : Bool) → EachOnce index_of_signer (xs ++ cond b [] ys)
  looked true = subst (EachOnce index_of_signer) (sym (append-nil xs)) (once_front index_of_signer xs ys once)
  looked false = once

-- What a construction answers and leaves.
pub record Constructs {D K G C : Type 0} (m : Meaning D K G C) (same : D → D → Bool)
    (number : Round) (q : ℕ) (old : VerifierState G D) (kind : Kind) (subject : Subject D)
    (outcome : AttemptResult G C) (batch : Batch (Certificate C D)) (new : VerifierState G D) :
    Type 0 where
  pub takes : TakesIn number old kind subject outcome batch new
  pub certifies : BatchCertifies m batch
  pub names : NamesSomebody batch
  pub sound : IsSound m same number q new

-- a certificate is that of its subject, with its content
pub certificate_is : {C D : Type 0} (certificate : Certificate C D) (subject : Subject D)
    (content : C) → subject_certified certificate ≡ subject → content_of certificate ≡ content
    → certificate ≡ certificate_for subject content
certificate_is (NotarizationCertificate it) subject content e f = rw (← e, ← f) refl
certificate_is (NullificationCertificate it) subject content e f = rw (← e, ← f) refl
certificate_is (FinalizationCertificate it) subject content e f = rw (← e, ← f) refl

module _ {D K G C : Type 0} (m : Meaning D K G C) (same : D → D → Bool)
    (identical : (a b : D) → same a b ≡ true → a ≡ b) (reflexive : (a : D) → same a a ≡ true)
    (number : Round) (q : ℕ) (old new : VerifierState G D) (sound : IsSound m same number q old)
    (kind : Kind) (subject : Subject D)
    (ready : subject_ready same m.batchable q old number kind ≡ Some subject)
    (tried : Batch C) (joining : List (Attestation G)) where
  -- what an attempt gave
  abbrev gave : AttemptResult G C
  gave = attempt_result (attestations_of (of_kind old.verified kind)) tried joining

  module _ (fine : IsFine m subject gave) (batch : Batch (Certificate C D))
      (batch_is : batch ≡ batch_of subject gave) where
    about : All (λ v. subject_of v ≡ subject) (of_kind old.verified kind)
    about = verified_about same identical number subject m.batchable q old kind ready (sound.kinds kind).verified

    given_some : is_some batch.certificate ≡ is_some tried.certificate
    given_some = ap (λ b. is_some b.certificate) batch_is ∙ is_some-option_map (certificate_for subject) tried.certificate

    constructs : TakesIn number old kind subject gave batch new
        → Constructs m same number q old kind subject gave batch new
    constructs takes =
        record {
          takes = takes;
          certifies = rw batch_is (batch_certifies m subject tried.certificate fine.certifies);
          names = rw batch_is fine.names;
          sound = sound_taken m same reflexive number q old new kind subject gave batch sound takes fine;
        }

    -- a certificate was given
    pub constructs_one : is_some batch.certificate ≡ true → CompletesKind same old kind new
        → Constructs m same number q old kind subject gave batch new
    constructs_one there c =
        let some : is_some tried.certificate ≡ true = sym given_some ∙ there in
        constructs
        (takes_given same m.batchable number q old new kind subject ready batch gave batch_is some
        (ap (λ b. cond b [] (attestations_of (of_kind old.verified kind) ++ joining)) some) c)

    -- none was given
    pub constructs_none : is_some batch.certificate ≡ false → Absorbs old kind subject joining new
        → Constructs m same number q old kind subject gave batch new
    constructs_none none a =
        let absent : tried.certificate ≡ None = is_some-false tried.certificate (sym given_some ∙ none) in
        constructs
        (takes_without same m.batchable number q old new kind subject ready batch gave batch_is joining absent
        (ap (λ o. cond (is_some o) [] (attestations_of (of_kind old.verified kind) ++ joining)) absent) about a)
