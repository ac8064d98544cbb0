-- What an attempt of a verifier gives, in terms of the votes that it tries: the way it went, and what
-- it leaves.
use Rattle.batcher_histories.proofs.Words.{inl, inr, ◌≡◌, ◌≤◌, ◌<◌, ◌+◌, ◌⊎◌, ℕ, Bool, true, false, not, cond, nat_le, List, [], ◌∷◌, ◌++◌, length, map, Option}
use Rattle.batcher_histories.proofs.Words.{Some, None, IfSome, is_some, is_none, refl, sym, ap, subst, ◌∙◌, ⊎_elim, arith, length-append, filter, All, AllPass}
use Rattle.batcher_histories.proofs.Words.{option_map, cases_Bool, and_parts, and_from, nat_tests, length-map, map-append, All-nil, All-cons, All-head}
use Rattle.batcher_histories.proofs.Words.{All-tail, All-filter, All-append, Stream, Participant, Round, Attestation, Proposal, Subject, Vote, Kind}
use Rattle.batcher_histories.proofs.Words.{Notarization, Nullification, Finalization, EachOnce, IsQuorum, signers, failing, Meaning, MayTry, Config, quorum_in}
use Rattle.batcher_histories.proofs.Words.{participants_in, signer_of, subject_of, attestation_of, same_subject, AttemptResult, checked, one_by_one, at_once}
use Rattle.batcher_histories.proofs.Words.{attempt_with, attempt_of, same_subject-refl, is_some-option_map, attestations_of, vote_for, subject_from, is_enough}
use Rattle.batcher_histories.proofs.Words.{certificate_for, batch_of, attests_itself, may_be_buffered, certifies_itself, is_valid, Attempt, GivenAtOnce}
use Rattle.batcher_histories.proofs.Words.{FellBack, OnlyVerified, votes_checked, bad_signers, are_of, certifies_subject, left_verified, IsQuorum-checked}
use Rattle.batcher_histories.proofs.Words.{attested_about, once_attestations, votes_again, known, certified_subject}
use Rattle.batcher_histories.proofs.History.Laws.{HasLaws}

-- THE WAY THAT AN ATTEMPT GOES, with the pending attestations that it checks
module _ {D K G C : Type 0} (m : Meaning D K G C) (subject : Subject D) (q : ℕ)
    (verified pending : List (Attestation G)) (stream : Stream) where
  pub record AtOnce (t : AttemptResult G C) : Type 0 where
    pub reached : q ≤ length verified + length pending
    pub certificate : is_some t.certificate ≡ true
    pub invalid : t.invalid ≡ []
    pub fallback : t.fallback ≡ false

  pub record OneByOne (t : AttemptResult G C) : Type 0 where
    pub reached : q ≤ length verified + length pending
    pub refused : (m.assembled_at_once subject pending verified stream).0 ≡ None
    pub certificate : is_some t.certificate
        ≡ nat_le q (length verified + length (filter (m.attests subject) pending))
    pub invalid : t.invalid ≡ signers (failing (m.attests subject) pending)
    pub fallback : t.fallback ≡ true

  pub record Unreached (t : AttemptResult G C) : Type 0 where
    pub unreached : length verified + length pending < q
    pub certificate : is_some t.certificate ≡ false
    pub invalid : t.invalid ≡ signers (failing (m.attests subject) pending)
    pub fallback : t.fallback ≡ false

  pub record Goes (t : AttemptResult G C) : Type 0 where
    pub processed : t.processed ≡ length pending
    pub left : t.verified ≡ cond (is_some t.certificate) []
        (verified ++ filter (m.attests subject) pending)
    pub way : AtOnce t ⊎ (OneByOne t ⊎ Unreached t)

  goes_one : (b : Bool) → nat_le q (length verified + length (filter (m.attests subject) pending))
      ≡ b → q ≤ length verified + length pending
      → (m.assembled_at_once subject pending verified stream).0 ≡ None →
      Goes (one_by_one m subject q verified pending)
  goes_one true e reached refused =
      rw e (record {
        processed = refl;
        left = refl;
        way = inr
            (inl (record { reached = reached; refused = refused; certificate = sym e; invalid = refl; fallback = refl }));
      })
  goes_one false e reached refused =
      rw e (record {
        processed = refl;
        left = refl;
        way = inr
            (inl (record { reached = reached; refused = refused; certificate = sym e; invalid = refl; fallback = refl }));
      })

  goes_at_once : (o : Option C) → (m.assembled_at_once subject pending verified stream).0 ≡ o → q
      ≤ length verified + length pending → Goes (at_once m subject q verified pending o)
  goes_at_once (Some c) e reached =
      record {
        processed = refl;
        left = refl;
        way = inl
            (record { reached = reached; certificate = refl; invalid = refl; fallback = refl });
      }
  goes_at_once None e reached = goes_one (nat_le q (length verified + length (filter (m.attests subject) pending))) refl reached e

  goes_by : (b : Bool) → nat_le q (length verified + length pending) ≡ b
      → Goes (attempt_with m subject q verified pending stream).0
  goes_by true e = rw e (goes_at_once (m.assembled_at_once subject pending verified stream).0 refl (grind (arith, nat_tests)))
  goes_by false e =
      rw e (record {
        processed = refl;
        left = refl;
        way = inr
            (inr (record { unreached = grind (arith, nat_tests); certificate = refl; invalid = refl; fallback = refl }));
      })

  pub goes : Goes (attempt_with m subject q verified pending stream).0
  goes = goes_by (nat_le q (length verified + length pending)) refl

-- WHAT AN ATTEMPT LOOKS AT
module _ {D : Type 0} (same : D → D → Bool) (identical : (a b : D) → same a b ≡ true → a ≡ b)
    {G : Type 0} (number : Round) (subject : Subject D) where
  some_checked : (b : Bool) (xs : List (Vote G D)) → All (λ v. subject_of v ≡ subject) xs
      → All (λ v. subject_of v ≡ subject) (cond b [] xs)
  some_checked true xs h = All-nil (λ v. subject_of v ≡ subject)
  some_checked false xs h = h

  none_checked : (b : Bool) (xs : List (Vote G D)) → b ≡ true
      → All (λ v. subject_of v ≡ subject) (cond b [] xs)
  none_checked true xs h = All-nil (λ v. subject_of v ≡ subject)
  none_checked false xs h = absurd (cc)

  -- The pending votes that are checked are about the subject: with none selected a verified quorum
  -- alone is tried.
  pub checked_about :
      (batchable : Bool) (q : ℕ) (proposal other : Option (Proposal D)) (kind : Kind)
      (verified pending : List (Vote G D))
      → is_enough same batchable q kind proposal verified pending ≡ true
      → subject_from kind number (cond (is_none proposal) other proposal) ≡ Some subject
      → AllPass (may_be_buffered same number proposal kind) pending
      → All (λ v. subject_of v ≡ subject) (votes_checked q verified pending)
  checked_about batchable q (Some p) other kind verified pending h e stand =
      some_checked _ pending (known same identical number subject (Some p) kind pending e stand)
  checked_about batchable q None other Nullification verified pending h e stand =
      some_checked _ pending (known same identical number subject None Nullification pending e stand)
  checked_about batchable q None other Notarization verified pending h e stand = none_checked _ pending (and_parts _ _ h).0
  checked_about batchable q None other Finalization verified pending h e stand = none_checked _ pending (and_parts _ _ h).0

-- the attestations of the votes that are checked
pub checked_attestations : {G D : Type 0} (q : ℕ) (verified pending : List (Vote G D))
    → checked q (attestations_of verified) (attestations_of pending)
    ≡ attestations_of (votes_checked q verified pending)
checked_attestations q verified pending =
    ap (λ n. cond (nat_le q n) [] (attestations_of pending)) (length-map verified attestation_of) ∙ by_test (nat_le q (length verified))
  where
    by_test : (b : Bool) → cond b [] (attestations_of pending) ≡ attestations_of (cond b [] pending)
    by_test true = refl
    by_test false = refl

module _ {D K G C : Type 0} (x : Config D K G C) (subject : Subject D) where
  valid_head : (v : Vote G D) → subject_of v ≡ subject
      → x.meaning.attests subject (attestation_of v) ≡ is_valid x v
  valid_head v e = ap (λ s. x.meaning.attests s (attestation_of v)) (sym e)

  -- those of the votes that attest
  pub valid_attestations : (xs : List (Vote G D)) → All (λ v. subject_of v ≡ subject) xs
      → filter (x.meaning.attests subject) (attestations_of xs)
      ≡ attestations_of (filter (is_valid x) xs)
  valid_attestations [] about = refl
  valid_attestations (v ∷ vs) about =
      ap (λ b. cond b (attestation_of v ∷ filter (x.meaning.attests subject) (attestations_of vs)) (filter (x.meaning.attests subject) (attestations_of vs)))
      (valid_head v (All-head (λ u. subject_of u ≡ subject) v vs about))
      ∙ (ap (λ (ones : List (Attestation G)). cond (is_valid x v) (attestation_of v ∷ ones) ones)
      (valid_attestations vs (All-tail (λ u. subject_of u ≡ subject) v vs about)) ∙ by_test (is_valid x v))
    where
      by_test : (b : Bool) → cond b (attestation_of v ∷ attestations_of (filter (is_valid x) vs))
          (attestations_of (filter (is_valid x) vs))
          ≡ attestations_of (cond b (v ∷ filter (is_valid x) vs) (filter (is_valid x) vs))
      by_test true = refl
      by_test false = refl

  -- and the signers of those that don't
  pub bad_attestations : (xs : List (Vote G D)) → All (λ v. subject_of v ≡ subject) xs
      → signers (failing (x.meaning.attests subject) (attestations_of xs)) ≡ bad_signers x xs
  bad_attestations [] about = refl
  bad_attestations (v ∷ vs) about =
      ap (λ b. signers (cond (not b) (attestation_of v ∷ failing (x.meaning.attests subject) (attestations_of vs))
      (failing (x.meaning.attests subject) (attestations_of vs)))) (valid_head v (All-head (λ u. subject_of u ≡ subject) v vs about))
      ∙ (by_test (not (is_valid x v)) ∙ (ap (λ (is : List Participant). cond (not (is_valid x v)) ((attestation_of v).signer ∷ is) is)
      (bad_attestations vs (All-tail (λ u. subject_of u ≡ subject) v vs about)) ∙ by_votes (not (is_valid x v))))
    where
      by_test : (b : Bool) → signers (cond b
          (attestation_of v ∷ failing (x.meaning.attests subject) (attestations_of vs))
          (failing (x.meaning.attests subject) (attestations_of vs)))
          ≡ cond b ((attestation_of v).signer ∷ signers
          (failing (x.meaning.attests subject) (attestations_of vs)))
          (signers (failing (x.meaning.attests subject) (attestations_of vs)))
      by_test true = refl
      by_test false = refl

      by_votes : (b : Bool) → cond b ((attestation_of v).signer ∷ bad_signers x vs)
          (bad_signers x vs) ≡ map (λ v. (attestation_of v).signer)
          (cond b (v ∷ filter (λ u. not (is_valid x u)) vs) (filter (λ u. not (is_valid x u)) vs))
      by_votes true = refl
      by_votes false = refl

  -- where none is bad all attest
  none_bad : (xs : List (Vote G D)) → bad_signers x xs ≡ []
      → AllPass (attests_itself x.meaning x.same_digest x.number) xs
  none_bad [] h = All-nil (λ v. is_valid x v ≡ true)
  none_bad (v ∷ vs) h =
      ⊎_elim
      (λ good.
      let rest : bad_signers x vs ≡ [] = subst (λ b. map (λ v. (attestation_of v).signer)
      (cond (not b) (v ∷ filter (λ u. not (is_valid x u)) vs) (filter (λ u. not (is_valid x u)) vs)) ≡ []) good h in
      All-cons (λ v. is_valid x v ≡ true) v vs good (none_bad vs rest))
      (λ bad.
      let no : (attestation_of v).signer ∷ bad_signers x vs
      ≡ [] = subst (λ b. map (λ v. (attestation_of v).signer) (cond (not b) (v ∷ filter (λ u. not (is_valid x u)) vs) (filter (λ u. not (is_valid x u)) vs))
      ≡ []) bad h in
      absurd (cc))
      (cases_Bool (is_valid x v))

-- THE ATTEMPT, with the votes of a kind's buffers that are about its subject
module _ {D K G C : Type 0} (x : Config D K G C) (lawful : HasLaws x) (subject : Subject D)
    (verified pending : List (Vote G D)) (before : Stream)
    (about : All (λ v. subject_of v ≡ subject) verified)
    (checked_are : All (λ v. subject_of v ≡ subject) (votes_checked (quorum_in x) verified pending))
    (attested : AllPass (attests_itself x.meaning x.same_digest x.number) verified)
    (once : EachOnce signer_of (verified ++ pending)) where
  abbrev looked : List (Vote G D)
  looked = votes_checked (quorum_in x) verified pending

  abbrev GoesSo : AttemptResult G C → Type 0
  GoesSo t = Goes x.meaning subject (quorum_in x) (attestations_of verified) (attestations_of looked) before t

  pub goes_so : (t : AttemptResult G C) (after : Stream) → (t, after)
      ≡ attempt_of x.meaning subject (quorum_in x) (attestations_of verified)
      (attestations_of pending) before → GoesSo t
  goes_so t after e =
      subst GoesSo
      (sym (ap (λ r. r.0) e ∙ ap (λ ones. (attempt_with x.meaning subject (quorum_in x) (attestations_of verified) ones before).0)
      (checked_attestations (quorum_in x) verified pending)))
      (goes x.meaning subject (quorum_in x) (attestations_of verified) (attestations_of looked) before)

  reached_votes : quorum_in x ≤ length (attestations_of verified) + length (attestations_of looked)
      → quorum_in x ≤ length verified + length looked
  reached_votes h =
      subst (λ n. quorum_in x ≤ n) (ap (λ n. n + length (attestations_of looked)) (length-map verified attestation_of)
      ∙ ap (λ n. length verified + n) (length-map looked attestation_of)) h

  all_of : (votes : List (Vote G D)) → All (λ v. subject_of v ≡ subject) votes
      → are_of x subject votes ≡ true
  all_of [] h = refl
  all_of (v ∷ vs) h =
      and_from _ _ (subst (λ s. same_subject x.same_digest subject s ≡ true) (sym (All-head (λ u. subject_of u ≡ subject) v vs h))
      (same_subject-refl x.same_digest lawful.digests_same subject))
      (all_of vs (All-tail (λ u. subject_of u ≡ subject) v vs h))

  certifies_by : (o : Option C) → IfSome (option_map (certificate_for subject) o)
      (λ c. certifies_itself x.meaning c ≡ true)
      → IfSome (option_map (certificate_for subject) o) (λ c. certifies_subject x subject c ≡ true)
  certifies_by None h = tt
  certifies_by (Some c) h =
      and_from _ _ (subst (λ s. same_subject x.same_digest subject s ≡ true) (sym (certified_subject subject c))
      (same_subject-refl x.same_digest lawful.digests_same subject)) h

  -- Where none were bad, a certificate would have been given at once.
  none_refused : quorum_in x ≤ length (attestations_of verified) + length (attestations_of looked)
      → (x.meaning.assembled_at_once subject (attestations_of looked) (attestations_of verified)
      before).0 ≡ None → bad_signers x looked ≡ [] → ⊥
  none_refused reached refused none =
      let m = x.meaning in
      let all = attested_about m x.same_digest x.number subject looked checked_are (none_bad x subject looked none) in
      let same = checked_attestations (quorum_in x) verified pending in
      let once_all = once_attestations verified pending once in
      let quorum = IsQuorum-checked (participants_in x) (quorum_in x) (omega arith) (attestations_of verified) (attestations_of pending) once_all
      (subst (λ ones. quorum_in x ≤ length (attestations_of verified) + length ones) (sym same) reached) in
      let may : MayTry m subject (attestations_of looked) (attestations_of verified) = record {
        some = lawful.some_participant;
        quorum = subst (λ ones. IsQuorum (participants_in x) (attestations_of verified ++ ones)) same quorum;
        attested = attested_about m x.same_digest x.number subject verified about attested;
      } in
      let given : is_some (m.assembled_at_once subject (attestations_of looked) (attestations_of verified) before).0
      ≡ true = lawful.scheme.optimistic_gives subject (attestations_of looked) (attestations_of verified) before may all in
      let no : false ≡ true = sym (ap is_some refused) ∙ given in
      absurd (cc)

  valid_length : length (attestations_of verified) + length
      (filter (x.meaning.attests subject) (attestations_of looked))
      ≡ length (verified ++ filter (is_valid x) looked)
  valid_length =
      ap (λ n. n + length (filter (x.meaning.attests subject) (attestations_of looked))) (length-map verified attestation_of)
      ∙ (ap (λ ones. length verified + length ones) (valid_attestations x subject looked checked_are)
      ∙ (ap (λ n. length verified + n) (length-map (filter (is_valid x) looked) attestation_of)
      ∙ sym (length-append verified (filter (is_valid x) looked))))

  way_of : (t : AttemptResult G C) → GoesSo t → GivenAtOnce x verified looked (batch_of subject t)
      ⊎ (FellBack x verified looked (batch_of subject t)
      ⊎ OnlyVerified x verified looked (batch_of subject t))
  way_of t g =
      ⊎_elim
      (λ a. inl (record {
        reached = reached_votes a.reached;
        certificate = is_some-option_map (certificate_for subject) t.certificate
            ∙ a.certificate;
        invalid = a.invalid;
        fallback = a.fallback;
      }))
      (⊎_elim
      (λ o. inr (inl (record {
        reached = reached_votes o.reached;
        some_bad = none_refused o.reached o.refused;
        certificate = is_some-option_map (certificate_for subject) t.certificate ∙ (o.certificate ∙ ap (λ n. nat_le (quorum_in x) n) valid_length);
        invalid = o.invalid ∙ bad_attestations x subject looked checked_are;
        fallback = o.fallback;
      })))
      (λ u. inr (inr (record {
        unreached =
            subst (λ n. n < quorum_in x) (ap (λ n. n + length (attestations_of looked)) (length-map verified attestation_of)
            ∙ ap (λ n. length verified + n) (length-map looked attestation_of)) u.unreached;
        certificate = is_some-option_map (certificate_for subject) t.certificate ∙ u.certificate;
        invalid = u.invalid ∙ bad_attestations x subject looked checked_are;
        fallback = u.fallback;
      }))))
      g.way

  -- An attempt of a verifier is one of the round, with the votes of the buffers,
  pub attempt_is : (t : AttemptResult G C) → GoesSo t
      → IfSome (option_map (certificate_for subject) t.certificate)
      (λ c. certifies_itself x.meaning c ≡ true) → Attempt x verified pending (batch_of subject t)
  attempt_is t g certifies =
      record {
        subject = subject;
        one_subject = all_of (verified ++ looked) (All-append (λ v. subject_of v ≡ subject) verified looked about checked_are);
        processed = g.processed ∙ length-map looked attestation_of;
        certified = certifies_by t.certificate certifies;
        way = way_of t g;
      }

  -- and where it gives no certificate it leaves the good ones verified.
  pub left_is : (t : AttemptResult G C) → GoesSo t → map (vote_for subject) t.verified
      ≡ cond (is_some t.certificate) [] (left_verified x verified pending)
  left_is t g = ap (map (vote_for subject)) g.left ∙ by_test (is_some t.certificate)
    where
      by_test : (b : Bool) → map (vote_for subject)
          (cond b [] (attestations_of verified
          ++ filter (x.meaning.attests subject) (attestations_of looked)))
          ≡ cond b [] (left_verified x verified pending)
      by_test true = refl
      by_test false =
          map-append (vote_for subject) (attestations_of verified) (filter (x.meaning.attests subject) (attestations_of looked))
          ∙ (ap (λ vs. vs ++ map (vote_for subject) (filter (x.meaning.attests subject) (attestations_of looked))) (votes_again subject verified about)
          ∙ ap (λ vs. verified ++ vs)
          (ap (map (vote_for subject)) (valid_attestations x subject looked checked_are)
          ∙ votes_again subject (filter (is_valid x) looked) (All-filter (is_valid x) (λ v. subject_of v ≡ subject) looked checked_are)))
