-- An attempt by verdicts from elsewhere, and the scheme that they make of any lawful one.
use Rattle.batcher_votes.proofs.Words.{◌≡◌, ◌∙◌, ◌≤◌, ◌+◌, ◌++◌, ◌&&◌, ◌∷◌, [], ℕ, Bool, true, false, not, cond, nat_le, List, length, filter, take, Option}
use Rattle.batcher_votes.proofs.Words.{Some, None, is_some, refl, ap, sym, subst, arith, All, list_all, nat_tests, All-append, list_all-from_AllPass}
use Rattle.batcher_votes.proofs.Words.{AllPass-from_list_all, Stream, Participant, Attestation, Subject, signers, failing, AttemptResult, attempt_of}
use Rattle.batcher_votes.proofs.Words.{attempt_with, is_empty, Meaning, IsLawful, none_fails, Round, Kind, subject_of, IsFine, TakesIn, of_kind, VerifierState}
use Rattle.batcher_votes.proofs.Words.{attestations_of, TriesKind, pending_tried, verified_tried, Certificate, Batch, IsSound, judged, judged_with}
use Rattle.batcher_types.proofs.CountLemmas.{filter_all}
use Rattle.batcher_votes.proofs.VerifierLemmas.Construction.{fine_attempt, tries_by}

-- some stream, where none is drawn from
pub no_stream : Stream
no_stream = record { u32_after = λ calls. 0; u64_after = λ calls. 0; bytes_after = λ calls n. [] }

-- The first so many are sorted by the test.
pub record AreSorted {G : Type 0} (pending : List (Attestation G)) (i : ℕ)
    (verified : List (Attestation G)) (invalid : List Participant)
    (test : Attestation G → Bool) : Type 0 where
  pub valid : verified ≡ filter test (take i pending)
  pub failed : invalid ≡ signers (failing test (take i pending))

module _ {G : Type 0} (test : Attestation G → Bool) where
  empty_one : (a : Attestation G) (xs : List (Attestation G)) (b : Bool)
      → is_empty (signers (failing test xs)) ≡ list_all test xs
      → is_empty (signers (cond (not b) (a ∷ failing test xs) (failing test xs)))
      ≡ (b && list_all test xs)
  empty_one a xs true h = h
  empty_one a xs false h = refl

  -- none fails exactly where all pass
  pub none_failing : (xs : List (Attestation G))
      → is_empty (signers (failing test xs)) ≡ list_all test xs
  none_failing [] = refl
  none_failing (a ∷ xs) = empty_one a xs (test a) (none_failing xs)

  none_there : (xs : List Participant) → is_empty xs ≡ true → xs ≡ []
  none_there [] h = refl
  none_there (x ∷ xs) h = absurd (cc)

  pub none_named : (xs : List (Attestation G)) → list_all test xs ≡ true
      → signers (failing test xs) ≡ []
  none_named xs all = none_there (signers (failing test xs)) (none_failing xs ∙ all)

  pub all_kept : (xs : List (Attestation G)) → list_all test xs ≡ true → filter test xs ≡ xs
  all_kept xs all = filter_all test xs (none_fails test xs all)

  filter_shorter : (xs : List (Attestation G)) → length (filter test xs) ≤ length xs
  filter_shorter [] = omega arith
  filter_shorter (a ∷ xs) =
      elim (test a) as (λ b. length (cond b (a ∷ filter test xs) (filter test xs)) ≤ length (a ∷ xs)) [
        | true ↦ omega (arith, filter_shorter xs)
        | false ↦ omega (arith, filter_shorter xs)
      ]

  pub reached_too : (q n : ℕ) (xs : List (Attestation G))
      → nat_le q (n + length (filter test xs)) ≡ true → nat_le q (n + length xs) ≡ true
  reached_too q n xs h = let less = filter_shorter xs in grind (arith, nat_tests)

module _ {D K G C : Type 0} (m : Meaning D K G C) (subject : Subject D) (q : ℕ)
    (v c : List (Attestation G)) where
  -- whether they could be a quorum, but some fail
  abbrev pub fell : Bool
  fell = nat_le q (length v + length c) && not (is_empty (signers (failing (m.attests subject) c)))

module _ {D K G C : Type 0} (m : Meaning D K G C) (subject : Subject D) (q : ℕ)
    (v c : List (Attestation G)) (stream : Stream) where
  -- what verdicts on each of the pending ones come to
  abbrev pub sorted_into : Option C → Bool → AttemptResult G C
  sorted_into certificate fallback =
      record {
        processed = length c;
        invalid = signers (failing (m.attests subject) c);
        certificate = certificate;
        fallback = fallback;
        verified = cond (is_some certificate) [] (v ++ filter (m.attests subject) c);
      }

  abbrev pub tried : AttemptResult G C × Stream
  tried = attempt_with (judged m) subject q v c stream

  given_by : (all : Bool) → list_all (m.attests subject) c ≡ all
      → nat_le q (length v + length (filter (m.attests subject) c)) ≡ true
      → nat_le q (length v + length c) ≡ true
      → (
        sorted_into (Some (m.assembled subject v (filter (m.attests subject) c)))
            (fell m subject q v c),
        stream,
      ) ≡ tried
  given_by true e enough reached =
      rw (reached, none_failing (m.attests subject) c, e, all_kept (m.attests subject) c e, none_named (m.attests subject) c e) refl
  given_by false e enough reached =
      rw (reached, none_failing (m.attests subject) c, e, enough) refl

  -- those that attest are a quorum
  pub judged_given : nat_le q (length v + length (filter (m.attests subject) c)) ≡ true
      → (
        sorted_into (Some (m.assembled subject v (filter (m.attests subject) c)))
            (fell m subject q v c),
        stream,
      ) ≡ tried
  judged_given enough =
      given_by (list_all (m.attests subject) c) refl enough (reached_too (m.attests subject) q (length v) c enough)

  none_by : (all reached : Bool) → list_all (m.attests subject) c ≡ all
      → nat_le q (length v + length c) ≡ reached
      → nat_le q (length v + length (filter (m.attests subject) c)) ≡ false
      → (sorted_into None (fell m subject q v c), stream) ≡ tried
  none_by all false e reached few = rw reached refl
  none_by false true e reached few = rw (reached, none_failing (m.attests subject) c, e, few) refl
  none_by true true e reached few =
      let kept = all_kept (m.attests subject) c e in
      let wrong : true ≡ false = sym reached ∙ (ap (λ xs. nat_le q (length v + length xs)) (sym kept) ∙ few) in
      absurd (cc)

  -- they aren't
  pub judged_none : nat_le q (length v + length (filter (m.attests subject) c)) ≡ false
      → (sorted_into None (fell m subject q v c), stream) ≡ tried
  judged_none few = none_by (list_all (m.attests subject) c) (nat_le q (length v + length c)) refl refl few

-- THE SCHEME
module _ {D K G C : Type 0} (m : Meaning D K G C) where
  certifies_by : (subject : Subject D) (all : Bool) (c d : C)
      → (all ≡ true → m.certifies subject d ≡ true)
      → cond all (Some d) None ≡ Some c → m.certifies subject c ≡ true
  certifies_by subject true c d good e =
      let same : d ≡ c = cc in
      subst (λ x. m.certifies subject x ≡ true) same (good refl)
  certifies_by subject false c d good e = absurd (cc)

  -- a lawful scheme stays lawful where verdicts come from elsewhere
  pub judged_lawful : IsLawful m → IsLawful (judged m)
  judged_lawful lawful = record {
    signers_in_range = lawful.signers_in_range;
    optimistic_certifies = λ subject pending verified stream c may e.
        certifies_by subject (list_all (m.attests subject) pending) c (m.assembled subject verified pending)
        (λ all. lawful.assembled_certifies subject verified pending may.some may.quorum
        (All-append (λ a. m.attests subject a ≡ true) verified pending may.attested
        (AllPass-from_list_all (m.attests subject) pending all))) e;
    optimistic_gives = λ subject pending verified stream may all.
        rw (list_all-from_AllPass (m.attests subject) pending all) refl;
    assembled_certifies = lawful.assembled_certifies;
  }

  handed_certifies : (subject : Subject D) (known all : Bool) (given c d : C)
      → m.certifies subject given ≡ known → (all ≡ true → m.certifies subject d ≡ true)
      → cond known (Some given) (cond all (Some d) None) ≡ Some c → m.certifies subject c ≡ true
  handed_certifies subject true all given c d is good e =
      let same : given ≡ c = cc in
      subst (λ x. m.certifies subject x ≡ true) same is
  handed_certifies subject false all given c d is good e = certifies_by subject all c d good e

  handed_gives : (known all : Bool) (given d : C) → all ≡ true
      → is_some (cond known (Some given) (cond all (Some d) None)) ≡ true
  handed_gives true all given d e = refl
  handed_gives false true given d e = refl
  handed_gives false false given d e = absurd (cc)

  -- and also where a certificate of all of them is handed in
  pub judged_with_lawful : (given : C) → IsLawful m → IsLawful (judged_with m given)
  judged_with_lawful given lawful = record {
    signers_in_range = lawful.signers_in_range;
    optimistic_certifies = λ subject pending verified stream c may e.
        handed_certifies subject (m.certifies subject given) (list_all (m.attests subject) pending) given c
        (m.assembled subject verified pending) refl
        (λ all. lawful.assembled_certifies subject verified pending may.some may.quorum
        (All-append (λ a. m.attests subject a ≡ true) verified pending may.attested
        (AllPass-from_list_all (m.attests subject) pending all))) e;
    optimistic_gives = λ subject pending verified stream may all.
        handed_gives (m.certifies subject given) (list_all (m.attests subject) pending) given
        (m.assembled subject verified pending) (list_all-from_AllPass (m.attests subject) pending all);
    assembled_certifies = lawful.assembled_certifies;
  }

  -- the certificate is that of an attempt, where the votes could be a quorum
  pub judged_with_given : (subject : Subject D) (q : ℕ) (v c : List (Attestation G))
      (stream : Stream)
      (given : C) → nat_le q (length v + length c) ≡ true → m.certifies subject given ≡ true
      → attempt_with (judged_with m given) subject q v c stream ≡ (
        record {
          processed = length c;
          invalid = [];
          certificate = Some given;
          fallback = false;
          verified = [];
        },
        stream,
      )
  judged_with_given subject q v c stream given reached good = rw (reached, good) refl

  -- what a verifier keeps true is said of what attests alone
  pub judged_sound : (same : D → D → Bool) (number : Round) (q : ℕ) (held : VerifierState G D)
      → IsSound m same number q held → IsSound (judged m) same number q held
  judged_sound same number q held s = record {
    some = s.some;
    enough = s.enough;
    kinds = λ kind. record {
      pending = (s.kinds kind).pending;
      verified = (s.kinds kind).verified;
      attested = (s.kinds kind).attested;
      once = (s.kinds kind).once;
      none_pending = (s.kinds kind).none_pending;
      none_verified = (s.kinds kind).none_verified;
    };
  }

module _ {D K G C : Type 0} (m : Meaning D K G C) (lawful : IsLawful m) (same : D → D → Bool)
    (number : Round) (q : ℕ) (old : VerifierState G D) (kind : Kind) (subject : Subject D)
    (sound : IsSound m same number q old)
    (about : All (λ v. subject_of v ≡ subject) (of_kind old.verified kind)) where
  -- what an attempt by verdicts gives is fine
  pub fine_judged : (t : AttemptResult G C) → ((stream : Stream) → (t, stream)
      ≡ attempt_of (judged m) subject q (attestations_of (of_kind old.verified kind))
      (attestations_of (of_kind old.pending kind)) stream) → IsFine m subject t
  fine_judged t attempted =
      let fine = fine_attempt (judged m) (judged_lawful m lawful) same number q old kind subject
      (judged_sound m same number q old sound) about no_stream no_stream t (attempted no_stream) in
      record {
        attested = fine.attested;
        once = fine.once;
        emptied = fine.emptied;
        certifies = fine.certifies;
        names = fine.names;
      }

-- what a certificate that was handed in comes to, of so many pending attestations
abbrev pub handed : {G C : Type 0} → List (Attestation G) → C → AttemptResult G C
handed list certificate =
    record {
      processed = length list;
      invalid = [];
      certificate = Some certificate;
      fallback = false;
      verified = [];
    }

module _ {D K G C : Type 0} (m : Meaning D K G C) (number : Round) (q : ℕ)
    (old new : VerifierState G D) (kind : Kind) (subject : Subject D)
    (list : List (Attestation G)) (certificate : C) (batch : Batch (Certificate C D)) where
  pub handed_tries : TakesIn number old kind subject (handed list certificate) batch new
      → pending_tried q old kind ≡ list
      → q ≤ length (verified_tried old kind) + length (pending_tried q old kind)
      → m.certifies subject certificate ≡ true → (stream : Stream)
      → TriesKind (judged_with m certificate) number q old kind stream batch stream new
  handed_tries takes is enough good stream =
      let reached : nat_le q (length (verified_tried old kind) + length (pending_tried q old kind)) ≡ true
      = grind (arith, nat_tests, enough) in
      let gives = judged_with_given m subject q (verified_tried old kind) (pending_tried q old kind) stream certificate reached good in
      tries_by (judged_with m certificate) number q old new kind subject stream stream batch
      (handed list certificate) takes
      (ap (λ xs. (handed xs certificate, stream)) (sym is) ∙ sym gives)
