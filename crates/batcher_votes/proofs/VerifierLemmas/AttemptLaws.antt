-- What the laws of a scheme say of an attempt.
use Rattle.batcher_votes.proofs.Words.{◌≡◌, ◌≢◌, not, cond, ◌∷◌, ◌≤◌, ◌+◌, ℕ, Bool, true, false, nat_le, List, [], ◌++◌, length, filter, Option, Some, None}
use Rattle.batcher_votes.proofs.Words.{is_some, refl, sym, ap, ◌∙◌, arith, AllPass, true≢false, false≢true, nat_tests, All-cons, Stream, quorum_of, EachOnce}
use Rattle.batcher_votes.proofs.Words.{index_of_signer, signers, failing, Meaning, MayTry, IsLawful, AttemptResult, checked, one_by_one, at_once, attempt_of}
use Rattle.batcher_votes.proofs.Words.{IsFine, Attestation, Subject, once_filter_end, once_none, AllPass-nil}
use Rattle.batcher_votes.proofs.VerifierLemmas.CheckedQuorum.{IsQuorum-checked, IsQuorum-valid, AllPass-valid, once_checked}

-- where none fails, all pass
all_of : {G : Type 0} (test : Attestation G → Bool) (a : Attestation G) (xs : List (Attestation G))
    (b : Bool) → test a ≡ b →
    signers (cond (not b) (a ∷ failing test xs) (failing test xs)) ≡ []
    → (signers (failing test xs) ≡ [] → AllPass test xs) → AllPass test (a ∷ xs)
all_of test a xs true e none rest = All-cons (λ y. test y ≡ true) a xs e (rest none)
all_of test a xs false e none rest = absurd (cc)

none_fail : {G : Type 0} (test : Attestation G → Bool) (xs : List (Attestation G))
    → signers (failing test xs) ≡ [] → AllPass test xs
none_fail test [] none = AllPass-nil test
none_fail test (a ∷ xs) none = all_of test a xs (test a) refl none (none_fail test xs)

module _ {D K G C : Type 0} (m : Meaning D K G C) (lawful : IsLawful m) (subject : Subject D)
    (q : ℕ) (v p : List (Attestation G)) (some : 1 ≤ length m.participants)
    (enough : quorum_of (length m.participants) ≤ q) (once : EachOnce index_of_signer (v ++ p))
    (attested : AllPass (m.attests subject) v) where
  fine_some : (t : AttemptResult G C) (c : C) → t.certificate ≡ Some c → t.verified ≡ []
      → m.certifies subject c ≡ true → (t.fallback ≡ true → t.invalid ≢ []) → IsFine m subject t
  fine_some t c e left h names =
      record {
        names = names;
        attested = rw left (AllPass-nil (m.attests subject));
        once = rw left
            (once_none (index_of_signer {G = G}));
        emptied = λ _. left;
        certifies = rw e h;
      }

  fine_none : (t : AttemptResult G C) → t.certificate ≡ None → t.verified ≡ v
      ++ filter (m.attests subject) (checked q v p) → (t.fallback ≡ true → t.invalid ≢ [])
      → IsFine m subject t
  fine_none t e left names =
      record {
        names = names;
        attested = rw left (AllPass-valid (m.attests subject) v (checked q v p) attested);
        once = rw left (once_filter_end index_of_signer (m.attests subject) v (checked q v p) (once_checked (length m.participants) q enough v p once));
        emptied = λ h. let wrong : false ≡ true = sym (ap is_some e) ∙ h in absurd (cc);
        certifies = rw e tt;
      }

  fine_one : signers (failing (m.attests subject) (checked q v p)) ≢ [] → (b : Bool)
      → nat_le q (length v + length (filter (m.attests subject) (checked q v p))) ≡ b
      → IsFine m subject (one_by_one m subject q v (checked q v p))
  fine_one some_bad true e =
      rw e
      (fine_some _ (m.assembled subject v (filter (m.attests subject) (checked q v p))) refl refl
      (lawful.assembled_certifies subject v (filter (m.attests subject) (checked q v p)) some
      (IsQuorum-valid (length m.participants) q enough v p once (m.attests subject) (grind (arith, nat_tests)))
      (AllPass-valid (m.attests subject) v (checked q v p) attested)) (λ _. some_bad))
  fine_one some_bad false e = rw e (fine_none _ refl refl (λ _. some_bad))

  fine_at_once : (s : Stream) (o : Option C) → (m.assembled_at_once subject (checked q v p) v s).0
      ≡ o → q ≤ length v + length (checked q v p)
      → IsFine m subject (at_once m subject q v (checked q v p) o)
  fine_at_once s (Some c) e reached =
      fine_some _ c refl refl (lawful.optimistic_certifies subject (checked q v p) v s c
      (record { some = some; quorum = IsQuorum-checked (length m.participants) q enough v p once reached; attested = attested }) e)
      (λ fell. absurd (false≢true fell))
  fine_at_once s None e reached =
      fine_one
      (λ none.
      let all : AllPass (m.attests subject) (checked q v p) = none_fail (m.attests subject) (checked q v p) none in
      let may : MayTry m subject (checked q v p) v = record
      { some = some; quorum = IsQuorum-checked (length m.participants) q enough v p once reached; attested = attested } in
      absurd (true≢false (sym (lawful.optimistic_gives subject (checked q v p) v s may all) ∙ ap is_some e)))
      (nat_le q (length v + length (filter (m.attests subject) (checked q v p)))) refl

  reach : (s : Stream) (b : Bool) → nat_le q (length v + length (checked q v p)) ≡ b
      → IsFine m subject (attempt_of m subject q v p s).0
  reach s true e = rw e (fine_at_once s (m.assembled_at_once subject (checked q v p) v s).0 refl (grind (arith, nat_tests)))
  reach s false e = rw e (fine_none _ refl refl (λ fell. absurd (false≢true fell)))

  -- a certificate certifies, and what stays verified attests, no signer twice
  pub fine : (s : Stream) → IsFine m subject (attempt_of m subject q v p s).0
  fine s = reach s (nat_le q (length v + length (checked q v p))) refl
