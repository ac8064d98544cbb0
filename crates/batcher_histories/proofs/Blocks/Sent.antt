-- Who sends just those own votes that its round answered as added gives no cause to be blocked.
use Rattle.batcher_histories.proofs.Words.{◌≡◌, ◌≤◌, ◌+◌, ◌==◌, ℕ, Bool, true, false, not, cond, ◌&&◌, List, [], ◌∷◌, ◌++◌, Option, Some, None, refl, ap, sym}
use Rattle.batcher_histories.proofs.Words.{◌∙◌, subst, arith, ⊎_elim, list_any, and_parts, and_from, or_cases, false_from_ne_true, true≢false, false≢true}
use Rattle.batcher_histories.proofs.Words.{eqb-true, eq-eqb, list_any-append, Participant, Vote, NetworkCall, OwnCall, CertificateCall, LeaderCall}
use Rattle.batcher_histories.proofs.Words.{ConstructCall, ForwardCall, MissingCall, Config, sender_in, count, is_some_and, signer_of, subject_of}
use Rattle.batcher_histories.proofs.Words.{attestation_of, excludes, any_more, any_count, same_subject-refl, same_vote, Event, History, cast_votes, contradicts}
use Rattle.batcher_histories.proofs.Words.{AtEachEvent, votes_cast, names_another, contradicts_itself, IsAmong, own_votes_added, OwnAddedAgree, SendsAdded}
use Rattle.batcher_histories.proofs.Words.{SendersOfAddedGiveNoCause}
use Rattle.batcher_histories.proofs.Order.Reordered.{excludes_itself}
use Rattle.batcher_histories.proofs.Blocks.Honest.{some_among}

-- COUNTS
half_of : (a b : Bool) → cond (a && b) 1 0 + cond (a && not b) 1 0 ≤ cond a 1 0
half_of true true = omega arith
half_of true false = omega arith
half_of false b = omega arith

halves : {X : Type 0} (a b : X → Bool) (xs : List X)
    → count (λ v. a v && b v) xs + count (λ v. a v && not (b v)) xs ≤ count a xs
halves a b [] = omega arith
halves a b (x ∷ xs) = omega (arith, half_of (a x) (b x), halves a b xs)

-- ONE VOTE
module _ {D G : Type 0} (same : D → D → Bool) (equal : G → G → Bool) (same_is : (a : D) → same a a ≡ true) (equal_is : (a : G) → equal a a ≡ true) where
  vote_itself : (v : Vote G D) → same_vote same equal v v ≡ true
  vote_itself v =
      and_from _ _ (same_subject-refl same same_is (subject_of v))
      (and_from _ _ (eq-eqb (signer_of v) (signer_of v) refl) (equal_is (attestation_of v).signature))

module _ {D K G C : Type 0} (x : Config D K G C) (mine : History D K G C) (i : ℕ) where
  abbrev sent : List (Vote G D)
  sent = own_votes_added mine

  -- a test of the participant's votes
  abbrev of_it : (Vote G D → Bool) → Vote G D → Bool
  of_it test v = (signer_of v == i) && test v

  -- WHAT IT CAST
  is_of : (o : Option Participant) (signer : ℕ) → signer ≡ i
      → is_some_and o (λ p. p.0 == signer) ≡ true
      → is_some_and o (λ p. p.0 == i) ≡ true
  is_of o signer same h = subst (λ j. is_some_and o (λ p. p.0 == j) ≡ true) same h

  in_own_name : (test : Vote G D → Bool) (vote : Vote G D) (o : Option Participant) (named : Bool)
      → is_some_and o (λ p. p.0 == signer_of vote) ≡ named
      → (is_some_and o (λ p. p.0 == i) ≡ true → (signer_of vote ≡ i) × IsAmong vote sent)
      → list_any (of_it test) (cond named (vote ∷ []) [] ++ []) ≡ true → list_any test sent ≡ true
  in_own_name test vote o false is sends h = absurd (false≢true h)
  in_own_name test vote o true is sends h =
      ⊎_elim
      (λ here.
      let parts = and_parts (signer_of vote == i) (test vote) here in
      (sends (is_of o (signer_of vote) (eqb-true (signer_of vote) i parts.0) is)).1 test parts.1)
      (λ none. absurd (false≢true none))
      (or_cases (of_it test vote) false h)

  own_of_others : (test : Vote G D → Bool) (vote : Vote G D) → (signer_of vote == i) ≡ false
      → list_any (of_it test) (vote ∷ []) ≡ true → list_any test sent ≡ true
  own_of_others test vote other h =
      ⊎_elim
      (λ here. absurd (true≢false (sym (and_parts (signer_of vote == i) (test vote) here).0 ∙ other)))
      (λ none. absurd (false≢true none))
      (or_cases (of_it test vote) false h)

  cast_is_sent : (test : Vote G D → Bool) (past : History D K G C) (event : Event D K G C)
      → SendsAdded x mine i past event
      → list_any (of_it test) (cast_votes x event.0) ≡ true → list_any test sent ≡ true
  cast_is_sent test past (NetworkCall sender vote, answer) sends h = in_own_name test vote (sender_in x sender) _ refl sends h
  cast_is_sent test past (OwnCall vote, answer) sends h = own_of_others test vote sends h
  cast_is_sent test past (CertificateCall c, answer) sends h = absurd (false≢true h)
  cast_is_sent test past (LeaderCall l, answer) sends h = absurd (false≢true h)
  cast_is_sent test past (ConstructCall, answer) sends h = absurd (false≢true h)
  cast_is_sent test past (ForwardCall me, answer) sends h = absurd (false≢true h)
  cast_is_sent test past (MissingCall p, answer) sends h = absurd (false≢true h)

  all_sent : (test : Vote G D → Bool) (past : History D K G C)
      → AtEachEvent (SendsAdded x mine i) past
      → list_any (of_it test) (votes_cast x past) ≡ true → list_any test sent ≡ true
  all_sent test [] sends h = absurd (false≢true h)
  all_sent test (event ∷ past) sends h =
      ⊎_elim
      (cast_is_sent test past event sends.0)
      (all_sent test past sends.1)
      (or_cases _ _ (sym (list_any-append (of_it test) (cast_votes x event.0) (votes_cast x past)) ∙ h))

  -- IT CONTRADICTS NOTHING
  module _ (agree : OwnAddedAgree mine) (same_is : (a : D) → x.same_digest a a ≡ true)
      (equal_is : (a : G) → x.same_signature a a ≡ true) where
    none_beside : (v : Vote G D) → IsAmong v sent → list_any (contradicts x v) sent ≡ true → ⊥
    none_beside v among some =
        absurd
        (omega (
          arith,
          agree v,
          halves (excludes v) (same_vote x.same_digest x.same_signature v) sent,
          any_count (contradicts x v) sent some,
          any_count (λ u. excludes v u && same_vote x.same_digest x.same_signature v u) sent
              (among (λ u. excludes v u && same_vote x.same_digest x.same_signature v u)
              (and_from _ _ (excludes_itself v) (vote_itself x.same_digest x.same_signature same_is equal_is v))),
        ))

    never_itself : (past : History D K G C) → AtEachEvent (SendsAdded x mine i) past
        → contradicts_itself x (votes_cast x past) i ≡ false
    never_itself past sends =
        false_from_ne_true _ (λ some.
        let votes = votes_cast x past in
        let beside : Vote G D → Bool = of_it (λ v. list_any (contradicts x v) votes) in
        let twice = all_sent beside past sends (any_more beside (of_it beside) (λ v h. and_from _ _ (and_parts _ _ h).0 h) votes some) in
        let v = some_among beside sent twice in
        let parts = and_parts (signer_of v.0 == i) _ v.1 in
        none_beside v.0 v.2
        (all_sent (contradicts x v.0) past sends
        (any_more (contradicts x v.0) (of_it (contradicts x v.0)) (λ w h. and_from _ _ (signed_alike v.0 w parts.0 h) h) votes parts.1)))
      where
        signed_alike : (v w : Vote G D) → (signer_of v == i) ≡ true → contradicts x v w ≡ true
            → (signer_of w == i) ≡ true
        signed_alike v w is h =
            eq-eqb (signer_of w) i
            (sym (eqb-true (signer_of v) (signer_of w) (and_parts _ _ (and_parts (excludes v w) _ h).0).0) ∙ eqb-true (signer_of v) i is)

  -- IT NAMES NO OTHER
  own_signer : (o : Option Participant) (signer : ℕ)
      → (is_some_and o (λ p. p.0 == i) ≡ true → signer ≡ i)
      → is_some_and o (λ p. (p.0 == i) && not (p.0 == signer)) ≡ false
  own_signer None signer same = refl
  own_signer (Some p) signer same =
      false_from_ne_true _ (λ h.
      let parts = and_parts (p.0 == i) (not (p.0 == signer)) h in
      true≢false (sym parts.1 ∙ ap not (eq-eqb p.0 signer (eqb-true p.0 i parts.0 ∙ sym (same parts.0)))))

  names_it : (past : History D K G C) (event : Event D K G C) → SendsAdded x mine i past event
      → names_another x i event.0 ≡ false
  names_it past (NetworkCall sender vote, answer) sends = own_signer (sender_in x sender) (signer_of vote) (λ h. (sends h).0)
  names_it past (OwnCall vote, answer) sends = refl
  names_it past (CertificateCall c, answer) sends = refl
  names_it past (LeaderCall l, answer) sends = refl
  names_it past (ConstructCall, answer) sends = refl
  names_it past (ForwardCall me, answer) sends = refl
  names_it past (MissingCall p, answer) sends = refl

  names_none : (past : History D K G C) → AtEachEvent (SendsAdded x mine i) past
      → list_any (λ event. names_another x i event.0) past ≡ false
  names_none [] sends = refl
  names_none (event ∷ past) sends = rw (names_it past event sends.0, names_none past sends.1) refl

module _ {D K G C : Type 0} (x : Config D K G C) where
  pub senders_of_added : ((a : D) → x.same_digest a a ≡ true)
      → ((a : G) → x.same_signature a a ≡ true)
      → SendersOfAddedGiveNoCause x
  senders_of_added same_is equal_is y mine past i promised sends =
      rw (names_none x mine i past sends) (never_itself x mine i promised.takes_in_honest.own_added_agree same_is equal_is past sends)
