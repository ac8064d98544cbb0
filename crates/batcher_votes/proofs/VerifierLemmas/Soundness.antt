-- What is true of the votes that wait stays true.
use Rattle.batcher_votes.proofs.Words.{◌≡◌, ◌≤◌, ◌+◌, ℕ, Bool, true, false, not, cond, ◌&&◌, ◌||◌, ◌==◌, List, [], ◌∷◌, ◌++◌, length, filter, Option, Some}
use Rattle.batcher_votes.proofs.Words.{None, append-nil, refl, sym, ap, subst, ◌∙◌, arith, AllPass, list_any, All-append, All-cons, All-filter, All-head}
use Rattle.batcher_votes.proofs.Words.{All-tail, filter_passes, nat_tests, and_parts, or_parts, Round, Proposal, Vote, NotarizeVote, NullifyVote, FinalizeVote}
use Rattle.batcher_votes.proofs.Words.{Kind, Notarization, Nullification, Finalization, ProposalState, filter_all, count, EachOnce, quorum_of, Meaning, is_kind}
use Rattle.batcher_votes.proofs.Words.{kind_of, is_of_kind, is_vote_of, signer_of, is_eligible, count-append, count-filter_le, once_fewer, once_none}
use Rattle.batcher_votes.proofs.Words.{count_none, is_kind-true, each_kind, AllPass-nil, AllPass-weaker, proposal_of, of_kind, VerifierState, Buffers}
use Rattle.batcher_votes.proofs.Words.{is_buffered, nothing_buffered, CompletesKind, SetsProposal, IsSound, IsSoundKind, attests_itself, may_be_buffered}
use Rattle.batcher_votes.proofs.Words.{is_of_round}
use Rattle.batcher_votes.proofs.VerifierLemmas.Changes.{IsTidy, Places}
use Rattle.batcher_votes.proofs.VerifierLemmas.EligibleVotes.{placed_buffers}

all_left : {X : Type 0} (p : X → Bool) (b : Bool) (xs : List X) → AllPass p xs
    → AllPass p (cond b [] xs)
all_left p true xs h = AllPass-nil p
all_left p false xs h = h

pub fewer_left : {X : Type 0} (test p : X → Bool) (b : Bool) (xs : List X)
    → count test (cond b [] (filter p xs)) ≤ count test xs
fewer_left test p true xs = omega arith
fewer_left test p false xs = count-filter_le test p xs

module _ {G D : Type 0} (same : D → D → Bool) (number : Round) where
  -- a vote that may be buffered and is eligible with what is selected may be buffered then
  pub represents_again : (before after : Option (Proposal D)) (kind : Kind) (v : Vote G D)
      → may_be_buffered same number before kind v ≡ true → is_eligible same after v ≡ true
      → may_be_buffered same number after kind v ≡ true
  represents_again before None Notarization (NotarizeVote v) h w = refl
  represents_again before (Some p) Notarization (NotarizeVote v) h w = w
  represents_again before after Notarization (NullifyVote v) h w = absurd (cc)
  represents_again before after Notarization (FinalizeVote v) h w = absurd (cc)
  represents_again before after Nullification (NotarizeVote v) h w = absurd (cc)
  represents_again before after Nullification (NullifyVote v) h w = h
  represents_again before after Nullification (FinalizeVote v) h w = absurd (cc)
  represents_again before after Finalization (NotarizeVote v) h w = absurd (cc)
  represents_again before after Finalization (NullifyVote v) h w = absurd (cc)
  represents_again before None Finalization (FinalizeVote v) h w = refl
  represents_again before (Some p) Finalization (FinalizeVote v) h w = w

  pub represents_eligible : (selected : Option (Proposal D)) (kind : Kind) (v : Vote G D)
      → may_be_buffered same number selected kind v ≡ true → is_eligible same selected v ≡ true
  represents_eligible None kind v h = refl
  represents_eligible (Some p) Notarization (NotarizeVote v) h = h
  represents_eligible (Some p) Notarization (NullifyVote v) h = absurd (cc)
  represents_eligible (Some p) Notarization (FinalizeVote v) h = absurd (cc)
  represents_eligible (Some p) Nullification (NotarizeVote v) h = absurd (cc)
  represents_eligible (Some p) Nullification (NullifyVote v) h = refl
  represents_eligible (Some p) Nullification (FinalizeVote v) h = absurd (cc)
  represents_eligible (Some p) Finalization (NotarizeVote v) h = absurd (cc)
  represents_eligible (Some p) Finalization (NullifyVote v) h = absurd (cc)
  represents_eligible (Some p) Finalization (FinalizeVote v) h = h

  -- a new vote of the round may be there while no proposal is selected
  pub represents_first : (v : Vote G D) → is_of_round number v ≡ true
      → may_be_buffered same number None (kind_of v) v ≡ true
  represents_first (NotarizeVote v) h = refl
  represents_first (NullifyVote v) h = h
  represents_first (FinalizeVote v) h = refl

  still_stand : (before after : Option (Proposal D)) (kind : Kind) (certified : Bool)
      (xs : List (Vote G D)) → AllPass (may_be_buffered same number before kind) xs
      → AllPass (may_be_buffered same number after kind)
      (cond certified [] (filter (is_eligible same after) xs))
  still_stand before after kind certified xs h =
      all_left (may_be_buffered same number after kind) certified (filter (is_eligible same after) xs)
      (λ k d below. represents_again before after kind _ (All-filter (is_eligible same after)
      (λ v. may_be_buffered same number before kind v ≡ true) xs h k d below)
      (filter_passes (is_eligible same after) xs k d below))

  stand_loosely : (selected : Option (Proposal D)) (kind : Kind) (xs : List (Vote G D))
      → AllPass (may_be_buffered same number selected kind) xs
      → AllPass (may_be_buffered same number None kind) xs
  stand_loosely selected kind xs h =
      AllPass-weaker (may_be_buffered same number selected kind) (may_be_buffered same number None kind)
      (λ v s. represents_again selected None kind v s refl) xs h

  -- by the signer alone, as all are of the kind
  pub any_of : (selected : Option (Proposal D)) (kind : Kind) (i : ℕ) (xs : List (Vote G D))
      → AllPass (may_be_buffered same number selected kind) xs → list_any (λ v. signer_of v == i) xs
      ≡ list_any (is_vote_of kind i) xs
  any_of selected kind i [] h = refl
  any_of selected kind i (x ∷ xs) h =
      let of_this : is_of_kind kind x ≡ true = (and_parts _ _ (All-head (λ v. may_be_buffered same number selected kind v ≡ true) x xs h)).0 in
      let here : (signer_of x == i) ≡ is_vote_of kind i x = ap (λ b. b && (signer_of x == i)) (sym of_this) in
      let others = any_of selected kind i xs (All-tail (λ v. may_be_buffered same number selected kind v ≡ true) x xs h) in
      ap (λ b. b || list_any (λ v. signer_of v == i) xs) here ∙ ap (λ b. is_vote_of kind i x || b) others

at_most : (n i a c : ℕ) (b : Bool) → (n == i) ≡ b → a + c ≤ 1 → (n ≡ i → (a ≡ 0) × (c ≡ 0))
    → (a + cond b 1 0) + c ≤ 1
at_most n i a c true e h none =
    let same_number : n ≡ i = grind (arith, nat_tests) in
    let z = none same_number in
    omega (arith, z.0, z.1)
at_most n i a c false e h none = omega arith

module _ {D K G C : Type 0} (m : Meaning D K G C) (same : D → D → Bool) (number : Round) where
  pub tidy_from : (held : VerifierState G D) (kind : Kind) → IsSoundKind m same number held kind
      → IsTidy same held kind
  tidy_from held kind s =
      record {
        pending =
            AllPass-weaker (may_be_buffered same number (proposal_of held.selection) kind) (is_eligible same (proposal_of held.selection))
            (represents_eligible same number (proposal_of held.selection) kind) (of_kind held.pending kind) s.pending;
        verified =
            AllPass-weaker (may_be_buffered same number (proposal_of held.selection) kind) (is_eligible same (proposal_of held.selection))
            (represents_eligible same number (proposal_of held.selection) kind) (of_kind held.verified kind) s.verified;
        none_pending = s.none_pending;
        none_verified = s.none_verified;
      }

  -- a kind, where votes join the ends of its buffers and those that no longer wait go
  pub sound_buffers :
      (old new : VerifierState G D) (kind : Kind) (to_pending to_verified : List (Vote G D))
      → IsSoundKind m same number old kind → Buffers same old new kind to_pending to_verified
      → AllPass (may_be_buffered same number None kind) to_pending
      → AllPass (may_be_buffered same number None kind) to_verified
      → AllPass (attests_itself m same number) to_verified
      → EachOnce signer_of ((of_kind old.verified kind ++ to_verified)
      ++ (of_kind old.pending kind ++ to_pending))
      → IsSoundKind m same number new kind
  sound_buffers old new kind to_pending to_verified s b p v a once =
      let before = proposal_of old.selection in
      let after = proposal_of new.selection in
      let stand = may_be_buffered same number None kind in
      let pendings = of_kind old.pending kind ++ to_pending in
      let verifieds = of_kind old.verified kind ++ to_verified in
      let certified = of_kind new.certified kind in
      record {
        pending =
            rw b.pending (still_stand same number None after kind certified pendings
            (All-append (λ x. stand x ≡ true) (of_kind old.pending kind) to_pending (stand_loosely same number before kind (of_kind old.pending kind) s.pending)
            p));
        verified =
            rw b.verified (still_stand same number None after kind certified verifieds
            (All-append (λ x. stand x ≡ true) (of_kind old.verified kind) to_verified
            (stand_loosely same number before kind (of_kind old.verified kind) s.verified) v));
        attested =
            rw b.verified (all_left (attests_itself m same number) certified (filter (is_eligible same after) verifieds)
            (All-filter (is_eligible same after) (λ x. attests_itself m same number x ≡ true) verifieds
            (All-append (λ x. attests_itself m same number x ≡ true) (of_kind old.verified kind) to_verified s.attested a)));
        once =
            rw (b.pending, b.verified) (once_fewer signer_of (verifieds ++ pendings)
            (cond certified [] (filter (is_eligible same after) verifieds) ++ cond certified [] (filter (is_eligible same after) pendings))
            (λ test. omega (
              arith,
              count-append test verifieds pendings,
              count-append test (cond certified [] (filter (is_eligible same after) verifieds))
                  (cond certified [] (filter (is_eligible same after) pendings)),
              fewer_left test (is_eligible same after) certified verifieds,
              fewer_left test
                  (is_eligible same after) certified pendings,
            ))
            once);
        none_pending = λ done. b.pending ∙ ap (λ c. cond c [] (filter (is_eligible same after) pendings)) done;
        none_verified = λ done. b.verified ∙ ap (λ c. cond c [] (filter (is_eligible same after) verifieds)) done;
      }

  -- where no vote joins
  pub sound_left : (old new : VerifierState G D) (kind : Kind) → IsSoundKind m same number old kind
      → Buffers same old new kind [] [] → IsSoundKind m same number new kind
  sound_left old new kind s b =
      sound_buffers old new kind [] [] s b (AllPass-nil _) (AllPass-nil _) (AllPass-nil _)
      (once_fewer signer_of (of_kind old.verified kind ++ of_kind old.pending kind) ((of_kind old.verified kind ++ []) ++ (of_kind old.pending kind ++ []))
      (λ test. omega (
        arith,
        count-append test (of_kind old.verified kind) (of_kind old.pending kind),
        count-append test (of_kind old.verified kind ++ [])
            (of_kind old.pending kind ++ []),
        count-append test (of_kind old.verified kind) [],
        count-append test (of_kind old.pending kind) [],
      ))
      s.once)

  pub sound_nothing : (q : ℕ) → 1 ≤ length m.participants → quorum_of (length m.participants) ≤ q
      → IsSound m same number q nothing_buffered
  sound_nothing q some enough =
      record {
        some = some;
        enough = enough;
        kinds = each_kind (IsSoundKind m same number nothing_buffered)
            (record {
              pending = AllPass-nil _;
              verified = AllPass-nil _;
              attested = AllPass-nil _;
              once = once_none (signer_of {G = G} {D = D});
              none_pending = λ _. refl;
              none_verified = λ _. refl;
            })
            (record {
              pending = AllPass-nil _;
              verified = AllPass-nil _;
              attested = AllPass-nil _;
              once = once_none (signer_of {G = G} {D = D});
              none_pending = λ _. refl;
              none_verified = λ _. refl;
            })
            (record {
              pending = AllPass-nil _;
              verified = AllPass-nil _;
              attested = AllPass-nil _;
              once = once_none (signer_of {G = G} {D = D});
              none_pending = λ _. refl;
              none_verified = λ _. refl;
            });
      }

  -- a kind of which nothing changes, or of which a certificate is there
  sound_completed :
      (old new : VerifierState G D) (kind : Kind) (b : Bool) → IsSoundKind m same number old kind
      → new.selection ≡ old.selection → of_kind new.certified kind
      ≡ (b || of_kind old.certified kind)
      → of_kind new.pending kind ≡ cond b [] (of_kind old.pending kind) → of_kind new.verified kind
      ≡ cond b [] (of_kind old.verified kind) → IsSoundKind m same number new kind
  sound_completed old new kind true s sel c p v =
      record {
        pending = rw p (AllPass-nil _);
        verified = rw v (AllPass-nil _);
        attested = rw v
            (AllPass-nil _);
        once = rw (p, v) (once_none (signer_of {G = G} {D = D}));
        none_pending = λ _. p;
        none_verified = λ _. v;
      }
  sound_completed old new kind false s sel c p v =
      record {
        pending = rw (p, sel) s.pending;
        verified = rw (v, sel) s.verified;
        attested = rw v s.attested;
        once = rw (p, v) s.once;
        none_pending = λ done. p ∙ s.none_pending (sym c ∙ done);
        none_verified = λ done. v ∙ s.none_verified (sym c ∙ done);
      }

  pub sound_completes : (q : ℕ) (old new : VerifierState G D) (completed : Kind)
      → IsSound m same number q old → CompletesKind same old completed new
      → IsSound m same number q new
  sound_completes q old new completed s c =
      record {
        some = s.some;
        enough = s.enough;
        kinds = λ kind. sound_completed old new kind (is_kind completed kind) (s.kinds kind) c.selection (c.certified kind) (c.pending kind) (c.verified kind);
      }

  joins_none : (b : Bool) (p : Vote G D → Bool) (v : Vote G D) → (b ≡ true → p v ≡ true)
      → AllPass p (cond b (v ∷ []) [])
  joins_none true p v h = All-cons (λ x. p x ≡ true) v [] (h refl) (AllPass-nil p)
  joins_none false p v h = AllPass-nil p

  once_more :
      (fits is_verified : Bool) (verified pending : List (Vote G D)) (vote : Vote G D)
      → EachOnce signer_of (verified ++ pending)
      → (fits ≡ true → (count (λ v. signer_of v == signer_of vote) verified ≡ 0)
      × (count (λ v. signer_of v == signer_of vote) pending ≡ 0))
      → EachOnce signer_of ((verified ++ cond (fits && is_verified) (vote ∷ []) [])
      ++ (pending ++ cond (fits && not is_verified) (vote ∷ []) []))
  once_more false is_verified verified pending vote once none i =
      let t : Vote G D → Bool = λ v. signer_of v == i in
      omega (
        arith,
        once i,
        count-append t verified pending,
        count-append t (verified ++ []) (pending ++ []),
        count-append t verified [],
        count-append t pending
            [],
      )
  once_more true true verified pending vote once none i =
      let t : Vote G D → Bool = λ v. signer_of v == i in
      let zero = λ (e : signer_of vote ≡ i). subst (λ j. (count (λ v. signer_of v == j) verified ≡ 0) × (count (λ v. signer_of v == j) pending ≡ 0)) e
      (none refl) in
      let both : count t verified + count t pending ≤ 1 = omega (arith, once i, count-append t verified pending) in
      omega (
        arith,
        at_most (signer_of vote) i (count t verified) (count t pending) (signer_of vote == i) refl both zero,
        count-append t (verified ++ vote ∷ [])
            (pending ++ []),
        count-append t verified (vote ∷ []),
        count-append t pending [],
      )
  once_more true false verified pending vote once none i =
      let t : Vote G D → Bool = λ v. signer_of v == i in
      let zero = λ (e : signer_of vote ≡ i). subst (λ j. (count (λ v. signer_of v == j) verified ≡ 0) × (count (λ v. signer_of v == j) pending ≡ 0)) e
      (none refl) in
      let both : count t verified + count t pending ≤ 1 = omega (arith, once i, count-append t verified pending) in
      omega (
        arith,
        at_most (signer_of vote) i (count t verified) (count t pending) (signer_of vote == i) refl both zero,
        count-append t (verified ++ [])
            (pending ++ vote ∷ []),
        count-append t verified [],
        count-append t pending (vote ∷ []),
      )

  none_by : (held : VerifierState G D) (kind : Kind) (i : ℕ) → IsSoundKind m same number held kind
      → is_buffered held kind i ≡ false
      → (count (λ v. signer_of v == i) (of_kind held.verified kind) ≡ 0)
      × (count (λ v. signer_of v == i) (of_kind held.pending kind) ≡ 0)
  none_by held kind i s h =
      let parts = or_parts (list_any (is_vote_of kind i) (of_kind held.verified kind)) (list_any (is_vote_of kind i) (of_kind held.pending kind)) h in
      let sel = proposal_of held.selection in (
        count_none (λ v. signer_of v == i) (of_kind held.verified kind) (any_of same number sel kind i (of_kind held.verified kind) s.verified ∙ parts.0),
        count_none (λ v. signer_of v == i) (of_kind held.pending kind) (any_of same number sel kind i (of_kind held.pending kind) s.pending ∙ parts.1),
      )

  pub buffered_by : (held : VerifierState G D) (kind : Kind) (i : ℕ)
      → IsSoundKind m same number held kind
      → (list_any (λ v. signer_of v == i) (of_kind held.verified kind)
      || list_any (λ v. signer_of v == i) (of_kind held.pending kind)) ≡ is_buffered held kind i
  buffered_by held kind i s =
      let sel = proposal_of held.selection in
      rw (any_of same number sel kind i (of_kind held.verified kind) s.verified, any_of same number sel kind i (of_kind held.pending kind) s.pending)

  -- What `add` asks of a vote.
  pub record MayJoin (held : VerifierState G D) (vote : Vote G D) (is_verified : Bool) : Type 0 where
    pub attests : is_verified ≡ true → attests_itself m same number vote ≡ true
    pub of_round : is_of_round number vote ≡ true
    pub fresh : is_buffered held (kind_of vote) (signer_of vote) ≡ false

  -- The vote joins those that wait.
  sound_joins : (q : ℕ) (old new : VerifierState G D) (vote : Vote G D) (is_verified : Bool)
      → IsSound m same number q old → MayJoin old vote is_verified
      → ((kind : Kind) → Buffers same old new kind
      (cond (is_of_kind kind vote && not is_verified) (vote ∷ []) [])
      (cond (is_of_kind kind vote && is_verified) (vote ∷ []) []))
      → IsSound m same number q new
  sound_joins q old new vote is_verified s may buffers =
      record {
        some = s.some;
        enough = s.enough;
        kinds = λ kind.
            let fits = is_of_kind kind vote in
            let represents : fits ≡ true → may_be_buffered same number None kind vote ≡ true
            = λ e. subst (λ k. may_be_buffered same number None k vote ≡ true) (is_kind-true (kind_of vote) kind e)
            (represents_first same number vote may.of_round) in
            sound_buffers old new kind (cond (fits && not is_verified) (vote ∷ []) []) (cond (fits && is_verified) (vote ∷ []) []) (s.kinds kind)
            (buffers kind)
            (joins_none (fits && not is_verified) (may_be_buffered same number None kind) vote (λ e. represents (and_parts fits (not is_verified) e).0))
            (joins_none (fits && is_verified) (may_be_buffered same number None kind) vote (λ e. represents (and_parts fits is_verified e).0))
            (joins_none (fits && is_verified) (attests_itself m same number) vote (λ e. may.attests (and_parts fits is_verified e).1))
            (once_more fits is_verified (of_kind old.verified kind) (of_kind old.pending kind) vote (s.kinds kind).once
            (λ e. none_by old kind (signer_of vote) (s.kinds kind)
            (subst (λ k. is_buffered old k (signer_of vote) ≡ false) (is_kind-true (kind_of vote) kind e) may.fresh)));
      }

  none_left : (test keeps : Vote G D → Bool) (certified : Bool) (xs : List (Vote G D))
      → list_any test xs ≡ false → list_any test (cond certified [] (filter keeps (xs ++ [])))
      ≡ false
  none_left test keeps true xs none = refl
  none_left test keeps false xs none = rw append-nil (none_kept xs none) where
    not_this : (b : Bool) (x : Vote G D) (ys : List (Vote G D)) → test x ≡ false
        → list_any test ys ≡ false → list_any test (cond b (x ∷ ys) ys) ≡ false
    not_this true x ys e rest = rw e rest
    not_this false x ys e rest = rest

    none_kept : (xs : List (Vote G D)) → list_any test xs ≡ false
        → list_any test (filter keeps xs) ≡ false
    none_kept [] h = refl
    none_kept (x ∷ xs) h =
        let parts = or_parts (test x) (list_any test xs) h in
        not_this (keeps x) x (filter keeps xs) parts.0 (none_kept xs parts.1)

  -- who has no vote in the buffers has none where votes went
  fresh_still : (old mid : VerifierState G D) (kind : Kind) (i : ℕ)
      → Buffers same old mid kind [] []
      → is_buffered old kind i ≡ false → is_buffered mid kind i ≡ false
  fresh_still old mid kind i b h =
      let test = is_vote_of kind i in
      let keeps = is_eligible same (proposal_of mid.selection) in
      let parts = or_parts (list_any test (of_kind old.verified kind)) (list_any test (of_kind old.pending kind)) h in
      rw (
        b.verified,
        b.pending,
        none_left test keeps (of_kind mid.certified kind) (of_kind old.verified kind) parts.0,
        none_left test keeps (of_kind mid.certified kind) (of_kind old.pending kind) parts.1,
      )

  -- The proposal is selected first, and the vote placed then.
  pub sound_placed : (q : ℕ) (old mid new : VerifierState G D) (vote : Vote G D)
      (is_verified : Bool)
      → IsSound m same number q mid → MayJoin old vote is_verified
      → ((kind : Kind) → Buffers same old mid kind [] []) → Places mid vote is_verified new
      → is_eligible same (proposal_of mid.selection) vote ≡ true → IsSound m same number q new
  sound_placed q old mid new vote is_verified s may sets places fits =
      sound_joins q mid new vote is_verified s
      (record {
        attests = may.attests;
        of_round = may.of_round;
        fresh = fresh_still old mid (kind_of vote) (signer_of vote) (sets (kind_of vote)) may.fresh;
      })
      (placed_buffers same mid new vote is_verified places fits (λ kind. tidy_from mid kind (s.kinds kind)))

  pub sound_sets : (q : ℕ) (old new : VerifierState G D) (selection : ProposalState D)
      → IsSound m same number q old → SetsProposal same old selection new
      → IsSound m same number q new
  sound_sets q old new selection s sets =
      record {
        some = s.some;
        enough = s.enough;
        kinds = λ kind. sound_left old new kind
            (s.kinds kind) (sets.buffers kind);
      }

-- nullifies are for no proposal
nullifies_wait : {G D : Type 0} (same : D → D → Bool) (number : Round) (o : Option (Proposal D))
    (p : Proposal D) (v : Vote G D) → may_be_buffered same number o Nullification v ≡ true
    → is_eligible same (Some p) v ≡ true
nullifies_wait same number o p (NotarizeVote v) h = absurd (cc)
nullifies_wait same number o p (NullifyVote v) h = refl
nullifies_wait same number o p (FinalizeVote v) h = absurd (cc)

pub nullifies_stay : {G D : Type 0} (same : D → D → Bool) (number : Round) (o : Option (Proposal D))
    (p : Proposal D) (xs : List (Vote G D)) → AllPass
    (may_be_buffered same number o Nullification) xs
    → filter (is_eligible same (Some p)) xs ≡ xs
nullifies_stay same number o p xs pass =
    filter_all (is_eligible same (Some p)) xs
    (AllPass-weaker (may_be_buffered same number o Nullification) (is_eligible same (Some p)) (nullifies_wait same number o p) xs pass)
