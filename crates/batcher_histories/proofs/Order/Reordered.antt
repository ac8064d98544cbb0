-- What stays the same where the same calls come in another order, one that makes no difference.
use Rattle.batcher_histories.proofs.Words.{inl, inr, ◌≡◌, ◌≤◌, ◌+◌, ◌==◌, ◌⊎◌, ℕ, Bool, true, false, not, cond, nat_lt, nat_le, ◌&&◌, ◌||◌, List, [], ◌∷◌, ◌++◌}
use Rattle.batcher_histories.proofs.Words.{length, Option, Some, None, refl, ap, sym, ◌∙◌, arith, ⊎_elim, filter, is_some, option_and_then, Ok, Err, Result}
use Rattle.batcher_histories.proofs.Words.{option_or, list_any, cases_Bool, and_from, or_from, or_left, or_right, or_parts, false_from_ne_true}
use Rattle.batcher_histories.proofs.Words.{true_from_ne_false, eqb-true, eq-eqb, true≢false, false≢true, same_Some, AllPass-from_list_all}
use Rattle.batcher_histories.proofs.Words.{list_all-from_AllPass, Participant, Proposal, Vote, NotarizeVote, NullifyVote, FinalizeVote, Kind, Notarization}
use Rattle.batcher_histories.proofs.Words.{Certificate, ProposalState, LeaderFault, LeaderChanged, Call, NetworkCall, OwnCall, CertificateCall, LeaderCall}
use Rattle.batcher_histories.proofs.Words.{ConstructCall, ForwardCall, MissingCall, Answer, LeaderAnswer, Config, quorum_in, count, is_some_and, SameElements}
use Rattle.batcher_histories.proofs.Words.{is_kind, kind_of, signer_of, subject_of, is_of_kind, is_vote_of, are_opposite, has_proposals, excludes, proposal_in}
use Rattle.batcher_histories.proofs.Words.{kind_certified, same_proposal, is_for, count-append, count_same, all_count, none_fails, each_kind, is_kind-refl}
use Rattle.batcher_histories.proofs.Words.{same_proposal-true, same_proposal-refl, any_more, is_skipped, leader_set_answer, Event, History, is_made}
use Rattle.batcher_histories.proofs.Words.{recorded_certificate, certificate_given, cast_votes, first_votes, first_vote, is_free, leader_named, leader_of}
use Rattle.batcher_histories.proofs.Words.{finalized_by, fixing_evidence, fixed_proposal, leaders_proposal, selection, selection_by, is_certified}
use Rattle.batcher_histories.proofs.Words.{certificate_of, proposal_of, is_valid, is_counted, MayAnswer, IsPossible, votes_cast, proposal_certified}
use Rattle.batcher_histories.proofs.Words.{HasNoBadVote, has_valid_quorum, calls_of, is_construction, evidence_by, fix_different, IsOrderless, is_settled}
use Rattle.batcher_histories.proofs.History.Laws.{HasLaws}
use Rattle.batcher_histories.proofs.History.Distinct.{positive, any_count, count_at, firsts_apart, option_cases, where_holds}
use Rattle.batcher_histories.proofs.KnownLemmas.Observed.{cast_cases}
use Rattle.batcher_histories.proofs.Simulation.Frame.{or_nothing}
use Rattle.batcher_histories.proofs.KnownLemmas.Named.{or_none}
use Rattle.batcher_histories.proofs.Quorums.ValidQuorums.{count_valid, skipped_counts}
use Rattle.batcher_histories.proofs.Certificates.Backing.{gave}

-- tests that imply each other
pub same_tests : (a b : Bool) → (a ≡ true → b ≡ true) → (b ≡ true → a ≡ true) → a ≡ b
same_tests true b there back = sym (there refl)
same_tests false true there back = back refl
same_tests false false there back = refl

-- lists of the same elements
any_same : {X : Type 0} (xs ys : List X) → SameElements xs ys → (test : X → Bool)
    → list_any test xs ≡ list_any test ys
any_same xs ys same test = any_count test xs ∙ (ap (λ n. nat_lt 0 n) (same test) ∙ sym (any_count test ys))

-- options of the same value
same_options : {X : Type 0} (o s : Option X) → ((v : X) → o ≡ Some v → s ≡ Some v)
    → ((v : X) → s ≡ Some v → o ≡ Some v) → o ≡ s
same_options (Some v) s there back = sym (there v refl)
same_options None (Some w) there back = back w refl
same_options None None there back = refl

-- the value of one of two options
or_some : {X : Type 0} (o s : Option X) (v : X) → option_or o s ≡ Some v
    → (o ≡ Some v) ⊎ (s ≡ Some v)
or_some (Some w) s v h = inl h
or_some None s v h = inr h

-- THE FIRST OF VALUES THAT ARE ALL THE SAME
module _ {E X : Type 0} (value : E → Option X) where
  -- of a list with the newest first
  abbrev first_of : List E → Option X
  first_of [] = None
  first_of (e ∷ es) = option_or (first_of es) (value e)

  first_among : (test : X → Bool) (es : List E) (v : X) → first_of es ≡ Some v → test v ≡ true
      → list_any (λ e. is_some_and (value e) test) es ≡ true
  first_among test [] v is passes = absurd (cc)
  first_among test (e ∷ es) v is passes =
      ⊎_elim
      (λ rest. or_right (is_some_and (value e) test) _ (first_among test es v rest passes))
      (λ here. or_left _ (list_any (λ e. is_some_and (value e) test) es) (ap (λ o. is_some_and o test) here ∙ passes))
      (or_some (first_of es) (value e) v is)

  none_among : (test : X → Bool) (es : List E) → first_of es ≡ None
      → list_any (λ e. is_some_and (value e) test) es ≡ false
  none_among test [] none = refl
  none_among test (e ∷ es) none =
      let parts = or_none (first_of es) (value e) none in
      or_from _ _ (ap (λ o. is_some_and o test) parts.1) (none_among test es parts.0)

  -- no value is another than the first
  abbrev AllSame : (X → X → Bool) → List E → Type 0
  AllSame same es =
      (v : X) → first_of es ≡ Some v → list_any (λ e. is_some_and (value e) (λ w. not (same v w))) es ≡ false

  module _ (same : X → X → Bool) (itself : (v : X) → same v v ≡ true)
      (equal : (v w : X) → same v w ≡ true → v ≡ w) where
    -- Then lists of the same elements have the same first value.
    first_there : (es fs : List E) → SameElements es fs → AllSame same es
        → (v : X) → first_of es ≡ Some v → first_of fs ≡ Some v
    first_there es fs elements all v is =
        ⊎_elim
        (λ none.
        absurd (true≢false
        (sym (first_among (same v) es v is (itself v))
        ∙ (any_same es fs elements (λ e. is_some_and (value e) (same v)) ∙ none_among (same v) fs none))))
        (λ (some : (w : X) × (first_of fs ≡ Some w)).
        some.1
        ∙ ap Some
        (sym (equal v some.0
        (true_from_ne_false (same v some.0) (λ other.
        true≢false
        (sym (first_among (λ w. not (same v w)) fs some.0 some.1 (ap not other))
        ∙ (sym (any_same es fs elements (λ e. is_some_and (value e) (λ w. not (same v w)))) ∙ all v is)))))))
        (option_cases (first_of fs))

    first_same : (es fs : List E) → SameElements es fs → AllSame same es → AllSame same fs
        → first_of es ≡ first_of fs
    first_same es fs elements all_es all_fs =
        same_options (first_of es) (first_of fs) (first_there es fs elements all_es)
        (first_there fs es (λ test. sym (elements test)) all_fs)

-- VOTES
-- votes exclude each other both ways
number_same : (m n : ℕ) → (m == n) ≡ (n == m)
number_same m n = same_tests _ _ (λ h. eq-eqb n m (sym (eqb-true m n h))) (λ h. eq-eqb m n (sym (eqb-true n m h)))

kinds_same : (a b : Kind) → (is_kind a b || are_opposite a b) ≡ (is_kind b a || are_opposite b a)
kinds_same =
    each_kind (λ a. (b : Kind) → (is_kind a b || are_opposite a b) ≡ (is_kind b a || are_opposite b a))
    (each_kind _ refl refl refl) (each_kind _ refl refl refl) (each_kind _ refl refl refl)

module _ {G D : Type 0} where
  pub excludes_same : (v w : Vote G D) → excludes v w ≡ excludes w v
  excludes_same v w =
      ap (λ b. b && (is_kind (kind_of v) (kind_of w) || are_opposite (kind_of v) (kind_of w))) (number_same (signer_of v) (signer_of w))
      ∙ ap (λ b. (signer_of w == signer_of v) && b) (kinds_same (kind_of v) (kind_of w))

  pub excludes_itself : (v : Vote G D) → excludes v v ≡ true
  excludes_itself v =
      and_from _ _ (eq-eqb (signer_of v) (signer_of v) refl)
      (or_left _ (are_opposite (kind_of v) (kind_of v)) (is_kind-refl (kind_of v)))

  -- one vote at most is counted once at most
  count_few : (test : Vote G D → Bool) (cast : List (Vote G D)) → length cast ≤ 1
      → count test cast ≡ cond (list_any test cast) 1 0
  count_few test [] few = omega arith
  count_few test (v ∷ []) few = one (test v)
    where
      one : (b : Bool) → cond b 1 0 + 0 ≡ cond (b || false) 1 0
      one true = omega arith
      one false = omega arith
  count_few test (v ∷ w ∷ cast) few = absurd (omega (arith, few))

  -- a vote beside which none excludes it is free
  all_free : (cast votes : List (Vote G D)) → length cast ≤ 1
      → ((v : Vote G D) → count (excludes v) cast + count (excludes v) votes ≤ 1)
      → filter (is_free votes) cast ≡ cast
  all_free [] votes few apart = refl
  all_free (v ∷ []) votes few apart = ap (λ b. cond b (v ∷ []) []) free
    where
      none : count (excludes v) votes ≡ 0
      none = omega (arith, apart v, ap {B = ℕ} (λ b. cond b 1 0) (excludes_itself v))

      free : is_free votes v ≡ true
      free =
          ap not
          (any_count (λ w. excludes w v) votes
          ∙ ap (λ n. nat_lt 0 n) (count_same (λ w. excludes w v) (excludes v) votes (λ w. excludes_same w v) ∙ none))
  all_free (v ∷ w ∷ cast) votes few apart = absurd (omega (arith, few))

module _ {D K G C : Type 0} (x : Config D K G C) where
  -- A call casts one vote at most, so the same calls cast the same votes.
  casts_one : (call : Call K G C D) → length (cast_votes x call) ≤ 1
  casts_one call =
      ⊎_elim
      (λ none. omega (arith, ap length none))
      (λ (one : (w : Vote G D) × (cast_votes x call ≡ w ∷ [])). omega (arith, ap length one.1))
      (cast_cases x call)

  cast_counts : (past : History D K G C) (test : Vote G D → Bool)
      → count test (votes_cast x past)
      ≡ count (λ call. list_any test (cast_votes x call)) (calls_of past)
  cast_counts [] test = refl
  cast_counts (event ∷ past) test =
      omega (
        arith,
        count-append test (cast_votes x event.0) (votes_cast x past),
        count_few test (cast_votes x event.0) (casts_one event.0),
        cast_counts past test,
      )

  casts_same : (a b : History D K G C) → SameElements (calls_of a) (calls_of b)
      → SameElements (votes_cast x a) (votes_cast x b)
  casts_same a b same test =
      cast_counts a test ∙ (same (λ call. list_any test (cast_votes x call)) ∙ sym (cast_counts b test))

  -- where no two votes that are cast exclude each other, all are first votes
  abbrev AreApart : History D K G C → Type 0
  AreApart past = (v : Vote G D) → count (excludes v) (votes_cast x past) ≤ 1

  all_first : (past : History D K G C) → AreApart past → first_votes x past ≡ votes_cast x past
  all_first [] apart = refl
  all_first (event ∷ past) apart =
      ap (λ (votes : List (Vote G D)). filter (is_free votes) (cast_votes x event.0) ++ votes) (all_first past before)
      ∙ ap (λ (new : List (Vote G D)). new ++ votes_cast x past)
      (all_free (cast_votes x event.0) (votes_cast x past) (casts_one event.0)
      (λ v. omega (arith, apart v, count-append (excludes v) (cast_votes x event.0) (votes_cast x past))))
    where
      before : AreApart past
      before v = omega (arith, apart v, count-append (excludes v) (cast_votes x event.0) (votes_cast x past))

  -- So they have the same first votes.
  firsts_same : (a b : History D K G C) → SameElements (calls_of a) (calls_of b) → AreApart a
      → SameElements (first_votes x a) (first_votes x b)
  firsts_same a b same apart test =
      ap (count test) (all_first a apart)
      ∙ (casts_same a b same test ∙ sym (ap (count test) (all_first b apart_too)))
    where
      apart_too : AreApart b
      apart_too v = omega (arith, apart v, casts_same a b same (excludes v))

-- THE LEADER
abbrev is_leader : Participant → Participant → Bool
is_leader i j = i.0 == j.0

is_itself : (i : Participant) → is_leader i i ≡ true
is_itself i = eq-eqb i.0 i.0 refl

leader_is : (i j : Participant) → is_leader i j ≡ true → i ≡ j
leader_is i j h = let made : ℕ → Participant = λ k. record { 0 = k } in ap made (eqb-true i.0 j.0 h)

module _ {D K G C : Type 0} (x : Config D K G C) where
  -- Each leader call that is made names the same one.
  named_again : (i j : Participant) (result : Result (Unit {0}) LeaderFault)
      → result ≡ leader_set_answer (Some i) j
      → is_made {G = G} {C = C} {D = D} (LeaderAnswer result) ≡ true → is_leader i j ≡ true
  named_again i j result is made =
      true_from_ne_false _ (λ other.
      true≢false
      (sym made
      ∙ ap (λ r. is_made {G = G} {C = C} {D = D} (LeaderAnswer r)) (is ∙ ap (λ b. cond b (Ok tt) (Err LeaderChanged)) other)))

  names_again : (past : History D K G C) (call : Call K G C D) (answer : Answer G C D)
      → MayAnswer x past call answer → is_made answer ≡ true
      → (i : Participant) → leader_of past ≡ Some i
      → is_some_and (leader_named call) (λ j. not (is_leader i j)) ≡ false
  names_again past (LeaderCall j) (LeaderAnswer result) may made i led =
      ap not (named_again i j result (may ∙ ap (λ o. leader_set_answer o j) led) made)
  names_again past (LeaderCall j) answer may made i led = absurd may
  names_again past (NetworkCall sender vote) answer may made i led = refl
  names_again past (OwnCall vote) answer may made i led = refl
  names_again past (CertificateCall c) answer may made i led = refl
  names_again past ConstructCall answer may made i led = refl
  names_again past (ForwardCall me) answer may made i led = refl
  names_again past (MissingCall p) answer may made i led = refl

  -- So the same calls name the same leader.
  leader_first : (past : History D K G C) → leader_of past ≡ first_of leader_named (calls_of past)
  leader_first [] = refl
  leader_first (event ∷ past) = ap (λ o. option_or o (leader_named event.0)) (leader_first past)

  one_leader : (past : History D K G C) → IsPossible x past
      → AllSame leader_named is_leader (calls_of past)
  one_leader [] possible i led = refl
  one_leader (event ∷ past) possible i led =
      ⊎_elim
      (λ none.
      or_from _ _
      (ap (λ o. is_some_and o (λ j. not (is_leader i j))) (ap (λ o. option_or o (leader_named event.0)) (sym none) ∙ led)
      ∙ ap not (is_itself i))
      (none_among leader_named (λ j. not (is_leader i j)) (calls_of past) none))
      (λ (some : (k : Participant) × (first_of leader_named (calls_of past) ≡ Some k)).
      let before = some.1 ∙ (ap (λ o. option_or o (leader_named event.0)) (sym some.1) ∙ led) in
      or_from _ _
      (names_again past event.0 event.1 possible.1.1.0 possible.1.0 i (leader_first past ∙ before))
      (one_leader past possible.1.1.1 i before))
      (option_cases (first_of leader_named (calls_of past)))

  leader_same : (a b : History D K G C) → IsPossible x a → IsPossible x b
      → SameElements (calls_of a) (calls_of b) → leader_of a ≡ leader_of b
  leader_same a b possible_a possible_b same =
      leader_first a
      ∙ (first_same leader_named is_leader is_itself leader_is (calls_of a) (calls_of b) same
      (one_leader a possible_a) (one_leader b possible_b)
      ∙ sym (leader_first b))

-- WHAT FIXES A PROPOSAL, AND WHAT IS CERTIFIED
-- whether a call records a certificate of the kind
abbrev records_kind : {D K G C : Type 0} → Kind → Call K G C D → Bool
records_kind kind call = is_some_and (recorded_certificate call) (λ c. is_kind (kind_certified c) kind)

module _ {D K G C : Type 0} (x : Config D K G C) (laws : HasLaws x) where
  -- only a construction is given a certificate
  recorded_only : (past : History D K G C) (event : Event D K G C) → IsPossible x (event ∷ past)
      → is_construction event.0 ≡ false → certificate_of event ≡ recorded_certificate event.0
  recorded_only past event possible other =
      ap (option_or (recorded_certificate event.0)) none ∙ or_nothing (recorded_certificate event.0)
    where
      none : certificate_given event.1 ≡ None
      none =
          ⊎_elim
          (λ h. h)
          (λ (some : (c : Certificate C D) × (certificate_given event.1 ≡ Some c)).
          let g = gave x past event laws possible some.0 some.1 in
          absurd (true≢false (sym (ap is_construction g.constructs) ∙ other)))
          (option_cases (certificate_given event.1))

  -- So a proposal is fixed and a kind certified by the calls themselves, where nothing is
  -- constructed.
  fixed_first : (past : History D K G C) → IsPossible x past
      → list_any is_construction (calls_of past) ≡ false
      → fixed_proposal past ≡ first_of evidence_by (calls_of past)
  fixed_first [] possible none = refl
  fixed_first (event ∷ past) possible none =
      let parts = or_parts (is_construction event.0) (list_any is_construction (calls_of past)) none in
      ap (λ o. option_or o (fixing_evidence event)) (fixed_first past possible.1.1.1 parts.1)
      ∙ ap (λ c. option_or (first_of evidence_by (calls_of past)) (option_or (finalized_by event.0) (option_and_then proposal_certified c)))
      (recorded_only past event possible parts.0)

  one_evidence : (calls : List (Call K G C D))
      → list_any (λ call. list_any (fix_different x call) calls) calls ≡ false
      → AllSame evidence_by (same_proposal x.same_digest) calls
  one_evidence calls one p first =
      false_from_ne_true _ (λ other.
      true≢false
      (sym (any_more (λ call. is_some_and (evidence_by call) others) (λ call. list_any (fix_different x call) calls)
      differs calls (first_among evidence_by others calls p first other))
      ∙ one))
    where
      -- whether a call fixes another proposal
      others : Proposal D → Bool
      others q = list_any (λ call. is_some_and (evidence_by call) (λ r. not (same_proposal x.same_digest q r))) calls

      differs : (call : Call K G C D) → is_some_and (evidence_by call) others ≡ true
          → list_any (fix_different x call) calls ≡ true
      differs call h =
          let q = where_holds others (evidence_by call) h in
          ap (λ o. list_any (λ e. is_some_and o (λ p. is_some_and (evidence_by e) (λ r. not (same_proposal x.same_digest p r)))) calls) q.1
          ∙ q.2

  certified_by : (past : History D K G C) → IsPossible x past
      → list_any is_construction (calls_of past) ≡ false → (kind : Kind)
      → is_certified past kind ≡ list_any (records_kind kind) (calls_of past)
  certified_by [] possible none kind = refl
  certified_by (event ∷ past) possible none kind =
      let parts = or_parts (is_construction event.0) (list_any is_construction (calls_of past)) none in
      ap (λ o. is_some_and o (λ c. is_kind (kind_certified c) kind) || is_certified past kind) (recorded_only past event possible parts.0)
      ∙ ap (λ b. records_kind kind event.0 || b) (certified_by past possible.1.1.1 parts.1 kind)

-- THE LEADER'S PROPOSAL
-- the proposal that a vote carries
abbrev carried : {G D : Type 0} → Option (Vote G D) → Option (Proposal D)
carried o = option_and_then (λ v. proposal_in (subject_of v)) o

module _ {D K G C : Type 0} (x : Config D K G C) (laws : HasLaws x) where
  -- It is known by tests.
  carries : (o : Option (Vote G D)) (p : Proposal D)
      → is_some_and o (is_for x.same_digest p) ≡ true → carried o ≡ Some p
  carries None p h = absurd (false≢true h)
  carries (Some (NotarizeVote v)) p h = ap Some (sym (same_proposal-true x.same_digest laws.digests_equal p v.proposal h))
  carries (Some (NullifyVote v)) p h = absurd (false≢true h)
  carries (Some (FinalizeVote v)) p h = ap Some (sym (same_proposal-true x.same_digest laws.digests_equal p v.proposal h))

  carried_is : (o : Option (Vote G D)) (p : Proposal D)
      → carried o ≡ Some p → is_some_and o (is_for x.same_digest p) ≡ true
  carried_is None p h = absurd (cc)
  carried_is (Some (NotarizeVote v)) p h =
      ap (same_proposal x.same_digest p) (same_Some v.proposal p h) ∙ same_proposal-refl x.same_digest laws.digests_same p
  carried_is (Some (NullifyVote v)) p h = absurd (cc)
  carried_is (Some (FinalizeVote v)) p h =
      ap (same_proposal x.same_digest p) (same_Some v.proposal p h) ∙ same_proposal-refl x.same_digest laws.digests_same p

  -- Votes that pass the same tests carry the same.
  carried_same : (o s : Option (Vote G D))
      → ((test : Vote G D → Bool) → is_some_and o test ≡ is_some_and s test) → carried o ≡ carried s
  carried_same o s same =
      same_options (carried o) (carried s)
      (λ p is. carries s p (sym (same (is_for x.same_digest p)) ∙ carried_is o p is))
      (λ p is. carries o p (same (is_for x.same_digest p) ∙ carried_is s p is))

  module _ (a b : History D K G C) (firsts : SameElements (first_votes x a) (first_votes x b)) where
    tested_same : (kind : Kind) (i : ℕ) (test : Vote G D → Bool)
        → is_some_and (first_vote x a kind i) test ≡ is_some_and (first_vote x b kind i) test
    tested_same kind i test =
        sym (positive (is_some_and (first_vote x a kind i) test))
        ∙ (ap (λ n. nat_lt 0 n)
        (sym (count_at test (first_votes x a) kind i (firsts_apart x a))
        ∙ (firsts (λ v. test v && is_vote_of kind i v) ∙ count_at test (first_votes x b) kind i (firsts_apart x b)))
        ∙ positive (is_some_and (first_vote x b kind i) test))

    led_same : (o : Option Participant)
        → carried (option_and_then (λ i. first_vote x a Notarization i.0) o)
        ≡ carried (option_and_then (λ i. first_vote x b Notarization i.0) o)
    led_same None = refl
    led_same (Some i) =
        carried_same (first_vote x a Notarization i.0) (first_vote x b Notarization i.0) (tested_same Notarization i.0)

-- THE SAME CALLS IN ANOTHER ORDER
module _ {D K G C : Type 0} (x : Config D K G C) (laws : HasLaws x) (a b : History D K G C)
    (possible_a : IsPossible x a) (possible_b : IsPossible x b)
    (same : SameElements (calls_of a) (calls_of b)) (orderless : IsOrderless x a) where
  firsts : SameElements (first_votes x a) (first_votes x b)
  firsts = firsts_same x a b same orderless.votes_apart

  none_constructed : list_any is_construction (calls_of b) ≡ false
  none_constructed = sym (any_same (calls_of a) (calls_of b) same is_construction) ∙ orderless.none_constructed

  one_fixed : list_any (λ call. list_any (fix_different x call) (calls_of b)) (calls_of b) ≡ false
  one_fixed =
      sym (any_same (calls_of a) (calls_of b) same (differs b))
      ∙ (any_count (differs b) (calls_of a)
      ∙ (ap (λ n. nat_lt 0 n)
      (count_same (differs b) (differs a) (calls_of a) (λ call. sym (any_same (calls_of a) (calls_of b) same (fix_different x call))))
      ∙ (sym (any_count (differs a) (calls_of a)) ∙ orderless.one_fixed)))
    where
      differs : History D K G C → Call K G C D → Bool
      differs past call = list_any (fix_different x call) (calls_of past)

  fixed_same : fixed_proposal a ≡ fixed_proposal b
  fixed_same =
      fixed_first x laws a possible_a orderless.none_constructed
      ∙ (first_same evidence_by (same_proposal x.same_digest) (same_proposal-refl x.same_digest laws.digests_same)
      (same_proposal-true x.same_digest laws.digests_equal) (calls_of a) (calls_of b) same
      (one_evidence x laws (calls_of a) orderless.one_fixed) (one_evidence x laws (calls_of b) one_fixed)
      ∙ sym (fixed_first x laws b possible_b none_constructed))

  leaders_same : leaders_proposal x a ≡ leaders_proposal x b
  leaders_same =
      ap (λ o. cond (is_skipped x.mode) None o)
      (led_same x laws a b firsts (leader_of a)
      ∙ ap (λ l. carried (option_and_then (λ i. first_vote x b Notarization i.0) l))
      (leader_same x a b possible_a possible_b same))

  -- What is selected, certified, valid and settled is the same.
  pub selection_same : selection x a ≡ selection x b
  selection_same =
      ap (λ f. selection_by f (leaders_proposal x a)) fixed_same ∙ ap (selection_by (fixed_proposal b)) leaders_same

  pub certified_same : (kind : Kind) → is_certified a kind ≡ is_certified b kind
  certified_same kind =
      certified_by x laws a possible_a orderless.none_constructed kind
      ∙ (any_same (calls_of a) (calls_of b) same (records_kind kind)
      ∙ sym (certified_by x laws b possible_b none_constructed kind))

  pub quorum_same : (kind : Kind) → has_valid_quorum x a kind ≡ has_valid_quorum x b kind
  quorum_same kind =
      ap (nat_le (quorum_in x))
      (⊎_elim
      (λ skips. ap length (skipped_counts x a kind skips) ∙ sym (ap length (skipped_counts x b kind skips)))
      (λ runs.
      count_valid x a kind runs
      ∙ (ap (λ s. count (valid_by s) (first_votes x a)) selection_same
      ∙ (firsts (valid_by (selection x b)) ∙ sym (count_valid x b kind runs))))
      (cases_Bool (is_skipped x.mode)))
    where
      valid_by : ProposalState D → Vote G D → Bool
      valid_by s v = (is_of_kind kind v && is_counted x (proposal_of s) v) && (is_valid x v && true)

  pub clean_too : HasNoBadVote x a → HasNoBadVote x b
  clean_too clean =
      AllPass-from_list_all (is_valid x) (first_votes x b)
      (all_count (is_valid x) (first_votes x b)
      (sym (firsts (λ v. not (is_valid x v)))
      ∙ none_fails (is_valid x) (first_votes x a) (list_all-from_AllPass (is_valid x) (first_votes x a) clean)))

  pub settled_same : (kind : Kind) → is_settled x a kind ≡ is_settled x b kind
  settled_same kind = ap (λ s. not (has_proposals kind) || is_some (proposal_of s)) selection_same
