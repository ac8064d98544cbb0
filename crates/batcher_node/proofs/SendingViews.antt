-- What each view of a node is given by a participant that sends just what its own node answered as
-- to be sent.
use Rattle.batcher_node.proofs.Words.{◌≡◌, ◌==◌, ℕ, Bool, true, false, not, cond, ◌&&◌, ◌||◌, List, [], ◌∷◌, ◌++◌, Option, Some, Ok, is_some, refl, sym, ap}
use Rattle.batcher_node.proofs.Words.{◌∙◌, subst, ⊎_elim, list_any, list_all, AllPass, All, and_parts, and_from, or_cases, false_from_ne_true, true≢false}
use Rattle.batcher_node.proofs.Words.{false≢true, eqb-true, cases_Bool, or_right, list_any-append, All-head, All-tail, list_all-from_AllPass, Participant}
use Rattle.batcher_node.proofs.Words.{Round, Vote, Kind, Activity, Outcome, Added, Duplicate, Conflicting, Mode, NetworkCall, OwnCall, CertificateCall}
use Rattle.batcher_node.proofs.Words.{LeaderCall, ConstructCall, ForwardCall, NetworkAnswer, OwnAnswer, CertificateAnswer, LeaderAnswer, ConstructAnswer}
use Rattle.batcher_node.proofs.Words.{ForwardAnswer, is_some_and, signer_of, is_kind, kind_of, is_vote_of, Config, config, sender_in, report_by, is_added}
use Rattle.batcher_node.proofs.Words.{is_valid, Event, History, sent_votes, IsPossible, MayCall, AtEachEvent, IsAmong, own_added_by, own_votes_added}
use Rattle.batcher_node.proofs.Words.{votes_sent, sent_bad_vote, SendsAdded, any_more, Answered, Recorded, NodeEvent, vote_came, certificate_came, vote_cast}
use Rattle.batcher_node.proofs.Words.{view_entered, constructed, proposal_forwarded, NodeHistory, at_view, view_history, view_history_by, NodeConfig, IsNamed}
use Rattle.batcher_node.proofs.Words.{AreNamed, to_send_by, view_of, votes_to_send, HearsOnly}

-- LISTS
module _ {X : Type 0} where
  any_behind : (test : X → Bool) (xs ys : List X) → list_any test ys ≡ true
      → list_any test (xs ++ ys) ≡ true
  any_behind test [] ys h = h
  any_behind test (x ∷ xs) ys h = or_right (test x) _ (any_behind test xs ys h)

  any_of_one : (test : X → Bool) (x : X) → list_any test (x ∷ []) ≡ true → test x ≡ true
  any_of_one test x h = ⊎_elim (λ is. is) (λ none. absurd (false≢true none)) (or_cases (test x) false h)

  none_fails : (test : X → Bool) (xs : List X) → list_all test xs ≡ true
      → list_any (λ x. not (test x)) xs ≡ false
  none_fails test [] h = refl
  none_fails test (x ∷ xs) h =
      let parts = and_parts (test x) (list_all test xs) h in
      ap (λ b. not b || list_any (λ x. not (test x)) xs) parts.0 ∙ none_fails test xs parts.1

  pub none_of : (test other : X → Bool) → ((x : X) → other x ≡ true → test x ≡ false)
      → (xs : List X) → list_all test xs ≡ true → list_any other xs ≡ false
  none_of test other so [] h = refl
  none_of test other so (x ∷ xs) h =
      let parts = and_parts (test x) (list_all test xs) h in
      ap (λ b. b || list_any other xs)
      (false_from_ne_true (other x) (λ is. true≢false (sym parts.0 ∙ so x is)))
      ∙ none_of test other so xs parts.1

-- WHAT IS TO BE SENT WAS ADDED
module _ {G D : Type 0} where
  -- whether it is a vote of the view that passes a test
  abbrev pub in_view : ℕ → (Vote G D → Bool) → Vote G D → Bool
  in_view view test vote = (view_of vote == view) && test vote

  -- What is reported was added.
  pub reported_is_added : (vote : Vote G D) (report : Activity G D) (outcome : Outcome)
      → Some report ≡ report_by outcome vote → is_added outcome ≡ true
  reported_is_added vote report (Added retained) is = refl
  reported_is_added vote report (Duplicate retained) is = absurd (true≢false (ap is_some is))
  reported_is_added vote report Conflicting is = absurd (true≢false (ap is_some is))

module _ {D K G C : Type 0} where
  abbrev pub cast_event : Vote G D → Outcome → Option (Activity G D) → Event D K G C
  cast_event vote outcome report = (OwnCall vote, OwnAnswer outcome report)

  added_before : (test : Vote G D → Bool) (more past : History D K G C)
      → list_any test (own_votes_added past) ≡ true
      → list_any test (own_votes_added (more ++ past)) ≡ true
  added_before test [] past h = h
  added_before test (event ∷ more) past h =
      any_behind test (own_added_by event) _ (added_before test more past h)

  added_at : (test : Vote G D → Bool) (vote : Vote G D) (outcome : Outcome)
      (report : Option (Activity G D)) (past : History D K G C) (here : Bool) → here ≡ true
      → is_added outcome ≡ true → test vote ≡ true
      → list_any test (own_votes_added (cond here (cast_event vote outcome report ∷ []) [] ++ past))
      ≡ true
  added_at test vote outcome report past false is added passes = absurd (false≢true is)
  added_at test vote outcome report past true is added passes =
      ap (λ b. list_any test (cond b (vote ∷ []) [] ++ own_votes_added past)) added
      ∙ ap (λ b. b || list_any test (own_votes_added past)) passes

  module _ (x : NodeConfig D K G C) (view : ℕ) (test : Vote G D → Bool) where
    added_now : (past : NodeHistory D K G C) (event : NodeEvent D K G C) → IsNamed x past event
        → list_any (in_view view test) (to_send_by event) ≡ true
        → list_any test (own_votes_added (view_history_by view event ++ view_history view past))
        ≡ true
    added_now past (vote_cast vote outcome (Some report)) named h =
        let parts = and_parts (view_of vote == view) (test vote) (any_of_one (in_view view test) vote h) in
        added_at test vote outcome (Some report) (view_history view past) (view_of vote == view) parts.0
        (reported_is_added vote report outcome named.1.1) parts.1
    added_now past event named h = absurd (false≢true h)

    -- A vote of the view that is to be sent was added there.
    added_there : (sent : NodeHistory D K G C) → AreNamed x sent
        → list_any (in_view view test) (votes_to_send sent) ≡ true
        → list_any test (own_votes_added (view_history view sent)) ≡ true
    added_there [] named h = absurd (false≢true h)
    added_there (event ∷ past) named h =
        ⊎_elim
        (added_now past event named.0)
        (λ before. added_before test (view_history_by view event) (view_history view past)
        (added_there past named.1 before))
        (or_cases _ _
        (sym (list_any-append (in_view view test) (to_send_by event) (votes_to_send past)) ∙ h))

-- OWN VOTES ATTEST
module _ {D K G C : Type 0} (y : Config D K G C) where
  abbrev is_bad : Vote G D → Bool
  is_bad vote = not (is_valid y vote)

  bad_by : (event : Event D K G C) → MayCall y.meaning y.number event.0
      → list_any is_bad (own_added_by event) ≡ false
  bad_by (OwnCall vote, OwnAnswer outcome report) may = by_added (is_added outcome) where
    by_added : (b : Bool) → list_any is_bad (cond b (vote ∷ []) []) ≡ false
    by_added true = ap (λ b. not b || false) may.1
    by_added false = refl
  bad_by event may = refl

  pub own_attest : (past : History D K G C) → IsPossible y past
      → list_any is_bad (own_votes_added past) ≡ false
  own_attest [] possible = refl
  own_attest (event ∷ past) possible =
      list_any-append is_bad (own_added_by event) (own_votes_added past)
      ∙ ap (λ b. b || list_any is_bad (own_votes_added past)) (bad_by event possible.0)
      ∙ own_attest past possible.1.1.1

-- NONE THAT IT SENT IS BAD
module _ {D K G C : Type 0} (y : Config D K G C) (mine : History D K G C) (i : ℕ) where
  abbrev of_it : (Vote G D → Bool) → Vote G D → Bool
  of_it test vote = (signer_of vote == i) && test vote

  in_own_name : (test : Vote G D → Bool) (vote : Vote G D) (o : Option Participant) (named : Bool)
      → is_some_and o (λ p. p.0 == signer_of vote) ≡ named
      → (is_some_and o (λ p. p.0 == i) ≡ true
      → (signer_of vote ≡ i) × IsAmong vote (own_votes_added mine))
      → list_any (of_it test) (cond named (vote ∷ []) []) ≡ true
      → list_any test (own_votes_added mine) ≡ true
  in_own_name test vote o false is sends h = absurd (false≢true h)
  in_own_name test vote o true is sends h =
      let parts = and_parts (signer_of vote == i) (test vote) (any_of_one (of_it test) vote h) in
      (sends (subst (λ j. is_some_and o (λ p. p.0 == j) ≡ true) (eqb-true (signer_of vote) i parts.0) is)).1 test parts.1

  sent_is_added : (test : Vote G D → Bool) (past : History D K G C) (event : Event D K G C)
      → SendsAdded y mine i past event → list_any (of_it test) (sent_votes y event.0) ≡ true
      → list_any test (own_votes_added mine) ≡ true
  sent_is_added test past (NetworkCall sender vote, answer) sends h =
      in_own_name test vote (sender_in y sender) _ refl sends h
  sent_is_added test past event sends h = absurd (false≢true h)

  each_is_added : (test : Vote G D → Bool) (past : History D K G C)
      → AtEachEvent (SendsAdded y mine i) past → list_any (of_it test) (votes_sent y past) ≡ true
      → list_any test (own_votes_added mine) ≡ true
  each_is_added test [] sends h = absurd (false≢true h)
  each_is_added test (event ∷ past) sends h =
      ⊎_elim
      (sent_is_added test past event sends.0)
      (each_is_added test past sends.1)
      (or_cases _ _
      (sym (list_any-append (of_it test) (sent_votes y event.0) (votes_sent y past)) ∙ h))

  pub sent_none_bad : (past : History D K G C) → AtEachEvent (SendsAdded y mine i) past
      → list_any (is_bad y) (own_votes_added mine) ≡ false → (kind : Kind)
      → sent_bad_vote y past kind i ≡ false
  sent_none_bad past sends good kind =
      false_from_ne_true _ (λ bad.
      true≢false (sym (each_is_added (is_bad y) past sends (any_more _ _ weaker _ bad)) ∙ good))
    where
      weaker : (v : Vote G D) → (is_vote_of kind i v && is_bad y v) ≡ true
          → of_it (is_bad y) v ≡ true
      weaker v h =
          let parts = and_parts (is_vote_of kind i v) (is_bad y v) h in
          and_from _ _ (and_parts (is_kind (kind_of v) kind) (signer_of v == i) parts.0).1 parts.1

-- WHAT EACH VIEW IS TOLD

-- the configuration of a round of a node
abbrev pub round_of : {D K G C : Type 0} → NodeConfig D K G C → Round → Mode → Config D K G C
round_of y number mode =
    config y.meaning y.compare_keys y.same_signature y.same_digest number mode

module _ {D K G C : Type 0} (x y : NodeConfig D K G C) (sent : NodeHistory D K G C)
    (named : AreNamed x sent) (i : ℕ)
    (signed : AllPass (λ v. signer_of v == i) (votes_to_send sent)) where
  own_signer : (vote : Vote G D) → IsAmong vote (votes_to_send sent) → signer_of vote ≡ i
  own_signer vote among =
      ⊎_elim
      (λ same. eqb-true (signer_of vote) i same)
      (λ other. absurd (true≢false
      (sym (among (λ v. not (signer_of v == i)) (ap not other))
      ∙ none_fails (λ v. signer_of v == i) (votes_to_send sent)
      (list_all-from_AllPass _ (votes_to_send sent) signed))))
      (cases_Bool (signer_of vote == i))

  module _ (view : ℕ) (number : Round) (mode : Mode) where
    abbrev Sends : History D K G C → Event D K G C → Type 0
    Sends = SendsAdded (round_of y number mode) (view_history view sent) i

    added_in_view : (vote : Vote G D) → IsAmong vote (votes_to_send sent)
        → (view_of vote == view) ≡ true
        → (signer_of vote ≡ i) × IsAmong vote (own_votes_added (view_history view sent))
    added_in_view vote among here = (
      own_signer vote among,
      λ test passes. added_there x view test sent named (among (in_view view test) (and_from _ _ here passes)),
    )

    told_more : (at : ℕ) (event : Event D K G C) (past : History D K G C)
        → ((at == view) ≡ true → Sends past event) → AtEachEvent Sends past
        → AtEachEvent Sends (at_view view at event ++ past)
    told_more at event past here before = by_same (at == view) refl where
      by_same : (b : Bool) → (at == view) ≡ b
          → AtEachEvent Sends (cond b (event ∷ []) [] ++ past)
      by_same true same = (here same, before)
      by_same false same = before

    told_by_it : (event : NodeEvent D K G C) (past : History D K G C)
        → HearsOnly y (votes_to_send sent) i event → AtEachEvent Sends past
        → AtEachEvent Sends (view_history_by view event ++ past)
    told_by_it (vote_came peer vote (Answered admission)) past hears before =
        told_more (view_of vote) (NetworkCall peer vote, NetworkAnswer admission) past
        (λ here is. added_in_view vote (hears is) here) before
    told_by_it (vote_cast vote outcome report) past hears before =
        told_more (view_of vote) (OwnCall vote, OwnAnswer outcome report) past (λ here. hears) before
    told_by_it (certificate_came peer certificate (Answered (Recorded changed))) past hears before =
        told_more _ (CertificateCall certificate, CertificateAnswer changed) past (λ here. tt) before
    told_by_it (view_entered at leader) past hears before =
        told_more at (LeaderCall leader, LeaderAnswer (Ok tt)) past (λ here. tt) before
    told_by_it (constructed at given) past hears before =
        told_more at (ConstructCall, ConstructAnswer given) past (λ here. tt) before
    told_by_it (proposal_forwarded at me given) past hears before =
        told_more at (ForwardCall me, ForwardAnswer given) past (λ here. tt) before
    told_by_it event past hears before = before

    -- Each view is given by the participant just what its own round of the view added.
    pub sends_added : (heard : NodeHistory D K G C) → All (HearsOnly y (votes_to_send sent) i) heard
        → AtEachEvent Sends (view_history view heard)
    sends_added [] hears = tt
    sends_added (event ∷ past) hears =
        told_by_it event (view_history view past)
        (All-head (HearsOnly y (votes_to_send sent) i) event past hears)
        (sends_added past (All-tail (HearsOnly y (votes_to_send sent) i) event past hears))
