-- What a participant knows to be certified, it holds certificates for, which certify.
use Rattle.batcher_agreement.proofs.Words.{◌≡◌, ◌≤◌, ℕ, Bool, true, List, [], ◌∷◌, ◌++◌, length, Option, Some, None, inl, inr, ◌⊎◌, ⊎_elim, refl, sym, ◌∙◌}
use Rattle.batcher_agreement.proofs.Words.{subst, All, IfSome, AllByRecursion, recursion_from_All, Meaning, subject_certified, certifies_itself, Certificate}
use Rattle.batcher_agreement.proofs.Words.{Subject, Answered, Recorded, NodeEvent, certificate_came, constructed, NodeHistory, NodeView, NodeConfig}
use Rattle.batcher_agreement.proofs.Words.{NodeRepresents, HoldsCertified, Conduct, learned, voted, Knows, AreBacked, AreVerified, HasHeld, HasHeldInLives}
use Rattle.batcher_agreement.proofs.Words.{IsLife, Life, VoterEvent, VoterHistory, acts_of, called, conduct_of, conduct_of_lives, held_by, learned_by}
use Rattle.batcher_agreement.proofs.Words.{node_history, verified, written, AreFewFaulty, AreVoters}
use Rattle.batcher_agreement.proofs.Certifying.{AreSound}

module _ {D : Type 0} where
  -- what is known, by the parts of a conduct
  known_in : (xs ys : Conduct D) (s : Subject D) → Knows (xs ++ ys) s → Knows xs s ⊎ Knows ys s
  known_in [] ys s h = inr h
  known_in (voted t ∷ xs) ys s h = known_in xs ys s h
  known_in (learned t ∷ xs) ys s (inl e) = inl (inl e)
  known_in (learned t ∷ xs) ys s (inr h) =
      ⊎_elim (λ k. inl (inr k)) (λ k. inr k) (known_in xs ys s h)

-- A certificate that was held, for a subject.
record Found (C D : Type 0) (holds : Certificate C D → Type 0) (s : Subject D) : Type 0 where
  pub certificate : Certificate C D
  pub is_of : subject_certified certificate ≡ s
  pub held : holds certificate

module _ {C D : Type 0} where
  found_one :
      (o : Option (Certificate C D)) (s : Subject D)
      → Knows (learned_by o) s
      → Found C D (λ c. o ≡ Some c) s
  found_one None s h = absurd h
  found_one (Some c) s (inl e) = record { certificate = c; is_of = e; held = refl }
  found_one (Some c) s (inr h) = absurd h

module _ {D K G C : Type 0} where
  found_by :
      (event : VoterEvent D K G C) (s : Subject D) → Knows (acts_of event) s
      → Found C D (λ c. held_by event ≡ Some c) s
  found_by (written vote) s h = absurd h
  found_by (verified c) s h = found_one (Some c) s h
  found_by (called event) s h = found_one (held_by (called event)) s h

  found_in :
      (past : VoterHistory D K G C) (s : Subject D) → Knows (conduct_of past) s
      → Found C D (HasHeld past) s
  found_in [] s h = absurd h
  found_in (event ∷ past) s h =
      ⊎_elim
      (λ k. let it = found_by event s k in
      record { certificate = it.certificate; is_of = it.is_of; held = inl it.held })
      (λ k. let it = found_in past s k in
      record { certificate = it.certificate; is_of = it.is_of; held = inr it.held })
      (known_in (acts_of event) (conduct_of past) s h)

  found_in_lives :
      {S : Type 0} (lives : List (Life S D K G C)) (s : Subject D)
      → Knows (conduct_of_lives lives) s
      → Found C D (HasHeldInLives lives) s
  found_in_lives [] s h = absurd h
  found_in_lives (life ∷ earlier) s h =
      ⊎_elim
      (λ k. let it = found_in life.past s k in
      record { certificate = it.certificate; is_of = it.is_of; held = inl it.held })
      (λ k. let it = found_in_lives earlier s k in
      record { certificate = it.certificate; is_of = it.is_of; held = inr it.held })
      (known_in (conduct_of life.past) (conduct_of_lives earlier) s h)

module _ {D K G C : Type 0} (x : NodeConfig D K G C) where
  given_certifies :
      (o : Option (Certificate C D)) → IfSome o (λ c. certifies_itself x.meaning c ≡ true)
      → (c : Certificate C D) → o ≡ Some c → certifies_itself x.meaning c ≡ true
  given_certifies o holds c e =
      subst (λ (o : Option (Certificate C D)). IfSome o (λ d. certifies_itself x.meaning d ≡ true))
      e holds

  event_certifies :
      (event : NodeEvent D K G C) → HoldsCertified x event
      → (c : Certificate C D) → held_by (called event) ≡ Some c
      → certifies_itself x.meaning c ≡ true
  event_certifies (certificate_came peer d (Answered (Recorded changed))) holds c e =
      given_certifies (Some d) holds c e
  event_certifies (constructed view (Some batch)) holds c e =
      given_certifies batch.certificate holds c e
  event_certifies event holds c e = absurd (cc)

  history_certifies :
      (past : VoterHistory D K G C)
      → AllByRecursion (HoldsCertified x) (node_history past) → AreVerified x.meaning past
      → (c : Certificate C D) → HasHeld past c → certifies_itself x.meaning c ≡ true
  history_certifies [] holds are c h = absurd h
  history_certifies (called event ∷ past) holds are c (inl e) = event_certifies event holds.0 c e
  history_certifies (called event ∷ past) holds are c (inr h) =
      history_certifies past holds.1 are c h
  history_certifies (verified d ∷ past) holds are c (inl e) =
      given_certifies (Some d) are.0 c e
  history_certifies (verified d ∷ past) holds are c (inr h) =
      history_certifies past holds are.1 c h
  history_certifies (written vote ∷ past) holds are c (inl e) = absurd (cc)
  history_certifies (written vote ∷ past) holds are c (inr h) =
      history_certifies past holds are c h

module _ {S D K G C : Type 0} (meaning : S → Meaning D K G C)
    (config : NodeView S G D → NodeConfig D K G C)
    (is_meaning : (node : NodeView S G D) → (config node).meaning ≡ meaning node.scheme)
    (held : (node : NodeView S G D) → 1 ≤ length (meaning node.scheme).participants
    → (past : NodeHistory D K G C) → NodeRepresents (config node) past node
    → All (HoldsCertified (config node)) past)
    (m : Meaning D K G C) where
  life_certifies :
      1 ≤ length m.participants → (life : Life S D K G C) → IsLife meaning config m life
      → (c : Certificate C D) → HasHeld life.past c → certifies_itself m c ≡ true
  life_certifies some life is c h =
      let same = is_meaning life.node ∙ is.of_scheme in
      subst (λ n. certifies_itself n c ≡ true) same
      (history_certifies (config life.node) life.past
      (recursion_from_All (HoldsCertified (config life.node)) (node_history life.past)
      (held life.node (subst (λ n. 1 ≤ length n.participants) (sym is.of_scheme) some)
      (node_history life.past) is.represents))
      (subst (λ n. AreVerified n life.past) (sym same) is.are_verified)
      c h)

  lives_certify :
      1 ≤ length m.participants → (all : List (Life S D K G C))
      → AllByRecursion (IsLife meaning config m) all
      → (c : Certificate C D) → HasHeldInLives all c → certifies_itself m c ≡ true
  lives_certify some [] are c h = absurd h
  lives_certify some (life ∷ earlier) are c h =
      ⊎_elim (life_certifies some life are.0 c) (lives_certify some earlier are.1 c) h

  pub voters_are_sound :
      (is_faulty : ℕ → Bool) (lives : ℕ → List (Life S D K G C)) → AreFewFaulty m is_faulty
      → AreVoters meaning config m is_faulty lives
      → AreBacked m is_faulty (λ i. HasHeldInLives (lives i)) (λ i. conduct_of_lives (lives i))
      → AreSound m is_faulty (λ i. HasHeldInLives (lives i)) (λ i. conduct_of_lives (lives i))
  voters_are_sound is_faulty lives few are backed =
      record {
        few_faulty = few;
        keep_policy = are.keep_policy;
        hold = λ i honest s h.
            let it = found_in_lives (lives i) s h in
            record {
              certificate = it.certificate;
              is_of = it.is_of;
              held = it.held;
              certifies = lives_certify few.some (lives i) (are.have_nodes i honest) it.certificate
                  it.held;
            };
        backed = backed;
      }
