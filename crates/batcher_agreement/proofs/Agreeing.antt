-- Why the honest agree.
use Rattle.batcher_agreement.proofs.Words.{◌≡◌, ◌<◌, ◌≤◌, ℕ, zero, suc, Bool, inl, inr, ◌⊎◌, ⊎_elim, refl, ap, sym, ◌∙◌, subst, arith, cases_lt, Meaning, Epoch}
use Rattle.batcher_agreement.proofs.Words.{Round, Certificate, Proposal, Notarize, Nullify, Finalize, numbered, Conduct, Knows, IsGrounded, KnowsProposal}
use Rattle.batcher_agreement.proofs.Words.{IsHonest, IsHeldByHonest, IsNotarized, IsFinal, IsInChain, itself, above, Agree}
use Rattle.batcher_agreement.proofs.Voting.{voted_is_grounded, voted_final_is_notarized, one_voted, not_both}
use Rattle.batcher_agreement.proofs.Certifying.{AreSound, both_voted}

-- a round by its epoch and view
same_number :
    (a : Round) (epoch : Epoch) (view : ℕ) → a.epoch ≡ epoch → a.view.0 ≡ view
    → a ≡ numbered epoch view
same_number a epoch view e v = ap (λ x. numbered x a.view.0) e ∙ ap (numbered epoch) v

module _ {D K G C : Type 0} (m : Meaning D K G C) (is_faulty : ℕ → Bool)
    (holds : ℕ → Certificate C D → Type 0) (conduct : ℕ → Conduct D)
    (sound : AreSound m is_faulty holds conduct) where
  abbrev notarized : Proposal D → Type 0
  notarized p = IsNotarized m is_faulty conduct p

  abbrev final : Proposal D → Type 0
  final p = IsFinal m is_faulty conduct p

  abbrev in_chain_of : Proposal D → Proposal D → Type 0
  in_chain_of p q = IsInChain m is_faulty conduct p q

  one_notarized :
      (p q : Proposal D) → q.round ≡ p.round → notarized p → notarized q → q ≡ p
  one_notarized p q same h k =
      let it = both_voted m is_faulty holds conduct sound (Notarize p) (Notarize q) h k in
      one_voted (conduct it.voter) p q (sound.keep_policy it.voter it.honest) same it.first it.second

  final_are_notarized : (p : Proposal D) → final p → notarized p
  final_are_notarized p h =
      let it = both_voted m is_faulty holds conduct sound (Finalize p) (Finalize p) h h in
      record {
        holder = it.voter;
        honest = it.honest;
        knows = voted_final_is_notarized (conduct it.voter) p (sound.keep_policy it.voter it.honest) it.first;
      }

  not_nullified :
      (p : Proposal D) → final p → IsHeldByHonest m is_faulty conduct (Nullify p.round) → ⊥
  not_nullified p h k =
      let it = both_voted m is_faulty holds conduct sound (Finalize p) (Nullify p.round) h k in
      not_both (conduct it.voter) p (sound.keep_policy it.voter it.honest) it.first it.second

  -- what is notarized has ground, for somebody honest
  record HasGround (q : Proposal D) : Type 0 where
    pub voter : ℕ
    pub honest : IsHonest m is_faulty voter
    pub grounded : IsGrounded (conduct voter) q

  ground : (q : Proposal D) → notarized q → HasGround q
  ground q h =
      let it = both_voted m is_faulty holds conduct sound (Notarize q) (Notarize q) h h in
      record {
        voter = it.voter;
        honest = it.honest;
        grounded = voted_is_grounded (conduct it.voter) q (sound.keep_policy it.voter it.honest) it.first;
      }

  -- a known parent is notarized
  parent_is_notarized :
      (i : ℕ) (number : Round) → IsHonest m is_faulty i → (known : KnowsProposal (conduct i) number)
      → notarized known.proposal
  parent_is_notarized i number honest known =
      ⊎_elim
      (λ k. record { holder = i; honest = honest; knows = k })
      (λ k. final_are_notarized known.proposal (record { holder = i; honest = honest; knows = k }))
      known.known

  -- p is in the chain of q, if it is in that of whatever is notarized between. The parent of q is
  -- of no view before that of p, which would be given up,
  by_parent :
      (p q : Proposal D) → q.round.epoch ≡ p.round.epoch → p.round.view.0 < q.round.view.0
      → final p → notarized q
      → ((r : Proposal D) → r.round.epoch ≡ p.round.epoch → r.round.view.0 < q.round.view.0
      → p.round.view.0 < r.round.view.0 → notarized r → in_chain_of p r)
      → in_chain_of p q
  by_parent p q epoch later h k between =
      ⊎_elim
      (λ under. absurd (not_nullified p h (record {
        holder = g.voter;
        honest = g.honest;
        knows = subst (λ n. Knows (conduct g.voter) (Nullify n)) (sym number) (g.grounded.between p.round.view.0 under later);
      })))
      (λ from. ⊎_elim (λ over. further over g.grounded.parent) (λ upto. at from upto)
      (cases_lt p.round.view.0 q.parent.0))
      (cases_lt q.parent.0 p.round.view.0)
    where
      g : HasGround q
      g = ground q k

      number : p.round ≡ numbered q.round.epoch p.round.view.0
      number = same_number p.round q.round.epoch p.round.view.0 (sym epoch) refl

      -- but of that view,
      at : p.round.view.0 ≤ q.parent.0 → q.parent.0 ≤ p.round.view.0 → in_chain_of p q
      at from upto =
          above q p (same_number p.round q.round.epoch q.parent.0 (sym epoch) (omega (arith, from, upto)))
          (final_are_notarized p h) itself

      -- or of a later one.
      further :
          p.round.view.0 < q.parent.0
          → (q.parent.0 ≡ 0) ⊎ KnowsProposal (conduct g.voter) (numbered q.round.epoch q.parent.0)
          → in_chain_of p q
      further over (inl start) = absurd (omega (arith, over, start))
      further over (inr known) =
          let is_notarized = parent_is_notarized g.voter (numbered q.round.epoch q.parent.0) g.honest known in
          let view : known.proposal.round.view.0 ≡ q.parent.0 = ap (λ (n : Round). n.view.0) known.of_round in
          above q known.proposal known.of_round is_notarized
          (between known.proposal
          (ap (λ (n : Round). n.epoch) known.of_round ∙ epoch)
          (omega (arith, view, g.grounded.earlier))
          (omega (arith, view, over))
          is_notarized)

  -- By induction on a bound of the later view.
  in_chain :
      (n : ℕ) (p q : Proposal D) → q.round.epoch ≡ p.round.epoch → q.round.view.0 < n
      → p.round.view.0 < q.round.view.0 → final p → notarized q → in_chain_of p q
  in_chain zero p q epoch below later h k = absurd (omega (arith, below))
  in_chain (suc n) p q epoch below later h k =
      by_parent p q epoch later h k
      (λ r same earlier above it. in_chain n p r same (omega (arith, earlier, below)) above h it)

  in_later_chains :
      (p q : Proposal D) → q.round.epoch ≡ p.round.epoch → p.round.view.0 ≤ q.round.view.0
      → final p → notarized q → in_chain_of p q
  in_later_chains p q epoch upto h k =
      ⊎_elim
      (λ later. in_chain (suc q.round.view.0) p q epoch (omega arith) later h k)
      (λ from.
      let same = same_number q.round p.round.epoch p.round.view.0 epoch (omega (arith, from, upto)) in
      subst (in_chain_of p) (sym (one_notarized p q same (final_are_notarized p h) k)) itself)
      (cases_lt p.round.view.0 q.round.view.0)

  pub agree : Agree m is_faulty conduct
  agree =
      record {
        one_notarized = one_notarized;
        final_are_notarized = final_are_notarized;
        one_final = λ p q same h k. one_notarized p q same (final_are_notarized p h) k;
        not_nullified = not_nullified;
        in_later_chains = in_later_chains;
        in_later_final_chains = λ p q epoch upto h k. in_later_chains p q epoch upto h (final_are_notarized q k);
      }
