-- What a validator votes for, by what its voter permits.
use Rattle.batcher_validator.proofs.Words.{◌≡◌, ◌≤◌, ◌<◌, ◌+◌, ◌∙◌, ℕ, Bool, true, false, ap, arith, eq-eqb, inl, inr, refl, subst, sym, cases_lt}
use Rattle.batcher_validator.proofs.Words.{same_proposal, Proposal, Subject, Notarize, Nullify, Finalize, conduct_of, Conduct, Knows, NodeConfig, NodeView}
use Rattle.batcher_validator.proofs.Words.{is_of, numbered, same_proposal-true, same_round-refl, ValidatorHistory, conduct_in, voter_history, window_by}
use Rattle.batcher_validator.proofs.Words.{IsPreferred, CannotSign, CannotVote, IsNotToSign, ForEachRun, IsRunning, ValidatorView, IsContested, MaySign}
use Rattle.batcher_validator.proofs.Words.{MayVote, knows_before}
use Rattle.batcher_validator.proofs.Words.{from_first, same_epoch, RestsOnLearned, BeginWithOneView, ForEachLife, IsFinalizable, Permits, Permission, Refused}
use Rattle.batcher_validator.proofs.Words.{Rule}
use Rattle.batcher_validator.proofs.Refusing.{refused_is_contested}
use Rattle.batcher_voter.specs.declared.answers.Permission.TheVariants.{Sign}

wrong : true ≡ false → ⊥
wrong e = absurd cc

-- what holds below a number, and of it
pub one_more :
    (Q : ℕ → Type 0) (n : ℕ) → ((k : ℕ) → k < n → Q k) → Q n → (k : ℕ) → k < n + 1 → Q k
one_more Q n before at k lt = elim (cases_lt k n) [
  | inl below ↦ before k below
  | inr from ↦ subst Q (same from) at
]
  where
    same : n ≤ k → n ≡ k
    same from = omega (arith, from, lt)

-- A proposal is the same as itself.
pub proposal_itself :
    {D : Type 0} (same : D → D → Bool) → ((a : D) → same a a ≡ true) → (p : Proposal D)
    → same_proposal same p p ≡ true
proposal_itself same same_itself p =
    rw (same_round-refl p.round, eq-eqb p.parent.0 p.parent.0 refl, same_itself p.payload) refl

module _ {S D K G C L : Type 0} (config : NodeView S G D → NodeConfig D K G C)
    (old : ValidatorView S G D L C) where
  abbrev x : NodeConfig D K G C
  x = config old.voter.node

  -- what a vote rests on, as the voter's knowledge begins with the final view
  module _ (begins : BeginWithOneView old.voter) (past : ValidatorHistory D K G C) (earlier : Conduct D)
      (is : IsRunning x past earlier old) where
    first : old.voter.knowledge.floor ≡ (window_by past).finalized
    first = begins.from_final ∙ ap (λ w. w.finalized) is.voting.represents.window_is

    pub rests_then :
        (s : Subject D)
        → RestsOnLearned (conduct_of (voter_history past)) (window_by past).finalized s
        → RestsOnLearned (conduct_of (voter_history past)) old.voter.knowledge.floor s
    rests_then s rests = subst (λ n. RestsOnLearned (conduct_of (voter_history past)) n s) (sym first) rests

  module _ (same : D → D → Bool) (itself : (p : Proposal D) → same_proposal same p p ≡ true)
      (begins : BeginWithOneView old.voter) (s : Subject D) where
    pub refused_by :
        (rule : Rule G D) → ForEachLife x old.voter (Permits x same old.voter s (Refused rule))
        → CannotVote config old s
    refused_by rule permits past earlier is may =
        refused_is_contested same itself (conduct_of (voter_history past)) earlier is.voting.keeps_policy
        old.voter.knowledge.floor s rule (permits (voter_history past) earlier is.voting) may.cleared
        (rests_then begins past earlier is s may.rests)

  -- What is preferred isn't refused, where it may be voted for.
  module _ (same : D → D → Bool) (itself : (p : Proposal D) → same_proposal same p p ≡ true)
      (begins : BeginWithOneView old.voter) (epoch : x.epoch ≡ old.voter.node.epoch)
      (opened : old.voter.journal.is_open ≡ true) (answer : Permission G D) where
    abbrev pub Finalizes : Subject D → Type 0
    Finalizes s =
        (p : Proposal D) → s ≡ Finalize p → old.voter.journal.is_open ≡ true
        → is_of old.voter.node.epoch old.voter.node.window p.round ≡ true
        → IsFinalizable same old.voter p → answer ≡ Sign

    pub refused_unpreferred :
        (s : Subject D) (rule : Rule G D) → answer ≡ Refused rule
        → ForEachLife x old.voter (Permits x same old.voter s (Refused rule)) → Finalizes s
        → IsPreferred same old.voter s
        → ForEachRun x old (λ past earlier. MayVote x earlier past s → ⊥)
    refused_unpreferred (Notarize p) rule refused permits finalizes preferred past earlier is may =
        refused_by same itself begins (Notarize p) rule permits past earlier is may
    refused_unpreferred (Nullify r) rule refused permits finalizes preferred past earlier is may =
        refused_by same itself begins (Nullify r) rule permits past earlier is may
    refused_unpreferred (Finalize p) rule refused permits finalizes preferred past earlier is may =
        other (sym refused ∙ finalizes p refl opened within preferred)
      where
        within : is_of old.voter.node.epoch old.voter.node.window p.round ≡ true
        within =
            subst (λ e. is_of e old.voter.node.window p.round ≡ true) epoch
            (subst (λ w. is_of x.epoch w p.round ≡ true) (sym is.voting.represents.window_is) may.within)

        other : Refused rule ≡ Sign → ⊥
        other e = absurd cc

  -- of a view: what is known to be notarized there may not be finalized
  module _ (same : D → D → Bool) (identical : (a b : D) → same a b ≡ true → a ≡ b)
      (itself : (p : Proposal D) → same_proposal same p p ≡ true)
      (epoch : x.epoch ≡ old.voter.node.epoch) (view : ℕ)
      (from : old.voter.node.window.finalized ≤ view) where
    -- a proposal that may be finalized is of the epoch
    of_view :
        (past : ValidatorHistory D K G C) (earlier : Conduct D) (p : Proposal D)
        → p.round.view.0 ≡ view → MayVote x earlier past (Finalize p)
        → p.round ≡ numbered old.voter.node.epoch view
    of_view past earlier p here may =
        let epoch_is = same_epoch x.epoch (window_by past) p.round may.within in
        ap (λ e. numbered e p.round.view.0) (epoch_is ∙ epoch) ∙ ap (λ n. numbered old.voter.node.epoch n) here

    pub not_finalized :
        (q : Proposal D)
        → ForEachLife x old.voter (λ past earlier. old.voter.node.window.finalized ≤ view
        → (q.round ≡ numbered old.voter.node.epoch view) × Knows (conduct_of past) (Notarize q))
        → CannotSign config old (Finalize q)
        → (p : Proposal D) → p.round.view.0 ≡ view → IsNotToSign config old (Finalize p)
    not_finalized q known cannot p here past earlier is wanted may = of_same_or (same_proposal same q p) refl
      where
        it : (q.round ≡ numbered old.voter.node.epoch view)
            × Knows (conduct_of (voter_history past)) (Notarize q)
        it = known (voter_history past) earlier is.voting from

        of_same_or : (b : Bool) → same_proposal same q p ≡ b
            → IsContested (conduct_in earlier past) (Finalize p)
        of_same_or true e =
            let equal = same_proposal-true same identical q p e in
            subst (λ r. IsContested (conduct_in earlier past) (Finalize r)) equal
            (cannot past earlier is (subst (λ r. MaySign x earlier past (Finalize r)) (sym equal) may))
        of_same_or false e =
            record {
              other = q;
              of_round = it.0 ∙ sym (of_view past earlier p here may.0);
              differs = λ equal. wrong (sym (subst (λ r. same_proposal same r p ≡ true) (sym equal) (itself p)) ∙ e);
              known = knows_before (conduct_of (voter_history past)) earlier (Notarize q) it.1;
            }

  -- Nothing is finalized of a view before the final one,
  pub before_final :
      (view : ℕ) → view < old.voter.node.window.finalized
      → (p : Proposal D) → p.round.view.0 ≡ view → IsNotToSign config old (Finalize p)
  before_final view lt p here past earlier is wanted may =
      absurd (omega (
        arith,
        lt,
        here,
        from_first x.epoch (window_by past) p.round may.0.within,
        ap (λ w. w.finalized) is.voting.represents.window_is,
      ))

  -- nor of one above all of which a proposal is known to be notarized.
  pub all_views :
      (last : ℕ) → ForEachLife x old.voter (λ past earlier. (p : Proposal D)
      → p.round.epoch ≡ old.voter.node.epoch → Knows (conduct_of past) (Notarize p)
      → p.round.view.0 ≤ last)
      → x.epoch ≡ old.voter.node.epoch
      → ((view : ℕ) → view < last + 1 → (p : Proposal D)
      → p.round.view.0 ≡ view → IsNotToSign config old (Finalize p))
      → (p : Proposal D) → IsNotToSign config old (Finalize p)
  all_views last none epoch each p past earlier is wanted may =
      each p.round.view.0
      (omega (
        arith,
        none (voter_history past) earlier is.voting p
            (same_epoch x.epoch (window_by past) p.round may.0.within ∙ epoch) may.0.rests,
      ))
      p refl past earlier is wanted may
