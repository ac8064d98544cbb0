-- In which views a validator proposes, and on which parents.
use Rattle.batcher_validator.proofs.Words.{◌≡◌, ◌≤◌, ◌<◌, ◌++◌, ◌&&◌, ◌∙◌, ℕ, Bool, true, false, ap, arith, eqb, refl, subst, sym, MatchBool, list_any, le-ltb}
use Rattle.batcher_validator.proofs.Words.{Any-from_list_any, list_any_at, round_in, same_round, subject_of, Proposal, Vote, Epoch, View, conduct_of, Conduct}
use Rattle.batcher_validator.proofs.Words.{IsGrounded, is_below, NodeConfig, NodeView, numbered, same_round-refl, same_round-true, ValidatorHistory}
use Rattle.batcher_validator.proofs.Words.{voter_history, Grounds, HasCast, HasNotCast, IsNotToPropose, IsRunning, ValidatorView, IsOpen, BeginWithOneView}
use Rattle.batcher_validator.proofs.Words.{ForEachLife}

wrong : true ≡ false → ⊥
wrong e = absurd cc

-- a later view isn't below a floor
below : (a b : Epoch) → a ≡ b → (f v : ℕ) → f ≤ v → is_below (numbered b f) (numbered a v) ≡ false
below a b same f v le =
    rw (le-ltb a.0 b.0 (omega (arith, ap (λ (e : Epoch). e.0) same)), le-ltb v f le) (never (eqb a.0 b.0))
  where
    never : (c : Bool) → (c && false) ≡ false
    never true = refl
    never false = refl

module _ {S D K G C L : Type 0} (config : NodeView S G D → NodeConfig D K G C)
    (old : ValidatorView S G D L C) where
  abbrev x : NodeConfig D K G C
  x = config old.voter.node

  abbrev current : ℕ
  current = old.voter.node.window.current

  -- whether it has voted in the view
  module _ (above : old.voter.node.window.finalized < current) (begins : BeginWithOneView old.voter)
      (epoch : x.epoch ≡ old.voter.node.epoch) (opened : old.voter.journal.is_open ≡ true) where
    abbrev is_here : Vote G D → Bool
    is_here vote = same_round (round_in (subject_of vote)) (numbered x.epoch current)

    not_over : is_below old.voter.journal.contents.floor (numbered x.epoch current) ≡ false
    not_over = rw (begins.floor_is opened) (below x.epoch old.voter.node.epoch epoch old.voter.node.window.finalized current (omega (arith, above)))

    pub cast_by :
        (b : Bool) → b ≡ list_any is_here old.voter.journal.contents.votes
        → MatchBool b (HasCast config old current) (HasNotCast config old current)
    cast_by true e = λ past earlier is.
        let it = Any-from_list_any is_here old.voter.journal.contents.votes (sym e) in
        record {
          subject = subject_of it.1;
          of_round = same_round-true (round_in (subject_of it.1)) (numbered x.epoch current) it.4;
          voted = (is.voting.remembers opened).no_others it.1 (it.0, it.2, it.3);
        }
    cast_by false e = λ past earlier is has.
        let it = (is.voting.remembers opened).are_there has.subject has.voted (rw (has.of_round) not_over) in
        wrong (sym (list_any_at is_here old.voter.journal.contents.votes it.there.0 it.vote it.there.1
        (rw (it.there.2, it.is_for, has.of_round) (same_round-refl (numbered x.epoch current)))) ∙ sym e)

  -- a proposal is made of the current view
  here :
      (past : ValidatorHistory D K G C) (earlier : Conduct D) → IsRunning x past earlier old
      → (view : ℕ) → IsOpen x past view → view ≡ current
  here past earlier is view opened =
      opened.is_current ∙ ap (λ w. w.current) (sym is.voting.represents.window_is)

  pub no_parent :
      x.epoch ≡ old.voter.node.epoch
      → ForEachLife x old.voter (λ past earlier. (p : Proposal D)
      → p.round ≡ numbered old.voter.node.epoch current
      → old.voter.node.window.finalized ≤ p.parent.0
      → IsGrounded (conduct_of past) p → ⊥)
      → IsNotToPropose config old
  no_parent same none past earlier is p opened leads epoch voted from ground =
      none (voter_history past) earlier is.voting p
      (ap (λ e. numbered e p.round.view.0) (epoch ∙ same)
      ∙ ap (λ n. numbered old.voter.node.epoch n) (here past earlier is p.round.view.0 opened))
      (subst (λ w. w.finalized ≤ p.parent.0) (sym is.voting.represents.window_is) from) ground

  pub grounds_by :
      (parent : View) → x.epoch ≡ old.voter.node.epoch
      → ForEachLife x old.voter (λ past earlier. (p : Proposal D)
      → p.round ≡ numbered old.voter.node.epoch current → p.parent ≡ parent
      → IsGrounded (conduct_of past ++ earlier) p)
      → Grounds config old current parent
  grounds_by parent same by past earlier is p of on =
      by (voter_history past) earlier is.voting p (of ∙ ap (λ e. numbered e current) same) on
