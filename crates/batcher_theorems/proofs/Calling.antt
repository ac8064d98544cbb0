-- Lives by calls are lives.
use Rattle.std.proofs.Common.{◌∙◌, ap, refl, subst, sym}
use Rattle.std.specs.Prelude.{◌≡◌, List, [], ◌∷◌}
use Rattle.batcher.specs.Meaning.{Meaning}
use Rattle.batcher.specs.messages.Certificate.{Certificate}
use Rattle.batcher_agreement.specs.Policy.{Conduct}
use Rattle.batcher_bytes.specs.Format.{Format}
use Rattle.batcher_node.specs.Nodes.{NodeConfig, NodeView, SameNode}
use Rattle.batcher_validator.specs.Histories.{ValidatorHistory}
use Rattle.batcher_validator.specs.Running.{IsRunning, ValidatorView}
use Rattle.batcher_theorems.specs.Calls.{AreCalls, AreLivesByCalls, CalledLife, MadeCall, left_after, past_after}
use Rattle.batcher_theorems.specs.Lives.{AreLives, ValidatorLife, acts_in}

module _ {S D K G C : Type 0} (config : NodeView S G D → NodeConfig D K G C)
    (config_same : (old new : NodeView S G D) → SameNode old new → config new ≡ config old) where
  module _ {L : Type 0} where
    runs_on :
        (earlier : Conduct D) (calls : List (MadeCall S D K G C L))
        (past : ValidatorHistory D K G C) (before : ValidatorView S G D L C)
        → IsRunning (config before.voter.node) past earlier before
        → AreCalls config earlier past before calls
        → IsRunning (config (left_after before calls).voter.node) (past_after past calls) earlier
        (left_after before calls)
    runs_on earlier [] past before is are = is
    runs_on earlier (call ∷ later) past before is are =
        runs_on earlier later call.past call.after
        (subst (λ x. IsRunning x call.past earlier call.after)
        (sym (config_same before.voter.node call.after.voter.node are.0.same))
        (are.0.goes_on is)) are.1

    scheme_stays :
        (earlier : Conduct D) (calls : List (MadeCall S D K G C L))
        (past : ValidatorHistory D K G C) (before : ValidatorView S G D L C)
        → AreCalls config earlier past before calls
        → (left_after before calls).voter.node.scheme ≡ before.voter.node.scheme
    scheme_stays earlier [] past before are = refl
    scheme_stays earlier (call ∷ later) past before are =
        scheme_stays earlier later call.past call.after are.1 ∙ are.0.same.0

    pub are_lives :
        (certificates : Format (Certificate C D)) (meaning : S → Meaning D K G C)
        (m : Meaning D K G C) (called : List (CalledLife S D K G C L))
        (lives : List (ValidatorLife S D K G C L))
        → AreLivesByCalls config certificates meaning m called lives
        → AreLives meaning config m lives
    are_lives certificates meaning m [] [] are = tt
    are_lives certificates meaning m [] (life ∷ earlier) are = absurd are
    are_lives certificates meaning m (one ∷ before) [] are = absurd are
    are_lives certificates meaning m (one ∷ before) (life ∷ earlier) are =
        let it = are.0 in
        let left = left_after one.begun one.calls in (
          ap meaning (ap (λ v. v.voter.node.scheme) it.validator_is
              ∙ scheme_stays (acts_in earlier) one.calls _ one.begun it.are_calls) ∙ it.of_scheme,
          (
            subst (λ v. IsRunning (config v.voter.node) life.past (acts_in earlier) v)
                (sym it.validator_is)
                (subst (λ h. IsRunning (config left.voter.node) h (acts_in earlier) left)
                (sym it.past_is)
                (runs_on (acts_in earlier) one.calls _ one.begun it.has_begun.running it.are_calls)),
            are_lives certificates meaning m before earlier are.1,
          ),
        )
