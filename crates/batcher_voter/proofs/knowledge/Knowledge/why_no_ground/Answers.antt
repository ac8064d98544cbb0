use Rattle.batcher_voter.proofs.Words.{arith, subst, sym, Nullify, Knows, numbered}
use Rattle.batcher_voter.proofs.Grounding.{no_parent_known, not_nullified_here, parent_grounds}
use Rattle.batcher_voter.proofs.knowledge.Knowledge.why_no_ground.Goals as goal

pub returns-then-not-is_parent : goal.returns-then-not-is_parent
returns-then-not-is_parent g c = λ past has.
    no_parent_known c.args.self.now past has c.args.proposal.now c.requires.epoch
    (omega (arith, c.if-parent-floor.false, c.floor.ensures)) c.if-not-is_parent.ensures

pub returns-in-Some : goal.returns-in-Some
returns-in-Some g c = λ past has.
    let p = c.args.proposal.now in
    let it = c.in-Some.ensures.some in (
      it.0,
      (
        it.1.0,
        subst (λ e. Knows past (Nullify (numbered e c.in-Some.view)) → ⊥) (sym c.requires.epoch)
            (not_nullified_here c.args.self.now past has c.in-Some.view
            (omega (arith, it.0, c.if-parent-floor.false, c.floor.ensures)) it.1.1),
      ),
    )

pub returns-in-None : goal.returns-in-None
returns-in-None g c = λ past has. (
  omega (arith, c.if-parent-floor.false, c.floor.ensures),
  parent_grounds c.args.self.now past has c.args.proposal.now c.requires.epoch
      (omega (arith, c.if-parent-floor.false, c.floor.ensures)) c.if-proposal-parent.false
      c.if-not-is_parent.ensures (c.gap.ensures.none c.in-None.is),
)
