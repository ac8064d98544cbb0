use Rattle.batcher_ffi.proofs.Words.{◌<◌, ◌≤◌, ap, expired, refl, subst, sym, RunMeets, config_by}
use Rattle.batcher_validator.specs.Histories.{chose}
use Rattle.batcher_ffi.proofs.validators.judge.Goals as goal

pub returns-clause-judges : goal.returns-clause-judges
returns-clause-judges c =
    let old = c.args.it.now in
    let new = c.judge.new.self in
    let is = c.proposal.ensures in
    let current = old.voter.node.window.current in
    record {
      codes = refl;
      chooses = λ yes below.
          subst (λ p. RunMeets (config_by old.voter.node) old new (chose p)) is
          (c.judge.ensures.chose yes (subst (λ p. p.round.view.0 ≤ current) (sym is) below));
      gives_up = λ no below.
          subst (λ p. RunMeets (config_by old.voter.node) old new (expired p.round.view.0)) is
          (c.judge.ensures.gave_up no (subst (λ p. p.round.view.0 ≤ current) (sym is) below));
      ahead = λ beyond.
          c.judge.ensures.ahead (subst (λ p. current < p.round.view.0) (sym is) beyond);
      on_disk = ap (λ voter. voter.journal.log.copy) c.judge.ensures.voter;
    }
