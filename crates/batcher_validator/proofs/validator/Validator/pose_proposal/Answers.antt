use Rattle.batcher_validator.proofs.Words.{rules, refl}
use Rattle.batcher_validator.proofs.Choosing.{judges, proposes}
use Rattle.batcher_validator.proofs.validator.Validator.pose_proposal.Goals as goal

pub returns-in-Some-clause-gives : goal.returns-in-Some-clause-gives
returns-in-Some-clause-gives g c =
    record {
      gives =
          λ past earlier is.
          let it = c.in-Some.ensures in
          proposes _ c.args.self.now c.note_posed.new.self _ c.note_posed.ensures.given
          c.note_posed.ensures.voter c.note_posed.ensures.shelf past earlier is
          c.in-Some.view c.in-Some.parent refl
          (it.open past earlier is, (it.leads past earlier is, (it.first past earlier is, it.grounds past earlier is)));
      ready = search rules;
    }

pub returns-in-Some-next_to_judge-clause-gives : goal.returns-in-Some-next_to_judge-clause-gives
returns-in-Some-next_to_judge-clause-gives g c =
    record {
      gives =
          λ past earlier is.
          let it = c.in-Some-next_to_judge.ensures in
          judges _ c.args.self.now c.note_posed-in-Some-next_to_judge.new.self _ c.note_posed-in-Some-next_to_judge.ensures.given
          c.note_posed-in-Some-next_to_judge.ensures.voter c.note_posed-in-Some-next_to_judge.ensures.shelf past earlier is
          c.in-Some-next_to_judge.proposal refl
          (it.open past earlier is, (it.proposed past earlier is, it.may_vote past earlier is));
      ready = search rules;
    }
