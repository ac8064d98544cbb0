use Rattle.batcher_validator.proofs.Words.{rules, ◌∙◌, Ok, ap, refl, subst, sym, IfSome, node_history, constructed, node_config, voter_history, VoterMeets}
use Rattle.batcher_voter.proofs.Certifying.{certified, given_is_held, none_is_given}
use Rattle.batcher_validator.proofs.Giving.{answers}
use Rattle.batcher_validator.proofs.Going.{never_calm, run_stays, runs, runs_with}
use Rattle.batcher_validator.proofs.validator.Validator.conclude_with_room.Goals as goal

pub returns-in-Some-clause-made : goal.returns-in-Some-clause-made
returns-in-Some-clause-made g c = λ yes.
    let old = c.args.self.now in
    let call = c.call_conclude in
    let made = c.in-Ok-Some.made in
    let config = node_config g.S.Scheme.meaning g.S.PublicKey.Ord.cmp g.S.Signature.PartialEq.eq
    g.D.PartialEq.eq old.voter.node in
    let event = constructed made.view.0 made.batch in
    let held = given_is_held g.row.S-PublicKey.Denot g.row.S-Signature.Denot made.view.0 made.batch c.in-Some.certificate
    (sym c.certificate_of.ensures ∙ c.in-Some.is) in (
      made,
      λ past earlier is. answers config c.shelve.new.self c.note_answer.new.self
          c.note_answer.ensures.voter c.note_answer.ensures.shelf c.note_answer.ensures.given
          _ earlier
          (runs_with config old call.new.self c.shelve.new.self
          call.ensures.frame.voter.contents call.ensures.frame.voter.is_open old.given.calm old.given.presence call.ensures.frame.given call.ensures.frame.shelf
          c.shelve.ensures.voter c.shelve.ensures.given c.shelve.ensures.handed event
          c.in-Some.certificate (λ w. refl) held (λ calm. absurd (never_calm (sym c.requires.stirred ∙ calm)))
          (λ past earlier voting. certified g.S.Scheme.meaning g.S.PublicKey.Ord.cmp
          g.S.Signature.PartialEq.eq g.D.PartialEq.eq
          c.senders_of_votes_to_send_are_never_blocked.ensures.held_certify old.voter.node
          call.new.self.voter.node call.ensures.frame.voter.same c.begins.ensures.some event
          (node_history (voter_history past)) voting.represents c.in-Some.certificate held)
          (sym call.ensures.frame.voter.same.1) c.shelve.ensures.shelves
          (λ past earlier is. is.hears)
          (subst (λ o. IfSome o (λ one. VoterMeets config old.voter call.new.self.voter
          (constructed one.view.0 one.batch))) c.in-Ok-Some.field-0-is c.in-Ok-Some.ensures.meets)
          past earlier is),
    )

pub returns-in-None-clause-made : goal.returns-in-None-clause-made
returns-in-None-clause-made g c = λ yes.
    let old = c.args.self.now in
    let call = c.call_conclude in
    let made = c.in-Ok-Some.made in
    let config = node_config g.S.Scheme.meaning g.S.PublicKey.Ord.cmp g.S.Signature.PartialEq.eq
    g.D.PartialEq.eq old.voter.node in (
      made,
      λ past earlier is. answers config call.new.self c.note_answer-in-None.new.self
          c.note_answer-in-None.ensures.voter c.note_answer-in-None.ensures.shelf c.note_answer-in-None.ensures.given
          _ earlier
          (runs config old call.new.self call.ensures.frame.voter.contents call.ensures.frame.voter.is_open
          old.given.calm old.given.presence call.ensures.frame.given
          (ap (λ s. s.certificates) call.ensures.frame.shelf) (ap (λ s. s.handed) call.ensures.frame.shelf)
          (constructed made.view.0 made.batch) (λ w. refl)
          (none_is_given g.row.S-PublicKey.Denot g.row.S-Signature.Denot made.view.0 made.batch (sym c.certificate_of.ensures ∙ c.in-None.is))
          (λ calm. absurd (never_calm (sym c.requires.stirred ∙ calm))) (λ past earlier is. is.hears)
          (subst (λ o. IfSome o (λ one. VoterMeets config old.voter call.new.self.voter
          (constructed one.view.0 one.batch))) c.in-Ok-Some.field-0-is c.in-Ok-Some.ensures.meets)
          past earlier is),
    )

pub returns-in-Ok-None-clause-answered : goal.returns-in-Ok-None-clause-answered
returns-in-Ok-None-clause-answered g c = λ no past earlier is.
    let old = c.args.self.now in
    let call = c.call_conclude in
    let config = node_config g.S.Scheme.meaning g.S.PublicKey.Ord.cmp g.S.Signature.PartialEq.eq
    g.D.PartialEq.eq old.voter.node in
    answers config call.new.self c.note_answer-in-Ok-None.new.self
    c.note_answer-in-Ok-None.ensures.voter c.note_answer-in-Ok-None.ensures.shelf
    c.note_answer-in-Ok-None.ensures.given past earlier
    (run_stays config old call.new.self call.ensures.frame.voter.contents call.ensures.frame.voter.is_open old.given.calm old.given.presence
    call.ensures.frame.given (ap (λ s. s.certificates) call.ensures.frame.shelf)
    (ap (λ s. s.handed) call.ensures.frame.shelf) refl refl
    (c.in-Ok-None.ensures.stale_stays (ap Ok c.in-Ok-None.field-0-is)) past earlier is)

pub returns-in-Err-clause-refused : goal.returns-in-Err-clause-refused
returns-in-Err-clause-refused g c = record {
  node = search rules;
  stays =
      let old = c.args.self.now in
      let call = c.call_conclude in
      run_stays (node_config g.S.Scheme.meaning g.S.PublicKey.Ord.cmp g.S.Signature.PartialEq.eq
      g.D.PartialEq.eq old.voter.node) old call.new.self call.ensures.frame.voter.contents
      call.ensures.frame.voter.is_open old.given.calm old.given.presence call.ensures.frame.given (ap (λ s. s.certificates) call.ensures.frame.shelf)
      (ap (λ s. s.handed) call.ensures.frame.shelf) refl refl c.in-Err.ensures.refused.stays;
}
