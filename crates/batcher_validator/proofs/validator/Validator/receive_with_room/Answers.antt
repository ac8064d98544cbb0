use Rattle.batcher_validator.proofs.Words.{rules, ◌∙◌, ap, refl, sym, node_history, certificate_came, node_config, voter_history}
use Rattle.batcher_validator.proofs.Words.{subst, with_sign, GivenView, SameNode, VoterMeets}
use Rattle.batcher_voter.proofs.Certifying.{certified, none_is_held, recorded_is_held}
use Rattle.batcher_validator.proofs.Going.{never_calm, run_stays, runs, runs_with}
use Rattle.batcher_validator.proofs.Hearing.{silent_certificate}
use Rattle.batcher_validator.proofs.validator.Validator.receive_with_room.Goals as goal

pub returns-then-is_recorded-clause-meets : goal.returns-then-is_recorded-clause-meets
returns-then-is_recorded-clause-meets g c =
    let old = c.args.self.now in
    let call = c.call_certificate in
    let mid = c.note_sign.new.self in
    let x = node_config g.S.Scheme.meaning g.S.PublicKey.Ord.cmp g.S.Signature.PartialEq.eq
    g.D.PartialEq.eq old.voter.node in
    let event = certificate_came c.args.peer c.args.certificate c.in-Ok.receipt in
    let held = recorded_is_held g.row.S-PublicKey.Denot g.row.S-Signature.Denot c.args.peer c.args.certificate c.in-Ok.receipt
    (sym c.if-is_recorded.ensures) in
    let same = subst (λ v. SameNode old.voter.node v.node) (sym c.note_sign.ensures.voter) call.ensures.frame.voter.same in
    runs_with x old mid c.shelve.new.self
    (ap (λ v. v.journal.contents) c.note_sign.ensures.voter ∙ call.ensures.frame.voter.contents)
    (ap (λ v. v.journal.is_open) c.note_sign.ensures.voter ∙ call.ensures.frame.voter.is_open)
    old.given.calm (with_sign c.is_sign-heard.result c.sender-who.result old.given.presence)
    (c.note_sign.ensures.given ∙ ap (λ (it : GivenView g.row.D.Denot). record it {
      presence = with_sign c.is_sign-heard.result c.sender-who.result it.presence;
    }) call.ensures.frame.given)
    (c.note_sign.ensures.shelf ∙ call.ensures.frame.shelf)
    c.shelve.ensures.voter c.shelve.ensures.given c.shelve.ensures.handed event c.args.certificate
    (λ w. refl) held (λ calm. absurd (never_calm (sym c.requires.stirred ∙ calm)))
    (λ past earlier voting. certified g.S.Scheme.meaning g.S.PublicKey.Ord.cmp
    g.S.Signature.PartialEq.eq g.D.PartialEq.eq
    c.senders_of_votes_to_send_are_never_blocked.ensures.held_certify old.voter.node
    mid.voter.node same c.begins.ensures.some event
    (node_history (voter_history past)) voting.represents c.args.certificate held)
    (sym same.1) c.shelve.ensures.shelves
    (λ past earlier is. silent_certificate x past old.given.presence is.hears c.args.peer c.args.certificate
    c.in-Ok.receipt c.is_sign-heard.result c.sender-who.result c.is_sign-heard.ensures c.sender-who.ensures)
    (subst (λ v. VoterMeets x old.voter v event) (sym c.note_sign.ensures.voter) c.in-Ok.ensures.meets)

pub returns-else-is_recorded-clause-meets : goal.returns-else-is_recorded-clause-meets
returns-else-is_recorded-clause-meets g c =
    let old = c.args.self.now in
    let call = c.call_certificate in
    let x = node_config g.S.Scheme.meaning g.S.PublicKey.Ord.cmp g.S.Signature.PartialEq.eq
    g.D.PartialEq.eq old.voter.node in
    let event = certificate_came c.args.peer c.args.certificate c.in-Ok.receipt in
    let shelf = c.note_sign.ensures.shelf ∙ call.ensures.frame.shelf in
    runs x old c.note_sign.new.self
    (ap (λ v. v.journal.contents) c.note_sign.ensures.voter ∙ call.ensures.frame.voter.contents)
    (ap (λ v. v.journal.is_open) c.note_sign.ensures.voter ∙ call.ensures.frame.voter.is_open)
    old.given.calm (with_sign c.is_sign-heard.result c.sender-who.result old.given.presence)
    (c.note_sign.ensures.given ∙ ap (λ (it : GivenView g.row.D.Denot). record it {
      presence = with_sign c.is_sign-heard.result c.sender-who.result it.presence;
    }) call.ensures.frame.given)
    (ap (λ s. s.certificates) shelf) (ap (λ s. s.handed) shelf) event (λ w. refl)
    (none_is_held g.row.S-PublicKey.Denot g.row.S-Signature.Denot c.args.peer c.args.certificate c.in-Ok.receipt (sym c.if-is_recorded.ensures))
    (λ calm. absurd (never_calm (sym c.requires.stirred ∙ calm)))
    (λ past earlier is. silent_certificate x past old.given.presence is.hears c.args.peer c.args.certificate
    c.in-Ok.receipt c.is_sign-heard.result c.sender-who.result c.is_sign-heard.ensures c.sender-who.ensures)
    (subst (λ v. VoterMeets x old.voter v event) (sym c.note_sign.ensures.voter) c.in-Ok.ensures.meets)

pub returns-in-Err-clause-refused : goal.returns-in-Err-clause-refused
returns-in-Err-clause-refused g c = record {
  node = search rules;
  stays =
      let old = c.args.self.now in
      let call = c.call_certificate in
      run_stays (node_config g.S.Scheme.meaning g.S.PublicKey.Ord.cmp g.S.Signature.PartialEq.eq
      g.D.PartialEq.eq old.voter.node) old call.new.self call.ensures.frame.voter.contents
      call.ensures.frame.voter.is_open old.given.calm old.given.presence call.ensures.frame.given (ap (λ s. s.certificates) call.ensures.frame.shelf)
      (ap (λ s. s.handed) call.ensures.frame.shelf) refl refl c.in-Err.ensures.refused.stays;
}
