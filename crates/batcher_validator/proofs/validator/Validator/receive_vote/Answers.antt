use Rattle.batcher_validator.proofs.Words.{◌∙◌, false, ap, refl, subst, sym, vote_came, node_config, with_sign, GivenView, VoterMeets}
use Rattle.batcher_validator.proofs.Blocking.{vote_blocks_nobody}
use Rattle.batcher_validator.proofs.Going.{never_calm, runs}
use Rattle.batcher_validator.proofs.Hearing.{silent_vote}
use Rattle.batcher_validator.proofs.validator.Validator.receive_vote.Goals as goal

pub returns-then-blocks_sender-clause-meets : goal.returns-then-blocks_sender-clause-meets
returns-then-blocks_sender-clause-meets g c =
    let old = c.args.self.now in
    let x = node_config g.S.Scheme.meaning g.S.PublicKey.Ord.cmp g.S.Signature.PartialEq.eq
    g.D.PartialEq.eq old.voter.node in
    let event = vote_came c.args.peer c.args.vote c.in-Ok.receipt in
    let voter = c.stir.ensures.voter ∙ c.note_sign.ensures.voter in
    let shelf = c.stir.ensures.shelf ∙ c.note_sign.ensures.shelf ∙ c.call_vote.ensures.frame.shelf in
    runs x old c.stir.new.self
    (ap (λ v. v.journal.contents) voter ∙ c.call_vote.ensures.frame.voter.contents)
    (ap (λ v. v.journal.is_open) voter ∙ c.call_vote.ensures.frame.voter.is_open)
    false (with_sign c.is_sign.result c.sender-who.result old.given.presence)
    (c.stir.ensures.given ∙ ap (λ (it : GivenView g.row.D.Denot). record it { calm = false })
    (c.note_sign.ensures.given ∙ ap (λ (it : GivenView g.row.D.Denot). record it {
      presence = with_sign c.is_sign.result c.sender-who.result it.presence;
    }) c.call_vote.ensures.frame.given))
    (ap (λ s. s.certificates) shelf) (ap (λ s. s.handed) shelf) event
    (λ w. refl) (λ it held. absurd cc) (λ calm. absurd (never_calm calm))
    (λ past earlier is. silent_vote x past old.given.presence is.hears c.args.peer c.args.vote
    c.in-Ok.receipt c.is_sign.result c.sender-who.result c.is_sign.ensures c.sender-who.ensures)
    (subst (λ v. VoterMeets x old.voter v event) (sym voter) c.in-Ok.ensures.meets)

pub returns-else-blocks_sender-clause-meets : goal.returns-else-blocks_sender-clause-meets
returns-else-blocks_sender-clause-meets g c =
    let old = c.args.self.now in
    let x = node_config g.S.Scheme.meaning g.S.PublicKey.Ord.cmp g.S.Signature.PartialEq.eq
    g.D.PartialEq.eq old.voter.node in
    let event = vote_came c.args.peer c.args.vote c.in-Ok.receipt in
    let shelf = c.note_sign.ensures.shelf ∙ c.call_vote.ensures.frame.shelf in
    runs x old c.note_sign.new.self
    (ap (λ v. v.journal.contents) c.note_sign.ensures.voter ∙ c.call_vote.ensures.frame.voter.contents)
    (ap (λ v. v.journal.is_open) c.note_sign.ensures.voter ∙ c.call_vote.ensures.frame.voter.is_open)
    old.given.calm (with_sign c.is_sign.result c.sender-who.result old.given.presence)
    (c.note_sign.ensures.given ∙ ap (λ (it : GivenView g.row.D.Denot). record it {
      presence = with_sign c.is_sign.result c.sender-who.result it.presence;
    }) c.call_vote.ensures.frame.given)
    (ap (λ s. s.certificates) shelf) (ap (λ s. s.handed) shelf) event
    (λ w. refl) (λ it held. absurd cc)
    (λ calm. (calm, vote_blocks_nobody x c.args.peer c.args.vote c.in-Ok.receipt (sym c.if-blocks_sender.ensures)))
    (λ past earlier is. silent_vote x past old.given.presence is.hears c.args.peer c.args.vote
    c.in-Ok.receipt c.is_sign.result c.sender-who.result c.is_sign.ensures c.sender-who.ensures)
    (subst (λ v. VoterMeets x old.voter v event) (sym c.note_sign.ensures.voter) c.in-Ok.ensures.meets)
