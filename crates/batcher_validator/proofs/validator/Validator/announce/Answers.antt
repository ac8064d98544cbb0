use Rattle.batcher_validator.proofs.Words.{rules, ◌∙◌, ap, refl, subst, sym, node_config, take, count_by, filter, is_from, IsRaised}
use Rattle.batcher_validator.proofs.Words.{◌∷◌, called, certificate_format, ForEachLife, IsVoting, round_in, verified, view_finalized, vote_format}
use Rattle.batcher_validator.proofs.Words.{WhyNotFinalized}
use Rattle.batcher_validator.proofs.Ending.{final_less}
use Rattle.batcher_validator.proofs.Finalizing.{gives_final, moves, not_announced, not_forged, not_passed, noted, of_this_epoch}
use Rattle.batcher_validator.proofs.Giving.{contained}
use Rattle.batcher_validator.proofs.validator.Validator.announce.Goals as goal

pub returns-in-Ok-clause-gives : goal.returns-in-Ok-clause-gives
returns-in-Ok-clause-gives g c =
    record {
      gives =
          let old = c.args.self.now in
          let moved = c.finalize_at.new.self in
          let at = c.requires.there in
          let config = node_config g.S.Scheme.meaning g.S.PublicKey.Ord.cmp g.S.Signature.PartialEq.eq g.D.PartialEq.eq in
          let does = c.in-Ok.ensures.finalizes at.certificate at.there in
          gives_final (node_config g.S.Scheme.meaning g.S.PublicKey.Ord.cmp g.S.Signature.PartialEq.eq
          g.D.PartialEq.eq old.voter.node) old c.note_final.new.self at.certificate
          (contained old.shelf.certificates c.args.i at.certificate at.there) c.args.proposal at.is_of
          (moves _ old moved c.note_final.new.self at.certificate c.note_final.ensures.voter
          (subst (λ s. ForEachLife (config old.voter.node) old.voter (λ past earlier. IsVoting (config old.voter.node)
          (called (view_finalized (round_in s).view.0) ∷ verified at.certificate ∷ past) earlier moved.voter)) at.is_of does.meets))
          (subst (λ v. IsRaised c.args.proposal.round old.voter.journal v.journal)
          (sym c.note_final.ensures.voter)
          (subst (λ s. IsRaised (round_in s) old.voter.journal moved.voter.journal) at.is_of does.raised))
          at.after c.requires.lowest
          (noted moved.given old.given c.note_final.new.self.given c.tally_from-left.result _ c.args.proposal.round.view.0
          c.note_final.ensures.given c.finalize_at.ensures.given c.tally_from-left.ensures)
          (c.note_final.ensures.certificates ∙ ap (λ s. filter (is_from c.args.proposal.round.view.0) s.certificates)
          c.finalize_at.ensures.shelf)
          (c.note_final.ensures.handed ∙ ap (λ s. count_by (is_from c.args.proposal.round.view.0)
          (take s.handed s.certificates)) c.finalize_at.ensures.shelf);
      ready = search rules;
    }

pub returns-in-Err-OutOfMemory-clause-stays : goal.returns-in-Err-OutOfMemory-clause-stays
returns-in-Err-OutOfMemory-clause-stays g c =
    let does = c.in-Err-OutOfMemory.ensures.finalizes c.requires.there.certificate c.requires.there.there in
    not_announced _ c.args.self.now c.finalize_at.new.self c.finalize_at.ensures.given
    c.finalize_at.ensures.shelf does.stays does.unraised

pub returns-in-Err-Full-clause-stays : goal.returns-in-Err-Full-clause-stays
returns-in-Err-Full-clause-stays g c =
    let does = c.in-Err-Full.ensures.finalizes c.requires.there.certificate c.requires.there.there in
    not_announced _ c.args.self.now c.finalize_at.new.self c.finalize_at.ensures.given
    c.finalize_at.ensures.shelf does.stays does.unraised

pub returns-in-Err-Closed-clause-stays : goal.returns-in-Err-Closed-clause-stays
returns-in-Err-Closed-clause-stays g c =
    let does = c.in-Err-Closed.ensures.finalizes c.requires.there.certificate c.requires.there.there in
    not_announced _ c.args.self.now c.finalize_at.new.self c.finalize_at.ensures.given
    c.finalize_at.ensures.shelf does.stays does.unraised

pub returns-in-Err-NotOfEpoch-clause-nothing : goal.returns-in-Err-NotOfEpoch-clause-nothing
returns-in-Err-NotOfEpoch-clause-nothing g c = λ none.
    let old = c.args.self.now in
    let at = c.requires.there in
    let config = node_config g.S.Scheme.meaning g.S.PublicKey.Ord.cmp g.S.Signature.PartialEq.eq g.D.PartialEq.eq in
    of_this_epoch (node_config g.S.Scheme.meaning g.S.PublicKey.Ord.cmp g.S.Signature.PartialEq.eq
    g.D.PartialEq.eq old.voter.node) old refl old.given.announced c.args.i c.args.proposal c.requires.there
    (subst (WhyNotFinalized (config old.voter.node) (vote_format g.S.Signature.Codec.format g.D.Codec.format)
    (certificate_format g.S.Certificate.OwnedCodec.format g.D.Codec.format) g.L.Log.is_too_small g.L.Log.is_honest
    g.L.Log.may_leave g.L.Log.is_copied_as old.voter at.certificate c.finalize_at.new.self.voter) c.in-Err-NotOfEpoch.field-0-is
    (c.in-Err-NotOfEpoch.ensures.finalizes at.certificate at.there).why)

pub returns-in-Err-Passed-clause-nothing : goal.returns-in-Err-Passed-clause-nothing
returns-in-Err-Passed-clause-nothing g c = λ none.
    let old = c.args.self.now in
    let at = c.requires.there in
    let config = node_config g.S.Scheme.meaning g.S.PublicKey.Ord.cmp g.S.Signature.PartialEq.eq g.D.PartialEq.eq in
    not_passed (node_config g.S.Scheme.meaning g.S.PublicKey.Ord.cmp g.S.Signature.PartialEq.eq
    g.D.PartialEq.eq old.voter.node) old refl old.given.announced c.args.i c.args.proposal c.requires.there
    (subst (WhyNotFinalized (config old.voter.node) (vote_format g.S.Signature.Codec.format g.D.Codec.format)
    (certificate_format g.S.Certificate.OwnedCodec.format g.D.Codec.format) g.L.Log.is_too_small g.L.Log.is_honest
    g.L.Log.may_leave g.L.Log.is_copied_as old.voter at.certificate c.finalize_at.new.self.voter) c.in-Err-Passed.field-0-is
    (c.in-Err-Passed.ensures.finalizes at.certificate at.there).why)

pub returns-in-Err-Forged-clause-nothing : goal.returns-in-Err-Forged-clause-nothing
returns-in-Err-Forged-clause-nothing g c = λ none.
    let old = c.args.self.now in
    let at = c.requires.there in
    let config = node_config g.S.Scheme.meaning g.S.PublicKey.Ord.cmp g.S.Signature.PartialEq.eq g.D.PartialEq.eq in
    not_forged (node_config g.S.Scheme.meaning g.S.PublicKey.Ord.cmp g.S.Signature.PartialEq.eq
    g.D.PartialEq.eq old.voter.node) old refl old.given.announced c.args.i c.args.proposal c.requires.there
    (subst (WhyNotFinalized (config old.voter.node) (vote_format g.S.Signature.Codec.format g.D.Codec.format)
    (certificate_format g.S.Certificate.OwnedCodec.format g.D.Codec.format) g.L.Log.is_too_small g.L.Log.is_honest
    g.L.Log.may_leave g.L.Log.is_copied_as old.voter at.certificate c.finalize_at.new.self.voter) c.in-Err-Forged.field-0-is
    (c.in-Err-Forged.ensures.finalizes at.certificate at.there).why)

pub returns-in-Err-Full-clause-too_long : goal.returns-in-Err-Full-clause-too_long
returns-in-Err-Full-clause-too_long g c = λ is. record {
  place = c.args.i;
  proposal = c.args.proposal;
  final = c.requires.there;
  too_long =
      let old = c.args.self.now in
      let at = c.requires.there in
      let config = node_config g.S.Scheme.meaning g.S.PublicKey.Ord.cmp g.S.Signature.PartialEq.eq g.D.PartialEq.eq in
      (subst (WhyNotFinalized (config old.voter.node) (vote_format g.S.Signature.Codec.format g.D.Codec.format)
      (certificate_format g.S.Certificate.OwnedCodec.format g.D.Codec.format) g.L.Log.is_too_small g.L.Log.is_honest
      g.L.Log.may_leave g.L.Log.is_copied_as old.voter at.certificate c.finalize_at.new.self.voter) c.in-Err-Full.field-0-is
      (c.in-Err-Full.ensures.finalizes at.certificate at.there).why).1;
}

pub returns-in-Err-OutOfMemory-clause-memory : goal.returns-in-Err-OutOfMemory-clause-memory
returns-in-Err-OutOfMemory-clause-memory g c = λ is.
    let old = c.args.self.now in
    let at = c.requires.there in
    let config = node_config g.S.Scheme.meaning g.S.PublicKey.Ord.cmp g.S.Signature.PartialEq.eq g.D.PartialEq.eq in
    (subst (WhyNotFinalized (config old.voter.node) (vote_format g.S.Signature.Codec.format g.D.Codec.format)
    (certificate_format g.S.Certificate.OwnedCodec.format g.D.Codec.format) g.L.Log.is_too_small g.L.Log.is_honest
    g.L.Log.may_leave g.L.Log.is_copied_as old.voter at.certificate c.finalize_at.new.self.voter) c.in-Err-OutOfMemory.field-0-is
    (c.in-Err-OutOfMemory.ensures.finalizes at.certificate at.there).why)

pub returns-in-Err-Full-clause-full : goal.returns-in-Err-Full-clause-full
returns-in-Err-Full-clause-full g c = λ is.
    let old = c.args.self.now in
    let at = c.requires.there in
    let config = node_config g.S.Scheme.meaning g.S.PublicKey.Ord.cmp g.S.Signature.PartialEq.eq g.D.PartialEq.eq in
    (subst (WhyNotFinalized (config old.voter.node) (vote_format g.S.Signature.Codec.format g.D.Codec.format)
    (certificate_format g.S.Certificate.OwnedCodec.format g.D.Codec.format) g.L.Log.is_too_small g.L.Log.is_honest
    g.L.Log.may_leave g.L.Log.is_copied_as old.voter at.certificate c.finalize_at.new.self.voter) c.in-Err-Full.field-0-is
    (c.in-Err-Full.ensures.finalizes at.certificate at.there).why).0

pub returns-in-Err-Closed-clause-closed : goal.returns-in-Err-Closed-clause-closed
returns-in-Err-Closed-clause-closed g c = λ is.
    let old = c.args.self.now in
    let at = c.requires.there in
    let config = node_config g.S.Scheme.meaning g.S.PublicKey.Ord.cmp g.S.Signature.PartialEq.eq g.D.PartialEq.eq in
    (subst (WhyNotFinalized (config old.voter.node) (vote_format g.S.Signature.Codec.format g.D.Codec.format)
    (certificate_format g.S.Certificate.OwnedCodec.format g.D.Codec.format) g.L.Log.is_too_small g.L.Log.is_honest
    g.L.Log.may_leave g.L.Log.is_copied_as old.voter at.certificate c.finalize_at.new.self.voter) c.in-Err-Closed.field-0-is
    (c.in-Err-Closed.ensures.finalizes at.certificate at.there).why)

pub returns-in-Ok-clause-less : goal.returns-in-Ok-clause-less
returns-in-Ok-clause-less g c =
    let old = c.args.self.now in
    final_less (node_config g.S.Scheme.meaning g.S.PublicKey.Ord.cmp g.S.Signature.PartialEq.eq
    g.D.PartialEq.eq old.voter.node) old c.note_final.new.self c.args.proposal c.args.i c.requires.there
    (ap (λ given. given.announced) c.note_final.ensures.given)
    (c.note_final.ensures.certificates ∙ ap (λ s. filter (is_from c.args.proposal.round.view.0) s.certificates)
    c.finalize_at.ensures.shelf)
