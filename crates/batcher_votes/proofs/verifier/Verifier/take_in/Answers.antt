use Rattle.batcher_votes.proofs.Words.{◌≡◌, ◌∙◌, Some, ap, sym, rules, with_kind, is_complete, pending_of, verified_of, verifier_holding, subject_ready}
use Rattle.batcher_votes.proofs.VerifierLemmas.KindChanges.{completes, absorbs, holds_same}
use Rattle.batcher_votes.proofs.VerifierLemmas.Construction.{constructs_one, constructs_none}
use Rattle.batcher_votes.proofs.verifier.Verifier.take_in.Goals as goal

pub invariant_of-self : goal.invariant_of-self
invariant_of-self g c =
    let v = c.self.inside in
    let m = g.S.Scheme.meaning v.scheme.value in
    let same = g.D.PartialEq.eq in
    let held = verifier_holding v.leader v.proposal v.kinds in
    let kind = c.args.kind in
    let subject = c.args.subject in
    let ready : subject_ready same m.batchable v.quorum held v.round kind ≡ Some subject = rw (← c.self.view_is) at c.requires.ready in
    let fine = rw (← c.self.view_is) at c.requires.fine in
    let made = constructs_one m same g.met.D.Digest.identical g.met.D.Eq.laws.refl v.round v.quorum held
    (verifier_holding v.leader v.proposal (with_kind v.kinds kind c.finish.new.self)) c.self.invariant kind subject ready c.args.tried.batch
    c.args.tried.joining.items fine c.for_subject-batch.result c.for_subject-batch.ensures
    (sym c.is_some.ensures ∙ c.if-is_some.true)
    (completes v.leader v.proposal v.kinds kind c.finish.new.self same c.finish.ensures.complete c.finish.ensures.pending
    c.finish.ensures.verified) in
    made.sound

pub returns-then-is_some : goal.returns-then-is_some
returns-then-is_some g c =
    let v = c.self.inside in
    let m = g.S.Scheme.meaning v.scheme.value in
    let same = g.D.PartialEq.eq in
    let held = verifier_holding v.leader v.proposal v.kinds in
    let kind = c.args.kind in
    let subject = c.args.subject in
    let ready : subject_ready same m.batchable v.quorum held v.round kind ≡ Some subject = rw (← c.self.view_is) at c.requires.ready in
    let fine = rw (← c.self.view_is) at c.requires.fine in
    let made = constructs_one m same g.met.D.Digest.identical g.met.D.Eq.laws.refl v.round v.quorum held
    (verifier_holding v.leader v.proposal (with_kind v.kinds kind c.finish.new.self)) c.self.invariant kind subject ready c.args.tried.batch
    c.args.tried.joining.items fine c.for_subject-batch.result c.for_subject-batch.ensures
    (sym c.is_some.ensures ∙ c.if-is_some.true)
    (completes v.leader v.proposal v.kinds kind c.finish.new.self same c.finish.ensures.complete c.finish.ensures.pending
    c.finish.ensures.verified) in
    record {
      takes = rw (← c.self.view_is) made.takes;
      certifies = rw (← c.self.view_is) made.certifies;
      names = made.names;
      no_memory = search rules;
      unchanged = search rules;
      same = search rules;
    }

pub invariant_of-self-in_err-make_room_for_run : goal.invariant_of-self-in_err-make_room_for_run
invariant_of-self-in_err-make_room_for_run g c =
    let v = c.self.inside in
    let own = c.get_mut-certification.ensures.value in
    rw (holds_same v.leader v.proposal v.kinds c.args.kind c.make_room_for_run.new.self (c.make_room_for_run.ensures.complete ∙ ap is_complete own)
    (c.make_room_for_run.ensures.pending ∙ ap pending_of own) (c.make_room_for_run.ensures.verified ∙ ap verified_of own))
    c.self.invariant

pub invariant_of-self-2 : goal.invariant_of-self-2
invariant_of-self-2 g c =
    let v = c.self.inside in
    let m = g.S.Scheme.meaning v.scheme.value in
    let same = g.D.PartialEq.eq in
    let held = verifier_holding v.leader v.proposal v.kinds in
    let kind = c.args.kind in
    let subject = c.args.subject in
    let ready : subject_ready same m.batchable v.quorum held v.round kind ≡ Some subject = rw (← c.self.view_is) at c.requires.ready in
    let fine = rw (← c.self.view_is) at c.requires.fine in
    let made = constructs_none m same g.met.D.Digest.identical g.met.D.Eq.laws.refl v.round v.quorum held
    (verifier_holding v.leader v.proposal (with_kind v.kinds kind c.absorb.new.self)) c.self.invariant kind subject ready c.args.tried.batch
    c.args.tried.joining.items fine c.for_subject-batch.result c.for_subject-batch.ensures
    (sym c.is_some.ensures ∙ c.if-is_some.false)
    (absorbs v.leader v.proposal v.kinds kind c.absorb.new.self subject c.args.tried.joining.items
    (c.absorb.ensures.complete ∙ c.make_room_for_run.ensures.complete ∙ ap is_complete c.get_mut-certification.ensures.value)
    c.absorb.ensures.pending
    (rw (c.as_slice.ensures.value, c.make_room_for_run.ensures.verified, c.get_mut-certification.ensures.value)
    at c.absorb.ensures.verified)) in
    made.sound

pub returns : goal.returns
returns g c =
    let v = c.self.inside in
    let m = g.S.Scheme.meaning v.scheme.value in
    let same = g.D.PartialEq.eq in
    let held = verifier_holding v.leader v.proposal v.kinds in
    let kind = c.args.kind in
    let subject = c.args.subject in
    let ready : subject_ready same m.batchable v.quorum held v.round kind ≡ Some subject = rw (← c.self.view_is) at c.requires.ready in
    let fine = rw (← c.self.view_is) at c.requires.fine in
    let made = constructs_none m same g.met.D.Digest.identical g.met.D.Eq.laws.refl v.round v.quorum held
    (verifier_holding v.leader v.proposal (with_kind v.kinds kind c.absorb.new.self)) c.self.invariant kind subject ready c.args.tried.batch
    c.args.tried.joining.items fine c.for_subject-batch.result c.for_subject-batch.ensures
    (sym c.is_some.ensures ∙ c.if-is_some.false)
    (absorbs v.leader v.proposal v.kinds kind c.absorb.new.self subject c.args.tried.joining.items
    (c.absorb.ensures.complete ∙ c.make_room_for_run.ensures.complete ∙ ap is_complete c.get_mut-certification.ensures.value)
    c.absorb.ensures.pending
    (rw (c.as_slice.ensures.value, c.make_room_for_run.ensures.verified, c.get_mut-certification.ensures.value)
    at c.absorb.ensures.verified)) in
    record {
      takes = rw (← c.self.view_is) made.takes;
      certifies = search rules;
      names = made.names;
      no_memory = search rules;
      unchanged = search rules;
      same = search rules;
    }
