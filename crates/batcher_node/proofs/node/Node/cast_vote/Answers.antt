use Rattle.batcher_node.proofs.Words.{◌∷◌, ◌∙◌, sym, refl, rules, ap, subst, OutOfMemoryFault, round_config, round_in, subject_of, OwnCall, IsNode, vote_cast}
use Rattle.batcher_node.proofs.Calling.{err_known, err_fact, if_ok, known_error, own_needs, own_refused, none_named}
use Rattle.batcher_node.proofs.Answering.{needed_there, not_far, own_told, own_named, cast_told}
use Rattle.batcher_node.proofs.Tending.{still_tended}
use Rattle.batcher_node.proofs.node.Node.cast_vote.Goals as goal

pub returns-clause-meets : goal.returns-clause-meets
returns-clause-meets g c =
    let number = c.round-number.ensures in
    cast_told _ _ _ c.args.vote c.in_ok-answer.answer.0 c.in_ok-answer.answer.1 _ c.cast_by.ensures
    (λ past. rw (← c.self.view_is)
    (own_told g.S.Scheme.meaning g.S.PublicKey.Ord.cmp
    g.S.Signature.PartialEq.eq g.D.PartialEq.eq past _ _ c.args.vote
    c.in_ok-answer.answer.0 c.in_ok-answer.answer.1 _
    c.self.invariant.0.tended
    (rw (← number) (sym c.contains.ensures ∙ c.if-not-contains.false))
    (rw (← number) (if_ok _ _ _ c.in_ok-answer.was c.in_ok-call.ensures.makes_call))
    (ap (λ r. r.window) c.call.ensures.same) refl))

pub returns-in_err-answer-clause-named : goal.returns-in_err-answer-clause-named
returns-in_err-answer-clause-named g c =
    let number = c.round-number.ensures in
    rw (← c.self.view_is)
    (err_known _ _ (λ past. own_named g.S.Scheme.meaning g.S.PublicKey.Ord.cmp
    g.S.Signature.PartialEq.eq g.D.PartialEq.eq past _ c.args.self.now c.args.vote _ _ c.self.invariant.0.tended
    (rw (← number) (sym c.contains.ensures ∙ c.if-not-contains.false))
    (rw (← number) (own_refused (round_config g.S.Scheme.meaning g.S.PublicKey.Ord.cmp
    g.S.Signature.PartialEq.eq g.D.PartialEq.eq) c.args.vote _ _ _
    (err_fact _ _ c.in_ok-call.ensures.named _ c.in_err-answer.was))))
    _ c.from_residual-in_err-answer.ensures.1)

pub returns-in_err-call-clause-named : goal.returns-in_err-call-clause-named
returns-in_err-call-clause-named g c =
    let number = c.round-number.ensures in
    rw (← c.self.view_is)
    (err_known _ OutOfMemoryFault (λ past. own_named g.S.Scheme.meaning g.S.PublicKey.Ord.cmp
    g.S.Signature.PartialEq.eq g.D.PartialEq.eq past _ c.args.self.now c.args.vote _ _
    c.self.invariant.0.tended
    (rw (← number) (sym c.contains.ensures ∙ c.if-not-contains.false))
    (rw (← number) (none_named (round_config g.S.Scheme.meaning g.S.PublicKey.Ord.cmp
    g.S.Signature.PartialEq.eq g.D.PartialEq.eq) c.args.vote _ OutOfMemoryFault
    c.in_err-call.ensures.needed refl))) _ c.from_residual.ensures.1)

pub invariant_of-self-2 : goal.invariant_of-self-2
invariant_of-self-2 g c = (
  let h = c.self.invariant.0.history in
      let number = c.round-number.ensures in
      subst (λ r. IsNode g.S.Scheme.meaning g.S.PublicKey.Ord.cmp g.S.Signature.PartialEq.eq
      g.D.PartialEq.eq (record {
        scheme = r.scheme.value;
        epoch = r.epoch;
        retains = r.retains;
        window = r.window;
        rounds = r.slots.entries;
        blocked = c.self.inside.blocked.items;
      })) (sym c.call.ensures.same)
      (record {
        tended =
            still_tended _ _ _ _ _ _ _ c.self.invariant.0.tended _ _ _ _
            (not_far c.self.inside.rounds.epoch c.self.inside.rounds.window c.round-number.result
            (sym c.contains.ensures ∙ c.if-not-contains.false)) (if_ok _ _ _ c.in_ok-answer.was c.in_ok-call.ensures.makes_call);
        each = search rules;
        history =
            record {
              past = vote_cast c.args.vote c.in_ok-answer.answer.0 c.in_ok-answer.answer.1 ∷ h.past;
              represents =
                  own_told g.S.Scheme.meaning g.S.PublicKey.Ord.cmp g.S.Signature.PartialEq.eq
                  g.D.PartialEq.eq h.past _ _ c.args.vote
                  c.in_ok-answer.answer.0 c.in_ok-answer.answer.1 _ c.self.invariant.0.tended
                  (rw (← number) (sym c.contains.ensures ∙ c.if-not-contains.false))
                  (rw (← number) (if_ok _ _ _ c.in_ok-answer.was c.in_ok-call.ensures.makes_call)) refl refl h.represents;
            };
      }),
  c.call.ensures.listed,
)

pub returns-in_err-answer-clause-needed : goal.returns-in_err-answer-clause-needed
returns-in_err-answer-clause-needed g c = λ is.
    let number = c.round-number.ensures in
    rw (← c.self.view_is) (needed_there g.S.Scheme.meaning g.S.PublicKey.Ord.cmp g.S.Signature.PartialEq.eq g.D.PartialEq.eq _
    (round_in (subject_of c.args.vote)).view.0 (OwnCall c.args.vote) _ c.self.invariant.0.tended
    (rw (← number) (own_needs (round_config g.S.Scheme.meaning g.S.PublicKey.Ord.cmp g.S.Signature.PartialEq.eq g.D.PartialEq.eq) c.args.vote _ _ _
    (err_fact _ _ c.in_ok-call.ensures.named _ c.in_err-answer.was)
    (known_error _ _ _ c.from_residual-in_err-answer.ensures.1 is))))
