use Rattle.batcher_node.proofs.Words.{◌∷◌, ◌∙◌, sym, refl, rules, ap, subst, NetworkCall, VoteMayNeed, node_config, round_config, round_in, subject_of, IsNode}
use Rattle.batcher_node.proofs.Words.{Answered, vote_came}
use Rattle.batcher_node.proofs.Calling.{if_ok, needs_refused, on_err}
use Rattle.batcher_node.proofs.Answering.{needed_there, not_far, vote_told}
use Rattle.batcher_node.proofs.Tending.{still_tended}
use Rattle.batcher_node.proofs.node.Node.receive_vote.Goals as goal

pub returns-clause-meets : goal.returns-clause-meets
returns-clause-meets g c = λ past.
    let number = c.round-number.ensures in
    rw (← c.self.view_is)
    (vote_told g.S.Scheme.meaning g.S.PublicKey.Ord.cmp g.S.Signature.PartialEq.eq
    g.D.PartialEq.eq past _ _ c.args.peer c.args.vote c.in_ok-admission.admission _ _
    c.self.invariant.0.tended (search rules) (search rules) (search rules)
    (rw (← number) (sym c.contains.ensures ∙ c.if-not-contains.false))
    (rw (← number) (if_ok _ _ _ c.in_ok-admission.was c.in_ok-call.ensures.makes_call))
    (ap (λ r. r.window) c.call.ensures.same)
    (λ i within. c.block_for_vote.ensures.blocks i (search rules)))

pub invariant_of-self-2 : goal.invariant_of-self-2
invariant_of-self-2 g c = (
  let h = c.self.invariant.0.history in
      let number = c.round-number.ensures in
      subst (λ r. IsNode g.S.Scheme.meaning g.S.PublicKey.Ord.cmp g.S.Signature.PartialEq.eq
      g.D.PartialEq.eq (record {
        scheme = r.scheme.value;
        epoch = r.epoch;
        retains = r.retains;
        window = r.window;
        rounds = r.slots.entries;
        blocked = c.block_for_vote.new.blocked.items;
      })) (sym c.call.ensures.same)
      (record {
        tended =
            still_tended _ _ _ _ _ _ _ c.self.invariant.0.tended _ _ _ _
            (not_far c.self.inside.rounds.epoch c.self.inside.rounds.window c.round-number.result
            (sym c.contains.ensures ∙ c.if-not-contains.false))
            (if_ok _ _ _ c.in_ok-admission.was c.in_ok-call.ensures.makes_call);
        each = search rules;
        history =
            record {
              past = vote_came c.args.peer c.args.vote (Answered c.in_ok-admission.admission) ∷ h.past;
              represents =
                  vote_told g.S.Scheme.meaning g.S.PublicKey.Ord.cmp g.S.Signature.PartialEq.eq
                  g.D.PartialEq.eq h.past _ _ c.args.peer c.args.vote
                  c.in_ok-admission.admission _ _ c.self.invariant.0.tended
                  (search rules) (search rules) (search rules)
                  (rw (← number) (sym c.contains.ensures ∙ c.if-not-contains.false))
                  (rw (← number) (if_ok _ _ _ c.in_ok-admission.was c.in_ok-call.ensures.makes_call)) refl
                  (λ i within. c.block_for_vote.ensures.blocks i (search rules)) h.represents;
            };
      }),
  c.call.ensures.listed,
)

pub returns-in_err-admission-clause-needed : goal.returns-in_err-admission-clause-needed
returns-in_err-admission-clause-needed g c =
    let number = c.round-number.ensures in
    let why : VoteMayNeed (node_config g.S.Scheme.meaning g.S.PublicKey.Ord.cmp
    g.S.Signature.PartialEq.eq g.D.PartialEq.eq c.args.self.now) c.args.self.now c.args.peer c.args.vote = record {
      heard = search rules;
      needs = rw (← c.self.view_is) (needed_there g.S.Scheme.meaning g.S.PublicKey.Ord.cmp g.S.Signature.PartialEq.eq g.D.PartialEq.eq _
          (round_in (subject_of c.args.vote)).view.0 (NetworkCall c.args.peer c.args.vote) _ c.self.invariant.0.tended
          (rw (← number) (needs_refused (round_config g.S.Scheme.meaning g.S.PublicKey.Ord.cmp
          g.S.Signature.PartialEq.eq g.D.PartialEq.eq) (NetworkCall c.args.peer c.args.vote) _ _ _
          c.in_ok-call.ensures.named _ c.in_err-admission.was)));
    } in
    on_err _ why
