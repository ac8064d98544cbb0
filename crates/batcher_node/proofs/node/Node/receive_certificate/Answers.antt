use Rattle.batcher_node.proofs.Words.{◌∷◌, ◌∙◌, sym, refl, rules, ap, subst, CertificateCall, CertificateMayNeed, node_config, round_config, round_in}
use Rattle.batcher_node.proofs.Words.{subject_certified, IsNode, Answered}
use Rattle.batcher_node.proofs.Words.{Recorded, Forged, certificate_came}
use Rattle.batcher_node.proofs.Calling.{if_ok, needs_refused, on_err}
use Rattle.batcher_node.proofs.Answering.{needed_there, not_far, certified_there, certificate_told, certificate_forged}
use Rattle.batcher_node.proofs.Tending.{still_tended}
use Rattle.batcher_node.proofs.node.Node.receive_certificate.Goals as goal

pub returns-clause-meets : goal.returns-clause-meets
returns-clause-meets g c = λ past.
    let number = c.round-number.ensures in
    rw (← c.self.view_is)
    (certificate_told g.S.Scheme.meaning g.S.PublicKey.Ord.cmp g.S.Signature.PartialEq.eq
    g.D.PartialEq.eq past _ _ c.args.peer c.args.certificate.now c.in_ok-changed.changed _
    c.in-Some.sender
    c.self.invariant.0.tended (search rules) (search rules) (search rules)
    (rw (← number) (sym c.contains.ensures ∙ c.if-not-contains.false))
    (λ h. sym c.if-has_certificate.false
    ∙ rw (← c.kind.ensures, ← number)
    (certified_there g.S.Scheme.meaning g.S.PublicKey.Ord.cmp g.S.Signature.PartialEq.eq
    g.D.PartialEq.eq past _ c.args.self.now _ _ _ _ c.self.invariant.0.tended
    (not_far c.self.inside.rounds.epoch c.self.inside.rounds.window c.round-number.result
    (sym c.contains.ensures ∙ c.if-not-contains.false)) c.has_certificate.ensures h))
    (sym c.verifies.ensures ∙ c.if-not-verifies.false)
    (rw (← number) (if_ok _ _ _ c.in_ok-changed.was c.in_ok-call.ensures.makes_call))
    (ap (λ r. r.window) c.call.ensures.same) refl)

pub invariant_of-self-2 : goal.invariant_of-self-2
invariant_of-self-2 g c = (
  let h = c.self.invariant.0.history in
      let number = c.round-number.ensures in
      subst (λ r. IsNode g.S.Scheme.meaning g.S.PublicKey.Ord.cmp g.S.Signature.PartialEq.eq
      g.D.PartialEq.eq (record {
        scheme = r.scheme.value;
        epoch = r.epoch;
        retains = r.retains;
        window = r.window;
        rounds = r.slots.entries;
        blocked = c.self.inside.blocked.items;
      })) (sym c.call.ensures.same)
      (record {
        tended =
            still_tended _ _ _ _ _ _ _ c.self.invariant.0.tended _ _ _ _
            (not_far c.self.inside.rounds.epoch c.self.inside.rounds.window c.round-number.result
            (sym c.contains.ensures ∙ c.if-not-contains.false))
            (if_ok _ _ _ c.in_ok-changed.was c.in_ok-call.ensures.makes_call);
        each = search rules;
        history =
            record {
              past =
                  certificate_came c.args.peer c.args.certificate.now
                  (Answered (Recorded c.in_ok-changed.changed)) ∷ h.past;
              represents =
                  certificate_told g.S.Scheme.meaning g.S.PublicKey.Ord.cmp
                  g.S.Signature.PartialEq.eq g.D.PartialEq.eq h.past _ _ c.args.peer
                  c.args.certificate.now c.in_ok-changed.changed _ c.in-Some.sender
                  c.self.invariant.0.tended (search rules) (search rules) (search rules)
                  (rw (← number) (sym c.contains.ensures ∙ c.if-not-contains.false))
                  (λ eligible. sym c.if-has_certificate.false ∙ rw (← c.kind.ensures, ← number)
                  (certified_there g.S.Scheme.meaning g.S.PublicKey.Ord.cmp
                  g.S.Signature.PartialEq.eq g.D.PartialEq.eq h.past _ c.args.self.now _ _ _ _
                  c.self.invariant.0.tended
                  (not_far c.self.inside.rounds.epoch c.self.inside.rounds.window c.round-number.result
                  (sym c.contains.ensures ∙ c.if-not-contains.false)) c.has_certificate.ensures eligible))
                  (sym c.verifies.ensures ∙ c.if-not-verifies.false)
                  (rw (← number) (if_ok _ _ _ c.in_ok-changed.was c.in_ok-call.ensures.makes_call)) refl refl h.represents;
            };
      }),
  c.call.ensures.listed,
)

pub invariant_of-self : goal.invariant_of-self
invariant_of-self g c = (
  let h = c.self.invariant.0.history in
      let number = c.round-number.ensures in
      record {
        tended = search rules;
        each = search rules;
        history =
            record {
              past = certificate_came c.args.peer c.args.certificate.now (Answered Forged) ∷ h.past;
              represents =
                  certificate_forged g.S.Scheme.meaning g.S.PublicKey.Ord.cmp
                  g.S.Signature.PartialEq.eq g.D.PartialEq.eq h.past _ _ c.args.peer
                  c.args.certificate.now c.in-Some.sender
                  (search rules) (search rules) (search rules)
                  (rw (← number) (sym c.contains.ensures ∙ c.if-not-contains.false))
                  (λ eligible. sym c.if-has_certificate.false ∙ rw (← c.kind.ensures, ← number)
                  (certified_there g.S.Scheme.meaning g.S.PublicKey.Ord.cmp
                  g.S.Signature.PartialEq.eq g.D.PartialEq.eq h.past _ c.args.self.now _ _ _ _
                  c.self.invariant.0.tended
                  (not_far c.self.inside.rounds.epoch c.self.inside.rounds.window c.round-number.result
                  (sym c.contains.ensures ∙ c.if-not-contains.false)) c.has_certificate.ensures eligible))
                  (sym c.verifies.ensures ∙ c.if-not-verifies.true)
                  refl refl (λ i within. c.block.ensures.blocks i (search rules)) h.represents;
            };
      },
  c.self.invariant.1,
)

pub returns-in_err-changed-clause-needed : goal.returns-in_err-changed-clause-needed
returns-in_err-changed-clause-needed g c =
    let number = c.round-number.ensures in
    let why : CertificateMayNeed (node_config g.S.Scheme.meaning g.S.PublicKey.Ord.cmp
    g.S.Signature.PartialEq.eq g.D.PartialEq.eq c.args.self.now) c.args.self.now c.args.peer c.args.certificate.now = record {
      certifies = search rules;
      heard = search rules;
      needs = rw (← c.self.view_is) (needed_there g.S.Scheme.meaning g.S.PublicKey.Ord.cmp g.S.Signature.PartialEq.eq g.D.PartialEq.eq _
          (round_in (subject_certified c.args.certificate.now)).view.0 (CertificateCall c.args.certificate.now) _
          c.self.invariant.0.tended
          (rw (← number) (needs_refused (round_config g.S.Scheme.meaning g.S.PublicKey.Ord.cmp
          g.S.Signature.PartialEq.eq g.D.PartialEq.eq) (CertificateCall c.args.certificate.now) _ _ _
          c.in_ok-call.ensures.named _ c.in_err-changed.was)));
    } in
    on_err _ why
