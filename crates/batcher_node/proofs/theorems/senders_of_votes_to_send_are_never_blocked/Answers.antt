use Rattle.batcher_node.proofs.Words.{◌≤◌, ◌<◌, ◌∙◌, ℕ, length, sym, subst, arith, node_config}
use Rattle.batcher_node.proofs.SendingBlocks.{no_cause_in}
use Rattle.batcher_node.proofs.SendingCertificates.{held_certify}
use Rattle.batcher_node.proofs.theorems.senders_of_votes_to_send_are_never_blocked.Goals as goal

pub returns-clause-not_blocked : goal.returns-clause-not_blocked
returns-clause-not_blocked g c = λ own other alike sent heard represents other_represents i within sends.
    let config_by = node_config g.S.Scheme.meaning g.S.PublicKey.Ord.cmp
    g.S.Signature.PartialEq.eq g.D.PartialEq.eq in
    let x = config_by own in
    let y = config_by other in
    let promised = c.nodes_keep_their_promises.ensures.promised in
    let there = subst (λ m. i < length m.participants) (sym alike) within in
    let some = some_of _ i within in
    other_represents.blocked_are i there
    ∙ no_cause_in x y alike sent represents.answered represents.possible
    (promised own some sent represents).each_view
    (λ number mode. c.senders_of_added_give_no_cause.ensures other.scheme number mode)
    i sends.own_are_signed heard sends.heard_only
    (promised other (some_of _ i there) heard other_represents).blocked_for_cause
  where
    some_of : (n i : ℕ) → i < n → 1 ≤ n
    some_of n i within = omega (arith, within)

pub returns-clause-held_certify : goal.returns-clause-held_certify
returns-clause-held_certify g c = λ node some past represents.
    let x = node_config g.S.Scheme.meaning g.S.PublicKey.Ord.cmp
    g.S.Signature.PartialEq.eq g.D.PartialEq.eq node in
    let promised = c.nodes_keep_their_promises.ensures.promised node some past represents in
    held_certify x past past represents.answered
    (λ view. (promised.each_view view).promises.certificates_verify)
