use Rattle.batcher_node.proofs.Words.{numbered, view_history, mode_of, node_config}
use Rattle.batcher_node.proofs.Answering.{rests_if_unchanged}
use Rattle.batcher_node.proofs.Promising.{node_promised}
use Rattle.batcher_node.proofs.theorems.nodes_keep_their_promises.Goals as goal

pub returns-clause-promised : goal.returns-clause-promised
returns-clause-promised g c = λ node some past h.
    let x = node_config g.S.Scheme.meaning g.S.PublicKey.Ord.cmp
    g.S.Signature.PartialEq.eq g.D.PartialEq.eq node in
    node_promised x
    (λ before view possible.
    c.possible_histories_are_promised.ensures node.scheme (numbered node.epoch view)
    (mode_of x before view) some (view_history view before) possible)
    some past h.answered h.possible

pub returns-clause-complete : goal.returns-clause-complete
returns-clause-complete g c = λ node some past h rests view within kind.
    (returns-clause-promised g c node some past h).rested_are_complete view
    (rests_if_unchanged g.S.Scheme.meaning g.S.PublicKey.Ord.cmp
    g.S.Signature.PartialEq.eq g.D.PartialEq.eq past node node h view within (rests view))
    kind
