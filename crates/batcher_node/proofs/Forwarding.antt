-- A node stays one where it was asked for a proposal to hand on.
use Rattle.batcher_node.proofs.Words.{◌≡◌, ◌∷◌, ℕ, Bool, true, List, Option, Some, None, refl, sym, subst, inl, length, IfSome, IfNone, Ordering, Participant}
use Rattle.batcher_node.proofs.Words.{Proposal, ForwardCall, ForwardAnswer, Meaning, RoundView, round_config, Slot, contains, numbered, proposal_forwarded}
use Rattle.batcher_node.proofs.Words.{NodeView, MakesCallThere, slot_at, IsNode}
use Rattle.batcher_node.proofs.Calling.{if_some}
use Rattle.batcher_node.proofs.Tending.{still_tended}
use Rattle.batcher_node.proofs.Answering.{forwarded_told}

module _ {S D K G C : Type 0} (meaning : S → Meaning D K G C) (compare_keys : K → K → Ordering)
    (same_signature : G → G → Bool) (same_digest : D → D → Bool)
    (old : NodeView S G D) (rounds : List (ℕ × Slot (RoundView S G D)))
    (view : ℕ) (me : Participant) where
  pub still_node : (o : Option (Option (Proposal D)))
      → IfSome o (λ answer. MakesCallThere (round_config meaning compare_keys same_signature
      same_digest)
      (slot_at old.rounds) (slot_at rounds) view (ForwardCall me) (ForwardAnswer answer))
      → IfNone o (rounds ≡ old.rounds)
      → IsNode meaning compare_keys same_signature same_digest old
      → IsNode meaning compare_keys same_signature same_digest (record old { rounds = rounds })
  still_node None makes_call uncalled node =
      subst (λ r. IsNode meaning compare_keys same_signature same_digest (record old { rounds = r }))
      (sym uncalled) node
  still_node (Some answer) makes_call uncalled node =
      let own = if_some (λ slot. (slot.round.scheme ≡ old.scheme)
      × ((slot.round.number ≡ numbered old.epoch view) × (contains old.window view ≡ true)))
      (slot_at old.rounds view) makes_call.slot makes_call.there (node.tended.own view) in
      record {
        tended =
            still_tended (round_config meaning compare_keys same_signature same_digest)
            (length (meaning old.scheme).participants) old.scheme old.epoch old.window old.rounds
            rounds node.tended (ForwardCall me) (ForwardAnswer answer) old.retains view own.1.1
            (inl makes_call);
        each = node.each;
        history =
            record {
              past = proposal_forwarded view me answer ∷ node.history.past;
              represents =
                  forwarded_told meaning compare_keys same_signature same_digest node.history.past
                  old (record old { rounds = rounds }) view me answer
                  (length (meaning old.scheme).participants) node.tended makes_call refl refl
                  node.history.represents;
            };
      }
