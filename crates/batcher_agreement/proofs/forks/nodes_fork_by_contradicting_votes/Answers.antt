use Rattle.batcher_agreement.proofs.Words.{◌≡◌, ◌≤◌, ℕ, Bool, length, sym, subst, Ordering, Epoch, Mode, Meaning, Config, config, History, IsPromised}
use Rattle.batcher_agreement.proofs.Words.{TakesContradicting, numbered, view_history, node_config, mode_of}
use Rattle.batcher_agreement.proofs.forks.nodes_fork_by_contradicting_votes.Goals as goal

module _ {D K G C : Type 0} (compare_keys : K → K → Ordering) (same_signature : G → G → Bool)
    (same_digest : D → D → Bool) (view : ℕ) where
  -- a round of the view, in an epoch
  abbrev round_in : Mode → Meaning D K G C → Epoch → Config D K G C
  round_in mode m epoch = config m compare_keys same_signature same_digest (numbered epoch view) mode

  -- The other node's round is one of the same scheme and number.
  alike : (m other : Meaning D K G C) (epoch other_epoch : Epoch) (mode other_mode : Mode)
      (past other_past : History D K G C) → other ≡ m → other_epoch ≡ epoch
      → (IsPromised (round_in other_mode m epoch) other_past
      → TakesContradicting m same_digest
      (round_in mode m epoch) (round_in other_mode m epoch) past other_past)
      → IsPromised (round_in other_mode other other_epoch) other_past
      → TakesContradicting m same_digest
      (round_in mode m epoch) (round_in other_mode other other_epoch) past other_past
  alike m other epoch other_epoch mode other_mode past other_past same same_epoch takes promised =
      let here =
      subst (λ e. IsPromised (round_in other_mode m e) other_past) same_epoch
      (subst (λ n. IsPromised (round_in other_mode n other_epoch) other_past) same promised) in
      subst (λ n. TakesContradicting m same_digest
      (round_in mode m epoch) (round_in other_mode n other_epoch) past other_past) (sym same)
      (subst (λ e. TakesContradicting m same_digest
      (round_in mode m epoch) (round_in other_mode m e) past other_past) (sym same_epoch)
      (takes here))

pub returns : goal.returns
returns g c = λ node other same same_epoch some past other_past represents other_represents view a b given_a given_b contradict.
    let meaning = g.S.Scheme.meaning in
    let compare_keys = g.S.PublicKey.Ord.cmp in
    let same_signature = g.S.Signature.PartialEq.eq in
    let same_digest = g.D.PartialEq.eq in
    let x = node_config meaning compare_keys same_signature same_digest node in
    let y = node_config meaning compare_keys same_signature same_digest other in
    let mode = mode_of x past view in
    let other_mode = mode_of y other_past view in
    let promised = c.nodes_keep_their_promises.ensures.promised in
    let some_other = subst (λ m. 1 ≤ length m.participants) (sym same) some in
    alike compare_keys same_signature same_digest view
    (meaning node.scheme) (meaning other.scheme) node.epoch other.epoch mode other_mode
    (view_history view past) (view_history view other_past) same same_epoch
    (λ here. c.forks_take_contradicting_votes.ensures node.scheme (numbered node.epoch view)
    mode other_mode (view_history view past) (view_history view other_past) some
    ((promised node some past represents).each_view view) here a b given_a given_b contradict)
    ((promised other some_other other_past other_represents).each_view view)
