-- A certificate that a node recorded or gave certifies what it names.
use Rattle.batcher_voter.proofs.Words.{◌≡◌, ◌≤◌, ◌∙◌, ℕ, Bool, true, false, ◌∷◌, List, Option, Some, None, ap, refl, subst, sym, All, IfSome, length}
use Rattle.batcher_voter.proofs.Words.{option_and_then, recursion_from_All, Ordering, Meaning, certifies_itself, Certificate, Epoch, Batch, called, held_by}
use Rattle.batcher_voter.proofs.Words.{NodeEvent, NodeHistory, certificate_came, constructed, NodeConfig, NodeView, SameNode, node_config, NodeRepresents}
use Rattle.batcher_voter.proofs.Words.{HasHistory, NodeMeets, Err, IfOk, Ok, OnErr, Result, HoldsCertified, Receipt, Answered, Dropped, Outside}
use Rattle.batcher_voter.proofs.Words.{Unknown, Verdict, Forged, Known, Recorded, was_recorded}

module _ {D K G C : Type 0} (x : NodeConfig D K G C) where
  given_certifies :
      (o : Option (Certificate C D)) → IfSome o (λ c. certifies_itself x.meaning c ≡ true)
      → (c : Certificate C D) → o ≡ Some c → certifies_itself x.meaning c ≡ true
  given_certifies o holds c e =
      subst (λ (given : Option (Certificate C D)). IfSome given (λ d. certifies_itself x.meaning d ≡ true)) e holds

  event_certifies :
      (event : NodeEvent D K G C) → HoldsCertified x event → (c : Certificate C D)
      → held_by (called event) ≡ Some c → certifies_itself x.meaning c ≡ true
  event_certifies (certificate_came peer d (Answered (Recorded changed))) holds c e =
      given_certifies (Some d) holds c e
  event_certifies (constructed view (Some batch)) holds c e = given_certifies batch.certificate holds c e
  event_certifies event holds c e = absurd cc

first_of_all : {X : Type 0} (P : X → Type 0) (y : X) (ys : List X) → All P (y ∷ ys) → P y
first_of_all P y ys all = (recursion_from_All P (y ∷ ys) all).0

module _ {S D K G C : Type 0} (meaning : S → Meaning D K G C) (compare_keys : K → K → Ordering)
    (same_signature : G → G → Bool) (same_digest : D → D → Bool) where
  abbrev config : NodeView S G D → NodeConfig D K G C
  config = node_config meaning compare_keys same_signature same_digest

  pub config_same : (old new : NodeView S G D) → SameNode old new → config new ≡ config old
  config_same old new same =
      ap (λ s. made s new.epoch new.retains) same.0
      ∙ ap (λ e. made old.scheme e new.retains) same.1
      ∙ ap (λ r. made old.scheme old.epoch r) same.2
    where
      made : S → Epoch → Bool → NodeConfig D K G C
      made s e r = record {
        meaning = meaning s;
        compare_keys = compare_keys;
        same_signature = same_signature;
        same_digest = same_digest;
        epoch = e;
        retains = r;
      }

  pub certified :
      ((node : NodeView S G D) → 1 ≤ length (meaning node.scheme).participants
      → (past : NodeHistory D K G C) → NodeRepresents (config node) past node
      → All (HoldsCertified (config node)) past)
      → (old new : NodeView S G D) → SameNode old new
      → 1 ≤ length (meaning old.scheme).participants
      → (event : NodeEvent D K G C) (past : NodeHistory D K G C)
      → NodeRepresents (config old) (event ∷ past) new
      → (c : Certificate C D) → held_by (called event) ≡ Some c
      → certifies_itself (config old).meaning c ≡ true
  certified held old new same some event past represents c e =
      event_certifies (config old) event
      (first_of_all (HoldsCertified (config old)) event past
      (subst (λ x. All (HoldsCertified x) (event ∷ past)) (config_same old new same)
      (held new (subst (λ s. 1 ≤ length (meaning s).participants) (sym same.0) some) (event ∷ past)
      (subst (λ x. NodeRepresents x (event ∷ past) new) (sym (config_same old new same)) represents))))
      c e

module _ {D C : Type 0} (K G : Type 0) where
  -- what is held by a call
  pub recorded_is_held :
      (peer : K) (c : Certificate C D) (receipt : Receipt Verdict) → was_recorded receipt ≡ true
      → held_by {D = D} {K = K} {G = G} {C = C} (called (certificate_came peer c receipt)) ≡ Some c
  recorded_is_held peer c (Answered (Recorded changed)) e = refl
  recorded_is_held peer c (Answered Forged) e = absurd cc
  recorded_is_held peer c (Answered Known) e = absurd cc
  recorded_is_held peer c Outside e = absurd cc
  recorded_is_held peer c Dropped e = absurd cc
  recorded_is_held peer c Unknown e = absurd cc

  pub none_is_held :
      (peer : K) (c : Certificate C D) (receipt : Receipt Verdict) → was_recorded receipt ≡ false
      → (d : Certificate C D)
      → held_by {D = D} {K = K} {G = G} {C = C} (called (certificate_came peer c receipt))
      ≡ Some d → ⊥
  none_is_held peer c (Answered (Recorded changed)) e d held = absurd cc
  none_is_held peer c (Answered Forged) e d held = absurd cc
  none_is_held peer c (Answered Known) e d held = absurd cc
  none_is_held peer c Outside e d held = absurd cc
  none_is_held peer c Dropped e d held = absurd cc
  none_is_held peer c Unknown e d held = absurd cc

  pub given_is_held :
      (view : ℕ) (o : Option (Batch (Certificate C D))) (c : Certificate C D)
      → option_and_then (λ batch. batch.certificate) o ≡ Some c
      → held_by {D = D} {K = K} {G = G} {C = C} (called (constructed view o)) ≡ Some c
  given_is_held view None c e = absurd cc
  given_is_held view (Some batch) c e = e

  pub none_is_given :
      (view : ℕ) (o : Option (Batch (Certificate C D)))
      → option_and_then (λ batch. batch.certificate) o ≡ None
      → (c : Certificate C D)
      → held_by {D = D} {K = K} {G = G} {C = C} (called (constructed view o)) ≡ Some c → ⊥
  none_is_given view None e c held = absurd cc
  none_is_given view (Some batch) e c held =
      let differ : None ≡ Some c = sym e ∙ held in
      absurd cc

module _ {S D K G C : Type 0} (meaning : S → Meaning D K G C) (compare_keys : K → K → Ordering)
    (same_signature : G → G → Bool) (same_digest : D → D → Bool)
    (held : (node : NodeView S G D) → 1 ≤ length (meaning node.scheme).participants
    → (past : NodeHistory D K G C)
    → NodeRepresents (config meaning compare_keys same_signature same_digest node) past node
    → All (HoldsCertified (config meaning compare_keys same_signature same_digest node)) past)
    (old new : NodeView S G D) (same : SameNode old new)
    (some : 1 ≤ length (meaning old.scheme).participants)
    (has : HasHistory (config meaning compare_keys same_signature same_digest old) old) where
  abbrev meets : NodeEvent D K G C → Type 0
  meets event = NodeMeets (config meaning compare_keys same_signature same_digest old) old event new

  -- what is recorded,
  pub recorded_certifies :
      {E : Type 0} (result : Result (Receipt Verdict) E) (peer : K) (c : Certificate C D)
      → IfOk result (λ receipt. meets (certificate_came peer c receipt))
      → IfOk result (λ receipt. was_recorded receipt ≡ true
      → certifies_itself (meaning old.scheme) c ≡ true)
  recorded_certifies (Ok receipt) peer c met = λ yes.
      certified meaning compare_keys same_signature same_digest held old new same some
      (certificate_came peer c receipt) has.past (met has.past has.represents) c
      (recorded_is_held K G peer c receipt yes)
  recorded_certifies (Err fault) peer c met = tt

  -- and what is given
  pub given_by_node :
      (view : ℕ) (o : Option (Batch (Certificate C D))) (c : Certificate C D)
      → meets (constructed view o) → Some c ≡ option_and_then (λ batch. batch.certificate) o
      → certifies_itself (meaning old.scheme) c ≡ true
  given_by_node view o c met is =
      certified meaning compare_keys same_signature same_digest held old new same some
      (constructed view o) has.past (met has.past has.represents) c (given_is_held K G view o c (sym is))

  pub window_stays :
      {E : Type 0} (result : Result (Receipt Verdict) E) (peer : K) (c : Certificate C D)
      → IfOk result (λ receipt. meets (certificate_came peer c receipt))
      → OnErr result (new ≡ old) → new.window ≡ old.window
  window_stays (Ok receipt) peer c met err =
      (met has.past has.represents).window_is ∙ sym has.represents.window_is
  window_stays (Err fault) peer c met err = ap (λ (n : NodeView S G D). n.window) err
