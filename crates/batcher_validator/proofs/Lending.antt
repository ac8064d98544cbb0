-- What is lent to be verified is what the next construction looks at.
use Rattle.batcher_validator.proofs.Words.{◌≡◌, ◌∙◌, ℕ, List, Option, Some, None, ap, refl, subst, sym, false≢true, IfSome, is_some, true, option_map, Config}
use Rattle.batcher_validator.proofs.Words.{pending_next, subject_next, RoundView, is_ready_in, LooksAtKind, Attestation, Kind, Subject, one_next, IsNext}
use Rattle.batcher_validator.proofs.Words.{slot_at, LooksAtKindThere, LooksAtThere, Slot}

module _ {S D K G C : Type 0} (round_config : RoundView S G D → Config D K G C)
    (rounds : List (ℕ × Slot (RoundView S G D))) (view : ℕ) (round : RoundView S G D)
    (lent : Some round ≡ option_map (λ slot. slot.round) (slot_at rounds view))
    {A : Type 0} (subject_in : A → Subject D) (list_in : A → List (Attestation G)) where
  its_round : (at : Option (Slot (RoundView S G D))) (slot : Slot (RoundView S G D))
      → Some round ≡ option_map (λ slot. slot.round) at → at ≡ Some slot → round ≡ slot.round
  its_round (Some other) slot is there = cc
  its_round None slot is there = absurd cc

  there : (at : Option (Slot (RoundView S G D)))
      → Some round ≡ option_map (λ slot. slot.round) at → (s : Subject D)
      → (list : List (Attestation G)) → subject_next (round_config round) round.holds ≡ Some s
      → pending_next (round_config round) round.holds ≡ list
      → LooksAtThere round_config at s list
  there None is s list subject pending = absurd cc
  there (Some slot) is s list subject pending =
      let same : round ≡ slot.round = its_round (Some slot) slot is refl in
      record {
        slot = slot;
        there = refl;
        looks = (
          subst (λ r. subject_next (round_config r) r.holds ≡ Some s) same subject,
          subst (λ r. pending_next (round_config r) r.holds ≡ list) same pending,
        );
      }

  pub looks_in :
      (attempt : Option A)
      → option_map subject_in attempt ≡ subject_next (round_config round) round.holds
      → IfSome attempt (λ a. list_in a ≡ pending_next (round_config round) round.holds)
      → IfSome attempt (λ a. LooksAtThere round_config (slot_at rounds view) (subject_in a)
      (list_in a))
  looks_in None subject pending = tt
  looks_in (Some a) subject pending =
      there (slot_at rounds view) lent (subject_in a) (list_in a) (sym subject) (sym pending)

  pub none_in :
      (attempt : Option A)
      → option_map subject_in attempt ≡ subject_next (round_config round) round.holds
      → attempt ≡ None → (s : Subject D) (list : List (Attestation G))
      → LooksAtThere round_config (slot_at rounds view) s list → ⊥
  none_in attempt subject none s list it =
      let same : round ≡ it.slot.round = its_round (slot_at rounds view) it.slot lent it.there in
      let ready : subject_next (round_config round) round.holds ≡ Some s =
      subst (λ r. subject_next (round_config r) r.holds ≡ Some s) (sym same) it.looks.0 in
      no_some (subject_next (round_config round) round.holds) s
      (sym subject ∙ ap (option_map subject_in) none) ready
    where
      no_some : (o : Option (Subject D)) (s : Subject D) → o ≡ None → o ≡ Some s → ⊥
      no_some o s none some = absurd cc

  -- of a kind
  module _ (kind : Kind) where
    kind_there :
        (at : Option (Slot (RoundView S G D)))
        → Some round ≡ option_map (λ slot. slot.round) at → (s : Subject D)
        → (list : List (Attestation G))
        → LooksAtKind (round_config round) round.holds kind s list
        → LooksAtKindThere round_config at kind s list
    kind_there None is s list looks = absurd cc
    kind_there (Some slot) is s list looks = record {
      slot = slot;
      there = refl;
      looks = subst (λ r. LooksAtKind (round_config r) r.holds kind s list)
          (its_round (Some slot) slot is refl) looks;
    }

    pub kind_looks_in :
        (attempt : Option A)
        → IfSome attempt (λ a. LooksAtKind (round_config round) round.holds kind (subject_in a)
        (list_in a))
        → IfSome attempt (λ a. LooksAtKindThere round_config (slot_at rounds view) kind
        (subject_in a) (list_in a))
    kind_looks_in None looks = tt
    kind_looks_in (Some a) looks =
        kind_there (slot_at rounds view) lent (subject_in a) (list_in a) looks

    pub no_kind_in :
        (attempt : Option A)
        → is_some attempt ≡ is_ready_in (round_config round) round.holds kind
        → attempt ≡ None → (s : Subject D) (list : List (Attestation G))
        → LooksAtKindThere round_config (slot_at rounds view) kind s list → ⊥
    no_kind_in attempt ready none s list it =
        let same : round ≡ it.slot.round = its_round (slot_at rounds view) it.slot lent it.there in
        let is : is_ready_in (round_config round) round.holds kind ≡ true =
        subst (λ r. is_ready_in (round_config r) r.holds kind ≡ true) (sym same) it.looks.0 in
        false≢true (sym (ap is_some none) ∙ ready ∙ is)

  -- of the next construction
  module _ (next : IsNext rounds view) where
    pub looks_there :
        (attempt : Option A)
        → option_map subject_in attempt ≡ subject_next (round_config round) round.holds
        → IfSome attempt (λ a. list_in a ≡ pending_next (round_config round) round.holds)
        → IfSome attempt (λ a. (other : ℕ) → IsNext rounds other
        → LooksAtThere round_config (slot_at rounds other) (subject_in a) (list_in a))
    looks_there None subject pending = tt
    looks_there (Some a) subject pending = λ other is.
        subst (λ v. LooksAtThere round_config (slot_at rounds v) (subject_in a) (list_in a))
        (one_next rounds view other next is) (looks_in (Some a) subject pending)

    pub none_there :
        (attempt : Option A)
        → option_map subject_in attempt ≡ subject_next (round_config round) round.holds
        → attempt ≡ None → (other : ℕ) (s : Subject D) (list : List (Attestation G))
        → IsNext rounds other → LooksAtThere round_config (slot_at rounds other) s list → ⊥
    none_there attempt subject none other s list is looks =
        none_in attempt subject none s list
        (subst (λ v. LooksAtThere round_config (slot_at rounds v) s list)
        (one_next rounds other view is next) looks)
