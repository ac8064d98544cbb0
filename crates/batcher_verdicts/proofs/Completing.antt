-- A construction is made where nothing is asked about any more, and just there.
use Rattle.batcher_verdicts.proofs.Words.{◌≡◌, ◌∙◌, ℕ, List, [], take, Some, sym, subst, same_Some, Attestation, Subject, PerKind, RoundState, Config}
use Rattle.batcher_verdicts.proofs.Words.{subject_next, pending_next, LooksAtNext, Recorded, Asks, IsKnown, recorded_of, AsksNext}
use Rattle.batcher_verdicts.proofs.Recording.{whole_list, none_asked}

module _ {D K G C : Type 0} (x : Config D K G C) (held : RoundState G D)
    (all : PerKind (Recorded G D)) (subject : Subject D) (n : ℕ) (list : List (Attestation G))
    (known : IsKnown (recorded_of all subject) subject (pending_next x held) n)
    (list_is : list ≡ take n (recorded_of all subject).list) where
  pub looks_at_all : (asked : Subject D) → subject_next x held ≡ Some subject
      → AsksNext x held all asked [] → LooksAtNext x held subject list
  looks_at_all asked next complete =
      let same : asked ≡ subject = same_Some _ _ (sym complete.next ∙ next) in
      let asks = subst (λ s. Asks (recorded_of all s) s (pending_next x held) []) same complete.asks in (
        next,
        whole_list (recorded_of all subject) subject (pending_next x held) n known asks ∙ sym list_is,
      )

  pub asks_nothing : LooksAtNext x held subject list → AsksNext x held all subject []
  asks_nothing looks =
      record {
        next = looks.0;
        asks = none_asked (recorded_of all subject) subject (pending_next x held) n known
            (looks.1 ∙ list_is);
      }
