-- A new round represents the empty history.
use Rattle.batcher_histories.proofs.Words.{◌≡◌, Bool, true, false, cond, not, ◌&&◌, ◌||◌, [], None, refl, ap, sym, filter, Kind, Notarization, Nullification}
use Rattle.batcher_histories.proofs.Words.{Finalization, Mode, Retaining, Releasing, Skipped, Config, count, either_same, is_skipped, is_released_in}
use Rattle.batcher_histories.proofs.Words.{nothing_held, selection_by, is_trusted, was_eligible, was_invalid, Represents, RepresentsKind}

released_at_first : (m : Mode) → is_skipped m ≡ is_released_in m false
released_at_first Retaining = refl
released_at_first Releasing = refl
released_at_first Skipped = refl

none_counted : {X : Type 0} (test : X → Bool) (b : Bool) (q : X → Bool) → 0
    ≡ count test (filter q (cond b [] []))
none_counted test true q = refl
none_counted test false q = refl

module _ {D K G C : Type 0} (x : Config D K G C) where
  by_kind : (kind : Kind) → RepresentsKind x [] (nothing_held x.mode) kind
  by_kind Notarization =
      record {
        certified_is = refl;
        compacted_is = released_at_first x.mode;
        kept_are = sym
            (either_same (is_released_in x.mode false) []);
        facts_are = sym
            (either_same (is_released_in x.mode false) []);
        pending_are = λ test. none_counted test (is_skipped x.mode)
            (λ v. not (is_trusted x [] v || was_eligible [] v));
        verified_are = λ test. none_counted test (is_skipped x.mode)
            (λ v. (is_trusted x [] v || was_eligible [] v) && not (was_invalid [] v));
      }
  by_kind Nullification =
      record {
        certified_is = refl;
        compacted_is = released_at_first x.mode;
        kept_are = sym
            (either_same (is_released_in x.mode false) []);
        facts_are = sym
            (either_same (is_released_in x.mode false) []);
        pending_are = λ test. none_counted test (is_skipped x.mode)
            (λ v. not (is_trusted x [] v || was_eligible [] v));
        verified_are = λ test. none_counted test (is_skipped x.mode)
            (λ v. (is_trusted x [] v || was_eligible [] v) && not (was_invalid [] v));
      }
  by_kind Finalization =
      record {
        certified_is = refl;
        compacted_is = released_at_first x.mode;
        kept_are = sym
            (either_same (is_released_in x.mode false) []);
        facts_are = sym
            (either_same (is_released_in x.mode false) []);
        pending_are = λ test. none_counted test (is_skipped x.mode)
            (λ v. not (is_trusted x [] v || was_eligible [] v));
        verified_are = λ test. none_counted test (is_skipped x.mode)
            (λ v. (is_trusted x [] v || was_eligible [] v) && not (was_invalid [] v));
      }

  pub fresh_represents : Represents x [] (nothing_held x.mode)
  fresh_represents =
      record {
        possible = tt;
        leader_is = refl;
        selection_is = ap (selection_by None) (sym (either_same (is_skipped x.mode) None));
        forwarded_is = refl;
        each_kind = by_kind;
      }
