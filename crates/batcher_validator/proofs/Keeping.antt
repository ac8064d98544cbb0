-- Certificates are kept as a validator goes on.
use Rattle.batcher_validator.proofs.Words.{◌≡◌, ◌⊎◌, ◌≤◌, ℕ, Bool, true, false, List, [], ◌∷◌, ap, arith, inl, inr, max, refl, subst, sym, take, Contains}
use Rattle.batcher_validator.proofs.Words.{count_by, filter, All-contains, Contains-append_cases, Contains-append_left, Contains-append_right, filter_passes}
use Rattle.batcher_validator.proofs.Words.{le-leb, le-ltb, leb-true, ltb-false, certifies_itself, round_in, subject_certified, Certificate, Kind, Epoch, Round}
use Rattle.batcher_validator.proofs.Words.{contains_filter, NodeConfig, AreFirst, HasKey, AreKept, is_before_view, IsLookedAt, Shelves, ShelvesOne, is_from}
use Rattle.batcher_validator.proofs.Words.{kind_and_round, HasHad, ValidatorHistory, window_by, Counts}
use Rattle.batcher_validator.proofs.Queueing.{contains_one, leave, left_are, put_behind}

module _ {C D : Type 0} (c : Certificate C D) (old new : List (Certificate C D)) where
  -- what is there was there, or is the one that was taken in
  there_before : ShelvesOne c old new → (d : Certificate C D) → Contains new d
      → Contains old d ⊎ (c ≡ d)
  there_before (inl same) d there = inl (subst (λ cs. Contains cs d) same.1 there)
  there_before (inr one) d there = elim (Contains-append_cases old (c ∷ []) d (subst (λ cs. Contains cs d) one.1 there)) [
    | inl before ↦ inl before
    | inr last ↦ inr (contains_one c d last)
  ]

  key_still : ShelvesOne c old new → (key : Kind × Round) → HasKey kind_and_round old key
      → HasKey kind_and_round new key
  key_still (inl same) key has = subst (λ cs. HasKey kind_and_round cs key) (sym same.1) has
  key_still (inr one) key has =
      subst (λ cs. HasKey kind_and_round cs key) (sym one.1) (record {
        item = has.item;
        there = Contains-append_left old (c ∷ []) has.item has.there;
        is_of = has.is_of;
      })

  has_taken : ShelvesOne c old new → HasKey kind_and_round new (kind_and_round c)
  has_taken (inl same) = subst (λ cs. HasKey kind_and_round cs (kind_and_round c)) (sym same.1) same.0
  has_taken (inr one) =
      subst (λ cs. HasKey kind_and_round cs (kind_and_round c)) (sym one.1) (record {
        item = c;
        there = Contains-append_right old (c ∷ []) c (0, omega arith, refl);
        is_of = refl;
      })

  first_still :
      (is_over : (Kind × Round) → Bool) (Was : (Kind × Round) → Type 0) (count : ℕ)
      → ShelvesOne c old new → AreFirst kind_and_round is_over Was old count
      → AreFirst kind_and_round is_over Was new count
  first_still is_over Was count (inl same) are =
      subst (λ cs. AreFirst kind_and_round is_over Was cs count) (sym same.1) are
  first_still is_over Was count (inr one) are =
      subst (λ cs. AreFirst kind_and_round is_over Was cs count) (sym one.1)
      (put_behind kind_and_round is_over Was old count are (c ∷ []))

module _ {D K G C : Type 0} (x : NodeConfig D K G C) (past after : ValidatorHistory D K G C)
    (window : (window_by after).finalized ≡ (window_by past).finalized) where
  -- nothing came,
  pub kept_still :
      (kept : List (Certificate C D)) → ((c : Certificate C D) → HasHad after c → HasHad past c)
      → ((c : Certificate C D) → HasHad past c → HasHad after c)
      → AreKept x past kept → AreKept x after kept
  kept_still kept had more are =
      record {
        had = λ c there. more c (are.had c there);
        certify = are.certify;
        looked_at = λ c there. subst (λ first. IsLookedAt x.epoch first c) (sym window) (are.looked_at c there);
        are_there = λ c counts. are.are_there c (record {
          had = had c counts.had;
          looked_at = subst (λ first. IsLookedAt x.epoch first c) window counts.looked_at;
        });
      }

  -- or a certificate.
  module _ (c : Certificate C D) (certifies : certifies_itself x.meaning c ≡ true)
      (old new : List (Certificate C D))
      (had : (d : Certificate C D) → HasHad after d → (c ≡ d) ⊎ HasHad past d)
      (taken : HasHad after c) (more : (d : Certificate C D) → HasHad past d → HasHad after d)
      (are : AreKept x past old) where
    kept_taken :
        IsLookedAt x.epoch (window_by past).finalized c → ShelvesOne c old new → AreKept x after new
    kept_taken looked_at takes =
        record {
          had = λ d there. had_there d (there_before c old new takes d there);
          certify = λ d there. of_there d (there_before c old new takes d there);
          looked_at = λ d there. subst (λ first. IsLookedAt x.epoch first d) (sym window)
              (seen d (there_before c old new takes d there));
          are_there = λ d counts. found d counts (had d counts.had);
        }
      where
        had_there : (d : Certificate C D) → Contains old d ⊎ (c ≡ d) → HasHad after d
        had_there d (inl before) = more d (are.had d before)
        had_there d (inr is) = subst (λ e. HasHad after e) is taken

        of_there : (d : Certificate C D) → Contains old d ⊎ (c ≡ d)
            → certifies_itself x.meaning d ≡ true
        of_there d (inl before) = are.certify d before
        of_there d (inr is) = subst (λ e. certifies_itself x.meaning e ≡ true) is certifies

        seen : (d : Certificate C D) → Contains old d ⊎ (c ≡ d)
            → IsLookedAt x.epoch (window_by past).finalized d
        seen d (inl before) = are.looked_at d before
        seen d (inr is) = subst (λ e. IsLookedAt x.epoch (window_by past).finalized e) is looked_at

        found : (d : Certificate C D) → Counts x after d → (c ≡ d) ⊎ HasHad past d
            → HasKey kind_and_round new (kind_and_round d)
        found d counts (inl is) = subst (λ e. HasKey kind_and_round new (kind_and_round e)) is (has_taken c old new takes)
        found d counts (inr before) =
            key_still c old new takes (kind_and_round d) (are.are_there d (record {
              had = before;
              looked_at = subst (λ first. IsLookedAt x.epoch first d) window counts.looked_at;
            }))

    kept_passed :
        (IsLookedAt x.epoch (window_by past).finalized c → ⊥) → AreKept x after old
    kept_passed passed =
        record {
          had = λ d there. more d (are.had d there);
          certify = are.certify;
          looked_at = λ d there. subst (λ first. IsLookedAt x.epoch first d) (sym window) (are.looked_at d there);
          are_there = λ d counts. found d
              (subst (λ first. IsLookedAt x.epoch first d) window counts.looked_at) (had d counts.had);
        }
      where
        found : (d : Certificate C D) → IsLookedAt x.epoch (window_by past).finalized d
            → (c ≡ d) ⊎ HasHad past d → HasKey kind_and_round old (kind_and_round d)
        found d looked_at (inl is) =
            absurd (passed (subst (λ e. IsLookedAt x.epoch (window_by past).finalized e) (sym is) looked_at))
        found d looked_at (inr before) = are.are_there d (record { had = before; looked_at = looked_at })

    pub kept_with :
        Shelves x.epoch (window_by past).finalized c old new → AreKept x after new
    kept_with (inl seen) = kept_taken seen.0 seen.1
    kept_with (inr passed) = subst (AreKept x after) (sym passed.1) (kept_passed passed.0)

pub first_with :
    {C D : Type 0} (epoch : Epoch) (first : ℕ) (c : Certificate C D) (old new : List
    (Certificate C D))
    (is_over : (Kind × Round) → Bool) (Was : (Kind × Round) → Type 0) (count : ℕ)
    → Shelves epoch first c old new → AreFirst kind_and_round is_over Was old count
    → AreFirst kind_and_round is_over Was new count
first_with epoch first c old new is_over Was count (inl seen) are =
    first_still c old new is_over Was count seen.1 are
first_with epoch first c old new is_over Was count (inr passed) are =
    subst (λ cs. AreFirst kind_and_round is_over Was cs count) (sym passed.1) are

-- A view is made the final one, by a certificate that is kept.
module _ {D K G C : Type 0} (x : NodeConfig D K G C) (past after : ValidatorHistory D K G C)
    (first : ℕ) (window : (window_by after).finalized ≡ max (window_by past).finalized first)
    (up : (window_by past).finalized ≤ first) (c : Certificate C D)
    (had : (d : Certificate C D) → HasHad after d → (c ≡ d) ⊎ HasHad past d)
    (more : (d : Certificate C D) → HasHad past d → HasHad after d)
    (old : List (Certificate C D)) (there : Contains old c) where
  window_is : (window_by after).finalized ≡ first
  window_is = omega (arith, window, up)

  pub kept_from : AreKept x past old → AreKept x after (filter (is_from first) old)
  kept_from are =
      record {
        had = λ d left. more d (are.had d (left_are (is_from first) old d left));
        certify = λ d left. are.certify d (left_are (is_from first) old d left);
        looked_at = λ d left. record {
          of_epoch = (are.looked_at d (left_are (is_from first) old d left)).of_epoch;
          from_first = subst (λ n. n ≤ (round_in (subject_certified d)).view.0) (sym window_is)
              (leb-true first (round_in (subject_certified d)).view.0 (passes_in old d left));
        };
        are_there = λ d counts. found d
            (subst (λ n. n ≤ (round_in (subject_certified d)).view.0) window_is counts.looked_at.from_first)
            counts.looked_at.of_epoch (had d counts.had);
      }
    where
      passes_in : (cs : List (Certificate C D)) (d : Certificate C D)
          → Contains (filter (is_from first) cs) d
          → is_from first d ≡ true
      passes_in cs d left = All-contains (λ e. is_from first e ≡ true) (filter (is_from first) cs) d
          (filter_passes (is_from first) cs) left

      left : (d : Certificate C D) → first ≤ (round_in (subject_certified d)).view.0
          → HasKey kind_and_round old (kind_and_round d)
          → HasKey kind_and_round (filter (is_from first) old) (kind_and_round d)
      left d from has =
          record {
            item = has.item;
            there = contains_filter (is_from first) old has.item has.there
                (le-leb first (round_in (subject_certified has.item)).view.0
                (subst (λ (r : Round). first ≤ r.view.0) (sym (ap (λ (k : Kind × Round). k.1) has.is_of)) from));
            is_of = has.is_of;
          }

      found : (d : Certificate C D) → first ≤ (round_in (subject_certified d)).view.0
          → (round_in (subject_certified d)).epoch ≡ x.epoch → (c ≡ d) ⊎ HasHad past d
          → HasKey kind_and_round (filter (is_from first) old) (kind_and_round d)
      found d from epoch (inl is) =
          left d from (record { item = c; there = there; is_of = ap kind_and_round is })
      found d from epoch (inr before) =
          left d from (are.are_there d (record {
            had = before;
            looked_at = record { of_epoch = epoch; from_first = omega (arith, up, from) };
          }))

  pub first_from :
      (Was : (Kind × Round) → Type 0) (count : ℕ)
      → AreFirst kind_and_round (is_before_view (window_by past).finalized) Was old count
      → AreFirst kind_and_round (is_before_view (window_by after).finalized) Was (filter
      (is_from first) old)
      (count_by (is_from first) (take count old))
  first_from Was count are =
      leave kind_and_round (is_before_view (window_by past).finalized) Was old count are
      (is_before_view (window_by after).finalized) (is_from first)
      (λ key above. not_before (window_by past).finalized key (omega (arith, window_is, up, after_or_at key above)))
      (λ d above. le-leb first (round_in (subject_certified d)).view.0
      (omega (arith, window_is, after_or_at (kind_and_round d) above)))
    where
      after_or_at : (key : Kind × Round) → is_before_view (window_by after).finalized key ≡ false
          → (window_by after).finalized ≤ key.1.view.0
      after_or_at key e = ltb-false key.1.view.0 (window_by after).finalized e

      not_before : (n : ℕ) (key : Kind × Round) → n ≤ key.1.view.0 → is_before_view n key ≡ false
      not_before n key le = le-ltb key.1.view.0 n le
