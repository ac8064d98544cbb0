-- The certificate that was kept last is taken back.
use Rattle.batcher_journal.proofs.Words.{◌≡◌, ◌+◌, ◌-◌, ◌≤◌, ◌++◌, ◌∙◌, ℕ, Bool, List, [], ◌∷◌, ap, arith, drop, length, subst, sym, take}
use Rattle.batcher_journal.proofs.Words.{length-append, length-drop, drop-take, take-take, take-append_seam, Certified, Contents, JournalView}

module _ {X : Type 0} (written : ℕ) (all before : List X) (one : X)
    (within : written ≤ length all) (is : drop written all ≡ before ++ one ∷ []) where
  pub last_is : length all - 1 ≡ written + length before
  last_is =
      let count = ap (λ xs. length xs) is ∙ length-append before (one ∷ []) in
      omega (arith, within, count, length-drop written all)

  -- what isn't written is as before
  pub left_before : drop written (take (length all - 1) all) ≡ before
  left_before =
      subst (λ n. drop written (take n all) ≡ before) (sym last_is)
      (drop-take written (length before) all ∙ ap (take (length before)) is
      ∙ take-append_seam before (one ∷ []))

  -- and what is written is the same
  pub same_written : take written (take (length all - 1) all) ≡ take written all
  same_written =
      subst (λ n. take written (take n all) ≡ take written all) (sym last_is)
      (take-take written (written + length before) all (omega arith))

module _ {G D L : Type 0} where
  the_journal : L → Contents G D → List Certified → Bool → JournalView G D L
  the_journal log contents unwritten is_open = record {
    log = log;
    contents = contents;
    unwritten = unwritten;
    is_open = is_open;
  }

  pub same_journal : (x y : JournalView G D L) → x.log ≡ y.log → x.contents ≡ y.contents
      → x.unwritten ≡ y.unwritten → x.is_open ≡ y.is_open → x ≡ y
  unfolding the_journal
  same_journal x y log contents unwritten is_open =
      ap (λ l. the_journal l x.contents x.unwritten x.is_open) log
      ∙ ap (λ c. the_journal y.log c x.unwritten x.is_open) contents
      ∙ ap (λ u. the_journal y.log y.contents u x.is_open) unwritten
      ∙ ap (λ o. the_journal y.log y.contents y.unwritten o) is_open
