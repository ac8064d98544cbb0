use Rattle.batcher.proofs.Words.{◌≡◌, ◌∙◌, ◌||◌, Bool, true, false, List, [], ◌∷◌, refl, sym, ap, IsEquivalence, list_any, dedup, dedup_from, cond_both}
use Rattle.batcher.proofs.Words.{dedup_is, All-dedup, IsStrictlySortedBy-dedup, list_any-IsPermutation, All-permutation, history, GaveCause}
use Rattle.batcher.proofs.run.lists.blocked.Goals as goal

twice_or : (a b : Bool) → (a || b) ≡ (a || (a || b))
twice_or true b = refl
twice_or false b = refl

module _ {K : Type 0} {E : K → K → Bool} (e : IsEquivalence E) (k : K) where
  alike : (x y : K) → E y x ≡ true → E k x ≡ E k y
  alike x y tie = e.symm k x ∙ sym (e.congr y x k tie) ∙ e.symm y k

  list_any-dedup_from : (x : K) (xs : List K) → list_any (E k) (dedup_from E x xs)
      ≡ (E k x || list_any (E k) xs)
  list_any-dedup_from x [] = refl
  list_any-dedup_from x (y ∷ ys) =
      cond_both (E y x) (dedup_from E x ys) (x ∷ dedup_from E y ys) (λ zs. list_any (E k) zs ≡ (E k x || (E k y || list_any (E k) ys)))
      (λ tie. list_any-dedup_from x ys ∙ rw (alike x y tie) (twice_or (E k y) (list_any (E k) ys)))
      (λ _. ap (λ b. E k x || b) (list_any-dedup_from y ys))

  -- a list without its repeats has the keys that it had
  list_any-dedup : (xs : List K) → list_any (E k) (dedup E xs) ≡ list_any (E k) xs
  list_any-dedup [] = refl
  list_any-dedup (x ∷ xs) = list_any-dedup_from x xs

pub returns-clause-ascending : goal.returns-clause-ascending
returns-clause-ascending g c =
    rw (dedup_is _ _ _ c.dedup.ensures.filtered) (IsStrictlySortedBy-dedup g.met.P.Ord.total g.met.P.Ord.matches_eq _ c.sort_unstable.ensures.sorted)

pub returns-clause-senders : goal.returns-clause-senders
returns-clause-senders g c key =
    ap (list_any (g.P.PartialEq.eq key)) (dedup_is g.P.PartialEq.eq _ _ c.dedup.ensures.filtered)
    ∙ list_any-dedup g.met.P.Eq.laws key c.sort_unstable.new.self.items
    ∙ sym (list_any-IsPermutation (g.P.PartialEq.eq key) _ _ c.sort_unstable.ensures.permutation)
    ∙ ap (list_any (g.P.PartialEq.eq key)) c.in_ok-senders.ensures

pub returns-clause-cause : goal.returns-clause-cause
returns-clause-cause g c = λ x before after held run.
    let P = GaveCause x (history c.args.calls.now c.args.answers.now) in
    rw (dedup_is g.P.PartialEq.eq _ _ c.dedup.ensures.filtered)
    (All-dedup g.P.PartialEq.eq P c.sort_unstable.new.self.items
    (All-permutation P _ _ c.sort_unstable.ensures.permutation (rw c.in_ok-senders.ensures run.blocked_gave_cause)))
