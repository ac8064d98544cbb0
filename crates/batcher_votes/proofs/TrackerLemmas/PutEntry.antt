-- An item put into an ascending list, in the place of its signer's or where it would be.
use Rattle.batcher_votes.proofs.Words.{◌≡◌, ◌∙◌, ◌≤◌, ◌<◌, ◌+◌, ℕ, suc, zero, Bool, true, false, cond, nat_eq, nat_le, List, [], ◌∷◌, length, get_or, set, find}
use Rattle.batcher_votes.proofs.Words.{Option, Some, None, is_some, map, refl, ap, sym, subst, arith, All-set, All, filter_map, IsAscending, insert_by, count}
use Rattle.batcher_votes.proofs.Words.{put_by, found_key, find_at, replace_at, All-insert_by, rank_below, rank_is, rank_replace, lower_count}
use Rattle.batcher_types.specs.Items.{replace_by}
use Rattle.batcher_votes.proofs.TrackerLemmas.ShownParts.{Of, shown_by, filter_map-insert_none, filter_map-insert_some, filter_map-set_same, filter_map-set_new}
use Rattle.batcher_votes.proofs.TrackerLemmas.ShownParts.{filter_map-set_changed}

pub count_few : {E : Type 0} (test : E → Bool) (es : List E) → count test es ≤ length es
count_few test [] = omega arith
count_few test (e ∷ es) = count_cons (test e) (count_few test es) where
  count_cons : (b : Bool) → count test es ≤ length es → cond b 1 0 + count test es ≤ suc (length es)
  count_cons true h = omega (arith, h)
  count_cons false h = omega (arith, h)

-- the item at a place of the list, or the one that isn't there
pub data Puts {E : Type 0} (key : E → ℕ) (es : List E) (e : E) : List E → Option E → Type 0 where
  at : (i : ℕ) (old : E) → i < length es → get_or es i e ≡ old → key e ≡ key old
      → Puts key es e (set es i e) (Some old)
  new : Puts key es e (insert_by key e es) None

module _ {E : Type 0} (key : E → ℕ) where
  pub puts : (es : List E) (e : E) → IsAscending key es
      → Puts key es e (put_by key e es) (find (λ x. nat_eq (key x) (key e)) es)
  puts es e up = puts_so (find (λ x. nat_eq (key x) (key e)) es) refl where
    puts_so : (o : Option E) → find (λ x. nat_eq (key x) (key e)) es ≡ o
        → Puts key es e (cond (is_some o) (replace_by key e es) (insert_by key e es)) o
    puts_so None is = new
    puts_so (Some old) is =
        rw (rank_replace key es (key e) e old up is refl)
        (at (lower_count key es (key e)) old (rank_below key es (key e) old is) (rank_is key es (key e) old e up is) (sym (found_key key es (key e) old is)))

  -- what is written at the place of the number, or inserted where it has none
  pub put_there : (es : List E) (e : E) (i : ℕ) (d : E) → IsAscending key es → i < length es
      → key (get_or es i d) ≡ key e → set es i e ≡ put_by key e es
  unfolding replace_by
  put_there es e i d up below same = rw (find_at key es i (key e) d up below same) (replace_at key es i e d up below same)

  pub put_new : (es : List E) (e : E) → find (λ x. nat_eq (key x) (key e)) es ≡ None
      → insert_by key e es ≡ put_by key e es
  put_new es e none = rw none

  pub All-put : (P : E → Type 0) (es : List E) (e : E) (es' : List E) (o : Option E)
      → Puts key es e es' o → P e → All P es → All P es'
  All-put P es e es' o (at i old below was same) p h = All-set P es i e p h
  All-put P es e es' o new p h = All-insert_by key P e es p h

  -- what holds of all elements holds of the one that was there
  pub of_old : (P : E → Type 0) (es : List E) (e : E) (es' : List E) (o : Option E)
      → Puts key es e es' o → All P es → Of o P
  of_old P es e es' o (at i old below was same) h = subst P was (h i e below)
  of_old P es e es' o new h = tt

  module _ (test : E → Bool) where
    -- whether the element passes, if there is one
    abbrev pub passes : Option E → Bool
    passes None = false
    passes (Some e) = test e

    count-set : (es : List E) (i : ℕ) (e old : E) → i < length es → get_or es i e ≡ old
        → cond (test old) 1 0 + count test (set es i e) ≡ cond (test e) 1 0 + count test es
    count-set [] i e old below was = absurd (omega arith)
    count-set (y ∷ ys) zero e old below was = rw was (omega arith)
    count-set (y ∷ ys) (suc i) e old below was =
        let rest = count-set ys i e old (omega arith) was in omega (arith, rest)

    count-insert_by : (e : E) (es : List E)
        → count test (insert_by key e es) ≡ cond (test e) 1 0 + count test es
    count-insert_by e [] = refl
    count-insert_by e (y ∷ ys) = insert_cons (nat_le (key e) (key y)) (count-insert_by e ys) where
      insert_cons : (b : Bool) → count test (insert_by key e ys) ≡ cond (test e) 1 0 + count test ys
          → count test (cond b (e ∷ y ∷ ys) (y ∷ insert_by key e ys))
          ≡ cond (test e) 1 0 + (cond (test y) 1 0 + count test ys)
      insert_cons true rest = refl
      insert_cons false rest = omega (arith, rest)

    pub count-put : (es : List E) (e : E) (es' : List E) (o : Option E) → Puts key es e es' o
        → cond (passes o) 1 0 + count test es' ≡ cond (test e) 1 0 + count test es
    count-put es e es' o (at i old below was same) = count-set es i e old below was
    count-put es e es' o new = let rest = count-insert_by e es in omega (arith, rest)

  module _ {X : Type 0} (part : E → Option X) where
    pub filter_map-put_same : (es : List E) (e : E) (es' : List E) (o : Option E)
        → Puts key es e es' o → part e ≡ shown_by part o
        → filter_map part es' ≡ filter_map part es
    filter_map-put_same es e es' o (at i old below was same) shows =
        filter_map-set_same key part es i e e below (shows ∙ ap part (sym was))
    filter_map-put_same es e es' o new shows = filter_map-insert_none key part e es shows

    module _ (number : X → ℕ) (numbered : (e : E) → Of (part e) (λ x. number x ≡ key e)) where
      pub filter_map-put_new : (es : List E) (e : E) (es' : List E) (o : Option E) (x : X)
          → Puts key es e es' o → IsAscending key es → shown_by part o ≡ None → part e ≡ Some x
          → filter_map part es' ≡ insert_by number x (filter_map part es)
      filter_map-put_new es e es' o x (at i old below was same) up none shows =
          filter_map-set_new key part number numbered es i e e x up below (same ∙ ap key (sym was)) (ap part was ∙ none) shows
      filter_map-put_new es e es' o x new up none shows =
          filter_map-insert_some key part number numbered e x es up shows

      pub filter_map-put_changed : (h : X → X) (es : List E) (e : E) (es' : List E) (o : Option E)
          (k : ℕ) (w : X) → Puts key es e es' o → IsAscending key es → key e ≡ k
          → shown_by part o ≡ Some w → part e ≡ Some (h w)
          → filter_map part es' ≡ map (λ y. cond (nat_eq (number y) k) (h y) y) (filter_map part es)
      filter_map-put_changed h es e es' o k w (at i old below was same) up is some shows =
          filter_map-set_changed key part number numbered h es i k e e w up below (ap key was ∙ sym same ∙ is) (ap part was ∙ some) shows
      filter_map-put_changed h es e es' o k w new up is some shows = absurd (cc)
