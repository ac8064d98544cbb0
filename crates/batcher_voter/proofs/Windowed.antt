-- A round of a view in the window, whose floor is its first view.
use Rattle.batcher_voter.proofs.Words.{◌≡◌, ◌&&◌, ◌≤◌, ℕ, Bool, true, false, ap, arith, eqb, eqb-true, refl, nat_le, le-ltb, leb-true, Epoch, Round, is_below}
use Rattle.batcher_voter.proofs.Words.{contains, is_of, numbered, Window}

both : (a b : Bool) → (a && b) ≡ true → (a ≡ true) × (b ≡ true)
both true b e = (refl, e)
both false b e = absurd cc

pub never : (b : Bool) → (b && false) ≡ false
never true = refl
never false = refl

module _ (epoch : Epoch) (window : Window) (round : Round) (within : is_of epoch window round ≡ true)
  where
    pub same_epoch : round.epoch ≡ epoch
    same_epoch =
        ap (λ (n : ℕ). the_epoch n)
        (eqb-true round.epoch.0 epoch.0 (both (eqb round.epoch.0 epoch.0) (contains window round.view.0) within).0)
      where
        the_epoch : ℕ → Epoch
        the_epoch n = record { 0 = n }

    pub from_first : window.finalized ≤ round.view.0
    from_first =
        leb-true window.finalized round.view.0
        (both (nat_le window.finalized round.view.0) _
        (both (eqb round.epoch.0 epoch.0) (contains window round.view.0) within).1).0

    pub not_over : is_below (numbered epoch window.finalized) round ≡ false
    not_over =
        rw (le-ltb round.epoch.0 epoch.0 (omega (arith, ap (λ (e : Epoch). e.0) same_epoch)), le-ltb round.view.0 window.finalized from_first)
        (never (eqb round.epoch.0 epoch.0))

-- so where a journal's floor is the window's first view, it isn't over
pub above_floor :
    (epoch : Epoch) (window : Window) (round floor : Round) → is_of epoch window round ≡ true
    → floor ≡ numbered epoch window.finalized → is_below floor round ≡ false
above_floor epoch window round floor within is = rw (is) (not_over epoch window round within)
