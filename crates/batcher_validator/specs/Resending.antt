-- What is given again: the finalization of the final view, own votes of the current view, and the
-- certificates of the two newest views and, in turn, of four others.
use Rattle.std.specs.Prelude.{◌≡◌, ◌<◌, ◌≤◌, ◌+◌, ◌-◌, ◌*◌, ◌⊎◌, ◌||◌, ◌&&◌, ◌==◌, ℕ, Bool, true}
use Rattle.std.specs.Prelude.{false, cond, List, Option, Some, None, nat_le, nat_lt}
use Rattle.std.specs.List.{slice_get}
use Rattle.batcher.specs.Votes.{round_in, subject_of}
use Rattle.batcher.specs.messages.Kind.{Kind}
use Rattle.batcher.specs.messages.Kind.TheVariants.{Finalization, Notarization, Nullification}
use Rattle.batcher.specs.messages.Subject.{Subject}
use Rattle.batcher.specs.messages.Vote.{Vote}
use Rattle.batcher.specs.positions.Round.{Round}
use Rattle.batcher_node.specs.declared.window.Window.{Window}

-- whether an own vote is of the current view, or of a later one
abbrev pub is_sent_again : {D : Type 0} → Window → Subject D → Bool
is_sent_again w s = nat_le w.current (round_in s).view.0

-- whether it is of a view before this one
abbrev pub is_earlier : {D : Type 0} → ℕ → Subject D → Bool
is_earlier view s = nat_lt (round_in s).view.0 view

-- The votes from one place on are of views before this one, up to another place. That is the end,
-- or before it, with a vote that isn't.
pub record IsPlaceFrom {G D : Type 0} (view : ℕ) (votes : List (Vote G D)) (first end place : ℕ)
    : Type 0 where
  pub passed :
      (i : ℕ) (vote : Vote G D) → first ≤ i → i < place → slice_get votes i ≡ Some vote
      → is_earlier view (subject_of vote) ≡ true
  pub found :
      (place ≡ end)
      ⊎ ((first ≤ place) × ((place < end)
      × ((vote : Vote G D) → slice_get votes place ≡ Some vote
      → is_earlier view (subject_of vote) ≡ false)))

-- Whose turn it is: how many fours of views behind the final one come before. Once all had their
-- turn, it is that of the first.
abbrev pub turn_at : Window → ℕ → ℕ
turn_at w turn = cond (nat_lt (turn * 4) (w.current - w.finalized)) turn 0

-- the view behind which they are
abbrev pub below_turn : Window → ℕ → ℕ
below_turn w turn = w.finalized + turn_at w turn * 4

-- whether it is a finalization of this view
abbrev pub is_finalization_of : ℕ → (Kind × Round) → Bool
is_finalization_of view (Finalization, number) = number.view.0 == view
is_finalization_of view (Notarization, number) = false
is_finalization_of view (Nullification, number) = false

-- whether a view is one of the two newest, or of the four behind another
abbrev pub is_due_again : Window → ℕ → ℕ → Bool
is_due_again w below view =
    nat_le (w.current - 1) view || (nat_lt below view && nat_le (view - below) 4)

-- whether a certificate is given again, by its kind and round
abbrev pub is_again_above : Window → ℕ → (Kind × Round) → Bool
is_again_above w below key =
    is_finalization_of w.finalized key || is_due_again w below key.1.view.0

abbrev pub is_again : Window → ℕ → (Kind × Round) → Bool
is_again w turn key = is_again_above w (below_turn w turn) key

-- what is still to be forwarded, unless its notarization is given again
abbrev pub still_to_forward : Window → ℕ → Option Round → Option Round
still_to_forward w turn None = None
still_to_forward w turn (Some number) =
    cond (is_again w turn (Notarization, number)) None (Some number)
