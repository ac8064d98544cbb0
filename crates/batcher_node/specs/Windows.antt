-- Which views a node keeps rounds of: from the finalized one to some beyond the current one.
use Rattle.std.specs.Prelude.{◌+◌, ◌-◌, ◌&&◌, ◌==◌, ℕ, Bool, cond, nat_le, nat_lt, max}
use Rattle.batcher.specs.positions.Epoch.{Epoch}
use Rattle.batcher.specs.positions.Round.{Round}
use Rattle.batcher.specs.votes.Mode.{Mode}
use Rattle.batcher.specs.votes.Mode.TheVariants.{Retaining, Releasing, Skipped}
use Rattle.batcher_node.specs.declared.window.Window.{Window}

-- whether the view of this number is in the window
abbrev pub contains : Window → ℕ → Bool
contains window view = nat_le window.finalized view && nat_le view (window.current + window.ahead)

-- whether a round number is of the epoch, and of a view in the window
abbrev pub is_of : Epoch → Window → Round → Bool
is_of epoch window number = (number.epoch.0 == epoch.0) && contains window number.view.0

-- whether the view of this number is beyond it
abbrev pub is_beyond : Window → ℕ → Bool
is_beyond window view = nat_lt (window.current + window.ahead) view

-- whether a round number is of the epoch, and of a view beyond the window
abbrev pub is_ahead : Epoch → Window → Round → Bool
is_ahead epoch window number = (number.epoch.0 == epoch.0) && is_beyond window number.view.0

-- how many views are in it
abbrev pub width : Window → ℕ
width window = window.current + window.ahead + 1 - window.finalized

-- the window once a view was entered
abbrev pub entered : Window → ℕ → Window
entered window view = record window { current = max window.current view }

-- the window once a view was finalized
abbrev pub finalized : Window → ℕ → Window
finalized window view =
    record window { finalized = max window.finalized view; current = max window.current view }

-- The mode of a round that is made now: it is skipped where its view was passed over.
abbrev pub mode_now : Bool → Window → ℕ → Mode
mode_now retains window view =
    cond (nat_lt view window.current) Skipped (cond retains Retaining Releasing)

-- the number of a view's round
abbrev pub numbered : Epoch → ℕ → Round
numbered epoch view = record { epoch = epoch; view = record { 0 = view } }
