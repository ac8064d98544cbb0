-- The quorum of n participants, of whom fewer than a third may be faulty.
use Rattle.std.specs.Prelude.{ℕ, ◌-◌, ◌/◌}

abbrev pub quorum_of : ℕ → ℕ
quorum_of n = n - (n - 1) / 3
