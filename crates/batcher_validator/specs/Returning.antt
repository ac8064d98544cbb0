-- Each certificate comes again within a quarter as many times as there are views behind the final
-- one.
use Rattle.std.specs.Prelude.{◌≡◌, ◌≤◌, ◌+◌, ◌++◌, ⊤, ℕ, [], ◌∷◌}
use Rattle.batcher_validator.specs.Histories.{ValidatorHistory, again, window_by}

module _ {D K G C : Type 0} where
  -- how often what was sent was to be sent again
  abbrev pub agains : ValidatorHistory D K G C → ℕ
  agains [] = 0
  agains (again ∷ past) = agains past + 1
  agains (event ∷ past) = agains past

  -- Each time the final view was this one, and the current view was no later than the highest.
  abbrev pub StaysFinal : ℕ → ℕ → ValidatorHistory D K G C → ValidatorHistory D K G C → Type 0
  StaysFinal final highest past [] = ⊤
  StaysFinal final highest past (again ∷ more) =
      (((window_by (more ++ past)).finalized ≡ final)
      × ((window_by (more ++ past)).current ≤ highest))
      × StaysFinal final highest past more
  StaysFinal final highest past (event ∷ more) = StaysFinal final highest past more
