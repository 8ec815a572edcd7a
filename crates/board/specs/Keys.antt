-- Which reservations stand in a plan. Assumes nothing.
use Rattle.std.specs.Prelude.{ℕ, ◌+◌, Bool, List, [], ◌∷◌}
use Rattle.model.specs.declared.row.Row.{Row}
use Rattle.std.specs.List.{list_any}
use Rattle.processor.specs.Keys.{has_key, owners}

-- the key stands: some processor has a row of it
abbrev pub stands : ℕ → List (List Row) → Bool
stands key = list_any (has_key key)

-- how many reservations stand in a plan
abbrev pub reservations : List (List Row) → ℕ
reservations [] = 0
reservations (rows ∷ plan) = owners rows + reservations plan
