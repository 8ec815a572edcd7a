-- The density judge: its yes and its tail allowance. Assumes nothing.
use Rattle.std.specs.Prelude.{ℕ, Bool, ◌&&◌, List, length, nat_le}
use Rattle.model.specs.declared.timing.Timing.{Timing}
use Rattle.model.specs.Share.{densities, alone}

-- yes to at most 32 timings whose densities sum to at most the scale
abbrev pub density_yes : ℕ → List Timing → Bool
density_yes s l = nat_le (length l) 32 && nat_le (densities s l) s

-- an empty processor offers all it can, any other nothing
abbrev pub density_allowance : List Timing → ℕ → ℕ → ℕ
density_allowance = alone
