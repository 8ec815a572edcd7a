-- The demand judge's yes: shares within the scale, and approximate demand within the time at every check-point. Assumes nothing.
use Rattle.std.specs.Prelude.{ℕ, zero, suc, ◌*◌, Bool, true, ◌&&◌, List, [], ◌∷◌, length, nat_le}
use Rattle.model.specs.declared.timing.Timing.{Timing}
use Rattle.model.specs.Share.{shares}
use Rattle.judges.specs.Approximate.{point, approximates}

-- the demand at t fits t ticks
abbrev pub fits : ℕ → ℕ → List Timing → ℕ → Bool
fits s n l t = nat_le (approximates s n l t) (s * t)

-- at the first k check-points of x
abbrev pub fits_points : ℕ → ℕ → List Timing → Timing → ℕ → Bool
fits_points s n l x zero = true
fits_points s n l x (suc k) = fits_points s n l x k && fits s n l (point x k)

-- at every check-point of each of these rows; there are n + 1 to a row
abbrev pub fits_rows : ℕ → ℕ → List Timing → List Timing → Bool
fits_rows s n l [] = true
fits_rows s n l (x ∷ rows) = fits_points s n l x (suc n) && fits_rows s n l rows

-- yes to at most 32 timings whose shares sum to at most the scale, and whose demand fits at every check-point of each of them
abbrev pub demand_yes : ℕ → ℕ → List Timing → Bool
demand_yes s n l = nat_le (length l) 32 && (nat_le (shares s l) s && fits_rows s n l l)
