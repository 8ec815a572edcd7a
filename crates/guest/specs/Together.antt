-- A judge for timings that share one period: its yes and its tail allowance. Assumes nothing.
use Rattle.std.specs.Prelude.{ℕ, ◌+◌, Bool, true, ◌&&◌, ◌||◌, List, [], ◌∷◌, length, ◌==◌, nat_le}
use Rattle.std.specs.List.{list_all}
use Rattle.model.specs.declared.timing.Timing.{Timing}
use Rattle.model.specs.Share.{densities, alone}

abbrev pub budgets : List Timing → ℕ
budgets [] = 0
budgets (x ∷ l) = x.budget + budgets l

-- p is both the period and the deadline
abbrev pub in_step : ℕ → Timing → Bool
in_step p x = x.period == p && x.deadline == p

-- of every timing
abbrev pub all_in_step : ℕ → List Timing → Bool
all_in_step p = list_all (in_step p)

-- they all have p as period and deadline, and one period is long enough for one budget of each
abbrev pub share_period : ℕ → List Timing → Bool
share_period p l = all_in_step p l && nat_le (budgets l) p

-- some period is shared by all: if any, the first timing's
abbrev pub together : List Timing → Bool
together [] = true
together (x ∷ l) = share_period x.period (x ∷ l)

-- at most 32, and within the scale by density or together
abbrev pub guest_yes : ℕ → List Timing → Bool
guest_yes s l = nat_le (length l) 32 && (nat_le (densities s l) s || together l)

-- an empty processor offers all it can, any other nothing
abbrev pub guest_allowance : List Timing → ℕ → ℕ → ℕ
guest_allowance = alone
