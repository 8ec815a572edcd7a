-- The either judge, made of any two. Assumes nothing.
use Rattle.std.specs.Prelude.{ℕ, max, Bool, ◌||◌, List}
use Rattle.model.specs.declared.timing.Timing.{Timing}

-- yes where one of the two says yes
abbrev pub either_yes : (List Timing → Bool) → (List Timing → Bool) → List Timing → Bool
either_yes first second l = first l || second l

-- the larger of their allowances
abbrev pub either_allowance : (List Timing → ℕ → ℕ → ℕ) → (List Timing → ℕ → ℕ → ℕ) → List Timing → ℕ → ℕ → ℕ
either_allowance first second l t c = max (first l t c) (second l t c)
