-- Share and density of a timing, in parts of a scale s. Assumes nothing.
use Rattle.std.specs.Prelude.{ℕ, ◌+◌, ◌-◌, ◌*◌, ◌/◌, min, Bool, cond, ◌&&◌, List, [], ◌∷◌, length, ℤ, pos, ◌-ℤ◌, nat_le}
use Rattle.model.specs.declared.timing.Timing.{Timing}

-- a quotient rounded up
abbrev pub ceiling : ℕ → ℕ → ℕ
ceiling a b = (a + (b - 1)) / b

-- the part of a processor that a timing takes up in the long run
abbrev pub share : ℕ → Timing → ℕ
share s x = ceiling (x.budget * s) x.period

-- the same against the deadline
abbrev pub density : ℕ → Timing → ℕ
density s x = ceiling (x.budget * s) x.deadline

-- the shares of a list, summed
abbrev pub shares : ℕ → List Timing → ℕ
shares s [] = 0
shares s (x ∷ l) = share s x + shares s l

-- the densities of a list, summed
abbrev pub densities : ℕ → List Timing → ℕ
densities s [] = 0
densities s (x ∷ l) = density s x + densities s l

-- what is left of a processor; below zero where rounding up has carried the shares past the scale
abbrev pub spare : ℕ → List Timing → ℤ
spare s l = pos s -ℤ pos (shares s l)

-- at most 32 timings whose densities sum to at most the scale
abbrev pub densities_fit : ℕ → List Timing → Bool
densities_fit s l = nat_le (length l) 32 && nat_le (densities s l) s

-- the longest tail, of period t and at most c, where it stands alone: nothing goes beside another timing
abbrev pub alone : List Timing → ℕ → ℕ → ℕ
alone [] t c = cond (nat_le t 100000) (min c t) 0
alone (x ∷ l) t c = 0
