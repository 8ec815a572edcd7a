-- The slacks of a list, worked out once: a row for each timing, in it a place for each check-point. Assumes nothing.
use Rattle.std.specs.Prelude.{◌≡◌, ℕ, suc, ◌<◌, List, [], slice_index, slice_index_or}
use Rattle.model.specs.declared.timing.Timing.{Timing}
use Rattle.judges.specs.Approximate.{point}
use Rattle.judges.specs.Allowance.{slack}

-- the first k places of x's row
abbrev pub Slacks : ℕ → ℕ → List Timing → Timing → ℕ → List ℕ → Type 0
Slacks s n l x k row = (j : ℕ) → j < k → slice_index row j ≡ slack s n l (point x j)

-- the rows of the first m timings, each with its n + 1 places
abbrev pub Table : ℕ → ℕ → List Timing → ℕ → List (List ℕ) → Type 0
Table s n l m rows = (i : ℕ) (x : Timing) → i < m → x ≡ slice_index_or l i x → Slacks s n l x (suc n) (slice_index_or rows i [])
