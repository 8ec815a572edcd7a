-- Exact demand: the most work that must be done within t ticks. Assumes nothing.
use Rattle.std.specs.Prelude.{ℕ, ◌+◌, ◌-◌, ◌*◌, ◌/◌, cond, List, [], ◌∷◌, nat_lt}
use Rattle.model.specs.declared.timing.Timing.{Timing}

-- the budgets of the instances that are released and due within t ticks: none before the deadline, then one more each period
abbrev pub exact : Timing → ℕ → ℕ
exact x t = cond (nat_lt t x.deadline) 0 (x.budget * (1 + (t - x.deadline) / x.period))

-- that of a list is the sum
abbrev pub demand : List Timing → ℕ → ℕ
demand [] t = 0
demand (x ∷ l) t = exact x t + demand l t
