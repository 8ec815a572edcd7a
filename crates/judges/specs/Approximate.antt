-- Approximate demand: exact for the first n steps, then a straight line of the share's slope. Assumes nothing.
use Rattle.std.specs.Prelude.{ℕ, ◌+◌, ◌-◌, ◌*◌, cond, List, [], ◌∷◌, nat_lt}
use Rattle.model.specs.declared.timing.Timing.{Timing}
use Rattle.model.specs.Share.{share}
use Rattle.model.specs.Demand.{exact}

-- check-point k of a timing: where its exact demand rises for the k-th time, counted from 0
abbrev pub point : Timing → ℕ → ℕ
point x k = k * x.period + x.deadline

-- the approximate demand of a timing within t ticks, at scale s, with n retained steps
abbrev pub approximate : ℕ → ℕ → Timing → ℕ → ℕ
approximate s n x t =
    cond (nat_lt t (point x n)) (s * exact x t) (s * ((n + 1) * x.budget) + share s x * (t - point x n))

-- that of a list is the sum
abbrev pub approximates : ℕ → ℕ → List Timing → ℕ → ℕ
approximates s n [] t = 0
approximates s n (x ∷ l) t = approximate s n x t + approximates s n l t
