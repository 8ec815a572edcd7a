-- The demand judge's tail allowance. Subtraction stops at 0 and quotients round down. Assumes nothing.
use Rattle.std.specs.Prelude.{ℕ, zero, suc, ◌+◌, ◌-◌, ◌*◌, ◌/◌, ◌≤◌, min, cond, ◌||◌, List, [], ◌∷◌, length, ◌==◌, nat_le, nat_lt}
use Rattle.model.specs.declared.timing.Timing.{Timing}
use Rattle.model.specs.Share.{shares}
use Rattle.judges.specs.Approximate.{point, approximates}

-- what the spare share leaves in a period t
abbrev pub spare_budget : ℕ → List Timing → ℕ → ℕ
spare_budget s l t = (s - shares s l) * t / s

-- the longest tail that ends before the deadline of x
abbrev pub before_deadline : Timing → ℕ
before_deadline x = x.deadline - 1

-- a tail ends before any other deadline: the least of these, and at most c
abbrev pub before_deadlines : List Timing → ℕ → ℕ
before_deadlines [] c = c
before_deadlines (x ∷ l) c = min (x.deadline - 1) (before_deadlines l c)

-- what the others leave before the end of the tail's k-th period, shared by the tail's first k instances
abbrev pub step_room : ℕ → ℕ → List Timing → ℕ → ℕ → ℕ
step_room s n l t k = (s * (k * t) - approximates s n l (k * t + spare_budget s l t)) / (s * k)

-- the least of these for k from 1 to the last, and at most c
abbrev pub within_steps : ℕ → ℕ → List Timing → ℕ → ℕ → ℕ → ℕ
within_steps s n l t zero c = c
within_steps s n l t (suc k) c = min (step_room s n l t (suc k)) (within_steps s n l t k c)

-- the time that the others leave unused up to p
abbrev pub slack : ℕ → ℕ → List Timing → ℕ → ℕ
slack s n l p = s * p - approximates s n l p

-- the longest tail of period t that check-point p with slack q bears, if the tail's deadline is at least b
abbrev pub point_room : ℕ → ℕ → ℕ → ℕ → ℕ → ℕ → ℕ
point_room s n t b p q =
    cond (nat_le (n * t + b) p)
    ((q * t - (t - 1) * (p - (n * t + b))) / (s * ((n + 1) * t + (p - (n * t + b)))))
    (q / (s * ((p - b) / t + 1)))

-- the least of these over the first k check-points of x, and at most c
abbrev pub within_points : ℕ → ℕ → List Timing → ℕ → ℕ → Timing → ℕ → ℕ → ℕ
within_points s n l t b x zero c = c
within_points s n l t b x (suc k) c =
    min (point_room s n t b (point x k) (slack s n l (point x k))) (within_points s n l t b x k c)

-- the least over every check-point of each of these rows, and at most c
abbrev pub within_rows : ℕ → ℕ → List Timing → ℕ → ℕ → List Timing → ℕ → ℕ
within_rows s n l t b [] c = c
within_rows s n l t b (x ∷ rows) c = within_points s n l t b x (suc n) (within_rows s n l t b rows c)

-- what no start value changes
abbrev pub fixed_room : ℕ → ℕ → List Timing → ℕ → ℕ → ℕ
fixed_room s n l t c = within_steps s n l t n (before_deadlines l (min c (spare_budget s l t)))

-- the allowance found from a tail that is known to be at least b
abbrev pub refined : ℕ → ℕ → List Timing → ℕ → ℕ → ℕ → ℕ
refined s n l t c b = within_rows s n l t b l (fixed_room s n l t c)

-- the first result starts from 0, and each refinement from the result before
abbrev pub refinements : ℕ → ℕ → List Timing → ℕ → ℕ → ℕ → ℕ
refinements s n l t c zero = refined s n l t c 0
refinements s n l t c (suc r) = refined s n l t c (refinements s n l t c r)

-- the start value of every refinement is at most its result
abbrev pub StartsBelow : Type 0
StartsBelow = (s n : ℕ) (l : List Timing) (t c r : ℕ) → refinements s n l t c r ≤ refinements s n l t c (suc r)

-- with n retained steps and r refinements; nothing without a cap, a lawful period or a free row
abbrev pub demand_allowance : ℕ → ℕ → ℕ → List Timing → ℕ → ℕ → ℕ
demand_allowance s n r l t c =
    cond (c == 0 || (t == 0 || (nat_lt 100000 t || nat_lt 31 (length l)))) 0 (refinements s n l t c r)
