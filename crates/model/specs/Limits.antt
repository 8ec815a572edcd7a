-- Which numbers make a timing, and what is wrong with others. Assumes nothing.
use Rattle.std.specs.Prelude.{◌≡◌, ℕ, cond, Some, None, Ok, Err, Option, Result, ◌==◌, nat_lt}
use Rattle.model.specs.declared.timing.Timing.{Timing}
use Rattle.model.specs.declared.fault.RequestFault.{RequestFault}

-- the first limit that a budget, a deadline and a period break: no budget, a budget above the deadline,
-- a deadline above the period, a period above 100,000
abbrev pub timing_fault : ℕ → ℕ → ℕ → Option RequestFault
timing_fault c d t =
    cond (c == 0) (Some RequestFault.Budget)
    (cond (nat_lt d c) (Some RequestFault.Deadline)
    (cond (nat_lt t d) (Some RequestFault.Period)
    (cond (nat_lt 100000 t) (Some RequestFault.Limit) None)))

-- a timing of just these numbers, or the first limit that they break
abbrev pub Timed : ℕ → ℕ → ℕ → Result Timing RequestFault → Type 0
Timed c d t (Ok x) = (timing_fault c d t ≡ None) × (x.budget ≡ c) × (x.deadline ≡ d) × (x.period ≡ t)
Timed c d t (Err f) = timing_fault c d t ≡ Some f
