-- The plan after a line that asks for a change. Assumes nothing.
use Rattle.std.specs.Prelude.{ℕ, Bool, List, ℤ, Ok, Err, Result}
use Rattle.model.specs.declared.timing.Timing.{Timing}
use Rattle.model.specs.declared.row.Row.{Row}
use Rattle.model.specs.declared.fault.LineFault.{LineFault}
use Rattle.model.specs.declared.wanted.Wanted.{Wanted}
use Rattle.board.specs.Admit.{admitted, after}
use Rattle.board.specs.Withdraw.{withdrawal}

-- the plan after an admission; a line whose numbers cannot be read changes nothing
abbrev pub after_admit :
    {R : Type 0} → (R → R → Bool) → (ℕ → ℤ → ℕ → R) → (List Timing → Bool) → (List Timing → ℕ → ℕ → ℕ) →
    List (List Row) → Result Wanted LineFault → List (List Row)
after_admit first ranks accepts allows plan (Ok a) =
    after plan (admitted first ranks accepts allows plan a.key a.budget a.deadline a.period)
after_admit first ranks accepts allows plan (Err e) = plan

-- the plan after a withdrawal
abbrev pub after_leave : (List Timing → Bool) → List (List Row) → Result ℕ LineFault → List (List Row)
after_leave accepts plan (Ok key) = (withdrawal accepts key plan).1
after_leave accepts plan (Err e) = plan
