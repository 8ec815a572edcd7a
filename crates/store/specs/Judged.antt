-- The judge's yes to every processor. Assumes nothing.
use Rattle.std.specs.Prelude.{ℕ, ◌+◌, Bool, cond, List, [], ◌∷◌, Some, None, Option}
use Rattle.model.specs.declared.timing.Timing.{Timing}
use Rattle.model.specs.declared.row.Row.{Row}
use Rattle.model.specs.Row.{timings}
use Rattle.store.specs.declared.fault.BufferFault.{BufferFault}
use Rattle.store.specs.declared.fault.BufferRule.{BufferRule}
use Rattle.store.specs.Fault.{fault}

-- the lowest processor, from number p on, whose rows get no
abbrev pub judge_fault : (List Timing → Bool) → ℕ → List (List Row) → Option BufferFault
judge_fault accepts p [] = None
judge_fault accepts p (rows ∷ plan) =
    cond (accepts (timings rows)) (judge_fault accepts (p + 1) plan) (Some (fault BufferRule.Judge p))
