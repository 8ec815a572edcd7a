-- The row at a position. Assumes nothing.
use Rattle.std.specs.Prelude.{ℕ, ◌-◌, cond, List, Some, None, Ok, Err, Option, Result, ◌==◌}
use Rattle.std.specs.List.{slice_get}
use Rattle.model.specs.declared.row.Row.{Row}
use Rattle.model.specs.declared.fault.NamingFault.{NamingFault}

-- the element at a place counted from 1
abbrev pub counted : {A : Type 0} → List A → ℕ → Option A
counted l n = cond (n == 0) None (slice_get l (n - 1))

-- a row that was found, or the refusal
abbrev pub named : Option Row → Result Row NamingFault
named (Some row) = Ok row
named None = Err NamingFault.Row
