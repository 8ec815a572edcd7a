-- The row at a processor and a position. Assumes nothing.
use Rattle.std.specs.Prelude.{ℕ, List, Some, None, Err, Option, Result}
use Rattle.model.specs.declared.row.Row.{Row}
use Rattle.model.specs.declared.fault.NamingFault.{NamingFault}
use Rattle.std.specs.Borrow.{Bor}
use Rattle.processor.specs.declared.rows.Processor.{Processor}
use Rattle.processor.specs.Rows.{rows_of}
use Rattle.processor.specs.Look.{counted, named}

-- the rows of a processor that was found
abbrev pub rows_seen : Option (Bor Processor) → Option (List Row)
rows_seen (Some p) = Some (rows_of p.now)
rows_seen None = None

-- the row at a position of the rows that were found
abbrev pub looked_on : Option (List Row) → ℕ → Result Row NamingFault
looked_on (Some rows) position = named (counted rows position)
looked_on None position = Err NamingFault.Row

-- the row at a processor and a position, or the refusal
abbrev pub looked : List (List Row) → ℕ → ℕ → Result Row NamingFault
looked plan processor position = looked_on (counted plan processor) position
