-- A processor's rows. Assumes nothing.
use Rattle.std.specs.Prelude.{List, vec_items}
use Rattle.model.specs.declared.row.Row.{Row}
use Rattle.processor.specs.declared.rows.Processor.{Processor}

-- a processor's rows, in the order in which they came
abbrev pub rows_of : Processor → List Row
rows_of p = vec_items p.rows
