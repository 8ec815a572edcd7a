-- What an admission's answer holds. Assumes nothing.
use Rattle.std.specs.Prelude.{List, Some, None, Option}
use Rattle.board.specs.declared.admission.Placed.{Placed}
use Rattle.board.specs.declared.admission.Admission.{Admission}
use Rattle.processor.specs.Few.{held}

-- the rows that were made
abbrev pub made_rows : Admission → List Placed
made_rows a = held a.placed

-- the rows of an admission that was found
abbrev pub rows_found : Option Admission → Option (List Placed)
rows_found (Some a) = Some (made_rows a)
rows_found None = None
