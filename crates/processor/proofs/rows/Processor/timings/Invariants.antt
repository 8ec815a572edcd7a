use Rattle.std.proofs.Common.{◌≡◌, take}
use Rattle.model.specs.Row.{timings}
use Rattle.processor.specs.Few.{held}
use Rattle.processor.proofs.rows.Processor.timings.Given as goal

abbrev pub invariant-loop-row : goal.invariant-loop-row
invariant-loop-row l = held l.list ≡ timings (take l.row-index l.row-items)
