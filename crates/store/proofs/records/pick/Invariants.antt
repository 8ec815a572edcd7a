use Rattle.std.proofs.Common.{◌≡◌, take}
use Rattle.model.specs.declared.row.Row.{Row}
use Rattle.processor.specs.Few.{held}
use Rattle.store.specs.Records.{picked}
use Rattle.store.proofs.records.pick.Given as goal

abbrev pub invariant-loop-number : goal.invariant-loop-number
invariant-loop-number l = (d : Row) → held l.picked ≡ picked l.rows d (take l.number-index l.numbers)
