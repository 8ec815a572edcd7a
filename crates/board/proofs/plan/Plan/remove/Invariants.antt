use Rattle.std.proofs.Common.{◌≡◌, ◌++◌, map, take, drop}
use Rattle.processor.specs.Rows.{rows_of}
use Rattle.processor.specs.Gathering.{others}
use Rattle.board.proofs.plan.Plan.remove.Given as goal

abbrev pub invariant-loop-processor : goal.invariant-loop-processor
invariant-loop-processor l =
    map rows_of l.processor-items
    ≡ map (others l.key) (take l.processor-index (map rows_of l.initial.processor-items))
    ++ drop l.processor-index (map rows_of l.initial.processor-items)
