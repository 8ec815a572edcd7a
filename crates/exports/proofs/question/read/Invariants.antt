use Rattle.std.proofs.Common.{◌≡◌, map, take, drop}
use Rattle.processor.specs.Few.{held}
use Rattle.exports.specs.Judging.{numbers, rows_fault}
use Rattle.exports.proofs.question.read.Given as goal

abbrev pub invariant-loop-row : goal.invariant-loop-row
invariant-loop-row l =
    (map numbers (held l.list) ≡ take l.row-index l.rows) × (rows_fault (drop l.row-index l.rows) ≡ rows_fault l.rows)
