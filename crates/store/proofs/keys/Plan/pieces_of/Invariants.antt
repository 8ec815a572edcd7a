use Rattle.std.proofs.Common.{◌≡◌, ◌≤◌, ◌++◌, map, length, drop}
use Rattle.processor.specs.Few.{held}
use Rattle.store.specs.Keys.{apart, pieces}
use Rattle.store.proofs.keys.Plan.pieces_of.Given as goal

abbrev pub invariant-loop-rows : goal.invariant-loop-rows
invariant-loop-rows l =
    (length (held l.found) ≤ l.rows-index)
    × (apart l.key (map held (drop l.rows-index l.rows-items)) ≡ apart l.key (map held l.rows-items))
    × (held l.found ++ pieces l.key (map held (drop l.rows-index l.rows-items)) ≡ pieces l.key (map held l.rows-items))
