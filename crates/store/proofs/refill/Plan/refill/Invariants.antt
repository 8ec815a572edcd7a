use Rattle.std.proofs.Common.{◌≡◌, map, take, vec_items, vec_len}
use Rattle.processor.specs.Rows.{rows_of}
use Rattle.processor.specs.Few.{held}
use Rattle.store.proofs.refill.Plan.refill.Given as goal

abbrev pub invariant-loop-i : goal.invariant-loop-i
invariant-loop-i l =
    (vec_len l.processors ≡ vec_len l.initial.processors)
    × (map rows_of (take l.i (vec_items l.processors)) ≡ map held (take l.i l.rows-items))
