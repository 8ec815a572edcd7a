use Rattle.std.proofs.Common.{◌≡◌, take, vec_len}
use Rattle.processor.specs.Rows.{rows_of}
use Rattle.store.proofs.refill.refill.Given as goal

abbrev pub invariant-loop-row : goal.invariant-loop-row
invariant-loop-row l =
    (vec_len l.processor.rows ≡ l.row-index) × (rows_of l.processor ≡ take l.row-index l.row-items)
