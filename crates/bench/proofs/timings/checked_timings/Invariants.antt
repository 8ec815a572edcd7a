use Rattle.std.proofs.Common.{◌≡◌, ◌+◌, ◌-◌, ◌*◌, length}
use Rattle.lines.specs.Fields.{fields}
use Rattle.processor.specs.Few.{held}
use Rattle.bench.specs.Timings.{timings_read}
use Rattle.bench.proofs.RowsRead.{with_front}
use Rattle.bench.proofs.timings.checked_timings.Given as goal

abbrev pub invariant-loop-i : goal.invariant-loop-i
invariant-loop-i l =
    (with_front (held l.timings) (timings_read (fields l.line) (l.first + 3 * l.i) (l.count - l.i)) ≡ timings_read (fields l.line) l.first l.count)
    × (length (held l.timings) ≡ l.i)
