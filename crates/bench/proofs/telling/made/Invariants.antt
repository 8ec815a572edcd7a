use Rattle.std.proofs.Common.{◌≡◌, take, string_bytes}
use Rattle.bench.specs.Rows.{rows_text}
use Rattle.bench.proofs.telling.made.Given as goal

abbrev pub invariant-loop-placed : goal.invariant-loop-placed
invariant-loop-placed l = string_bytes l.text ≡ rows_text (take l.placed-index l.rows)
