use Rattle.std.proofs.Common.{◌≡◌, ◌-◌}
use Rattle.lines.specs.Fields.{fields}
use Rattle.benchlines.specs.Numbers.{checked}
use Rattle.benchlines.proofs.numbers.check_numbers.Given as goal

abbrev pub invariant-loop-place : goal.invariant-loop-place
invariant-loop-place l = checked (fields l.line) l.place (l.to - l.place) ≡ checked (fields l.line) l.from (l.to - l.from)
