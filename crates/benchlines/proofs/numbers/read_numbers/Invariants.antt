use Rattle.lines.specs.Fields.{fields}
use Rattle.benchlines.proofs.Reading.{Read}
use Rattle.benchlines.proofs.numbers.read_numbers.Given as goal

abbrev pub invariant-loop-i : goal.invariant-loop-i
invariant-loop-i g l = Read (fields l.line) l.from g.row.N l.i l.number-items
