use Rattle.std.proofs.Common.{arith}
use Rattle.lines.specs.Fields.{fields}
use Rattle.benchlines.proofs.Reading.{read_more}
use Rattle.benchlines.proofs.numbers.read_numbers.Goals as goal

pub loop-i-preserved : goal.loop-i-preserved
loop-i-preserved g c =
    read_more (fields c.args.line.now) c.args.from g.row.N c.loop-i.i c.in_ok-number.field-0 c.loop-i.number-items c.number_read.result
    (omega arith) c.number_read.ensures c.in_ok-number.was c.loop-i.invariant
