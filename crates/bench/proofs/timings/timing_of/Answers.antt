use Rattle.bench.proofs.RowsRead.{timing_is}
use Rattle.bench.proofs.timings.timing_of.Goals as goal

pub returns : goal.returns
returns c = timing_is c.args.budget c.args.deadline c.args.period c.new.result c.new.ensures
