use Rattle.runs.proofs.Examples.{idle_tick}
use Rattle.runs.proofs.needed.idle_tick.Goals as goal

pub returns : goal.returns
returns c = idle_tick
