use Rattle.runs.proofs.Examples.{later_first}
use Rattle.runs.proofs.needed.later_first.Goals as goal

pub returns : goal.returns
returns c = later_first
