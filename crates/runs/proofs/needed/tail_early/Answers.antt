use Rattle.runs.proofs.Examples.{tail_early}
use Rattle.runs.proofs.needed.tail_early.Goals as goal

pub returns : goal.returns
returns c = tail_early
