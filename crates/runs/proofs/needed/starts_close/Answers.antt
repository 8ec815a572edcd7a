use Rattle.runs.proofs.Examples.{starts_close}
use Rattle.runs.proofs.needed.starts_close.Goals as goal

pub returns : goal.returns
returns c = starts_close
