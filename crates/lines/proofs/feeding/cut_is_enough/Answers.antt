use Rattle.lines.proofs.Kept.{cut_is_enough}
use Rattle.lines.proofs.feeding.cut_is_enough.Goals as goal

pub returns : goal.returns
returns c = cut_is_enough
