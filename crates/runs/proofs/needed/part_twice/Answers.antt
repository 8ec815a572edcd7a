use Rattle.runs.proofs.Boards.{part_twice}
use Rattle.runs.proofs.needed.part_twice.Goals as goal

pub returns : goal.returns
returns c = part_twice
