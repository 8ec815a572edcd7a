use Rattle.runs.proofs.Boards.{head_keeps_deadline}
use Rattle.runs.proofs.needed.head_keeps_deadline.Goals as goal

pub returns : goal.returns
returns c = head_keeps_deadline
