use Rattle.runs.proofs.Boards.{stray_row}
use Rattle.runs.proofs.needed.stray_row.Goals as goal

pub returns : goal.returns
returns c = stray_row
