use Rattle.runs.proofs.Promise.{board_never_late}
use Rattle.runs.proofs.board.board_never_late.Goals as goal

pub returns : goal.returns
returns c = board_never_late
