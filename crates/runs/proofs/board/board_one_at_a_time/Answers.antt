use Rattle.runs.proofs.Turns.{board_one_at_a_time}
use Rattle.runs.proofs.board.board_one_at_a_time.Goals as goal

pub returns : goal.returns
returns c = board_one_at_a_time
