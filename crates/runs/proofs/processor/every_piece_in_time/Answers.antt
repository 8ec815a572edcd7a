use Rattle.runs.proofs.Timely.{every_piece_in_time}
use Rattle.runs.proofs.processor.every_piece_in_time.Goals as goal

pub returns : goal.returns
returns c = every_piece_in_time
