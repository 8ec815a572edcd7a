use Rattle.std.proofs.Common.{arith}
use Rattle.runs.specs.Run.{idle}
use Rattle.runs.specs.Plan.{work}
use Rattle.runs.proofs.Building.{built, built_rule}
use Rattle.runs.proofs.board.some_board_run.Goals as goal

pub returns : goal.returns
returns c plan pattern = (λ p. built (work plan pattern p) (λ t. idle) 0, λ p t. built_rule (work plan pattern p) (λ t. idle) 0 t (omega arith))
