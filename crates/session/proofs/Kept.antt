-- What is kept of a line is enough. Assumes nothing.
use Rattle.std.proofs.Common.{ℕ, ◌<◌}
use Rattle.lines.specs.declared.line.Line.{Line}
use Rattle.lines.proofs.Kept.{enough_kept}
use Rattle.session.specs.Reading.{IsEnough}

pub line_enough : {n : ℕ} (line : Line n) → 80 < n → IsEnough line
unfolding IsEnough
line_enough {n} line more = enough_kept n more
