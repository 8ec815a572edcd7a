use Rattle.std.proofs.Common.{◌≡◌, ◌+◌, ◌≤◌, ◌++◌, length, drop}
use Rattle.board.specs.Plan.{plan}
use Rattle.processor.specs.Few.{held}
use Rattle.board.specs.Place.{open_to, candidates}
use Rattle.board.proofs.board.Board.candidates.Given as goal

abbrev pub invariant-loop-i : goal.invariant-loop-i
invariant-loop-i g l =
    (held l.found ++ candidates (open_to (g.J.Judge.accepts l.self.judge) l.cuts l.timing) (l.i + 1) (drop l.i (plan l.self))
    ≡ candidates (open_to (g.J.Judge.accepts l.self.judge) l.cuts l.timing) 1 (plan l.self))
    × (length (held l.found) ≤ l.i)
