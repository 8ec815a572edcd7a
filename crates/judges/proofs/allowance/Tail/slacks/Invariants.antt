use Rattle.std.proofs.Common.{◌≡◌, length}
use Rattle.model.specs.Scale.{scale}
use Rattle.judges.specs.Table.{Table}
use Rattle.judges.proofs.allowance.Tail.slacks.Given as goal

abbrev pub invariant-loop-i : goal.invariant-loop-i
invariant-loop-i l = (length l.rows ≡ 31) × Table scale l.self.curve.steps l.self.curve.list.now l.i l.rows
