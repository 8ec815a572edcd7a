use Rattle.std.proofs.Common.{◌≡◌}
use Rattle.model.specs.Scale.{scale}
use Rattle.judges.specs.Allowance.{within_points}
use Rattle.judges.proofs.allowance.Tail.within_points.Given as goal

abbrev pub invariant-loop-k : goal.invariant-loop-k
invariant-loop-k l =
    l.room.ticks ≡ within_points scale l.self.curve.steps l.self.curve.list.now l.self.period l.start l.x l.k l.fn.room.ticks
