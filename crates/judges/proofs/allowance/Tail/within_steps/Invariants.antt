use Rattle.std.proofs.Common.{◌≡◌, ◌-◌}
use Rattle.model.specs.Scale.{scale}
use Rattle.judges.specs.Allowance.{within_steps}
use Rattle.judges.proofs.allowance.Tail.within_steps.Given as goal

abbrev pub invariant-loop-turns : goal.invariant-loop-turns
invariant-loop-turns l =
    l.room.ticks ≡ within_steps scale l.self.curve.steps l.self.curve.list.now l.self.period (l.turns - 1) l.fn.room.ticks
