use Rattle.std.proofs.Common.{◌≡◌}
use Rattle.model.specs.Scale.{scale}
use Rattle.judges.specs.Allowance.{refinements}
use Rattle.judges.proofs.allowance.Tail.longest.Given as goal

abbrev pub invariant-loop : goal.invariant-loop
invariant-loop l = l.room.ticks ≡ refinements scale l.self.curve.steps l.self.curve.list.now l.self.period l.cap l.counter
