use Rattle.std.proofs.Common.{◌≡◌, take}
use Rattle.processor.specs.Few.{held}
use Rattle.processor.proofs.few.Few.collected.Given as goal

abbrev pub invariant-loop-x : goal.invariant-loop-x
invariant-loop-x g l = held l.list ≡ take g.row.N l.yielded
