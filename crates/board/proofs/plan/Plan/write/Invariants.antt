use Rattle.std.proofs.Common.{◌≡◌, drop}
use Rattle.board.specs.Plan.{lists}
use Rattle.board.specs.Admit.{written, Room}
use Rattle.board.proofs.plan.Plan.write.Given as goal

abbrev pub invariant-loop-placed : goal.invariant-loop-placed
invariant-loop-placed l =
    Room (lists l.self) (drop l.placed-index l.placed-items)
    × (written (lists l.self) (drop l.placed-index l.placed-items) ≡ written (lists l.initial.self) l.placed-items)
