use Rattle.std.proofs.Common.{◌≡◌, ◌≤◌, length}
use Rattle.std.specs.Iterator.Adapters.{zip_first, zip_second}
use Rattle.std.specs.Slice.Iter.{iter_rest}
use Rattle.model.specs.Scale.{scale}
use Rattle.judges.specs.Allowance.{within_rows}
use Rattle.judges.proofs.AllowanceTable.{Rows}
use Rattle.judges.proofs.allowance.Tail.refined.Given as goal

abbrev pub invariant-loop-x : goal.invariant-loop-x
invariant-loop-x l =
    let n = l.self.curve.steps in
    let list = l.self.curve.list.now in
    let rest = iter_rest (zip_first l.x-iterator) in
    let rows = iter_rest (zip_second l.x-iterator) in record {
      left : within_rows scale n list l.self.period l.start rest l.room.ticks ≡ within_rows scale n list l.self.period l.start list l.fn.fixed.ticks;
      slacks : Rows scale n list rest rows;
      enough : length rest ≤ length rows;
    }
