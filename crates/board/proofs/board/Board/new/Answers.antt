use Rattle.std.proofs.Common.{arith}
use Rattle.processor.specs.Rows.{rows_of}
use Rattle.board.proofs.Plans.{map_grown}
use Rattle.board.proofs.board.Board.new.Goals as goal

pub loop-preserved : goal.loop-preserved
loop-preserved g c = (
  omega arith,
  omega arith,
  map_grown rows_of _ _ _ _ _ c.push_reserved.ensures.items c.loop.invariant.2
      c.in_ok-with_capacity.ensures.items,
)
