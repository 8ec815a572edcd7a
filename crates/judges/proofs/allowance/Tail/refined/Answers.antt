use Rattle.std.proofs.Common.{◌∙◌, length, ap, arith}
use Rattle.model.specs.Scale.{scale}
use Rattle.judges.proofs.AllowanceTable.{first_row}
use Rattle.judges.proofs.AllowanceWalk.{first_passed}
use Rattle.judges.proofs.allowance.Tail.refined.Goals as goal

pub within_points-room-requires : goal.within_points-room-requires
within_points-room-requires c =
    (first_row scale c.args.self.now.curve.steps c.args.self.now.curve.list.now c.in-Some.x.now c.in-Some.row.now _ _ _ _
    c.in-Some.ensures.steps.0 c.in-Some.ensures.steps.1 c.loop-x.invariant.slacks).0

pub loop-x-preserved : goal.loop-x-preserved
loop-x-preserved c =
    let n = c.args.self.now.curve.steps in
    let l = c.args.self.now.curve.list.now in
    let x = c.in-Some.x.now in
    record {
      left =
          first_passed scale n l c.args.self.now.period c.args.start _ _ x c.loop-x.room.ticks c.within_points-room.result.ticks
          c.in-Some.ensures.steps.0 c.within_points-room.ensures
          ∙ c.loop-x.invariant.left;
      slacks = (first_row scale n l x c.in-Some.row.now _ _ _ _ c.in-Some.ensures.steps.0 c.in-Some.ensures.steps.1 c.loop-x.invariant.slacks).1;
      enough = omega (arith, ap length c.in-Some.ensures.steps.0, ap length c.in-Some.ensures.steps.1);
    }
