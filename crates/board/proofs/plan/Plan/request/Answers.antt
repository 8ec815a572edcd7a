use Rattle.std.proofs.Common.{sym, arith}
use Rattle.board.specs.Plan.{lists}
use Rattle.board.proofs.Timed.{timed_ok}
use Rattle.board.proofs.Requests.{no_fault}
use Rattle.board.proofs.plan.Plan.request.Goals as goal

pub returns : goal.returns
returns c =
    let made = c.in_ok-newcomer.ensures in (
      no_fault c.args.wanted.key c.args.wanted.budget c.args.wanted.deadline c.args.wanted.period (lists c.args.self.now) (omega arith) (omega arith)
          made.0 (sym c.if-stands.ensures) (sym c.if-not-has_room.ensures),
      timed_ok c.args.wanted.budget c.args.wanted.deadline c.args.wanted.period c.in_ok-newcomer.newcomer made,
      omega arith,
    )
