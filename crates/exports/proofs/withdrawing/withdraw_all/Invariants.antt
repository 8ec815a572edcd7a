use Rattle.std.proofs.Common.{◌≡◌, ◌+◌, ◌≤◌, drop}
use Rattle.board.specs.Plan.{plan}
use Rattle.exports.specs.Boards.{count_over, withdrawing}
use Rattle.exports.proofs.withdrawing.withdraw_all.Given as goal

abbrev pub invariant-loop-key : goal.invariant-loop-key
invariant-loop-key g l =
    let b = l.initial.board in
    let counts = count_over (withdrawing (g.J.Judge.accepts b.judge)) in
    (l.count + counts (plan l.board) (drop l.key-index l.keys) ≡ counts (plan b) l.keys)
    × (l.count ≤ l.key-index) × (l.board.judge ≡ b.judge)
