use Rattle.std.proofs.Common.{◌≡◌, ◌+◌, ◌≤◌, drop}
use Rattle.board.specs.Plan.{plan}
use Rattle.exports.specs.Boards.{count_over, admitting}
use Rattle.exports.proofs.admitting.admit_all.Given as goal

abbrev pub invariant-loop-one : goal.invariant-loop-one
invariant-loop-one g l =
    let b = l.initial.board in
    let counts = count_over (admitting g.P.Rank.Rank.first (g.P.Placement.ranks b.rule) (g.J.Judge.accepts b.judge) (g.J.SizingJudge.allows b.judge)) in
    (l.count + counts (plan l.board) (drop l.one-index l.wanted) ≡ counts (plan b) l.wanted)
    × (l.count ≤ l.one-index) × (l.board.judge ≡ b.judge) × (l.board.rule ≡ b.rule)
