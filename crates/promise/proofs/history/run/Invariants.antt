use Rattle.std.proofs.Common.{◌≡◌, ◌≤◌, length, take, vec_items, vec_len, vec_capacity}
use Rattle.board.specs.Plan.{plan}
use Rattle.promise.specs.History.{History}
use Rattle.promise.specs.Promise.{meant}
use Rattle.promise.proofs.history.run.Given as goal

abbrev pub invariant-loop-call : goal.invariant-loop-call
invariant-loop-call g l =
    (vec_len l.outcome.answers ≡ l.call-index) × (length l.calls ≤ vec_capacity l.outcome.answers)
    × (l.outcome.board.judge ≡ l.initial.outcome.board.judge) × (l.outcome.board.rule ≡ l.initial.outcome.board.rule)
    × History (meant g.P.Rank.Rank.first (g.P.Placement.ranks l.initial.outcome.board.rule) (g.J.Judge.accepts l.initial.outcome.board.judge) (g.J.SizingJudge.allows l.initial.outcome.board.judge))
    (plan l.initial.outcome.board) (take l.call-index l.calls) (vec_items l.outcome.answers) (plan l.outcome.board)
