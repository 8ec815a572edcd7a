use Rattle.std.proofs.Common.{Ok}
use Rattle.board.specs.Plan.{plan}
use Rattle.bench.proofs.Said.{blank_said}
use Rattle.bench.proofs.answer.answer.Goals as goal

pub returns-then-is_blank-clause-answered : goal.returns-then-is_blank-clause-answered
returns-then-is_blank-clause-answered g c =
    blank_said g.P.Rank.Rank.first (g.P.Placement.ranks c.args.board.now.rule) (g.J.Judge.accepts c.args.board.now.judge)
    (g.J.SizingJudge.allows c.args.board.now.judge) c.args.line.now (plan c.args.board.now) (Ok c.new.result)
    c.if-is_blank.ensures c.new.ensures.bytes
