use Rattle.std.proofs.Common.{ap, ◌∙◌}
use Rattle.lines.specs.Fields.{fields}
use Rattle.board.specs.Plan.{plan}
use Rattle.benchlines.specs.Tasks.{task_of}
use Rattle.bench.specs.Replies.{refused_at}
use Rattle.bench.specs.Outcomes.{refusal_number, answer_text}
use Rattle.bench.proofs.Said.{says_as, said_as}
use Rattle.bench.proofs.answer.told.Goals as goal

pub returns-in-Ok-clause-answered : goal.returns-in-Ok-clause-answered
returns-in-Ok-clause-answered g c =
    let after = plan c.act.new.board in
    said_as g.P.Rank.Rank.first (g.P.Placement.ranks c.args.board.now.rule) (g.J.Judge.accepts c.args.board.now.judge)
    (g.J.SizingJudge.allows c.args.board.now.judge) (fields c.args.line.now) (plan c.args.board.now) (task_of c.args.line.now) after
    (answer_text after c.in-Ok.answer) c.text.result c.text.ensures c.in-Ok.ensures.answered

pub returns-in-Err-clause-answered : goal.returns-in-Err-clause-answered
returns-in-Err-clause-answered g c =
    let after = plan c.act.new.board in let refusal = c.in-Err.refusal in
    let same = ap (λ n. refused_at n c.place.result) c.number.ensures ∙ ap (refused_at (refusal_number refusal)) c.place.ensures in
    said_as g.P.Rank.Rank.first (g.P.Placement.ranks c.args.board.now.rule) (g.J.Judge.accepts c.args.board.now.judge)
    (g.J.SizingJudge.allows c.args.board.now.judge) (fields c.args.line.now) (plan c.args.board.now) (task_of c.args.line.now) after
    _ c.refused.result (says_as c.refused.result _ _ same c.refused.ensures) c.in-Err.ensures.answered
