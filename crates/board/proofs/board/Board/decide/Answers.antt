use Rattle.std.proofs.Common.{◌≡◌, Some, rules}
use Rattle.board.specs.Plan.{plan}
use Rattle.board.specs.Admission.{made_rows, rows_found}
use Rattle.board.specs.Admit.{decided}
use Rattle.board.proofs.Found.{found_fits}
use Rattle.board.proofs.board.Board.decide.Goals as goal

pub returns-in-Some : goal.returns-in-Some
returns-in-Some g c =
    let b = c.args.self.now in let first = g.P.Rank.Rank.first in let ranks = g.P.Placement.ranks b.rule in
    let accepts = g.J.Judge.accepts b.judge in let allows = g.J.SizingJudge.allows b.judge in
    let rows : Some (made_rows c.one.result) ≡ decided first ranks accepts allows (plan b) c.args.key c.args.newcomer = search rules in
    record { rows = rows; room = found_fits first ranks accepts allows (plan b) c.args.key c.args.newcomer (Some c.one.result) rows }

pub returns-in-None : goal.returns-in-None
returns-in-None g c =
    let b = c.args.self.now in let first = g.P.Rank.Rank.first in let ranks = g.P.Placement.ranks b.rule in
    let accepts = g.J.Judge.accepts b.judge in let allows = g.J.SizingJudge.allows b.judge in
    let rows : rows_found c.split.result ≡ decided first ranks accepts allows (plan b) c.args.key c.args.newcomer = search rules in
    record { rows = rows; room = found_fits first ranks accepts allows (plan b) c.args.key c.args.newcomer c.split.result rows }
