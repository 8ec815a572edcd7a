use Rattle.std.proofs.Common.{sym, ◌∙◌}
use Rattle.std.proofs.lemmas.Result.{err_from_is_err_and}
use Rattle.lines.specs.Fields.{fields}
use Rattle.bench.proofs.Asked.{rows_refused}
use Rattle.bench.proofs.asking.allow.Goals as goal

pub returns-in_err-timings : goal.returns-in_err-timings
returns-in_err-timings g c =
    let p = err_from_is_err_and c.from_residual-in_err-timings.result c.from_residual-in_err-timings.ensures.1 in
    rw (p.1, p.2)
    (rows_refused (fields c.args.line.now) c.args.rows c.in_ok-period.field-0 c.checked_timings.result c.in_err-timings.field-0.0
    (g.J.SizingJudge.allows c.args.board.now.judge) (sym c.in_ok-period.was ∙ c.read_numbers.ensures) c.checked_timings.ensures c.in_err-timings.was)
