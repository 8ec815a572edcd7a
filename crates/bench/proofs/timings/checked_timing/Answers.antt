use Rattle.std.proofs.Common.{Ok, Err, sym, ap, ◌∙◌, arith}
use Rattle.std.proofs.lemmas.Result.{err_from_is_err_and}
use Rattle.lines.specs.Fields.{fields}
use Rattle.bench.specs.Timings.{row_unless}
use Rattle.bench.proofs.RowsRead.{row_limited}
use Rattle.bench.proofs.timings.checked_timing.Goals as goal

pub returns-in_err-check_numbers-in-Err : goal.returns-in_err-check_numbers-in-Err
returns-in_err-check_numbers-in-Err c =
    let p = err_from_is_err_and c.from_residual-in_err-check_numbers-in-Err.result c.from_residual-in_err-check_numbers-in-Err.ensures.1 in
    rw (p.1, p.2)
    (ap (row_unless (Ok tt) (Err c.in-Err.fault)) (sym c.in_err-check_numbers-in-Err.was)
    ∙ row_limited (fields c.args.line.now) c.args.at c.args.behind c.in_ok-budget.field-0 c.timing_of.result c.in-Err.fault c.check_numbers.result _
    (sym c.in_ok-budget.was ∙ c.read_numbers.ensures) c.timing_of.ensures c.in-Err.is c.check_numbers.ensures (omega arith))

pub returns-in_ok-check_numbers-in-Err : goal.returns-in_ok-check_numbers-in-Err
returns-in_ok-check_numbers-in-Err c =
    ap (row_unless (Ok tt) (Err c.in-Err.fault)) (sym c.in_ok-check_numbers-in-Err.was)
    ∙ row_limited (fields c.args.line.now) c.args.at c.args.behind c.in_ok-budget.field-0 c.timing_of.result c.in-Err.fault c.check_numbers.result _
    (sym c.in_ok-budget.was ∙ c.read_numbers.ensures) c.timing_of.ensures c.in-Err.is c.check_numbers.ensures (omega arith)
