use Rattle.std.proofs.Common.{refl, arith}
use Rattle.std.proofs.lemmas.Result.{err_from_is_err_and}
use Rattle.lines.specs.Fields.{fields}
use Rattle.benchlines.proofs.Counts.{checked_more, checked_stop}
use Rattle.benchlines.proofs.numbers.check_numbers.Goals as goal

pub returns-in_err-number_read : goal.returns-in_err-number_read
returns-in_err-number_read c =
    let p = err_from_is_err_and c.from_residual.result c.from_residual.ensures.1 in
    rw (p.1, p.2)
    (checked_stop (fields c.args.line.now) c.loop-place.place c.args.to _ c.in_err-number_read.field-0.0
    c.number_read.result _ (omega arith) refl c.number_read.ensures c.in_err-number_read.was c.loop-place.invariant)

pub loop-place-preserved : goal.loop-place-preserved
loop-place-preserved c =
    checked_more (fields c.args.line.now) c.loop-place.place c.args.to c.in_ok-number_read.field-0 _ c.number_read.result _
    (omega arith) refl c.number_read.ensures c.in_ok-number_read.was c.loop-place.invariant
