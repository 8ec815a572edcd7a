use Rattle.std.proofs.Common.{[], ◌∷◌, length, refl, ap, ◌∙◌, ◌+◌, ◌-◌, arith, length-append}
use Rattle.std.proofs.lemmas.Result.{err_from_is_err_and}
use Rattle.lines.specs.Fields.{fields}
use Rattle.processor.specs.Few.{held}
use Rattle.bench.specs.Timings.{timing_read, timings_read}
use Rattle.bench.proofs.RowsRead.{rows_none, room_more, rows_more, rows_stop, rows_all, checked_by_row}
use Rattle.bench.proofs.timings.checked_timings.Goals as goal

pub loop-i-init : goal.loop-i-init
loop-i-init c =
    (rows_none (timings_read (fields c.args.line.now)) (held c.new-timings.result) c.args.first c.args.count c.new-timings.ensures, ap length c.new-timings.ensures)

pub returns-in_err-checked_timing : goal.returns-in_err-checked_timing
returns-in_err-checked_timing c =
    let p = err_from_is_err_and c.from_residual.result c.from_residual.ensures.1 in let fs = fields c.args.line.now in
    rw (p.1, p.2)
    (rows_stop (timing_read fs) (timings_read fs) (checked_by_row fs) c.args.first c.args.count c.loop-i.i (held c.loop-i.timings) c.in_err-checked_timing.field-0.0
    c.checked_timing.result _ (omega arith) (c.checked_timing.ensures ∙ ap (λ k. timing_read fs k (c.args.count - (c.loop-i.i + 1))) c.row_place.ensures) c.in_err-checked_timing.was c.loop-i.invariant.0)

pub loop-i-preserved : goal.loop-i-preserved
loop-i-preserved c =
    let fs = fields c.args.line.now in
    let xs = held c.loop-i.timings in let x = c.in_ok-checked_timing.field-0 in
    let longer = room_more xs (held c.push.new.self) x (omega arith) c.push.ensures.after in (
      rows_more (timing_read fs) (timings_read fs) (checked_by_row fs) c.args.first c.args.count c.loop-i.i xs (held c.push.new.self) x
          c.checked_timing.result _ (omega arith) (c.checked_timing.ensures ∙ ap (λ k. timing_read fs k (c.args.count - (c.loop-i.i + 1))) c.row_place.ensures) c.in_ok-checked_timing.was longer c.loop-i.invariant.0,
      omega (arith, ap length longer, length-append xs (x ∷ [])),
    )

pub returns : goal.returns
returns c =
    rows_all (timings_read (fields c.args.line.now)) _ c.args.count c.loop-i.i (held c.loop-i.timings) _ refl (omega arith) c.loop-i.invariant.0
