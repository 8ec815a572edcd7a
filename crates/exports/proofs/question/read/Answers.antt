use Rattle.std.proofs.Common.{◌+◌, ◌<◌, length, drop, ◌≡◌, Err, sym, ap, ◌∙◌, subst, arith, rules}
use Rattle.std.proofs.lemmas.List.{take_all, at_drop_all}
use Rattle.model.specs.Refusal.{request_number}
use Rattle.processor.specs.Few.{held}
use Rattle.processor.proofs.Ends.{pushed_room}
use Rattle.exports.specs.declared.numbers.Numbers.{Numbers}
use Rattle.exports.specs.Judging.{numbered, or_later, rows_fault, Read}
use Rattle.exports.proofs.Reading.{fault_at, read_count, read_more, numbers_same}
use Rattle.exports.proofs.question.read.Goals as goal

abbrev none : Numbers
none = record { budget = 0; deadline = 0; period = 0 }

pub returns-in_err-new : goal.returns-in_err-new
returns-in_err-new c =
    let fault = c.in_err-new.field-0.0 in
    let gone : c.from_residual.result ≡ Err fault = search rules in
    subst (Read c.args.rows.now _) (sym gone) (
    sym c.loop-row.invariant.1 ∙ fault_at c.args.rows.now c.loop-row.row-index none c.loop-row-test.true
    ∙ ap (λ f. or_later (numbered request_number f) (rows_fault (drop (c.loop-row.row-index + 1) c.args.rows.now))) c.in_err-new.ensures
    )

pub loop-row-preserved : goal.loop-row-preserved
loop-row-preserved c =
    let rows = c.args.rows.now in
    let i = c.loop-row.row-index in
    let timed = c.in_ok-new.ensures in
    let list = held c.loop-row.list in
    let room : length list < 32 = omega (arith, c.requires, c.loop-row-test.true, read_count rows i none c.loop-row-test.true list c.loop-row.invariant.0) in (
      read_more rows i none c.loop-row-test.true list (held c.push.new.self) c.in_ok-new.field-0 c.loop-row.invariant.0
          (c.push.ensures.after ∙ pushed_room 32 list c.in_ok-new.field-0 room)
          (numbers_same c.in_ok-new.field-0 _ timed.1 timed.2 timed.3),
      sym (ap (λ f. or_later (numbered request_number f) (rows_fault (drop (i + 1) rows))) timed.0)
          ∙ sym (fault_at rows i none c.loop-row-test.true) ∙ c.loop-row.invariant.1,
    )

pub returns : goal.returns
returns c = (
  sym c.loop-row.invariant.1 ∙ at_drop_all rows_fault c.args.rows.now c.loop-row.row-index c.loop-row-test.false,
  c.loop-row.invariant.0 ∙ take_all c.loop-row.row-index c.args.rows.now c.loop-row-test.false,
)
