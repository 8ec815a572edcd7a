use Rattle.std.proofs.Common.{◌<◌, length, sym, ap, ◌∙◌, arith}
use Rattle.std.proofs.lemmas.Result.{err_from_is_err_and}
use Rattle.std.proofs.lemmas.List.{length_push}
use Rattle.processor.specs.Few.{held}
use Rattle.store.specs.Record.{entry_at}
use Rattle.store.proofs.ByNumber.{record_more, record_refused, record_all, read_more}
use Rattle.store.proofs.image.Image.rows.Goals as goal

pub returns-in_err-row : goal.returns-in_err-row
returns-in_err-row c =
    let p = err_from_is_err_and c.from_residual.result c.from_residual.ensures.1 in
    let no = c.in_err-row.ensures in
    rw (p.1, p.2, no.1)
    (sym c.loop-number.invariant.1
    ∙ record_refused (entry_at c.args.self.now.processors c.args.self.now.bytes.now) c.args.self.now.records c.loop-number.number (omega arith) no.0)

pub loop-number-preserved : goal.loop-number-preserved
loop-number-preserved c =
    let says = entry_at c.args.self.now.processors c.args.self.now.bytes.now in
    let rows = held c.loop-number.rows in
    let few : length rows < 256 = omega (arith, c.loop-number.invariant.0) in
    let pushed = c.push.ensures.end few in
    let longer = ap length pushed ∙ length_push rows c.in_ok-row.field-0 in
    let ok = c.in_ok-row.ensures in (
      omega (arith, longer, c.loop-number.invariant.0),
      sym (record_more says c.args.self.now.records c.loop-number.number (omega arith) ok.0) ∙ c.loop-number.invariant.1,
      λ k d h. read_more says rows (held c.push.new.self) c.in_ok-row.field-0 pushed
          (ok.1 ∙ ap says (sym c.loop-number.invariant.0)) c.loop-number.invariant.2 k d (omega (arith, longer)),
    )

pub returns : goal.returns
returns c = (
  sym c.loop-number.invariant.1 ∙ record_all (entry_at c.args.self.now.processors c.args.self.now.bytes.now) _ _ (omega arith),
  omega (arith, c.loop-number.invariant.0),
  λ k d h. c.loop-number.invariant.2 k d (omega (arith, c.loop-number.invariant.0)),
)
