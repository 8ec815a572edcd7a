use Rattle.std.proofs.Common.{◌≡◌, take, subst, arith}
use Rattle.std.proofs.lemmas.List.{take_all}
use Rattle.lines.specs.Replies.{Wrote, row_line}
use Rattle.session.specs.Rows.{rows_text}
use Rattle.session.proofs.Each.{wrote_each_more}
use Rattle.lines.proofs.Puts.{wrote_none}
use Rattle.session.proofs.reply.put_rows.Goals as goal

pub loop-row-init : goal.loop-row-init
loop-row-init c = (wrote_none c.args.out.now c.args.at, omega arith)

pub loop-row-preserved : goal.loop-row-preserved
loop-row-preserved c = (
  wrote_each_more (λ x. row_line x.processor x.row) c.args.rows.now c.loop-row.row-index c.row-item.result
      c.loop-row-test.true c.row-item.is
      c.args.out.now c.args.at c.loop-row.out c.loop-row.end c.put_row-end.new.out c.put_row-end.result
      (omega arith) c.loop-row.invariant.0 c.put_row-end.ensures.wrote,
  omega arith,
)

pub returns : goal.returns
returns c =
    let all : take c.loop-row.row-index c.args.rows.now ≡ c.args.rows.now =
    take_all c.loop-row.row-index c.args.rows.now c.loop-row-test.false in
    record {
      wrote = subst (λ l. Wrote c.args.out.now c.args.at (rows_text l) c.loop-row.out c.loop-row.end) all c.loop-row.invariant.0;
      short = omega arith;
    }
