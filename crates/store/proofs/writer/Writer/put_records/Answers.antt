use Rattle.std.proofs.Common.{map, length, ap, ◌∙◌, subst, arith}
use Rattle.processor.specs.Rows.{rows_of}
use Rattle.store.specs.Image.{records_bytes, row_count}
use Rattle.store.specs.Written.{Wrote}
use Rattle.store.proofs.Buffers.{write_more, write_all, length_overwritten}
use Rattle.store.proofs.Drops.{seen_more, seen_all}
use Rattle.store.proofs.Images.{records_more, length_chain}
use Rattle.store.proofs.writer.Writer.put_records.Goals as goal

pub loop-p-preserved : goal.loop-p-preserved
loop-p-preserved g c =
    let inv = c.loop-p.invariant in
    let here = c.loop-p.self in
    let wrote = c.put_chain.ensures in
    let rows = c.as_slice-rows.result.now in
    let split = seen_more rows_of row_count c.as_slice-p-items.result.now c.loop-p.p-index c.p-item.result (omega arith) c.p-item.is in
    let long = length_chain c.loop-p.number rows in
    let after = ap length wrote.buffer ∙ length_overwritten here.buffer.now here.at _ (omega (arith, split, long, inv.room)) in
    record {
      room = omega (arith, split, long, after, wrote.at, inv.room);
      some = omega arith;
      few = omega arith;
      left =
          write_more c.args.self.now here c.put_chain.new.self _ _ _ _ wrote (omega (arith, inv.room))
          (records_more c.as_slice-p-items.result.now c.loop-p.p-index c.p-item.result c.loop-p.number (length rows) rows
          (omega arith) c.p-item.is c.as_slice-rows.ensures.value (ap length c.as_slice-rows.ensures.value)) inv.left;
    }

pub returns : goal.returns
returns g c =
    subst (λ ps. Wrote c.args.self.now c.loop-p.self (records_bytes 1 (map rows_of ps))) c.as_slice-p-items.ensures.value
    (write_all c.args.self.now c.loop-p.self _ _
    (seen_all rows_of (records_bytes c.loop-p.number) c.as_slice-p-items.result.now c.loop-p.p-index (omega arith)) c.loop-p.invariant.left)
