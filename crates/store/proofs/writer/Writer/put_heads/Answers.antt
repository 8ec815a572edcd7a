use Rattle.std.proofs.Common.{map, length, ap, ◌∙◌, subst, arith}
use Rattle.processor.specs.Rows.{rows_of}
use Rattle.store.specs.Image.{heads_bytes}
use Rattle.store.specs.Written.{Wrote}
use Rattle.store.proofs.Buffers.{write_more, write_all, length_overwritten}
use Rattle.store.proofs.Drops.{seen_all}
use Rattle.store.proofs.Images.{heads_more}
use Rattle.store.proofs.writer.Writer.put_heads.Goals as goal

pub loop-p-preserved : goal.loop-p-preserved
loop-p-preserved g c =
    let inv = c.loop-p.invariant in
    let here = c.loop-p.self in
    let wrote = c.put.ensures in
    record {
      long = ap length wrote.buffer ∙ length_overwritten here.buffer.now here.at c.two.result (omega (arith, inv.at, inv.long)) ∙ inv.long;
      at = omega (arith, wrote.at, inv.at);
      few = omega arith;
      left =
          write_more c.args.self.now here c.put.new.self c.two.result _ _ _ wrote (omega (arith, inv.at, inv.long))
          (heads_more c.as_slice-p-items.result.now c.loop-p.p-index c.p-item.result c.loop-p.number c.first_of.result c.len-count.result c.two.result
          (omega arith) c.p-item.is c.two.ensures c.first_of.ensures (omega arith)) inv.left;
    }

pub returns : goal.returns
returns g c =
    subst (λ ps. Wrote c.args.self.now c.loop-p.self (heads_bytes 1 (map rows_of ps))) c.as_slice-p-items.ensures.value
    (write_all c.args.self.now c.loop-p.self _ _
    (seen_all rows_of (heads_bytes c.loop-p.number) c.as_slice-p-items.result.now c.loop-p.p-index (omega arith)) c.loop-p.invariant.left)
