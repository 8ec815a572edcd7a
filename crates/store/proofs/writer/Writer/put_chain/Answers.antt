use Rattle.std.proofs.Common.{◌≡◌, ◌+◌, length, drop, ap, ◌∙◌, subst, arith}
use Rattle.std.proofs.lemmas.List.{at_drop_all}
use Rattle.store.specs.Image.{chain_bytes}
use Rattle.store.proofs.Buffers.{Left, write_more, write_all, length_overwritten}
use Rattle.store.proofs.Images.{chain_more}
use Rattle.store.proofs.writer.Writer.put_chain.Goals as goal

pub loop-i-preserved : goal.loop-i-preserved
loop-i-preserved c =
    let inv = c.loop-i.invariant in
    let here = c.loop-i.self in
    let wrote = c.put.ensures in
    let n : c.args.from + c.loop-i.i + 1 ≡ c.args.from + (c.loop-i.i + 1) = omega arith in
    record {
      long = ap length wrote.buffer ∙ length_overwritten here.buffer.now here.at c.record.result (omega (arith, inv.at, inv.long)) ∙ inv.long;
      at = omega (arith, wrote.at, inv.at);
      left = subst (λ k. Left c.args.self.now c.put.new.self (chain_bytes k (drop (c.loop-i.i + 1) c.args.rows.now)) (chain_bytes c.args.from c.args.rows.now)) n
          (write_more c.args.self.now here c.put.new.self c.record.result _ _ _ wrote (omega (arith, inv.at, inv.long))
          (chain_more c.args.rows.now c.loop-i.i c.index-rows-i.result (c.args.from + c.loop-i.i) c.next_of.result c.record.result
          (omega arith) c.index-rows-i.is c.record.ensures c.next_of.ensures) inv.left);
    }

pub returns : goal.returns
returns c =
    write_all c.args.self.now c.loop-i.self _ _
    (at_drop_all (chain_bytes (c.args.from + c.loop-i.i)) c.args.rows.now c.loop-i.i (omega arith)) c.loop-i.invariant.left
