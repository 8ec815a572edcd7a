use Rattle.std.proofs.Common.{◌≡◌, ◌+◌, ◌*◌, ◌≤◌, map, length, drop}
use Rattle.processor.specs.Rows.{rows_of}
use Rattle.store.specs.Image.{heads_bytes}
use Rattle.store.proofs.Buffers.{Left}
use Rattle.store.proofs.writer.Writer.put_heads.Given as goal

abbrev pub invariant-loop-p : goal.invariant-loop-p
invariant-loop-p g l = record {
  long : length l.self.buffer.now ≡ length l.initial.self.buffer.now;
  at : l.self.at ≡ l.initial.self.at + 2 * l.p-index;
  few : l.number ≤ 1 + 32 * l.p-index;
  left : Left l.initial.self l.self (heads_bytes l.number (map rows_of (drop l.p-index l.p-items))) (heads_bytes 1 (map rows_of l.p-items));
}
