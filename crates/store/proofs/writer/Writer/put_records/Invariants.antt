use Rattle.std.proofs.Common.{◌+◌, ◌*◌, ◌≤◌, map, length, drop}
use Rattle.processor.specs.Rows.{rows_of}
use Rattle.store.specs.Image.{records_bytes, row_count}
use Rattle.store.proofs.Buffers.{Left}
use Rattle.store.proofs.writer.Writer.put_records.Given as goal

abbrev pub invariant-loop-p : goal.invariant-loop-p
invariant-loop-p g l = record {
  room : l.self.at + 18 * row_count (map rows_of (drop l.p-index l.p-items)) ≤ length l.self.buffer.now;
  some : 1 ≤ l.number;
  few : l.number ≤ 1 + 32 * l.p-index;
  left : Left l.initial.self l.self (records_bytes l.number (map rows_of (drop l.p-index l.p-items))) (records_bytes 1 (map rows_of l.p-items));
}
