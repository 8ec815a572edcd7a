use Rattle.std.proofs.Common.{◌≡◌, ◌+◌, ◌*◌, length, drop}
use Rattle.store.specs.Image.{chain_bytes}
use Rattle.store.proofs.Buffers.{Left}
use Rattle.store.proofs.writer.Writer.put_chain.Given as goal

abbrev pub invariant-loop-i : goal.invariant-loop-i
invariant-loop-i l = record {
  long : length l.self.buffer.now ≡ length l.initial.self.buffer.now;
  at : l.self.at ≡ l.initial.self.at + 18 * l.i;
  left : Left l.initial.self l.self (chain_bytes (l.from + l.i) (drop l.i l.rows)) (chain_bytes l.from l.rows);
}
