use Rattle.std.proofs.Common.{◌≡◌, ℕ, ◌+◌, ◌-◌, ◌<◌, length, get_or}
use Rattle.model.specs.declared.row.Row.{Row}
use Rattle.processor.specs.Few.{held}
use Rattle.store.specs.Record.{entry, entry_at}
use Rattle.store.specs.Records.{record_fault}
use Rattle.store.proofs.image.Image.rows.Given as goal

abbrev pub invariant-loop-number : goal.invariant-loop-number
invariant-loop-number l =
    (length (held l.rows) + 1 ≡ l.number)
    × (record_fault (entry_at l.self.processors l.self.bytes.now) (l.self.records + 1 - l.number) l.number
    ≡ record_fault (entry_at l.self.processors l.self.bytes.now) l.self.records 1)
    × ((k : ℕ) (d : Row) → k < length (held l.rows) → entry (get_or (held l.rows) k d) ≡ entry_at l.self.processors l.self.bytes.now (k + 1))
