-- The rows of an image's records, in place. Assumes nothing.
use Rattle.std.specs.Prelude.{◌≡◌, ℕ, ◌+◌, ◌<◌, true, false, length, Some, None, Ok, Err, Result, slice_index_or}
use Rattle.model.specs.declared.row.Row.{Row}
use Rattle.processor.specs.declared.few.Few.{Few}
use Rattle.processor.specs.Few.{held}
use Rattle.store.specs.declared.entry.Entry.{Entry}
use Rattle.store.specs.declared.fault.BufferFault.{BufferFault}
use Rattle.store.specs.declared.fault.BufferRule.{BufferRule}
use Rattle.store.specs.Fault.{fault}
use Rattle.store.specs.Record.{entry, bad_entry}
use Rattle.store.specs.Records.{record_fault}

-- the row of a record, or its refusal
abbrev pub Read : Entry → ℕ → Result Row BufferFault → Type 0
Read e number (Ok row) = (bad_entry e ≡ false) × (entry row ≡ e)
Read e number (Err f) = (bad_entry e ≡ true) × (f ≡ fault BufferRule.Record number)

-- the rows of r records, the row of record k + 1 at k; or the refusal of the lowest bad one
abbrev pub ReadAll : (ℕ → Entry) → ℕ → Result (Few Row 256) BufferFault → Type 0
ReadAll says r (Ok rows) =
    (record_fault says r 1 ≡ None) × (length (held rows) ≡ r) × ((k : ℕ) (d : Row) → k < r → entry (slice_index_or (held rows) k d) ≡ says (k + 1))
ReadAll says r (Err f) = record_fault says r 1 ≡ Some f
