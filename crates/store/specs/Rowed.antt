-- The row that an entry says. Assumes nothing.
use Rattle.std.specs.Prelude.{◌≡◌, true, false, Ok, Err, Result}
use Rattle.model.specs.declared.row.Row.{Row}
use Rattle.store.specs.declared.entry.Entry.{Entry}
use Rattle.store.specs.declared.fault.BufferRule.{BufferRule}
use Rattle.store.specs.Record.{entry, bad_entry}

-- the row of which just this is stored, or the refusal of an entry that is no row's
abbrev pub Rowed : Entry → Result Row BufferRule → Type 0
Rowed e (Ok row) = (bad_entry e ≡ false) × (entry row ≡ e)
Rowed e (Err rule) = (bad_entry e ≡ true) × (rule ≡ BufferRule.Record)
