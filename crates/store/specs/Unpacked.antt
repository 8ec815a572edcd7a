-- The rows that an image says, in place. Assumes nothing.
use Rattle.std.specs.Prelude.{◌≡◌, ℕ, List, map, Ok, Err, Result}
use Rattle.model.specs.declared.row.Row.{Row}
use Rattle.store.specs.declared.entry.Entry.{Entry}
use Rattle.store.specs.declared.fault.BufferFault.{BufferFault}
use Rattle.store.specs.declared.lists.Lists.{Lists}
use Rattle.store.specs.InPlace.{all_held}
use Rattle.store.specs.Record.{entry}

-- rows of just these entries, a list for each of m processors; or the refusal
abbrev pub Unpacked : ℕ → Result (List (List Entry)) BufferFault → Result (Lists Row) BufferFault → Type 0
Unpacked m stored (Ok plan) = (stored ≡ Ok (map (map entry) (all_held plan))) × (plan.count ≡ m)
Unpacked m stored (Err f) = stored ≡ Err f
