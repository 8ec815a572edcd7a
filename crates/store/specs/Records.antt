-- The records of an image, by number. Assumes nothing.
use Rattle.std.specs.Prelude.{ℕ, zero, suc, ◌+◌, ◌-◌, ◌≤◌, cond, List, map, get_or, Some, None, Option}
use Rattle.std.specs.List.{AllByRecursion}
use Rattle.model.specs.declared.row.Row.{Row}
use Rattle.store.specs.declared.entry.Entry.{Entry}
use Rattle.store.specs.declared.fault.BufferFault.{BufferFault}
use Rattle.store.specs.declared.fault.BufferRule.{BufferRule}
use Rattle.store.specs.Fault.{fault}
use Rattle.store.specs.Record.{bad_entry}

-- the lowest of so many records, from a number on, that is no row's
unfoldable pub record_fault : (ℕ → Entry) → ℕ → ℕ → Option BufferFault
record_fault says zero number = None
record_fault says (suc left) number =
    cond (bad_entry (says number)) (Some (fault BufferRule.Record number)) (record_fault says left (number + 1))

-- each is the number of one of r records
abbrev pub Numbered : ℕ → List ℕ → Type 0
Numbered r = AllByRecursion (λ n. (1 ≤ n) × (n ≤ r))

-- the rows of these records, out of the rows by number
abbrev pub picked : List Row → Row → List ℕ → List Row
picked rows d = map (λ n. get_or rows (n - 1) d)
