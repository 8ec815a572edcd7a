-- What load answers, and the plan that it leaves. Assumes nothing.
use Rattle.std.specs.Prelude.{◌≡◌, ℕ, Bool, List, map, length, Some, None, Ok, Err, Option, Result}
use Rattle.model.specs.declared.timing.Timing.{Timing}
use Rattle.model.specs.declared.row.Row.{Row}
use Rattle.store.specs.declared.entry.Entry.{Entry}
use Rattle.store.specs.declared.fault.BufferFault.{BufferFault}
use Rattle.store.specs.Answers.{answered}
use Rattle.store.specs.Record.{entry}
use Rattle.store.specs.Entries.{entries}
use Rattle.store.specs.Keys.{key_fault}
use Rattle.store.specs.Judged.{judge_fault}

-- the first of two refusals
abbrev pub first_of : Option BufferFault → Option BufferFault → Option BufferFault
first_of (Some f) g = Some f
first_of None g = g

-- the first rule of a plan that fails: keys, their number, the judge
abbrev pub plan_fault : (List Timing → Bool) → List (List Row) → Option BufferFault
plan_fault accepts plan = first_of (key_fault plan) (judge_fault accepts 1 plan)

-- a refusal keeps the plan
abbrev pub replaced : Option BufferFault → List (List Row) → List (List Row) → List (List Row)
replaced (Some f) before rows = before
replaced None before rows = rows

-- a refusal by the format; or there are the rows that the image says, and they are the plan or break a rule of plans
abbrev pub Taken : (List Timing → Bool) → Result (List (List Entry)) BufferFault → List (List Row) → Result (Unit {0}) BufferFault → List (List Row) → Type 0
Taken accepts (Err f) before answer after = (answer ≡ Err f) × (after ≡ before)
Taken accepts (Ok stored) before answer after =
    (rows : List (List Row)) × (map (map entry) rows ≡ stored)
    × (answer ≡ answered (plan_fault accepts rows)) × (after ≡ replaced (plan_fault accepts rows) before rows)

abbrev pub Loaded : (List Timing → Bool) → List ℕ → List (List Row) → Result (Unit {0}) BufferFault → List (List Row) → Type 0
Loaded accepts bytes before = Taken accepts (entries (length before) bytes) before
