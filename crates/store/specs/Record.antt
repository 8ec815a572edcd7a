-- A record of an image: where it stands and what it says. Assumes nothing.
use Rattle.std.specs.Prelude.{ℕ, ◌+◌, ◌-◌, ◌*◌, Bool, cond, not, ◌||◌, List, is_some, ◌==◌, nat_lt}
use Rattle.model.specs.declared.row.Row.{Row}
use Rattle.model.specs.Row.{kind_number, part}
use Rattle.model.specs.Limits.{timing_fault}
use Rattle.store.specs.declared.entry.Entry.{Entry}
use Rattle.store.specs.Numbers.{byte_at, two_at, four_at}

-- where a record begins, after the header and m heads of an image
abbrev pub start : ℕ → ℕ → ℕ
start m number = 4 + 2 * m + 18 * (number - 1)

-- the number of the record that follows a record
abbrev pub next_at : ℕ → List ℕ → ℕ → ℕ
next_at m bytes number = two_at bytes (start m number)

-- what a record says of its row
abbrev pub entry_from : List ℕ → ℕ → Entry
entry_from bytes at = record {
  key = two_at bytes (at + 2);
  kind = byte_at bytes (at + 4);
  part = byte_at bytes (at + 5);
  budget = four_at bytes (at + 6);
  deadline = four_at bytes (at + 10);
  period = four_at bytes (at + 14);
}

abbrev pub entry_at : ℕ → List ℕ → ℕ → Entry
entry_at m bytes number = entry_from bytes (start m number)

-- what is stored of a row
abbrev pub entry : Row → Entry
entry row = record {
  key = row.key;
  kind = kind_number row.kind;
  part = part row.kind;
  budget = row.timing.budget;
  deadline = row.timing.deadline;
  period = row.timing.period;
}

-- a tail has a part from 1 to 7 and a budget that is its deadline; a whole or a head has part 0
abbrev pub bad_part : Entry → Bool
bad_part e =
    cond (e.kind == 2) (nat_lt e.part 1 || (nat_lt 7 e.part || not (e.budget == e.deadline))) (not (e.part == 0))

-- a kind other than whole, head and tail; key 0; a bad part; or a timing outside the limits
abbrev pub bad_entry : Entry → Bool
bad_entry e =
    nat_lt 2 e.kind || (e.key == 0 || (bad_part e || is_some (timing_fault e.budget e.deadline e.period)))
