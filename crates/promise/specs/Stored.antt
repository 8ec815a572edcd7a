-- The reservations that an image's records say. Assumes nothing.
use Rattle.std.specs.Prelude.{ℕ, zero, suc, ◌+◌, Bool, cond, List, [], ◌∷◌, map, filter, ◌==◌, nat_lt}
use Rattle.runs.specs.Plan.{Reservation}
use Rattle.store.specs.declared.entry.Entry.{Entry}
use Rattle.store.specs.Numbers.{byte_at}
use Rattle.store.specs.Header.{record_count}
use Rattle.store.specs.Record.{entry_at}

-- what so many records say, from a number on
abbrev pub says_from : (ℕ → Entry) → ℕ → ℕ → List Entry
says_from says zero number = []
says_from says (suc left) number = says number ∷ says_from says left (number + 1)

-- what all records of an image say, in the order of their numbers; the image itself has its processor count
abbrev pub records : List ℕ → List Entry
records bytes = says_from (entry_at (byte_at bytes 1) bytes) (record_count bytes) 1

-- the sum of what f gives for the records of a key
abbrev pub sum_of : (Entry → ℕ) → ℕ → List Entry → ℕ
sum_of f key [] = 0
sum_of f key (e ∷ l) = cond (e.key == key) (f e) 0 + sum_of f key l

-- the budget of a tail, which has kind 2; a whole and a head count nothing
abbrev pub tail_budget : Entry → ℕ
tail_budget e = cond (e.kind == 2) e.budget 0

-- a whole or a head: kind 0 or 1
abbrev pub is_first : Entry → Bool
is_first e = nat_lt e.kind 2

-- the reservation of a whole or a head: the budgets of its key's records in all, and its own deadline with those of the tails
abbrev pub reservation_of : List Entry → Entry → Reservation
reservation_of all e = record {
  key = e.key;
  budget = sum_of (λ z. z.budget) e.key all;
  deadline = e.deadline + sum_of tail_budget e.key all;
  period = e.period;
}

-- one for each whole or head, in the order of the records
abbrev pub stored_reservations : List ℕ → List Reservation
stored_reservations bytes = map (reservation_of (records bytes)) (filter is_first (records bytes))
