-- The first refusal that applies to a request, before a place is looked for. Assumes nothing.
use Rattle.std.specs.Prelude.{◌≡◌, ℕ, ◌≤◌, Bool, cond, ◌||◌, List, Some, None, Ok, Err, Option, Result, nat_lt}
use Rattle.model.specs.declared.timing.Timing.{Timing}
use Rattle.model.specs.declared.row.Row.{Row}
use Rattle.model.specs.declared.fault.RequestFault.{RequestFault}
use Rattle.model.specs.Limits.{timing_fault}
use Rattle.board.specs.Keys.{stands, reservations}
use Rattle.board.specs.Timed.{timed}

-- keys are 1 to 65,535
abbrev pub bad_key : ℕ → Bool
bad_key key = nat_lt key 1 || nat_lt 65535 key

-- fewer than 64 reservations stand
abbrev pub has_room : List (List Row) → Bool
has_room plan = nat_lt (reservations plan) 64

-- the key stands already, or there is no room for one reservation more
abbrev pub standing_fault : ℕ → List (List Row) → Option RequestFault
standing_fault key plan =
    cond (stands key plan) (Some RequestFault.Stands) (cond (nat_lt (reservations plan) 64) None (Some RequestFault.Full))

-- the first of two faults
abbrev pub or_fault : Option RequestFault → Option RequestFault → Option RequestFault
or_fault (Some fault) later = Some fault
or_fault None later = later

-- a bad key, then a limit that the numbers break, then what stands already
abbrev pub request_fault : ℕ → ℕ → ℕ → ℕ → List (List Row) → Option RequestFault
request_fault key c d t plan =
    cond (bad_key key) (Some RequestFault.Key) (or_fault (timing_fault c d t) (standing_fault key plan))

-- the newcomer's timing where nothing is wrong, else the first refusal that applies
abbrev pub Requested : ℕ → ℕ → ℕ → ℕ → List (List Row) → Result Timing RequestFault → Type 0
Requested key c d t plan (Ok x) = (request_fault key c d t plan ≡ None) × (timed c d t ≡ Some x) × (key ≤ 65535)
Requested key c d t plan (Err fault) = request_fault key c d t plan ≡ Some fault
