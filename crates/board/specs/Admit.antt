-- Admission: the answer, and the plan afterwards. Assumes nothing.
use Rattle.std.specs.Prelude.{ℕ, ◌-◌, ◌<◌, ◌≤◌, Bool, List, [], ◌∷◌, length, ℤ, Some, None, Ok, Err, Option, Result, slice_index_or}
use Rattle.model.specs.declared.timing.Timing.{Timing}
use Rattle.model.specs.declared.row.Kind.{Kind}
use Rattle.model.specs.declared.row.Row.{Row}
use Rattle.model.specs.declared.fault.RequestFault.{RequestFault}
use Rattle.board.specs.declared.admission.Placed.{Placed}
use Rattle.board.specs.declared.admission.Admission.{Admission}
use Rattle.board.specs.Plan.{append}
use Rattle.board.specs.Timed.{timed}
use Rattle.board.specs.Place.{place}
use Rattle.board.specs.Request.{request_fault}
use Rattle.board.specs.Split.{placed, or_more, split_up}
use Rattle.board.specs.Admission.{made_rows}

-- the rows of a newcomer: whole where some processor takes it, else split
abbrev pub decided :
    {R : Type 0} → (R → R → Bool) → (ℕ → ℤ → ℕ → R) → (List Timing → Bool) → (List Timing → ℕ → ℕ → ℕ) →
    List (List Row) → ℕ → Timing → Option (List Placed)
decided first ranks accepts allows plan key x =
    or_more (λ p. placed key p Kind.Whole x ∷ []) (place first ranks accepts plan [] x) (split_up first ranks accepts allows plan key x)

-- rows that were found are the answer; where there are none, no place
abbrev pub found_place : Option (List Placed) → Result (List Placed) RequestFault
found_place (Some rows) = Ok rows
found_place None = Err RequestFault.NoPlace

-- what is decided for a timing (numbers that make none are refused before)
abbrev pub from_timing : (Timing → Option (List Placed)) → Option Timing → Result (List Placed) RequestFault
from_timing decide (Some x) = found_place (decide x)
from_timing decide None = Err RequestFault.NoPlace

-- a fault is refused first
abbrev pub unless_fault : Option RequestFault → Result (List Placed) RequestFault → Result (List Placed) RequestFault
unless_fault (Some fault) answer = Err fault
unless_fault None answer = answer

-- the first refusal that applies, else the rows made, or no place
abbrev pub admitted :
    {R : Type 0} → (R → R → Bool) → (ℕ → ℤ → ℕ → R) → (List Timing → Bool) → (List Timing → ℕ → ℕ → ℕ) →
    List (List Row) → ℕ → ℕ → ℕ → ℕ → Result (List Placed) RequestFault
admitted first ranks accepts allows plan key c d t =
    unless_fault (request_fault key c d t plan) (from_timing (decided first ranks accepts allows plan key) (timed c d t))

-- each row goes to the end of its processor's list
abbrev pub written : List (List Row) → List Placed → List (List Row)
written plan [] = plan
written plan (p ∷ rows) = written (append (p.processor - 1) p.row plan) rows

-- a refusal changes nothing
abbrev pub after : List (List Row) → Result (List Placed) RequestFault → List (List Row)
after plan (Ok rows) = written plan rows
after plan (Err fault) = plan

-- there is room for these rows, one after the other
abbrev pub Room : List (List Row) → List Placed → Type 0
Room plan [] = Unit {0}
Room plan (p ∷ rows) =
    (1 ≤ p.processor) × (p.processor ≤ length plan) × (length (slice_index_or plan (p.processor - 1) []) < 32)
    × Room (append (p.processor - 1) p.row plan) rows

-- there is room for what was found
abbrev pub RoomFor : List (List Row) → Option Admission → Type 0
RoomFor plan (Some a) = Room plan (made_rows a)
RoomFor plan None = Unit {0}

-- the rows that an answer holds, or its refusal
abbrev pub told : Result Admission RequestFault → Result (List Placed) RequestFault
told (Ok a) = Ok (made_rows a)
told (Err fault) = Err fault
