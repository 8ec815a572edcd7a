-- The rows that a line writes down, as timings. Assumes nothing.
use Rattle.std.specs.Prelude.{ℕ, zero, suc, ◌+◌, ◌*◌, List, [], ◌∷◌, Some, None, Ok, Err, Option, Result}
use Rattle.model.specs.declared.fault.LineFault.{LineFault}
use Rattle.model.specs.declared.timing.Timing.{Timing}
use Rattle.model.specs.declared.fault.RequestFault.{RequestFault}
use Rattle.model.specs.Limits.{timing_fault}
use Rattle.processor.specs.declared.few.Few.{Few}
use Rattle.processor.specs.Few.{held}
use Rattle.board.specs.Timed.{timed}
use Rattle.benchlines.specs.Numbers.{number_at, checked}
use Rattle.bench.specs.declared.refusal.Refusal.{Refusal}

-- numbers that break no limit make a timing
abbrev pub timing_by : Option RequestFault → Option Timing → Result Timing RequestFault
timing_by (Some fault) x = Err fault
timing_by None (Some x) = Ok x
timing_by None None = Err RequestFault.Limit

-- the timing of these numbers, or the first limit that they break
abbrev pub timing_of : ℕ → ℕ → ℕ → Result Timing RequestFault
timing_of c d t = timing_by (timing_fault c d t) (timed c d t)

-- the timing of a row: three numbers from a place on
abbrev pub timing_at : List (List ℕ) → ℕ → Result Timing RequestFault
timing_at fs place = timing_of (number_at fs place) (number_at fs (place + 1)) (number_at fs (place + 2))

-- one more at the front; the first refusal stands
abbrev pub with_first : {E : Type 0} → Result Timing E → Result (List Timing) E → Result (List Timing) E
with_first (Err fault) rest = Err fault
with_first (Ok x) (Ok xs) = Ok (x ∷ xs)
with_first (Ok x) (Err fault) = Err fault

-- the timings of so many rows from a place on, or the first limit that one breaks, the first such row's
abbrev pub timings_at : List (List ℕ) → ℕ → ℕ → Result (List Timing) RequestFault
timings_at fs place zero = Ok []
timings_at fs place (suc n) = with_first (timing_at fs place) (timings_at fs (place + 3) n)

abbrev pub or_limit : Result (List Timing) RequestFault → Result (List Timing) Refusal
or_limit (Ok xs) = Ok xs
or_limit (Err fault) = Err (Refusal.Request fault)

abbrev pub unless_line : Result (Unit {0}) LineFault → Result (List Timing) RequestFault → Result (List Timing) Refusal
unless_line (Ok u) answer = or_limit answer
unless_line (Err fault) answer = Err (Refusal.Line fault)

-- the timings of so many rows from a place on; a field that is no number is refused before a limit that a row breaks
abbrev pub timings_read : List (List ℕ) → ℕ → ℕ → Result (List Timing) Refusal
timings_read fs place n = unless_line (checked fs place (3 * n)) (timings_at fs place n)

-- one row: refused for a field of its own that is no number, else, where it breaks a limit, for one of the rest that is none, else for the limit
abbrev pub row_unless : Result (Unit {0}) LineFault → Result Timing RequestFault → Result (Unit {0}) LineFault → Result Timing Refusal
row_unless (Err fault) row rest = Err (Refusal.Line fault)
row_unless (Ok u) (Ok x) rest = Ok x
row_unless (Ok u) (Err broken) (Err fault) = Err (Refusal.Line fault)
row_unless (Ok u) (Err broken) (Ok v) = Err (Refusal.Request broken)

-- the row at a place, with so many behind it
abbrev pub timing_read : List (List ℕ) → ℕ → ℕ → Result Timing Refusal
timing_read fs place behind = row_unless (checked fs place 3) (timing_at fs place) (checked fs (place + 3) (3 * behind))

-- what was read into a short list
abbrev pub kept : {X E : Type 0} → Result (Few X 40) E → Result (List X) E
kept (Ok list) = Ok (held list)
kept (Err fault) = Err fault
