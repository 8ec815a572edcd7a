-- What a row's kind says: its number, its part, its word. Assumes nothing.
use Rattle.std.specs.Prelude.{ℕ, Bool, true, false, cond, List, map, codes}
use Rattle.model.specs.declared.timing.Timing.{Timing}
use Rattle.model.specs.declared.row.Kind.{Kind}
use Rattle.model.specs.declared.row.Row.{Row}

-- the number of a kind: a whole reservation, a head or a tail
abbrev pub kind_number : Kind → ℕ
kind_number Kind.Whole = 0
kind_number Kind.Head = 1
kind_number (Kind.Tail p) = 2

-- the part that a row is of its reservation: tails count from 1 in serving order, the others are part 0
abbrev pub part : Kind → ℕ
part Kind.Whole = 0
part Kind.Head = 0
part (Kind.Tail p) = p

-- a row is a tail of a split reservation
abbrev pub is_tail : Kind → Bool
is_tail Kind.Whole = false
is_tail Kind.Head = false
is_tail (Kind.Tail p) = true

-- a row is the head of a split reservation
abbrev pub is_head : Kind → Bool
is_head Kind.Whole = false
is_head Kind.Head = true
is_head (Kind.Tail p) = false

-- how a kind is written
abbrev pub kind_word : Kind → List ℕ
kind_word Kind.Whole = codes "whole"
kind_word Kind.Head = codes "head"
kind_word (Kind.Tail p) = codes "tail"

-- a row's part of its reservation's deadline: a tail adds its budget to the deadline of its head
abbrev pub due : Row → ℕ
due row = cond (is_tail row.kind) row.timing.budget row.timing.deadline

-- the timings of a list of rows: what a judge looks at
abbrev pub timings : List Row → List Timing
timings = map (λ r. r.timing)
