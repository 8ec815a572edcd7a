-- What a withdrawal asks of one processor's rows. Assumes nothing.
use Rattle.std.specs.Prelude.{ℕ, ◌+◌, Bool, cond, not, ◌&&◌, ◌||◌, List, [], ◌∷◌, Some, None, filter, find, Option, ◌==◌, nat_lt}
use Rattle.model.specs.Row.{is_tail, is_head}
use Rattle.model.specs.Scale.{scale}
use Rattle.model.specs.Share.{share}
use Rattle.model.specs.declared.row.Row.{Row}
use Rattle.processor.specs.Keys.{is_of}

-- a row of another reservation
abbrev pub other : ℕ → Row → Bool
other key row = not (row.key == key)

-- a processor's rows without those of a reservation, in their order
abbrev pub others : ℕ → List Row → List Row
others key = filter (other key)

-- the first tail among these rows
abbrev pub tail_among : List Row → Option Row
tail_among = find (λ row. is_tail row.kind)

-- a row comes before another as a candidate: a larger share, or the same and a lower key
abbrev pub heavier : Row → Row → Bool
heavier a b =
    nat_lt (share scale b.timing) (share scale a.timing)
    || (share scale b.timing == share scale a.timing && nat_lt a.key b.key)

-- a head takes the place of the heaviest so far, if it is heavier
abbrev pub over : Option Row → Row → Option Row
over None row = Some row
over (Some held) row = cond (heavier row held) (Some row) (Some held)

-- the heaviest head among these rows, with one that is already held
abbrev pub heaviest : Option Row → List Row → Option Row
heaviest held [] = held
heaviest held (row ∷ rows) = heaviest (cond (is_head row.kind) (over held row) held) rows

-- the first, if there is one, else the second
abbrev pub or_else : Option Row → Option Row → Option Row
or_else (Some row) b = Some row
or_else None b = b

-- what is to be gathered on a processor: the reservation whose tail stands there, else that of the heaviest head
abbrev pub candidate : List Row → Option Row
candidate rows = or_else (tail_among rows) (heaviest None rows)

-- a measure of a row, if it is of this reservation
abbrev pub if_of : (Row → ℕ) → ℕ → Row → ℕ
if_of f key row = cond (is_of key row) (f row) 0

-- the sum of a measure over a reservation's rows
abbrev pub sum_on : (Row → ℕ) → ℕ → List Row → ℕ
sum_on f key [] = 0
sum_on f key (row ∷ rows) = if_of f key row + sum_on f key rows
