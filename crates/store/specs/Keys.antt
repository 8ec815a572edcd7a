-- Which rows of a key make a reservation. Assumes nothing.
use Rattle.std.specs.Prelude.{ℕ, zero, suc, ◌+◌, Bool, true, false, cond, not, ◌&&◌, ◌||◌, List, [], ◌∷◌, ◌++◌, length, Some, None, filter, Option, ◌==◌, nat_eq, nat_le, nat_lt}
use Rattle.model.specs.declared.row.Row.{Row}
use Rattle.model.specs.Row.{kind_number, part}
use Rattle.store.specs.declared.fault.BufferFault.{BufferFault}
use Rattle.store.specs.declared.fault.BufferRule.{BufferRule}
use Rattle.store.specs.Fault.{fault}

-- the rows of a key on one processor, and on all
abbrev pub of_key : ℕ → List Row → List Row
of_key key = filter (λ row. nat_eq row.key key)

abbrev pub pieces : ℕ → List (List Row) → List Row
pieces key [] = []
pieces key (rows ∷ plan) = of_key key rows ++ pieces key plan

-- all on different processors
abbrev pub apart : ℕ → List (List Row) → Bool
apart key [] = true
apart key (rows ∷ plan) = nat_le (length (of_key key rows)) 1 && apart key plan

-- a head or a tail of this period, and all of them
abbrev pub piece : ℕ → Row → Bool
piece t row = not (kind_number row.kind == 0) && row.timing.period == t

abbrev pub alike : ℕ → List Row → Bool
alike t [] = true
alike t (row ∷ rows) = piece t row && alike t rows

-- how often a part is there; a head has part 0
abbrev pub times : ℕ → List Row → ℕ
times p [] = 0
times p (row ∷ rows) = cond (part row.kind == p) 1 0 + times p rows

-- each part below n is there once
unfoldable pub once_each : ℕ → List Row → Bool
once_each zero rows = true
once_each (suc n) rows = times n rows == 1 && once_each n rows

-- how long a piece may take from its start: a head its deadline, a tail its budget
abbrev pub stretch_of : Row → ℕ
stretch_of row = cond (kind_number row.kind == 2) row.timing.budget row.timing.deadline

abbrev pub stretch : List Row → ℕ
stretch [] = 0
stretch (row ∷ rows) = stretch_of row + stretch rows

-- one head and tails 1 to x, x at least 1, with equal periods; the head's deadline and the tails' budgets fit the period
abbrev pub split_of : ℕ → List Row → Bool
split_of t rows = alike t rows && (once_each (length rows) rows && nat_le (stretch rows) t)

-- one whole, or a head and its tails
abbrev pub one_reservation : List Row → Bool
one_reservation [] = false
one_reservation (row ∷ []) = kind_number row.kind == 0
one_reservation (row ∷ (next ∷ rows)) = split_of row.timing.period (row ∷ (next ∷ rows))

abbrev pub bad_key : List (List Row) → ℕ → Bool
bad_key plan key = not (apart key plan && one_reservation (pieces key plan))

-- the lower of the lowest bad key so far and a key, if that is bad; 0 where there is none yet
abbrev pub lower : (ℕ → Bool) → ℕ → ℕ → ℕ
lower bad lowest key = cond ((lowest == 0 || nat_lt key lowest) && bad key) key lowest

-- the lowest bad key of rows, and of a plan
abbrev pub lowest_in : (ℕ → Bool) → ℕ → List Row → ℕ
lowest_in bad lowest [] = lowest
lowest_in bad lowest (row ∷ rows) = lowest_in bad (lower bad lowest row.key) rows

abbrev pub lowest_of : (ℕ → Bool) → ℕ → List (List Row) → ℕ
lowest_of bad lowest [] = lowest
lowest_of bad lowest (rows ∷ plan) = lowest_of bad (lowest_in bad lowest rows) plan

-- how many keys there are: each has one whole or one head
abbrev pub firsts : List Row → ℕ
firsts [] = 0
firsts (row ∷ rows) = cond (kind_number row.kind == 2) 0 1 + firsts rows

abbrev pub keys : List (List Row) → ℕ
keys [] = 0
keys (rows ∷ plan) = firsts rows + keys plan

-- the lowest key whose rows are no reservation; else more than 64 keys
abbrev pub keys_fault : ℕ → ℕ → Option BufferFault
keys_fault lowest count =
    cond (not (lowest == 0)) (Some (fault BufferRule.Key lowest)) (cond (nat_lt 64 count) (Some (fault BufferRule.Keys 0)) None)

abbrev pub key_fault : List (List Row) → Option BufferFault
key_fault plan = keys_fault (lowest_of (bad_key plan) 0 plan) (keys plan)
