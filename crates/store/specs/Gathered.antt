-- The rows of a key, in place, and the lowest key. Assumes nothing.
use Rattle.std.specs.Prelude.{◌≡◌, ℕ, Bool, true, false, cond, ◌&&◌, List, [], ◌∷◌, map, filter, min, length, Some, None, Ok, Err, Option, Result, nat_le, nat_lt}
use Rattle.model.specs.declared.row.Row.{Row}
use Rattle.processor.specs.declared.few.Few.{Few}
use Rattle.processor.specs.Few.{held}
use Rattle.store.specs.declared.keys.Twice.{Twice}
use Rattle.store.specs.Keys.{apart, pieces, bad_key}
use Rattle.store.specs.Loading.{all_of}
use Rattle.std.specs.List.{reduce}
use Rattle.std.specs.Borrow.{Bor}

-- what there is, as a list
abbrev pub as_list : Option (Bor Row) → List Row
as_list None = []
as_list (Some row) = row.now ∷ []

-- the one row that there may be, if there are no more
abbrev pub OnlyOne : List Row → Result (Option (Bor Row)) Twice → Type 0
OnlyOne rows (Ok found) = rows ≡ as_list found
OnlyOne rows (Err e) = nat_le (length rows) 1 ≡ false

-- the rows of a key if they are on different processors
abbrev pub Gathered : ℕ → List (List Row) → Result (Few Row 8) Twice → Type 0
Gathered key plan (Ok found) = (apart key plan ≡ true) × (held found ≡ pieces key plan)
Gathered key plan (Err e) = apart key plan ≡ false

-- the lower of the lowest bad key so far and a key, if that is bad
abbrev pub lower_key : (ℕ → Bool) → Option ℕ → ℕ → Option ℕ
lower_key bad None key = cond (bad key) (Some key) None
lower_key bad (Some low) key = cond (nat_lt key low && bad key) (Some key) (Some low)

-- the lowest key whose rows are no reservation
abbrev pub lowest_key : List (List Row) → Option ℕ
lowest_key plan = reduce min (filter (bad_key plan) (map (λ row. row.key) (all_of plan)))
