-- Which reservations have rows in a list. Assumes nothing.
use Rattle.std.specs.Prelude.{ℕ, ◌+◌, Bool, cond, List, [], ◌∷◌, ◌==◌, nat_eq}
use Rattle.model.specs.Row.{is_tail}
use Rattle.model.specs.declared.row.Row.{Row}
use Rattle.std.specs.List.{list_any}

-- a row is of this reservation
abbrev pub is_of : ℕ → Row → Bool
is_of key row = row.key == key

-- a row of this reservation is among these
abbrev pub has_key : ℕ → List Row → Bool
has_key key = list_any (λ row. nat_eq row.key key)

-- a tail is among these rows, anybody's
abbrev pub has_tail : List Row → Bool
has_tail = list_any (λ row. is_tail row.kind)

-- every reservation has one row that is not a tail: its whole or its head
abbrev pub owners : List Row → ℕ
owners [] = 0
owners (row ∷ rows) = cond (is_tail row.kind) 0 1 + owners rows
