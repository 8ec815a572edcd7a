-- Rows as reply lines. Assumes nothing.
use Rattle.std.specs.Prelude.{ℕ, ◌+◌, ◌-◌, cond, List, [], ◌∷◌, ◌++◌, length, Some, None, Option, ◌==◌}
use Rattle.std.specs.List.{slice_get, flat_map}
use Rattle.model.specs.declared.row.Row.{Row}
use Rattle.lines.specs.Replies.{row_line}
use Rattle.board.specs.declared.admission.Placed.{Placed}

-- a line for each row
abbrev pub rows_text : List Placed → List ℕ
rows_text = flat_map (λ x. row_line x.processor x.row)

-- a line for a row, if there is one
abbrev pub line_if : ℕ → Option Row → List ℕ
line_if p (Some row) = row_line p row
line_if p None = []

-- the last of a processor's rows, as a line
abbrev pub last_line : ℕ → List Row → List ℕ
last_line p rows = line_if p (slice_get rows (length rows - 1))

-- what was gathered on processor p stands last there; key 0 says that nothing was
abbrev pub gathered_line : ℕ → ℕ → List Row → List ℕ
gathered_line p key rows = cond (key == 0) [] (last_line p rows)

-- a line for each processor that something was gathered on, from p on in rising number
abbrev pub gathered_text : ℕ → List ℕ → List (List Row) → List ℕ
gathered_text p [] plan = []
gathered_text p (key ∷ keys) [] = []
gathered_text p (key ∷ keys) (rows ∷ plan) = gathered_line p key rows ++ gathered_text (p + 1) keys plan
