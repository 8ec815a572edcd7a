-- Rows as reply lines. Assumes nothing.
use Rattle.std.specs.Prelude.{ℕ, ◌+◌, ◌-◌, cond, List, [], ◌∷◌, ◌++◌, length, Some, None, Option, ◌==◌}
use Rattle.std.specs.List.{slice_get, flat_map}
use Rattle.model.specs.declared.row.Row.{Row}
use Rattle.lines.specs.Replies.{row_line, gone-line}
use Rattle.board.specs.declared.admission.Placed.{Placed}

-- a line for each row that was made
abbrev pub rows-text : List Placed → List ℕ
rows-text = flat_map (λ x. row_line x.processor x.row)

abbrev pub line-if : ℕ → Option Row → List ℕ
line-if p (Some row) = row_line p row
line-if p None = []

-- the last of a processor's rows, as a line
abbrev pub last_line : ℕ → List Row → List ℕ
last_line p rows = line-if p (slice_get rows (length rows - 1))

-- what was gathered on processor p stands last there; key 0 says that nothing was
abbrev pub gathered-line : ℕ → ℕ → List Row → List ℕ
gathered-line p key rows = cond (key == 0) [] (last_line p rows)

-- a line for each processor that something was gathered on, from p on in rising number
abbrev pub gathered-text : ℕ → List ℕ → List (List Row) → List ℕ
gathered-text p [] plan = []
gathered-text p (key ∷ keys) [] = []
gathered-text p (key ∷ keys) (rows ∷ plan) = gathered-line p key rows ++ gathered-text (p + 1) keys plan

-- the key that left, and what was gathered
abbrev pub left-text : ℕ → List ℕ → List (List Row) → List ℕ
left-text key keys plan = gone-line key ++ gathered-text 1 keys plan
