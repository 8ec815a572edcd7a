-- The plan of a board: each processor's rows. Assumes nothing.
use Rattle.std.specs.Prelude.{ℕ, List, [], ◌∷◌, ◌++◌, map, vec_items, slice_index_or, slice_set}
use Rattle.model.specs.declared.row.Row.{Row}
use Rattle.processor.specs.Rows.{rows_of}
use Rattle.board.specs.declared.plan.Plan.{Plan}
use Rattle.board.specs.declared.board.Board.{Board}

-- the rows of each processor of a plan, in their order
abbrev pub lists : Plan → List (List Row)
lists p = map rows_of (vec_items p.processors)

-- a board's plan
abbrev pub plan : {J P : Type 0} → Board J P → List (List Row)
plan b = lists b.plan

-- the plan with a row at the end of the list at an index
abbrev pub append : ℕ → Row → List (List Row) → List (List Row)
append i row plan = slice_set plan i (slice_index_or plan i [] ++ (row ∷ []))
