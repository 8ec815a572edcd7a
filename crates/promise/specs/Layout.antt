-- Where a reservation stands. Assumes nothing.
use Rattle.std.specs.Prelude.{ℕ, ◌+◌, List, [], ◌∷◌}
use Rattle.std.specs.List.{ContainsAt as Has}
use Rattle.model.specs.declared.timing.Timing.{Timing}
use Rattle.model.specs.declared.row.Kind.{Kind}
use Rattle.board.specs.declared.admission.Placed.{Placed}
use Rattle.board.specs.declared.cut.Cut.{Cut}
use Rattle.board.specs.Split.{placed, tails}

-- the processor and timing of a reservation's whole row or head, and its tails in serving order
pub data Layout : Type 0 where
  layout : ℕ → Timing → List Cut → Layout

-- its rows: a whole row, or a head and its tails
abbrev pub layout_rows : ℕ → Layout → List Placed
layout_rows k (layout p x []) = placed k p Kind.Whole x ∷ []
layout_rows k (layout p x (y ∷ cuts)) = placed k p Kind.Head x ∷ tails k 1 (y ∷ cuts)

-- no element stands twice
abbrev pub Distinct : List ℕ → Type 0
Distinct [] = Unit {0}
Distinct (x ∷ l) = (Has l x → ⊥) × Distinct l

abbrev pub tail_budgets : List Cut → ℕ
tail_budgets [] = 0
tail_budgets (y ∷ cuts) = y.timing.budget + tail_budgets cuts
