-- A plan: for each processor its list of rows. Assumes nothing.
use Rattle.std.specs.Prelude.{◌≡◌, ℕ, ◌-◌, ◌≤◌, cond, List, [], ◌∷◌, length, filter, ◌==◌, nat_eq}
use Rattle.std.specs.List.{ContainsAt as Has}
use Rattle.model.specs.declared.row.Row.{Row}
use Rattle.board.specs.declared.admission.Placed.{Placed}
use Rattle.board.specs.Plan.{append}
pub use Rattle.promise.specs.Choosing.{rows_at}

abbrev pub Plan : Type 0
Plan = List (List Row)

-- a processor of the plan, counted from 1
pub record On (plan : Plan) (p : ℕ) : Type 0 where
  pub from_one : 1 ≤ p
  pub to_last : p ≤ length plan

-- the plan with a row at the end of its processor's list
abbrev pub add : Plan → Placed → Plan
add plan x = append (x.processor - 1) x.row plan

-- those of some placed rows that stand on processor p
abbrev pub rows_on : ℕ → List Placed → List Row
rows_on p [] = []
rows_on p (x ∷ l) = cond (x.processor == p) (x.row ∷ rows_on p l) (rows_on p l)

-- the rows of a key, in their order
abbrev pub of_key : ℕ → List Row → List Row
of_key k = filter (λ row. nat_eq row.key k)

-- the reservation of key k stands on processor p
abbrev pub StandsAt : Plan → ℕ → ℕ → Type 0
StandsAt plan k p = On plan p × ((row : Row) × Has (rows_at plan p) row × (row.key ≡ k))

abbrev pub Stands : Plan → ℕ → Type 0
Stands plan k = (p : ℕ) × StandsAt plan k p
