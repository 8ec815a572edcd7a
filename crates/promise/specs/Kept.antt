-- What every call keeps of a plan, for the reservations that it is for. Assumes nothing.
use Rattle.std.specs.Prelude.{◌≡◌, ℕ, ◌+◌, ◌≤◌, true, not, List, map, filter, ◌==◌}
use Rattle.std.specs.List.{ContainsAt as Has, AllByRecursion}
use Rattle.model.specs.declared.row.Row.{Row}
use Rattle.model.specs.Row.{timings}
use Rattle.runs.specs.Plan.{Reservation}
use Rattle.promise.specs.Meaning.{Meaning}
use Rattle.board.specs.declared.admission.Placed.{Placed}
use Rattle.board.specs.Keys.{reservations}
use Rattle.promise.specs.Plan.{Plan, On, rows_at, rows_on, of_key}
use Rattle.promise.specs.Layout.{Layout, layout, layout_rows, Distinct, tail_budgets}

abbrev pub processors : List Placed → List ℕ
processors = map (λ y. y.processor)

-- a layout adds up to a reservation: equal periods, tails whose deadline is their budget, the budgets in all, the head's deadline and the tails' budgets in all
abbrev pub ComesTo : Reservation → Layout → Type 0
ComesTo x (layout p h tails) =
    (h.budget + tail_budgets tails ≡ x.budget) × (h.deadline + tail_budgets tails ≡ x.deadline) × (h.period ≡ x.period)
    × AllByRecursion (λ y. (y.timing.deadline ≡ y.timing.budget) × (y.timing.period ≡ x.period)) tails × (x.deadline ≤ x.period)

-- the rows of a reservation are one whole, or one head and tails numbered from 1, on different processors of the plan, and they add up to it
pub record Lies (plan : Plan) (x : Reservation) (o : Layout) : Type 0 where
  pub on : AllByRecursion (λ y. On plan y.processor) (layout_rows x.key o)
  pub apart : Distinct (processors (layout_rows x.key o))
  pub shows : (p : ℕ) → On plan p → of_key x.key (rows_at plan p) ≡ rows_on p (layout_rows x.key o)
  pub comes_to : ComesTo x o

-- the reservation of a key and its numbers
abbrev pub reserved : ℕ → ℕ → ℕ → ℕ → Reservation
reserved key c d t = record { key = key; budget = c; deadline = d; period = t }

-- the reservations without that of a key
abbrev pub dropped : ℕ → List Reservation → List Reservation
dropped k = filter (λ x. not (x.key == k))

pub record Owned (accepted : List Reservation) (row : Row) : Type 0 where
  pub owner : Reservation
  pub among : Has accepted owner
  pub key : owner.key ≡ row.key

-- the judge accepts every processor's rows; the accepted reservations have different keys, and each lies on the plan; every row is one of theirs; there are at most 64
pub record Kept {R : Type 0} (m : Meaning R) (plan : Plan) (accepted : List Reservation) : Type 0 where
  pub judged : (p : ℕ) → On plan p → m.accepts (timings (rows_at plan p)) ≡ true
  pub distinct : Distinct (map (λ x. x.key) accepted)
  pub laid : AllByRecursion (λ x. (o : Layout) × Lies plan x o) accepted
  pub owned : (p : ℕ) → On plan p → AllByRecursion (Owned accepted) (rows_at plan p)
  pub most : reservations plan ≤ 64
