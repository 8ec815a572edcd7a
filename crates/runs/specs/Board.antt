-- What is promised of a whole board: no instance of an accepted reservation is late. Assumes nothing.
use Rattle.std.specs.Prelude.{◌≡◌, ℕ, ◌+◌, ◌<◌, ◌≤◌, cond, ◌⊎◌, List, [], ◌∷◌, length, Some, ◌==◌}
use Rattle.std.specs.List.{AllByRecursion, slice_get}
use Rattle.model.specs.declared.row.Row.{Row}
use Rattle.model.specs.Row.{part, timings}
use Rattle.runs.specs.Run.{Slot, serves, served, EarliestDeadline, InTime}
use Rattle.runs.specs.Processor.{DemandFits}
use Rattle.runs.specs.Plan.{Reservation, total, span, Pattern, release, work}

-- a row of a reservation has its key and its period
abbrev pub RowOf : Reservation → Row → Type 0
RowOf x r = (x.key ≡ r.key) × (x.period ≡ r.timing.period)

-- a row that is owned: it is a row of one of the accepted reservations
abbrev pub Owned : List Reservation → Row → Type 0
Owned [] r = ⊥
Owned (x ∷ accepted) r = RowOf x r ⊎ Owned accepted r

-- a row is due its deadline after its start: a tail has no slack, its deadline is its budget
abbrev pub Tight : Row → Type 0
Tight r = span r ≡ r.timing.deadline

-- The rows of a reservation add up to it: their budgets to its budget, the head's deadline and the tails' budgets to its deadline.
-- One whole row has its very budget and deadline.
pub record AddsUp (plan : List (List Row)) (x : Reservation) : Type 0 where
  pub budget : total (λ p i r. r.timing.budget) x.key plan ≡ x.budget
  pub deadline : total (λ p i r. span r) x.key plan ≡ x.deadline

-- a plan for the accepted reservations: each row is owned, tails have no slack, and the rows of each add up to it
pub record PlanFor (accepted : List Reservation) (plan : List (List Row)) : Type 0 where
  pub owned : AllByRecursion (AllByRecursion (Owned accepted)) plan
  pub tight : AllByRecursion (AllByRecursion Tight) plan
  pub sums : AllByRecursion (AddsUp plan) accepted

-- neighbours are at least a period apart
abbrev pub Apart : ℕ → List ℕ → Type 0
Apart period [] = Unit {0}
Apart period (a ∷ []) = Unit {0}
Apart period (a ∷ (b ∷ l)) = (a + period ≤ b) × Apart period (b ∷ l)

-- a legal pattern releases each accepted reservation at most once in a period
abbrev pub Legal : List Reservation → Pattern → Type 0
Legal accepted pattern = AllByRecursion (λ x. Apart x.period (pattern x.key)) accepted

-- A run of the board names for each processor and tick one piece or none. It starts idle at tick 0, and each processor keeps the rule.
abbrev pub BoardRun : List (List Row) → Pattern → (ℕ → ℕ → Slot) → Type 0
BoardRun plan pattern run = (p t : ℕ) → EarliestDeadline (work plan pattern p) (run p) t

-- Instance k of a reservation gets its budget by its deadline: each of its pieces is in time, on whichever processor,
-- and together they have had the budget below the release plus the deadline.
pub record GetsBudget (plan : List (List Row)) (pattern : Pattern) (run : ℕ → ℕ → Slot) (x : Reservation) (k : ℕ) : Type 0 where
  pub in_time : (p i : ℕ) (rows : List Row) (r : Row) → slice_get plan p ≡ Some rows → slice_get rows i ≡ Some r → r.key ≡ x.key →
      InTime (work plan pattern p) (run p) i k
  pub service : total (λ p i r. served (run p) i k (release pattern x.key k + x.deadline)) x.key plan ≡ x.budget

-- no instance of an accepted reservation is late, under every legal pattern and in every run
abbrev pub NeverLate : List Reservation → List (List Row) → Type 0
NeverLate accepted plan =
    (pattern : Pattern) → Legal accepted pattern → (run : ℕ → ℕ → Slot) → BoardRun plan pattern run →
    AllByRecursion (λ x. (k : ℕ) → k < length (pattern x.key) → GetsBudget plan pattern run x k) accepted

-- Where a plan is for the accepted reservations, and the demand of each processor's rows fits, nobody is late.
abbrev pub BoardNeverLate : Type 0
BoardNeverLate =
    (accepted : List Reservation) (plan : List (List Row)) → PlanFor accepted plan →
    AllByRecursion (λ rows. DemandFits (timings rows)) plan → NeverLate accepted plan

-- no part of a key stands twice on the plan: it has one whole or one head, and one tail of a number
abbrev pub PartsOnce : List (List Row) → Type 0
PartsOnce plan = (key j : ℕ) → total (λ p i r. cond (part r.kind == j) 1 0) key plan ≤ 1

-- No instance is served by two processors in the same tick: if two serve instance k of one key in tick t, they are one.
abbrev pub OneAtATime : List (List Row) → (ℕ → ℕ → Slot) → Type 0
OneAtATime plan run =
    (t k p i q j : ℕ) (rows rows' : List Row) (r r' : Row) →
    slice_get plan p ≡ Some rows → slice_get rows i ≡ Some r → run p t ≡ serves i k →
    slice_get plan q ≡ Some rows' → slice_get rows' j ≡ Some r' → run q t ≡ serves j k →
    r.key ≡ r'.key → p ≡ q

-- Where, besides, no part stands twice, the parts of an instance are served one after the other.
abbrev pub BoardOneAtATime : Type 0
BoardOneAtATime =
    (accepted : List Reservation) (plan : List (List Row)) → PlanFor accepted plan →
    AllByRecursion (λ rows. DemandFits (timings rows)) plan → PartsOnce plan →
    (pattern : Pattern) → Legal accepted pattern → (run : ℕ → ℕ → Slot) → BoardRun plan pattern run → OneAtATime plan run

-- Runs of the board exist, for every plan and pattern.
abbrev pub SomeBoardRun : Type 0
SomeBoardRun = (plan : List (List Row)) (pattern : Pattern) → (run : ℕ → ℕ → Slot) × BoardRun plan pattern run
