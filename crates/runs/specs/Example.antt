-- A plan with a split reservation, to which the promises apply. Assumes nothing.
use Rattle.std.specs.Prelude.{ℕ, ◌≤◌, List, [], ◌∷◌}
use Rattle.std.proofs.Common.{lit≤}
use Rattle.std.specs.List.{AllByRecursion}
use Rattle.model.specs.declared.timing.Timing.{Timing}
use Rattle.model.specs.declared.row.Kind.{Kind}
use Rattle.model.specs.declared.row.Row.{Row}
use Rattle.model.specs.Row.{timings}
use Rattle.runs.specs.Processor.{DemandFits}
use Rattle.runs.specs.Plan.{Reservation}
use Rattle.runs.specs.Board.{PlanFor, PartsOnce}

-- the reservations 1 and 2 take 6 of every 10 ticks, and 3 takes 10 of every 20
abbrev pub accepted : List Reservation
accepted =
    record { key = 1; budget = 6; deadline = 10; period = 10 } ∷
    (record { key = 2; budget = 6; deadline = 10; period = 10 } ∷
    (record { key = 3; budget = 10; deadline = 20; period = 20 } ∷ []))

-- a budget, a deadline and a period within the limits
abbrev timing : (c d t : ℕ) → 1 ≤ c → c ≤ d → d ≤ t → t ≤ 100000 → Timing
timing c d t some fits constrained short =
    record { budget = c; deadline = d; period = t; some = some; fits = fits; constrained = constrained; short = short }

-- a row of a key
abbrev row : ℕ → Kind → Timing → Row
row key kind timing = record { key = key; kind = kind; timing = timing }

-- 3 is split: its head (7, 17, 20) stands beside 2, its tail (3, 3, 20) beside 1
abbrev pub plan : List (List Row)
plan =
    (row 1 Kind.Whole (timing 6 10 10 (lit≤ tt) (lit≤ tt) (lit≤ tt) (lit≤ tt)) ∷
    (row 3 (Kind.Tail 1) (timing 3 3 20 (lit≤ tt) (lit≤ tt) (lit≤ tt) (lit≤ tt)) ∷ [])) ∷
    ((row 2 Kind.Whole (timing 6 10 10 (lit≤ tt) (lit≤ tt) (lit≤ tt) (lit≤ tt)) ∷
    (row 3 Kind.Head (timing 7 17 20 (lit≤ tt) (lit≤ tt) (lit≤ tt) (lit≤ tt)) ∷ [])) ∷ [])

-- every condition of the promises holds
pub record ExampleStands : Type 0 where
  pub stands : PlanFor accepted plan
  pub fits : AllByRecursion (λ rows. DemandFits (timings rows)) plan
  pub once : PartsOnce plan
