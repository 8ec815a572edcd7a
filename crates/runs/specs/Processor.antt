-- What is promised of one processor. Assumes nothing.
use Rattle.std.specs.Prelude.{◌≡◌, ℕ, ◌<◌, ◌≤◌, List, Some}
use Rattle.std.specs.List.{slice_get}
use Rattle.model.specs.declared.timing.Timing.{Timing}
use Rattle.model.specs.Demand.{demand}
use Rattle.runs.specs.Pieces.{Stream, row}
use Rattle.runs.specs.Run.{Slot, idle, EarliestDeadline, InTime}
use Rattle.runs.specs.Streams.{StreamsOf}

-- The exact demand fits: within any t ticks no more than t ticks of work have to be done. The demand of one timing is 0 for t below
-- its deadline, and from there on its budget times one more than (t - deadline) / period, rounded down; that of a list is the sum.
abbrev pub DemandFits : List Timing → Type 0
DemandFits l = (t : ℕ) → demand l t ≤ t

-- a run that starts idle at tick s: it serves nothing before, and nothing starts before
pub record StartsIdle (work : List Stream) (run : ℕ → Slot) (s : ℕ) : Type 0 where
  pub before : (t : ℕ) → t < s → run t ≡ idle
  pub starts : (i k : ℕ) → k < (row work i).turns → s ≤ (row work i).start k

-- If the demand of its timings fits, then for all their streams, in every run that starts idle at some tick s, each piece is in time;
-- the earliest-deadline rule is asked for only from s on, and below the due tick of that piece.
abbrev pub EveryPieceInTime : Type 0
EveryPieceInTime =
    (l : List Timing) → DemandFits l → (work : List Stream) → StreamsOf l work →
    (run : ℕ → Slot) (s : ℕ) → StartsIdle work run s →
    (i k : ℕ) → k < (row work i).turns →
    ((t : ℕ) → s ≤ t → t < (row work i).due k → EarliestDeadline work run t) →
    InTime work run i k

-- The promise speaks of something: whatever has been served before tick s, the rule can be kept from s on.
abbrev pub SomeRun : Type 0
SomeRun =
    (work : List Stream) (first : ℕ → Slot) (s : ℕ) →
    (run : ℕ → Slot) × ((t : ℕ) → t < s → run t ≡ first t) × ((t : ℕ) → s ≤ t → EarliestDeadline work run t)

-- At most one timing without slack fits: two whose budgets are their deadlines are one and the same.
abbrev pub OneWithoutSlack : Type 0
OneWithoutSlack =
    (l : List Timing) → DemandFits l → (i j : ℕ) (x y : Timing) → slice_get l i ≡ Some x → slice_get l j ≡ Some y →
    x.budget ≡ x.deadline → y.budget ≡ y.deadline → i ≡ j
