-- What the words of the promises rule out, and what they leave free. Assumes nothing.
use Rattle.std.specs.Prelude.{◌≡◌, ℕ, suc, ◌+◌, ◌<◌, ◌≤◌, List, [], ◌∷◌, length, slice_index}
use Rattle.model.specs.declared.row.Row.{Row}
use Rattle.runs.specs.Pieces.{Stream, row}
use Rattle.runs.specs.Run.{Slot, serves, Waits, EarliestDeadline, InTime}
use Rattle.runs.specs.Plan.{Reservation, Pattern, work}
use Rattle.runs.specs.Board.{Legal, NeverLate}
use Rattle.runs.specs.Needed.{Late, LateInstance}
use Rattle.runs.specs.Example.{plan}

-- late is the contrary of in time: no piece is both, and where an instance is late, it is not so that nobody is
pub record LateIsLate : Type 0 where
  pub piece : (work : List Stream) (run : ℕ → Slot) (late : Late work run) → InTime work run late.i late.k → ⊥
  pub instances : (accepted : List Reservation) (plan : List (List Row)) → LateInstance accepted plan → NeverLate accepted plan → ⊥

-- releases are free: every list of ticks whose neighbours are at least a period apart is legal, from any tick on
abbrev pub ReleasesFree : Type 0
ReleasesFree =
    (x : Reservation) (ticks : List ℕ) →
    ((k : ℕ) → suc k < length ticks → slice_index ticks k + x.period ≤ slice_index ticks (suc k)) → Legal (x ∷ []) (λ key. ticks)

-- ties are free: in place of the piece that is served, any other that waits and is due at the same tick may be
abbrev pub TiesFree : Type 0
TiesFree =
    (work : List Stream) (run other : ℕ → Slot) (t i k j m : ℕ) → EarliestDeadline work run t → run t ≡ serves i k →
    Waits work run t j m → (row work j).due m ≡ (row work i).due k →
    ((u : ℕ) → u < t → other u ≡ run u) → other t ≡ serves j m → EarliestDeadline work other t

-- every reservation is released once, at tick 5
abbrev at_five : Pattern
at_five key = 5 ∷ []

-- Reservation 3 of the example, released at tick 5: its head starts at once and is due 17 ticks later; there its tail starts, due 3 ticks later.
pub record ExamplePieces : Type 0 where
  pub head_start : (row (work plan at_five 1) 1).start 0 ≡ 5
  pub head_due : (row (work plan at_five 1) 1).due 0 ≡ 22
  pub head_need : (row (work plan at_five 1) 1).need 0 ≡ 7
  pub tail_start : (row (work plan at_five 0) 1).start 0 ≡ 22
  pub tail_due : (row (work plan at_five 0) 1).due 0 ≡ 25
  pub tail_need : (row (work plan at_five 0) 1).need 0 ≡ 3
