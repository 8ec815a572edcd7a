-- Which streams a list of timings allows. Assumes nothing.
use Rattle.std.specs.Prelude.{◌≡◌, ℕ, suc, ◌+◌, ◌<◌, ◌≤◌, List, [], ◌∷◌}
use Rattle.model.specs.declared.timing.Timing.{Timing}
use Rattle.runs.specs.Pieces.{Stream}

-- A timing has a budget, a deadline and a period, 1 ≤ budget ≤ deadline ≤ period. A stream of it has starts at least a period apart,
-- each piece due a deadline after its start and in need of at most the budget.
pub record StreamOf (x : Timing) (σ : Stream) : Type 0 where
  pub apart : (k : ℕ) → suc k < σ.turns → σ.start k + x.period ≤ σ.start (suc k)
  pub due : (k : ℕ) → k < σ.turns → σ.due k ≡ σ.start k + x.deadline
  pub need : (k : ℕ) → k < σ.turns → σ.need k ≤ x.budget

-- a stream of each timing, in their order
pub data StreamsOf : List Timing → List Stream → Type 0 where
  none : StreamsOf [] []
  more : {x : Timing} {σ : Stream} {l : List Timing} {work : List Stream} → StreamOf x σ → StreamsOf l work → StreamsOf (x ∷ l) (σ ∷ work)
