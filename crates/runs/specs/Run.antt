-- A run of one processor, the service it gives, and the earliest-deadline rule. Assumes nothing.
use Rattle.std.specs.Prelude.{◌≡◌, ℕ, zero, suc, ◌+◌, ◌<◌, ◌≤◌, cond, ◌&&◌, List, ◌==◌}
use Rattle.runs.specs.Pieces.{Stream, row}

-- what a processor does in one tick: nothing, or it serves piece i k. A run has a slot for each tick, from 0 on.
pub data Slot : Type 0 where
  idle : Slot
  serves : ℕ → ℕ → Slot

-- the tick that a slot gives to piece i k
abbrev pub gives : Slot → ℕ → ℕ → ℕ
gives idle i k = 0
gives (serves j m) i k = cond (j == i && m == k) 1 0

-- service: how many ticks below t went to piece i k
abbrev pub served : (ℕ → Slot) → ℕ → ℕ → ℕ → ℕ
served run i k zero = 0
served run i k (suc t) = served run i k t + gives (run t) i k

-- piece i k waits at tick t: it has started and lacks service
pub record Waits (work : List Stream) (run : ℕ → Slot) (t i k : ℕ) : Type 0 where
  pub real : k < (row work i).turns
  pub started : (row work i).start k ≤ t
  pub lacks : served run i k t < (row work i).need k

-- The earliest-deadline rule at tick t: what is served waits, nothing that waits is due earlier, and the processor is idle
-- only if nothing waits. Ties are free, and may be broken anew at every tick.
pub record EarliestDeadline (work : List Stream) (run : ℕ → Slot) (t : ℕ) : Type 0 where
  pub waiting : (i k : ℕ) → run t ≡ serves i k → Waits work run t i k
  pub earliest : (i k j m : ℕ) → run t ≡ serves i k → Waits work run t j m → (row work i).due k ≤ (row work j).due m
  pub busy : run t ≡ idle → (i k : ℕ) → Waits work run t i k → ⊥

-- piece i k is in time: it has its need in ticks below its due tick
abbrev pub InTime : List Stream → (ℕ → Slot) → ℕ → ℕ → Type 0
InTime work run i k = (row work i).need k ≤ served run i k ((row work i).due k)
