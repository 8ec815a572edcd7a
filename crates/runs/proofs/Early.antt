-- Early starts make nothing late where the due ticks stay. Assumes nothing.
use Rattle.std.proofs.Common.{◌≡◌, ℕ, ◌-◌, ◌<◌, ◌≤◌, Bool, true, false, cond, ◌&&◌, leb, List, refl, arith}
use Rattle.std.proofs.lemmas.Bool.{le-leb, leb-true}
use Rattle.runs.specs.Pieces.{Stream, row}
use Rattle.runs.specs.Needed.{Earlier, none, more, EarlyStartsInTime}
use Rattle.runs.proofs.Sums.{sum_to, sum_to_le, sum_pieces}
use Rattle.runs.proofs.Urgent.{inside, wanted, back}
use Rattle.runs.proofs.Window.{wanted_demand}

-- an earlier start is inside fewer windows
fewer : (a s s' v : ℕ) (u : Bool) → s ≤ s' → cond (leb a s && u) v 0 ≤ cond (leb a s' && u) v 0
fewer a s s' v u h = by (leb a s) refl
  where
    by : (b : Bool) → leb a s ≡ b → cond (b && u) v 0 ≤ cond (leb a s' && u) v 0
    by true e = let from = leb-true a s e in rw (le-leb a s' (omega arith)) (omega arith)
    by false e = omega arith

wanted_earlier : (a d : ℕ) {work plain : List Stream} → Earlier work plain → sum_pieces work (wanted work a d) ≤ sum_pieces plain (wanted plain a d)
wanted_earlier a d none = omega arith
wanted_earlier a d (more {σ = σ} {τ = τ} turns due need start rest) =
    omega (arith, wanted_earlier a d rest, own)
  where
    own : sum_to σ.turns (λ k. cond (inside a d σ k) (σ.need k) 0) ≤ sum_to τ.turns (λ k. cond (inside a d τ k) (τ.need k) 0)
    own = rw (← turns, ← due, ← need) (sum_to_le σ.turns (λ k. cond (inside a d σ k) (σ.need k) 0)
        (λ k. cond (leb a (τ.start k) && leb (σ.due k) d) (σ.need k) 0)
        (λ k b. fewer a (σ.start k) (τ.start k) (σ.need k) (leb (σ.due k) d) (start k b)))

pub early_starts_in_time : EarlyStartsInTime
early_starts_in_time l fits plain streams work earlier run rule i k real =
    let d = (row work i).due k in
    back work run d (λ t b. rule t) i k real (omega arith)
    (λ a b. omega (arith, wanted_earlier a d earlier, wanted_demand a d streams, fits (d - a)))
    d (omega arith) (λ t p q. absurd (never t p q))
  where
    never : (t : ℕ) → (row work i).due k ≤ t → t < (row work i).due k → ⊥
    never t p q = omega arith
