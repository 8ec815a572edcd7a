-- One processor: where the demand fits, every piece is in time. Assumes nothing.
use Rattle.std.proofs.Common.{ℕ, ◌-◌, ◌<◌, ◌≤◌, arith}
use Rattle.runs.specs.Pieces.{row}
use Rattle.runs.specs.Processor.{EveryPieceInTime}
use Rattle.runs.proofs.Urgent.{back}
use Rattle.runs.proofs.Window.{wanted_demand}
use Rattle.runs.proofs.Starting.{rule_before}

pub every_piece_in_time : EveryPieceInTime
every_piece_in_time l fits work streams run s start i k real rule =
    let d = (row work i).due k in
    back work run d (rule_before work run s d start rule) i k real (omega arith)
    (λ a b. omega (arith, wanted_demand a d streams, fits (d - a)))
    d (omega arith) (λ t p q. absurd (never t p q))
  where
    never : (t : ℕ) → (row work i).due k ≤ t → t < (row work i).due k → ⊥
    never t p q = omega arith
