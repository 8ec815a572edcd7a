-- Which numbers a board is set up with. Assumes nothing.
use Rattle.std.specs.Prelude.{◌≡◌, ℕ, cond, [], replicate, Some, None, Ok, Err, Option, Result}
use Rattle.std.specs.declared.alloc.AllocError.{AllocError}
use Rattle.model.specs.declared.fault.SetupFault.{SetupFault}
use Rattle.judges.specs.Setting.{setting_fault}
use Rattle.board.specs.declared.board.Board.{Board}
use Rattle.board.specs.Plan.{plan}
use Rattle.board.specs.Setup.{unfit}
use Rattle.wadispoon.specs.declared.sizes.Sizes.{Sizes}

-- the first number that is refused: processors, then steps, then refinements
abbrev pub sizes_fault : ℕ → ℕ → ℕ → Option SetupFault
sizes_fault p n r = cond (unfit p) (Some SetupFault.Processors) (setting_fault n r)

-- just these numbers, or the first fault
abbrev pub Sized : ℕ → ℕ → ℕ → Result Sizes SetupFault → Type 0
Sized p n r (Ok s) = (sizes_fault p n r ≡ None) × (s.processors ≡ p) × (s.demand.steps ≡ n) × (s.demand.refinements ≡ r)
Sized p n r (Err f) = sizes_fault p n r ≡ Some f

-- an empty board of n processors with this judge and this rule, or want of memory
abbrev pub Started : {J P : Type 0} → ℕ → J → P → Result (Board J P) AllocError → Type 0
Started n judge rule (Ok b) = (plan b ≡ replicate n []) × (b.judge ≡ judge) × (b.rule ≡ rule)
Started n judge rule (Err e) = Unit {0}
