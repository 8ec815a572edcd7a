-- What set-up answers. Assumes nothing.
use Rattle.std.specs.Prelude.{◌≡◌, ℕ, Bool, true, false, ◌||◌, [], replicate, Ok, Err, Result, nat_lt}
use Rattle.model.specs.declared.fault.SetupFault.{SetupFault}
use Rattle.board.specs.declared.board.Board.{Board}
use Rattle.board.specs.declared.setup.SetupError.{SetupError}
use Rattle.board.specs.Plan.{plan}

-- a board has 1 to 8 processors
abbrev pub unfit : ℕ → Bool
unfit n = nat_lt n 1 || nat_lt 8 n

-- an empty board of n processors with this judge and this rule, or the refusal, or want of memory
abbrev pub Set : {J P : Type 0} → ℕ → J → P → Result (Board J P) SetupError → Type 0
Set n judge rule (Ok b) = (unfit n ≡ false) × (plan b ≡ replicate n []) × (b.judge ≡ judge) × (b.rule ≡ rule)
Set n judge rule (Err (SetupError.Refused f)) = (unfit n ≡ true) × (f ≡ SetupFault.Processors)
Set n judge rule (Err SetupError.Memory) = unfit n ≡ false
