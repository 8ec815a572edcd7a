-- Which numbers of steps and refinements a demand judge takes. Assumes nothing.
use Rattle.std.specs.Prelude.{◌≡◌, ℕ, cond, Some, None, Ok, Err, Option, Result, nat_lt}
use Rattle.model.specs.declared.fault.SetupFault.{SetupFault}
use Rattle.judges.specs.declared.demand.Demand.{Demand}

-- more than 9 steps are refused, then more than 5 refinements
abbrev pub setting_fault : ℕ → ℕ → Option SetupFault
setting_fault n r = cond (nat_lt 9 n) (Some SetupFault.Steps) (cond (nat_lt 5 r) (Some SetupFault.Refinements) None)

-- a judge of just these numbers, or the first fault
abbrev pub SetUp : ℕ → ℕ → Result Demand SetupFault → Type 0
SetUp n r (Ok j) = (setting_fault n r ≡ None) × (j.steps ≡ n) × (j.refinements ≡ r)
SetUp n r (Err f) = setting_fault n r ≡ Some f
