-- The listed order of the processors: the numbers 1 to 8, once each. Assumes nothing.
use Rattle.std.specs.Prelude.{ℕ, zero, suc, Bool, true, cond, ◌&&◌, List, [], ◌∷◌, Ok, Err, Result, ◌==◌}
use Rattle.model.specs.declared.fault.SetupFault.{SetupFault}
use Rattle.placement.specs.declared.listed.Listed.{Listed}

-- how often a number stands in a list
abbrev pub times : ℕ → List ℕ → ℕ
times k [] = 0
times k (x ∷ l) = cond (x == k) (suc (times k l)) (times k l)

-- each of 1 to n stands once in the list
abbrev pub once_each : ℕ → List ℕ → Bool
once_each zero l = true
once_each (suc n) l = once_each n l && times (suc n) l == 1

-- the rule of just this order, refused unless it holds 1 to 8, once each
abbrev pub listed : List ℕ → Result Listed SetupFault
listed l = cond (once_each 8 l) (Ok (record { order = record { processors = l } })) (Err SetupFault.Order)
