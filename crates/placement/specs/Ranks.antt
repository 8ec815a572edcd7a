-- The orders and places by which the rules rank. Assumes nothing.
use Rattle.std.specs.Prelude.{ℕ, suc, Bool, cond, ◌&&◌, ◌||◌, List, [], ◌∷◌, ◌==◌, int_lt, nat_lt}
use Rattle.placement.specs.declared.load.Load.{Load}

-- fewer rows, or as many and a larger spare share
abbrev pub lighter : Load → Load → Bool
lighter a b = nat_lt a.rows b.rows || (a.rows == b.rows && int_lt b.spare a.spare)

-- how many stand before the processor p in a list of processors; all, where it does not stand there
abbrev pub position : ℕ → List ℕ → ℕ
position p [] = 0
position p (x ∷ l) = cond (x == p) 0 (suc (position p l))
