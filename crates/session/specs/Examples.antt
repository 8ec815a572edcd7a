-- The worked examples together, of the definitions themselves. Assumes nothing.
use Rattle.std.specs.Prelude.{◌≡◌, ℕ, List, [], ◌∷◌, ◌++◌, replicate, codes, int_lt}
use Rattle.model.specs.Scale.{scale}
use Rattle.judges.specs.Demand.{demand_yes}
use Rattle.judges.specs.Allowance.{demand_allowance}
use Rattle.judges.specs.Examples.{Examples}
use Rattle.lines.specs.Examples.{Shown}
use Rattle.store.specs.Theorems.{OneRowStored}
use Rattle.session.specs.Opened.{first_text}
use Rattle.session.specs.Session.{replies}

-- texts as lines
abbrev pub ended_lines : List (List ℕ) → List ℕ
ended_lines [] = []
ended_lines (l ∷ ls) = l ++ (10 ∷ ended_lines ls)

-- two processors, the demand judge with 1 step, best fit: two reservations stand whole, a third is split, and is
-- gathered once the first has left
pub record SessionShown : Type 0 where
  pub first : first_text (codes "board 2 1 0 demand best") ≡ ended_lines (codes "board 2" ∷ [])
  pub later :
      replies int_lt (λ p spare rows. spare) (demand_yes scale 1) (demand_allowance scale 1 0) (replicate 2 [])
      (codes "admit 1 6 10 10" ∷ (codes "admit 2 6 10 10" ∷ (codes "admit 3 10 20 20" ∷ (codes "leave 1" ∷ []))))
      ≡ ended_lines
      (codes "1 whole 1 6 10" ∷ (codes "2 whole 2 6 10" ∷ (codes "3 head 2 7 17" ∷ (codes "3 tail 1 3 3"
      ∷ (codes "1 gone" ∷ (codes "3 whole 1 10 20" ∷ []))))))

-- what judges say and allow, what lines mean, a whole session, and the bytes of a stored plan
abbrev pub Worked : Type 0
Worked = Examples × Shown × SessionShown × OneRowStored
