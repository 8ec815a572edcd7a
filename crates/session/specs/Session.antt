-- The replies of a whole session. Assumes nothing.
use Rattle.std.specs.Prelude.{ℕ, Bool, List, [], ◌∷◌, ◌++◌, ℤ}
use Rattle.model.specs.declared.timing.Timing.{Timing}
use Rattle.model.specs.declared.row.Row.{Row}
use Rattle.lines.specs.Commands.{asked}
use Rattle.session.specs.Answered.{reply_text, plan_after}

-- the replies to lines after the first, each from the plan that the line before left
abbrev pub replies :
    {R : Type 0} → (R → R → Bool) → (ℕ → ℤ → ℕ → R) → (List Timing → Bool) → (List Timing → ℕ → ℕ → ℕ) →
    List (List Row) → List (List ℕ) → List ℕ
replies first ranks accepts allows plan [] = []
replies first ranks accepts allows plan (line ∷ lines) =
    reply_text first ranks accepts allows plan (asked line)
    ++ replies first ranks accepts allows (plan_after first ranks accepts allows plan (asked line)) lines
