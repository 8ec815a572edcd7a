-- Admission and its rules: what is computed is what they allow, and they allow nothing else. Assumes nothing.
use Rattle.std.specs.Prelude.{◌≡◌, ℕ, ◌≤◌, Bool, List, length, ℤ, Result}
use Rattle.model.specs.declared.timing.Timing.{Timing}
use Rattle.model.specs.declared.row.Row.{Row}
use Rattle.model.specs.declared.fault.RequestFault.{RequestFault}
use Rattle.board.specs.declared.admission.Placed.{Placed}
use Rattle.board.specs.Admit.{admitted, after}
use Rattle.promise.specs.Admits.{Admits}

-- on every plan of at least one processor, for all numbers, the rules allow the computed answer and the plan that it leaves
abbrev pub Allowed : {R : Type 0} → (R → R → Bool) → (ℕ → ℤ → ℕ → R) → (List Timing → Bool) → (List Timing → ℕ → ℕ → ℕ) → Type 0
Allowed first ranks accepts allows =
    (plan : List (List Row)) → 1 ≤ length plan → (key c d t : ℕ) →
    Admits first ranks accepts allows plan key c d t
    (admitted first ranks accepts allows plan key c d t) (after plan (admitted first ranks accepts allows plan key c d t))

-- and any answer and plan that they allow are these
abbrev pub NothingElse : {R : Type 0} → (R → R → Bool) → (ℕ → ℤ → ℕ → R) → (List Timing → Bool) → (List Timing → ℕ → ℕ → ℕ) → Type 0
NothingElse first ranks accepts allows =
    (plan : List (List Row)) → 1 ≤ length plan → (key c d t : ℕ) (answer : Result (List Placed) RequestFault) (last : List (List Row)) →
    Admits first ranks accepts allows plan key c d t answer last →
    (answer ≡ admitted first ranks accepts allows plan key c d t)
    × (last ≡ after plan (admitted first ranks accepts allows plan key c d t))
