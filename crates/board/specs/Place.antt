-- Which processor takes a timing. Assumes nothing.
use Rattle.std.specs.Prelude.{ℕ, ◌+◌, Bool, cond, not, ◌&&◌, List, [], ◌∷◌, ℤ, Some, None, Option, nat_eq}
use Rattle.model.specs.declared.timing.Timing.{Timing}
use Rattle.model.specs.declared.row.Row.{Row}
use Rattle.placement.specs.declared.candidate.Candidate.{Candidate}
use Rattle.placement.specs.First.{choice}
use Rattle.board.specs.declared.cut.Cut.{Cut}
use Rattle.std.specs.List.{list_any}
use Rattle.processor.specs.Taking.{takes, as_candidate}

-- processor p has a tail of the newcomer
abbrev pub used : List Cut → ℕ → Bool
used cuts p = list_any (λ cut. nat_eq cut.processor p) cuts

-- processor p can take x: it has no part of the newcomer, a free row, and the judge's yes
abbrev pub open_to : (List Timing → Bool) → List Cut → Timing → ℕ → List Row → Bool
open_to accepts cuts x p rows = not (used cuts p) && takes accepts rows x

-- those that pass a test, of the processors numbered from p on
abbrev pub candidates : (ℕ → List Row → Bool) → ℕ → List (List Row) → List Candidate
candidates test p [] = []
candidates test p (rows ∷ plan) =
    cond (test p rows) (as_candidate p rows ∷ candidates test (p + 1) plan) (candidates test (p + 1) plan)

-- the number of the candidate that was chosen
abbrev pub number_of : Option Candidate → Option ℕ
number_of None = None
number_of (Some c) = Some c.processor

-- the processor that x goes to: the first in rank among those that can take it
abbrev pub place : {R : Type 0} → (R → R → Bool) → (ℕ → ℤ → ℕ → R) → (List Timing → Bool) → List (List Row) → List Cut → Timing → Option ℕ
place first ranks accepts plan cuts x = number_of (choice first ranks (candidates (open_to accepts cuts x) 1 plan))
