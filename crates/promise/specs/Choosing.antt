-- Who takes a timing and who takes a tail, by the rules: which choice they allow. Assumes nothing.
use Rattle.std.specs.Prelude.{◌≡◌, ℕ, ◌-◌, ◌<◌, ◌≤◌, Bool, true, false, ◌≢◌, ◌⊎◌, List, [], ◌∷◌, ◌++◌, length, ℤ, Some, None, Option, slice_index_or}
use Rattle.model.specs.Scale.{scale}
use Rattle.model.specs.Share.{spare}
use Rattle.model.specs.Row.{timings}
use Rattle.model.specs.declared.timing.Timing.{Timing}
use Rattle.model.specs.declared.row.Row.{Row}
use Rattle.board.specs.declared.cut.Cut.{Cut}
use Rattle.processor.specs.Keys.{has_tail}
use Rattle.board.specs.Place.{used}

-- the rows of processor p, counted from 1
abbrev pub rows_at : List (List Row) → ℕ → List Row
rows_at plan p = slice_index_or plan (p - 1) []

-- processor p has a free row and no part of the newcomer
pub record Vacant (plan : List (List Row)) (cuts : List Cut) (p : ℕ) : Type 0 where
  pub low : 1 ≤ p
  pub high : p ≤ length plan
  pub room : length (rows_at plan p) < 32
  pub apart : used cuts p ≡ false

-- it can take x: it has the judge's yes to its rows with x at the end
pub record Takes (accepts : List Timing → Bool) (plan : List (List Row)) (cuts : List Cut) (x : Timing) (p : ℕ) : Type 0 where
  pub vacant : Vacant plan cuts p
  pub accepted : accepts (timings (rows_at plan p) ++ (x ∷ [])) ≡ true

-- its rank, as it stands before the new row
abbrev pub rank_at : {R : Type 0} → (ℕ → ℤ → ℕ → R) → List (List Row) → ℕ → R
rank_at ranks plan p = ranks p (spare scale (timings (rows_at plan p))) (length (rows_at plan p))

-- p takes x, and every other that can take it has a later rank, or an equal one and a higher number
pub record FirstTaker {R : Type 0} (first : R → R → Bool) (ranks : ℕ → ℤ → ℕ → R) (accepts : List Timing → Bool)
    (plan : List (List Row)) (cuts : List Cut) (x : Timing) (p : ℕ) : Type 0 where
  pub takes : Takes accepts plan cuts x p
  pub ahead :
      (q : ℕ) → Takes accepts plan cuts x q → q ≢ p →
      (first (rank_at ranks plan p) (rank_at ranks plan q) ≡ true) ⊎ ((rank_at ranks plan p ≡ rank_at ranks plan q) × (p < q))

-- the processor that x goes to, or that nobody takes it
abbrev pub Taken : {R : Type 0} → (R → R → Bool) → (ℕ → ℤ → ℕ → R) → (List Timing → Bool) → List (List Row) → List Cut → Timing → Option ℕ → Type 0
Taken first ranks accepts plan cuts x (Some p) = FirstTaker first ranks accepts plan cuts x p
Taken first ranks accepts plan cuts x None = (q : ℕ) → Takes accepts plan cuts x q → ⊥

-- processor p is asked for a tail: it is vacant and has nobody's tail
pub record Asked (plan : List (List Row)) (cuts : List Cut) (p : ℕ) : Type 0 where
  pub vacant : Vacant plan cuts p
  pub tailless : has_tail (rows_at plan p) ≡ false

-- p allows the longest tail of period t and at most c, and b is its budget: every other that is asked allows less, or as much and has a higher number
pub record LongestTail (allows : List Timing → ℕ → ℕ → ℕ) (plan : List (List Row)) (cuts : List Cut) (t c p b : ℕ) : Type 0 where
  pub asked : Asked plan cuts p
  pub budget : allows (timings (rows_at plan p)) t c ≡ b
  pub some : 0 < b
  pub most :
      (q : ℕ) → Asked plan cuts q → q ≢ p →
      (allows (timings (rows_at plan q)) t c < b) ⊎ ((allows (timings (rows_at plan q)) t c ≡ b) × (p < q))

-- nobody that is asked allows a tail
abbrev pub NoTail : (List Timing → ℕ → ℕ → ℕ) → List (List Row) → List Cut → ℕ → ℕ → Type 0
NoTail allows plan cuts t c = (q : ℕ) → Asked plan cuts q → allows (timings (rows_at plan q)) t c ≡ 0
