-- What one processor can take: a row, or how long a tail. Assumes nothing.
use Rattle.std.specs.Prelude.{ℕ, Bool, cond, not, ◌&&◌, List, [], ◌∷◌, ◌++◌, length, nat_lt}
use Rattle.model.specs.declared.timing.Timing.{Timing}
use Rattle.model.specs.declared.row.Row.{Row}
use Rattle.model.specs.Scale.{scale}
use Rattle.model.specs.Share.{spare}
use Rattle.model.specs.Row.{timings}
use Rattle.placement.specs.declared.candidate.Candidate.{Candidate}
use Rattle.processor.specs.Keys.{has_tail}

-- a processor has a free row
abbrev pub free : List Row → Bool
free rows = nat_lt (length rows) 32

-- its rows with one more at the end, if one is free
abbrev pub added : List Row → Row → List Row
added rows row = cond (free rows) (rows ++ (row ∷ [])) rows

-- it has a free row and the judge's yes to its rows with x at the end
abbrev pub takes : (List Timing → Bool) → List Row → Timing → Bool
takes accepts rows x = free rows && accepts (timings rows ++ (x ∷ []))

-- the tail that it can take, of period t and at most c: none without a free row, or beside a tail
abbrev pub offers : (List Timing → ℕ → ℕ → ℕ) → List Row → ℕ → ℕ → ℕ
offers allows rows t c = cond (free rows && not (has_tail rows)) (allows (timings rows) t c) 0

-- a processor as a placement rule sees it, before the new row
abbrev pub as_candidate : ℕ → List Row → Candidate
as_candidate p rows = record { processor = p; spare = spare scale (timings rows); rows = length rows }
