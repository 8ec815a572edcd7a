-- What the rows' chains sum and count is what the definitions say. Assumes nothing.
use Rattle.std.proofs.Common.{◌≡◌, ℕ, ◌+◌, ◌*◌, ◌≤◌, Bool, true, false, cond, not, List, [], ◌∷◌, length, filter, refl, sym, ap, ◌∙◌, count_by, sum_by, arith}
use Rattle.std.proofs.lemmas.List.Recursion.{is_count_by, is_sum_by}
use Rattle.std.proofs.lemmas.List.Sums.{sum_by-cons}
use Rattle.model.specs.Scale.{scale}
use Rattle.model.specs.Share.{share, shares}
use Rattle.model.proofs.Bounds.{share_le}
use Rattle.model.specs.Row.{is_tail, timings}
use Rattle.model.specs.declared.row.Row.{Row}
use Rattle.processor.specs.Keys.{is_of, owners}
use Rattle.processor.specs.Gathering.{sum_on}

owner_more : (tail : Bool) (n : ℕ) → cond tail 0 1 + n ≡ cond (not tail) (1 + n) n
owner_more true n = omega arith
owner_more false n = refl

pub owners_count : (rows : List Row) → owners rows ≡ count_by (λ row. not (is_tail row.kind)) rows
owners_count = is_count_by owners (λ row. not (is_tail row.kind)) refl (λ row rows. owner_more (is_tail row.kind) (owners rows))

pub shares_sum : (rows : List Row) → shares scale (timings rows) ≡ sum_by (λ row. share scale row.timing) rows
shares_sum = is_sum_by (λ rows. shares scale (timings rows)) (λ row. share scale row.timing) refl (λ row rows. refl)

pub shares_few : (rows : List Row) → shares scale (timings rows) ≤ length rows * scale
shares_few [] = omega arith
shares_few (row ∷ rows) = omega (arith, share_le scale row.timing, shares_few rows)

-- a measure of the rows of a reservation
pub sum_on_sum : (f : Row → ℕ) (key : ℕ) (rows : List Row) → sum_on f key rows ≡ sum_by f (filter (is_of key) rows)
sum_on_sum f key [] = refl
sum_on_sum f key (row ∷ rows) =
    elim (is_of key row) as (λ b. cond b (f row) 0 + sum_on f key rows ≡ sum_by f (cond b (row ∷ filter (is_of key) rows) (filter (is_of key) rows))) [
      | true ↦ ap (λ n. f row + n) (sum_on_sum f key rows) ∙ sym (sum_by-cons f row (filter (is_of key) rows))
      | false ↦ omega (arith, sum_on_sum f key rows)
    ]

pub sum_on_few : (f : Row → ℕ) → ((row : Row) → f row ≤ 100000) → (key : ℕ) (rows : List Row) → sum_on f key rows ≤ length rows * 100000
sum_on_few f most key [] = omega arith
sum_on_few f most key (row ∷ rows) = more (is_of key row) (sum_on_few f most key rows)
  where
    more : (b : Bool) → sum_on f key rows ≤ length rows * 100000 → cond b (f row) 0 + sum_on f key rows ≤ length (row ∷ rows) * 100000
    more true rest = omega (arith, most row, rest)
    more false rest = omega (arith, rest)
