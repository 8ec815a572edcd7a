-- What is asked of each processor, and what is asked of the lists of their rows. Assumes nothing.
use Rattle.std.proofs.Common.{◌≡◌, ℕ, ◌+◌, ◌*◌, ◌≤◌, Bool, true, false, cond, length, ◌||◌, List, [], ◌∷◌, map, ◌==◌, refl, ap, ◌∙◌, sum_by, arith}
use Rattle.std.specs.List.{list_any}
use Rattle.std.proofs.lemmas.List.Sums.{sum_by-cons}
use Rattle.model.specs.declared.row.Row.{Row}
use Rattle.model.specs.Row.{is_tail, due}
use Rattle.processor.specs.declared.rows.Processor.{Processor}
use Rattle.processor.specs.Rows.{rows_of}
use Rattle.processor.specs.Keys.{owners}
use Rattle.processor.specs.Gathering.{if_of, sum_on}
use Rattle.board.specs.Keys.{reservations}
use Rattle.board.specs.Withdraw.{sum_over}

pub any_map : {A B : Type 0} (f : A → B) (test : B → Bool) (l : List A) → list_any (λ x. test (f x)) l ≡ list_any test (map f l)
any_map f test [] = refl
any_map f test (x ∷ l) = ap (λ b. test (f x) || b) (any_map f test l)

pub owners_sum : (l : List Processor) → sum_by (λ p. owners (rows_of p)) l ≡ reservations (map rows_of l)
owners_sum [] = refl
owners_sum (p ∷ l) = sum_by-cons (λ p. owners (rows_of p)) p l ∙ ap (λ n. owners (rows_of p) + n) (owners_sum l)

owners_le : (rows : List Row) → owners rows ≤ length rows
owners_le [] = omega arith
owners_le (row ∷ rows) = go (is_tail row.kind) (owners_le rows)
  where
    go : (tail : Bool) → owners rows ≤ length rows → cond tail 0 1 + owners rows ≤ length (row ∷ rows)
    go true below = omega arith
    go false below = omega arith

-- nobody has more than 32 rows
pub owners_most : (l : List Processor) → sum_by (λ p. owners (rows_of p)) l ≤ 32 * length l
owners_most [] = omega arith
owners_most (p ∷ l) = omega (arith, sum_by-cons (λ p. owners (rows_of p)) p l, owners_le (rows_of p), p.few, owners_most l)

-- a measure of at most 100,000, summed over a reservation's rows
module _ (f : Row → ℕ) (most : (row : Row) → f row ≤ 100000) (key : ℕ) where
  if_of_le : (row : Row) → if_of f key row ≤ 100000
  if_of_le row = go (row.key == key) (most row)
    where
      go : (own : Bool) → f row ≤ 100000 → cond own (f row) 0 ≤ 100000
      go true h = h
      go false h = omega arith

  sum_on_le : (rows : List Row) → sum_on f key rows ≤ 100000 * length rows
  sum_on_le [] = omega arith
  sum_on_le (row ∷ rows) = omega (arith, if_of_le row, sum_on_le rows)

  pub sums_most : (l : List Processor) → sum_by (λ p. sum_on f key (rows_of p)) l ≤ 3200000 * length l
  sums_most [] = omega arith
  sums_most (p ∷ l) = omega (arith, sum_by-cons (λ p. sum_on f key (rows_of p)) p l, sum_on_le (rows_of p), p.few, sums_most l)

  pub sums_over : (l : List Processor) → sum_by (λ p. sum_on f key (rows_of p)) l ≡ sum_over f key (map rows_of l)
  sums_over [] = refl
  sums_over (p ∷ l) = sum_by-cons (λ p. sum_on f key (rows_of p)) p l ∙ ap (λ n. sum_on f key (rows_of p) + n) (sums_over l)

pub budget_most : (row : Row) → row.timing.budget ≤ 100000
budget_most row = omega (arith, row.timing.fits, row.timing.constrained, row.timing.short)

pub due_most : (row : Row) → due row ≤ 100000
due_most row = go (is_tail row.kind)
  where
    go : (tail : Bool) → cond tail row.timing.budget row.timing.deadline ≤ 100000
    go true = omega (arith, row.timing.fits, row.timing.constrained, row.timing.short)
    go false = omega (arith, row.timing.constrained, row.timing.short)
