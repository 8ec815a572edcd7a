-- How adding rows changes the number of reservations that stand. Assumes nothing.
use Rattle.std.proofs.Common.{◌≡◌, ℕ, zero, suc, ◌+◌, ◌-◌, ◌<◌, cond, List, [], ◌∷◌, ◌++◌, length, get_or, set, refl, arith}
use Rattle.model.specs.Row.{is_tail}
use Rattle.std.specs.List.{AllByRecursion}
use Rattle.std.proofs.ByRecursion.{All-weaker}
use Rattle.model.specs.declared.row.Row.{Row}
use Rattle.promise.specs.Layout.{Layout, layout, layout_rows}
use Rattle.promise.specs.Plan.{Plan, On, rows_at, add}
use Rattle.promise.proofs.Rows.{on_add}
use Rattle.board.specs.declared.admission.Placed.{Placed}
use Rattle.board.specs.Admit.{written}
use Rattle.processor.specs.Keys.{owners}
use Rattle.board.specs.Keys.{reservations}
use Rattle.board.specs.declared.cut.Cut.{Cut}
use Rattle.board.specs.Split.{tails}

-- one, for a whole row or a head
abbrev pub one : Row → ℕ
one row = cond (is_tail row.kind) 0 1

pub owners_push : (rows : List Row) (row : Row) → owners (rows ++ (row ∷ [])) ≡ owners rows + one row
owners_push [] row = omega arith
owners_push (r ∷ rows) row = omega (arith, owners_push rows row)

pub standing_set : (plan : Plan) (i : ℕ) (rows : List Row) → i < length plan → reservations (set plan i rows) + owners (get_or plan i []) ≡ reservations plan + owners rows
standing_set [] i rows lt = absurd (omega arith)
standing_set (x ∷ plan) zero rows lt = omega arith
standing_set (x ∷ plan) (suc i) rows lt = omega (arith, standing_set plan i rows (omega arith))

pub standing_add : (plan : Plan) (y : Placed) → On plan y.processor → reservations (add plan y) ≡ reservations plan + one y.row
standing_add plan y on =
    let rows = rows_at plan y.processor in
    let a = on.from_one in
    let b = on.to_last in
    omega (arith, standing_set plan (y.processor - 1) (rows ++ (y.row ∷ [])) (omega arith), owners_push rows y.row)

-- of some placed rows
abbrev pub ones : List Placed → ℕ
ones [] = 0
ones (y ∷ l) = one y.row + ones l

pub standing_adds : (plan : Plan) (l : List Placed) → AllByRecursion (λ y. On plan y.processor) l → reservations (written plan l) ≡ reservations plan + ones l
standing_adds plan [] ons = omega arith
standing_adds plan (y ∷ l) ons =
    omega (
      arith,
      standing_add plan y ons.0,
      standing_adds (add plan y) l (All-weaker (λ z. On plan z.processor) (λ z. On (add plan y) z.processor) (λ z h. on_add y h) l ons.1),
    )

tails_none : (k j : ℕ) (cuts : List Cut) → ones (tails k j cuts) ≡ 0
tails_none k j [] = refl
tails_none k j (y ∷ cuts) = omega (arith, tails_none k (j + 1) cuts)

-- a reservation's rows have one first
pub layout_one : (k : ℕ) (o : Layout) → ones (layout_rows k o) ≡ 1
layout_one k (layout p x []) = refl
layout_one k (layout p x (y ∷ cuts)) = omega (arith, tails_none k 1 (y ∷ cuts))
