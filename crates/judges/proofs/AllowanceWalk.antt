-- The least of the rooms, taken one after another. Assumes nothing.
use Rattle.std.proofs.Common.{div-lt_iff_lt-mul, le-div_iff_mul-le, ◌≡◌, ℕ, zero, suc, ◌+◌, ◌-◌, ◌*◌, ◌/◌, ◌<◌, ◌≤◌, min, map, List, [], ◌∷◌, length, get_or, drop, sym, refl, ap, ◌∙◌, ap₂, mul-le-mul_right, add-one, arith}
use Rattle.std.specs.List.{fold}
use Rattle.model.specs.declared.timing.Timing.{Timing}
use Rattle.judges.specs.Approximate.{point, approximates}
use Rattle.judges.specs.Allowance.{spare_budget, before_deadline, before_deadlines, step_room, within_steps, slack, point_room, within_points, within_rows}
use Rattle.judges.proofs.Walk.{left_more}

deadlines_min : (l : List Timing) (a c : ℕ) → before_deadlines l (min a c) ≡ min a (before_deadlines l c)
deadlines_min [] a c = refl
deadlines_min (x ∷ l) a c = omega (arith, deadlines_min l a c)

min_flip : (a b : ℕ) → min a b ≡ min b a
min_flip a b = omega arith

fold-before_deadlines : (l : List Timing) (c : ℕ) → fold min c (map before_deadline l) ≡ before_deadlines l c
fold-before_deadlines [] c = refl
fold-before_deadlines (x ∷ l) c =
    fold-before_deadlines l (min c (x.deadline - 1))
    ∙ omega (arith, deadlines_min l (x.deadline - 1) c, ap (before_deadlines l) (min_flip c (x.deadline - 1)))

-- the deadlines taken from the front
pub deadlines_folded : (l : List Timing) (c r : ℕ) → r ≡ fold min c (map before_deadline l) → r ≡ before_deadlines l c
deadlines_folded l c r is = is ∙ fold-before_deadlines l c

-- one more deadline is passed
pub deadline_passed : (l : List Timing) (i : ℕ) (x : Timing) (c : ℕ) → i < length l → x ≡ get_or l i x
    → before_deadlines (drop (i + 1) l) (min c (x.deadline - 1)) ≡ before_deadlines (drop i l) c
deadline_passed l i x c h at =
    let rest = drop (i + 1) l in
    let here : before_deadlines (drop i l) c ≡ min (x.deadline - 1) (before_deadlines rest c) =
    left_more (λ m. before_deadlines m c) l i x h at in
    omega (arith, deadlines_min rest (x.deadline - 1) c, ap (before_deadlines rest) (min_flip c (x.deadline - 1)))

-- one more of the tail's periods is passed
pub step_passed : (s n : ℕ) (l : List Timing) (t c k least spare demand free next : ℕ) → least ≡ within_steps s n l t k c
    → spare ≡ spare_budget s l t → demand ≡ approximates s n l ((k + 1) * t + spare) → free ≡ s * ((k + 1) * t) - demand
    → next ≡ min least (free / (s * (k + 1))) → next ≡ within_steps s n l t (k + 1) c
step_passed s n l t c k least spare demand free next before left due is taken =
    let end = (k + 1) * t in
    let room : free / (s * (k + 1)) ≡ step_room s n l t (k + 1) =
    ap (λ f. f / (s * (k + 1))) (is ∙ ap (λ a. s * end - a) (due ∙ ap (λ m. approximates s n l (end + m)) left)) in
    let step : next ≡ within_steps s n l t (suc k) c = omega (arith, ap (step_room s n l t) (add-one k)) in
    step ∙ ap (λ m. within_steps s n l t m c) (sym (add-one k))

-- the times that are looked at
pub step_soon : (k n t spare : ℕ) → k < n → n ≤ 9 → t ≤ 100000 → spare ≤ t → (k + 1) * t + spare ≤ 1000000
step_soon k n t spare less few short left =
    let nine : k + 1 ≤ 9 = omega arith in
    omega (arith, mul-le-mul_right t nine)

module _ (s n : ℕ) (l : List Timing) (t b : ℕ) where
  points_min : (x : Timing) (k a c : ℕ) → within_points s n l t b x k (min a c) ≡ min a (within_points s n l t b x k c)
  points_min x zero a c = refl
  points_min x (suc k) a c = omega (arith, points_min x k a c)

  rows_min : (rows : List Timing) (a c : ℕ) → within_rows s n l t b rows (min a c) ≡ min a (within_rows s n l t b rows c)
  rows_min [] a c = refl
  rows_min (x ∷ rows) a c =
      ap (within_points s n l t b x (suc n)) (rows_min rows a c) ∙ points_min x (suc n) a (within_rows s n l t b rows c)

  rows_points : (rows : List Timing) (x : Timing) (k c : ℕ)
      → within_rows s n l t b rows (within_points s n l t b x k c) ≡ within_points s n l t b x k (within_rows s n l t b rows c)
  rows_points rows x zero c = refl
  rows_points rows x (suc k) c =
      let p = point x k in
      rows_min rows (point_room s n t b p (slack s n l p)) (within_points s n l t b x k c)
      ∙ ap (min (point_room s n t b p (slack s n l p))) (rows_points rows x k c)

  -- one more check-point of x is passed
  pub point_passed : (x : Timing) (c k room p q next : ℕ) → room ≡ within_points s n l t b x k c → p ≡ point x k
      → q ≡ slack s n l (point x k) → next ≡ min room (point_room s n t b p q) → next ≡ within_points s n l t b x (k + 1) c
  point_passed x c k room p q next before at free is =
      let there : point_room s n t b p q ≡ point_room s n t b (point x k) (slack s n l (point x k)) = ap₂ (point_room s n t b) at free in
      let step : next ≡ within_points s n l t b x (suc k) c = omega arith in
      step ∙ ap (λ m. within_points s n l t b x m c) (sym (add-one k))

  -- one more timing is passed
  pub row_passed : (rows : List Timing) (i : ℕ) (x : Timing) (c : ℕ) → i < length rows → x ≡ get_or rows i x
      → within_rows s n l t b (drop (i + 1) rows) (within_points s n l t b x (suc n) c) ≡ within_rows s n l t b (drop i rows) c
  row_passed rows i x c h at =
      rows_points (drop (i + 1) rows) x (suc n) c ∙ sym (left_more (λ m. within_rows s n l t b m c) rows i x h at)

  -- the first of some timings is passed: left is the room after its check-points
  pub first_passed : (rows rest : List Timing) (x : Timing) (room left : ℕ) → rows ≡ x ∷ rest
      → left ≡ within_points s n l t b x (suc n) room → within_rows s n l t b rest left ≡ within_rows s n l t b rows room
  first_passed rows rest x room left e is =
      ap (within_rows s n l t b rest) is ∙ rows_points rest x (suc n) room ∙ sym (ap (λ m. within_rows s n l t b m room) e)

-- whether a number is at most a quotient, told by a product
pub ruleset quotients = (le-div_iff_mul-le, div-lt_iff_lt-mul)
