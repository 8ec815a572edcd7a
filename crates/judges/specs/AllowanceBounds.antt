-- The allowance is within each of its terms. Assumes nothing.
use Rattle.std.specs.Prelude.{ℕ, zero, suc, ◌≤◌, min, List, [], ◌∷◌}
use Rattle.std.proofs.Common.{le_refl, le_trans, sub-le, mul-le-mul_right, arith}
use Rattle.std.proofs.Math.Nat.{div-le_of_le-mul}
use Rattle.model.specs.declared.timing.Timing.{Timing}
use Rattle.model.specs.Share.{shares}
use Rattle.judges.specs.Allowance.{spare_budget, before_deadlines, within_steps, within_points, within_rows, fixed_room, refined}

pub points_le : (s n : ℕ) (l : List Timing) (t b : ℕ) (x : Timing) (k c : ℕ) → within_points s n l t b x k c ≤ c
points_le s n l t b x zero c = le_refl c
points_le s n l t b x (suc k) c = omega (arith, points_le s n l t b x k c)

pub rows_le : (s n : ℕ) (l : List Timing) (t b : ℕ) (rows : List Timing) (c : ℕ) → within_rows s n l t b rows c ≤ c
rows_le s n l t b [] c = le_refl c
rows_le s n l t b (x ∷ rows) c =
    le_trans (points_le s n l t b x (suc n) (within_rows s n l t b rows c)) (rows_le s n l t b rows c)

pub steps_le : (s n : ℕ) (l : List Timing) (t k c : ℕ) → within_steps s n l t k c ≤ c
steps_le s n l t zero c = le_refl c
steps_le s n l t (suc k) c = omega (arith, steps_le s n l t k c)

pub deadlines_le : (l : List Timing) (c : ℕ) → before_deadlines l c ≤ c
deadlines_le [] c = le_refl c
deadlines_le (x ∷ l) c = omega (arith, deadlines_le l c)

-- the spare share of a period is at most the period
pub spare_le : (s : ℕ) (l : List Timing) (t : ℕ) → spare_budget s l t ≤ t
spare_le s l t = div-le_of_le-mul s (mul-le-mul_right t (sub-le s (shares s l)))

pub fixed_le : (s n : ℕ) (l : List Timing) (t c : ℕ) → fixed_room s n l t c ≤ before_deadlines l (min c (spare_budget s l t))
fixed_le s n l t c = steps_le s n l t n (before_deadlines l (min c (spare_budget s l t)))

pub refined_le_fixed : (s n : ℕ) (l : List Timing) (t c b : ℕ) → refined s n l t c b ≤ fixed_room s n l t c
refined_le_fixed s n l t c b = rows_le s n l t b l (fixed_room s n l t c)

pub refined_le_cap : (s n : ℕ) (l : List Timing) (t c b : ℕ) → refined s n l t c b ≤ c
refined_le_cap s n l t c b =
    omega (arith, refined_le_fixed s n l t c b, fixed_le s n l t c, deadlines_le l (min c (spare_budget s l t)))

pub refined_le_spare : (s n : ℕ) (l : List Timing) (t c b : ℕ) → refined s n l t c b ≤ spare_budget s l t
refined_le_spare s n l t c b =
    omega (arith, refined_le_fixed s n l t c b, fixed_le s n l t c, deadlines_le l (min c (spare_budget s l t)))

pub refined_le_period : (s n : ℕ) (l : List Timing) (t c b : ℕ) → refined s n l t c b ≤ t
refined_le_period s n l t c b = le_trans (refined_le_spare s n l t c b) (spare_le s l t)
