-- A larger start value gives no smaller allowance, so each refinement only adds. Assumes nothing.
use Rattle.std.specs.Prelude.{ℕ, zero, suc, ◌+◌, ◌-◌, ◌*◌, ◌/◌, ◌<◌, ◌≤◌, List, [], ◌∷◌, nat_le}
use Rattle.std.proofs.Common.{zero-le, le_refl, le_trans, mul-le-mul_left, mul-pos, div-mul-le_self, le-div_iff_mul-le, mul_assoc, arith}
use Rattle.std.proofs.Math.Nat.{div-le_of_le-mul, mul-div-mul_right}
use Rattle.std.proofs.lemmas.Bool.{cond_both, leb-true, leb-false}
use Rattle.model.specs.declared.timing.Timing.{Timing}
use Rattle.judges.specs.Approximate.{point}
use Rattle.judges.specs.ApproximateLemmas.{div_mono}
use Rattle.judges.specs.Allowance.{slack, point_room, within_points, within_rows, fixed_room, refined, refinements}

quotient_grows : (a b m k : ℕ) → a ≤ b → k ≤ m → 0 < k → a / m ≤ b / k
quotient_grows a b m k ab km pos =
    (le-div_iff_mul-le {k = k} {x = a / m} {y = b} pos).1
    (le_trans (mul-le-mul_left (a / m) km) (le_trans (div-mul-le_self a m) ab))

-- at distance d past the retained steps, and at step j within them
abbrev pub far_room : ℕ → ℕ → ℕ → ℕ → ℕ → ℕ
far_room s n t q d = (q * t - (t - 1) * d) / (s * ((n + 1) * t + d))

abbrev pub near_room : ℕ → ℕ → ℕ → ℕ
near_room s q j = q / (s * (j + 1))

far_falls : (s n t q d e : ℕ) → 0 < s → 0 < t → e ≤ d → far_room s n t q d ≤ far_room s n t q e
far_falls s n t q d e sp tp h =
    let some : 0 < (n + 1) * t + e = omega (arith, mul-pos {m = n + 1} {n = t} (omega arith) tp) in
    quotient_grows (q * t - (t - 1) * d) (q * t - (t - 1) * e) (s * ((n + 1) * t + d)) (s * ((n + 1) * t + e))
    (omega (arith, mul-le-mul_left (t - 1) h))
    (mul-le-mul_left s (omega arith))
    (mul-pos sp some)

near_falls : (s q i j : ℕ) → 0 < s → j ≤ i → near_room s q i ≤ near_room s q j
near_falls s q i j sp h =
    quotient_grows q q (s * (i + 1)) (s * (j + 1)) (le_refl q) (mul-le-mul_left s (omega arith)) (mul-pos sp (omega arith))

far_le_near : (s n t q d : ℕ) → 0 < s → 0 < t → far_room s n t q d ≤ near_room s q n
far_le_near s n t q d sp tp =
    let whole : 0 < s * (n + 1) * t = mul-pos (mul-pos sp (omega arith)) tp in
    rw (← mul-div-mul_right {m = t} q (s * (n + 1)) tp)
    (quotient_grows (q * t - (t - 1) * d) (q * t) (s * ((n + 1) * t + d)) (s * (n + 1) * t)
    (omega arith)
    (rw mul_assoc (mul-le-mul_left s (omega arith)))
    whole)

pub point_grows : (s n t a b p q : ℕ) → 0 < s → 0 < t → a ≤ b → point_room s n t a p q ≤ point_room s n t b p q
point_grows s n t a b p q sp tp h =
    let before = near_room s q ((p - a) / t) in
    let after = near_room s q ((p - b) / t) in
    let past = far_room s n t q (p - (n * t + a)) in
    let beyond = far_room s n t q (p - (n * t + b)) in
    let fewer : (p - b) / t ≤ (p - a) / t = div_mono (p - b) (p - a) t tp (omega arith) in
    cond_both (nat_le (n * t + a) p) past before (λ v. v ≤ point_room s n t b p q)
    (λ e.
    cond_both (nat_le (n * t + b) p) beyond after (λ v. past ≤ v)
    (λ f. far_falls s n t q (p - (n * t + a)) (p - (n * t + b)) sp tp (omega arith))
    (λ f.
    let inside : p - b ≤ t * n = omega (arith, leb-false (n * t + b) p f) in
    le_trans (far_le_near s n t q (p - (n * t + a)) sp tp)
    (near_falls s q n ((p - b) / t) sp (div-le_of_le-mul t inside))))
    (λ e.
    cond_both (nat_le (n * t + b) p) beyond after (λ v. before ≤ v)
    (λ f. absurd (omega (arith, leb-false (n * t + a) p e, leb-true (n * t + b) p f)))
    (λ f. near_falls s q ((p - a) / t) ((p - b) / t) sp fewer))

pub points_grow : (s n : ℕ) (l : List Timing) (t a b : ℕ) (x : Timing) (k c d : ℕ)
    → 0 < s → 0 < t → a ≤ b → c ≤ d → within_points s n l t a x k c ≤ within_points s n l t b x k d
points_grow s n l t a b x zero c d sp tp h g = g
points_grow s n l t a b x (suc k) c d sp tp h g =
    omega (arith, point_grows s n t a b (point x k) (slack s n l (point x k)) sp tp h, points_grow s n l t a b x k c d sp tp h g)

pub rows_grow : (s n : ℕ) (l : List Timing) (t a b : ℕ) (rows : List Timing) (c : ℕ)
    → 0 < s → 0 < t → a ≤ b → within_rows s n l t a rows c ≤ within_rows s n l t b rows c
rows_grow s n l t a b [] c sp tp h = le_refl c
rows_grow s n l t a b (x ∷ rows) c sp tp h =
    points_grow s n l t a b x (suc n) (within_rows s n l t a rows c) (within_rows s n l t b rows c) sp tp h
    (rows_grow s n l t a b rows c sp tp h)

pub refined_grows : (s n : ℕ) (l : List Timing) (t c a b : ℕ) → 0 < s → 0 < t → a ≤ b → refined s n l t c a ≤ refined s n l t c b
refined_grows s n l t c a b sp tp h = rows_grow s n l t a b l (fixed_room s n l t c) sp tp h

-- each refinement starts from a value that is at most its result
pub refinements_grow : (s n : ℕ) (l : List Timing) (t c r : ℕ)
    → 0 < s → 0 < t → refinements s n l t c r ≤ refinements s n l t c (suc r)
refinements_grow s n l t c zero sp tp = refined_grows s n l t c 0 (refined s n l t c 0) sp tp zero-le
refinements_grow s n l t c (suc r) sp tp =
    refined_grows s n l t c (refinements s n l t c r) (refinements s n l t c (suc r)) sp tp (refinements_grow s n l t c r sp tp)
