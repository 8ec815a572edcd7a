-- The yes of the density judge and of the demand judge keep the laws of a judge, at any scale. Assumes nothing.
use Rattle.std.specs.Prelude.{◌≡◌, ℕ, zero, suc, ◌+◌, ◌*◌, ◌<◌, ◌≤◌, true, ◌⊎◌, List, [], ◌∷◌, ◌++◌, length, ◌≢◌, nat_le, refl}
use Rattle.std.proofs.Common.{ap, inl, inr, mul-le-mul_right, mul-add, arith}
use Rattle.std.proofs.Math.Nat.{le_of_mul-le-mul_left}
use Rattle.std.proofs.lemmas.Bool.{cases_eq, and_parts, and_from, leb-true, le-leb}
use Rattle.model.specs.declared.timing.Timing.{Timing}
use Rattle.model.specs.Share.{shares, densities}
use Rattle.model.specs.Demand.{demand}
use Rattle.model.specs.Within.{Within, none, keep, skip, swap, both}
use Rattle.model.proofs.Bounds.{density_le}
use Rattle.judges.specs.Approximate.{point, approximates}
use Rattle.judges.specs.Density.{density_yes, density_allowance}
use Rattle.judges.specs.Demand.{fits_points, fits_rows, demand_yes}
use Rattle.judges.specs.ApproximateLemmas.{approximate_before, approximate_next, approximates_fall, shares_fall, densities_fall, length_falls, demand_approximates, shares_densities, approximates_densities}

-- approximate demand within the time is exact demand within the time
within_time : (s n : ℕ) (l : List Timing) (t : ℕ) → 0 < s → approximates s n l t ≤ s * t → demand l t ≤ t
within_time s n l t pos h = le_of_mul-le-mul_left {m = demand l t} {n = t} {k = s} (omega (arith, demand_approximates s n l t)) pos

-- a yes says that every part of it holds
pub yes_parts : (s n : ℕ) (l : List Timing) → demand_yes s n l ≡ true → (length l ≤ 32) × (shares s l ≤ s) × (fits_rows s n l l ≡ true)
yes_parts s n l e =
    let outer = and_parts (nat_le (length l) 32) _ e in
    let inner = and_parts (nat_le (shares s l) s) _ outer.1 in
    (leb-true (length l) 32 outer.0, leb-true (shares s l) s inner.0, inner.1)

pub yes_from : (s n : ℕ) (l : List Timing) → length l ≤ 32 → shares s l ≤ s → fits_rows s n l l ≡ true → demand_yes s n l ≡ true
yes_from s n l few room tested =
    and_from (nat_le (length l) 32) _ (le-leb (length l) 32 few) (and_from (nat_le (shares s l) s) _ (le-leb (shares s l) s room) tested)

-- every list of few timings whose demand fits at every t has all its tests passed
all_points : (s n : ℕ) (l : List Timing) → ((t : ℕ) → approximates s n l t ≤ s * t) → (x : Timing) (k : ℕ) → fits_points s n l x k ≡ true
all_points s n l h x zero = refl
all_points s n l h x (suc k) =
    and_from (fits_points s n l x k) _ (all_points s n l h x k) (le-leb (approximates s n l (point x k)) (s * point x k) (h (point x k)))

all_rows : (s n : ℕ) (l : List Timing) → ((t : ℕ) → approximates s n l t ≤ s * t) → (rows : List Timing) → fits_rows s n l rows ≡ true
all_rows s n l h [] = refl
all_rows s n l h (x ∷ rows) = and_from (fits_points s n l x (suc n)) _ (all_points s n l h x (suc n)) (all_rows s n l h rows)

-- a tick is one of the first k check-points, where the demand was tested, or none of them
point_tested : (s n : ℕ) (l : List Timing) (x : Timing) (t k : ℕ) → fits_points s n l x k ≡ true → (approximates s n l t ≤ s * t) ⊎ ((i : ℕ) → i < k → t ≢ point x i)
point_tested s n l x t zero e = inr (λ i h. absurd (omega arith))
point_tested s n l x t (suc k) e =
    let parts = and_parts (fits_points s n l x k) _ e in
    elim (point_tested s n l x t k parts.0) [
      | inl h ↦ inl h
      | inr apart ↦
          elim (cases_eq t (point x k)) [
            | inl here ↦ inl (rw here (leb-true (approximates s n l (point x k)) (s * point x k) parts.1))
            | inr off ↦ inr (λ i h. elim (cases_eq i k) [ inl last ↦ rw last off | inr other ↦ apart i (omega arith) ])
          ]
    ]

-- the demand at a tick was tested, or rises there by no more than the shares
row_tested : (s n : ℕ) (l : List Timing) (t : ℕ) (rows : List Timing) → fits_rows s n l rows ≡ true → (approximates s n l (suc t) ≤ s * suc t) ⊎ (approximates s n rows (suc t) ≤ approximates s n rows t + shares s rows)
row_tested s n l t [] e = inr (omega arith)
row_tested s n l t (x ∷ rows) e =
    let parts = and_parts (fits_points s n l x (suc n)) _ e in
    elim (point_tested s n l x (suc t) (suc n) parts.0) [
      | inl h ↦ inl h
      | inr apart ↦
          elim (row_tested s n l t rows parts.1) [
            | inl h ↦ inl h
            | inr rise ↦ inr (omega (arith, approximate_next s n x t (λ k le. apart k (omega arith))))
          ]
    ]

nothing_at_zero : (s n : ℕ) (l : List Timing) → approximates s n l 0 ≡ 0
nothing_at_zero s n [] = refl
nothing_at_zero s n (x ∷ l) = omega (arith, approximate_before s n x 0 (omega arith), nothing_at_zero s n l)

-- a finite number of tests covers every t
pub covers : (s n : ℕ) (l : List Timing) → shares s l ≤ s → fits_rows s n l l ≡ true → (t : ℕ) → approximates s n l t ≤ s * t
covers s n l room tested zero = omega (arith, nothing_at_zero s n l)
covers s n l room tested (suc t) =
    elim (row_tested s n l t l tested) [
      | inl h ↦ h
      | inr rise ↦ omega (arith, covers s n l room tested t, mul-add s t 1, ap (λ e. s * e) (one_more t))
    ]
  where
    one_more : (t : ℕ) → suc t ≡ t + 1
    one_more t = omega arith

pub demand_sound : (s n : ℕ) (l : List Timing) → 0 < s → demand_yes s n l ≡ true → (t : ℕ) → demand l t ≤ t
demand_sound s n l pos e t =
    let parts = yes_parts s n l e in
    within_time s n l t pos (covers s n l parts.1 parts.2 t)

-- densities within the scale keep the demand within the time
dense_fits : (s n : ℕ) (l : List Timing) → densities s l ≤ s → (t : ℕ) → approximates s n l t ≤ s * t
dense_fits s n l h t = omega (arith, approximates_densities s n l t, mul-le-mul_right t h)

pub demand_dense : (s n : ℕ) (l : List Timing) → length l ≤ 32 → densities s l ≤ s → demand_yes s n l ≡ true
demand_dense s n l few h =
    yes_from s n l few (omega (arith, shares_densities s l)) (all_rows s n l (dense_fits s n l h) l)

-- tests of fewer rows, against the demand of fewer rows
points_fall : (s n : ℕ) {m l : List Timing} → Within m l → (x : Timing) (k : ℕ) → fits_points s n l x k ≡ true → fits_points s n m x k ≡ true
points_fall s n w x zero e = refl
points_fall s n {m} {l} w x (suc k) e =
    let parts = and_parts (fits_points s n l x k) _ e in
    and_from (fits_points s n m x k) _ (points_fall s n w x k parts.0)
    (le-leb (approximates s n m (point x k)) (s * point x k) (omega (arith, approximates_fall s n (point x k) w, leb-true (approximates s n l (point x k)) (s * point x k) parts.1)))

sums_fall : (s n : ℕ) {m l : List Timing} → Within m l → (rows : List Timing) → fits_rows s n l rows ≡ true → fits_rows s n m rows ≡ true
sums_fall s n w [] e = refl
sums_fall s n {m} {l} w (x ∷ rows) e =
    let parts = and_parts (fits_points s n l x (suc n)) _ e in
    and_from (fits_points s n m x (suc n)) _ (points_fall s n w x (suc n) parts.0) (sums_fall s n w rows parts.1)

tests_fall : (s n : ℕ) (l : List Timing) {q r : List Timing} → Within q r → fits_rows s n l r ≡ true → fits_rows s n l q ≡ true
tests_fall s n l none e = e
tests_fall s n l (keep {x} w) e =
    let parts = and_parts (fits_points s n l x (suc n)) _ e in
    and_from (fits_points s n l x (suc n)) _ parts.0 (tests_fall s n l w parts.1)
tests_fall s n l (skip {x} w) e = tests_fall s n l w (and_parts (fits_points s n l x (suc n)) _ e).1
tests_fall s n l (swap {x} {y}) e =
    let outer = and_parts (fits_points s n l y (suc n)) _ e in
    let inner = and_parts (fits_points s n l x (suc n)) _ outer.1 in
    and_from (fits_points s n l x (suc n)) _ inner.0 (and_from (fits_points s n l y (suc n)) _ outer.0 inner.1)
tests_fall s n l (both v w) e = tests_fall s n l v (tests_fall s n l w e)

pub demand_fewer : (s n : ℕ) {m l : List Timing} → Within m l → demand_yes s n l ≡ true → demand_yes s n m ≡ true
demand_fewer s n {m} {l} w e =
    let parts = yes_parts s n l e in
    yes_from s n m (omega (arith, length_falls w)) (omega (arith, shares_fall s w)) (tests_fall s n m w (sums_fall s n w l parts.2))

-- the density judge

pub dense_parts : (s : ℕ) (l : List Timing) → density_yes s l ≡ true → (length l ≤ 32) × (densities s l ≤ s)
dense_parts s l e =
    let parts = and_parts (nat_le (length l) 32) _ e in
    (leb-true (length l) 32 parts.0, leb-true (densities s l) s parts.1)

pub dense_from : (s : ℕ) (l : List Timing) → length l ≤ 32 → densities s l ≤ s → density_yes s l ≡ true
dense_from s l few h = and_from (nat_le (length l) 32) _ (le-leb (length l) 32 few) (le-leb (densities s l) s h)

pub density_sound : (s : ℕ) (l : List Timing) → 0 < s → density_yes s l ≡ true → (t : ℕ) → demand l t ≤ t
density_sound s l pos e t = within_time s 0 l t pos (dense_fits s 0 l (dense_parts s l e).1 t)

pub density_fewer : (s : ℕ) {m l : List Timing} → Within m l → density_yes s l ≡ true → density_yes s m ≡ true
density_fewer s {m} {l} w e =
    let parts = dense_parts s l e in
    dense_from s m (omega (arith, length_falls w)) (omega (arith, densities_fall s w))

-- a tail is offered to an empty list alone, and one timing is always within the scale
pub density_taken : (s : ℕ) (l : List Timing) (x : Timing) (c : ℕ) → x.budget ≡ density_allowance l x.period c → density_yes s (l ++ (x ∷ [])) ≡ true
density_taken s [] x c e = dense_from s (x ∷ []) (omega arith) (omega (arith, density_le s x))
density_taken s (y ∷ l) x c e = absurd (omega arith)
